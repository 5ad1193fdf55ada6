use Rattle.std.proofs.Common.{◌∙◌, ◌+◌, [], ap, map, sym, arith}
use Rattle.std.specs.Prelude.{if◌then◌else◌}
use Rattle.std.proofs.lemmas.Bool.{eq-eqb}
use Rattle.body_shape.specs.Tally.{Counted}
use Rattle.body_shape.specs.Verdict.{verdict_body}
use Rattle.circulant_plan.specs.declared.spot.Spot.TheVariants.{Judge}
use Rattle.circulant_plan.specs.Names.{verdict_name}
use Rattle.circulant_plan.specs.Table.{others_of}
use Rattle.vert_base.specs.declared.value.Ruling.{Ruling}
use Rattle.vert_base.specs.Letters.{Letter}
use Rattle.symple_face.specs.CoreJudge.{ruling_by, sums_at}
use Rattle.symple_face.specs.State.{machine, p_of}
use Rattle.machine_core.specs.CoreState.{core_state}
use Rattle.machine_core.proofs.GoLaws.{sent_by}
use Rattle.machine_core.proofs.SumLaws.{judge_low}
use Rattle.machine_core.proofs.machine.Core.verdicts.Goals as goal

pub overflow_add-round : goal.overflow_add-round
overflow_add-round c =
    let low = (judge_low (core_state c.args.self.now) c.args.round c.args.self.now.sound c.requires.at).1 in
    omega arith

pub returns : goal.returns
returns c =
    let self = c.args.self.now in
    let s = core_state self in
    let r = c.args.round in
    let zeroth = (judge_low s r self.sound c.requires.at).0 in
    let totals = c.as_slice-totals.ensures.value ∙ ap (λ (n : Counted). n.totals) c.requires.sums in
    c.in_ok-sent.ensures
    ∙ ap (λ (ruling : Ruling). map (λ x. let l : Letter = record {
      name = x;
      body = verdict_body (record { ruling = ruling; totals = c.as_slice-totals.result.now });
    } in l) (map (verdict_name (r + 1)) (others_of c.machines-machines.result 0))) c.requires.ruling
    ∙ ap (λ totals. map (λ x. let l : Letter = record {
      name = x;
      body = verdict_body (record { ruling = ruling_by s r (sums_at s r); totals = totals });
    } in l) (map (verdict_name (r + 1)) (others_of c.machines-machines.result 0))) totals
    ∙ ap (λ p. map (λ x. let l : Letter = record {
      name = x;
      body = verdict_body (record { ruling = ruling_by s r (sums_at s r); totals = (sums_at s r).totals });
    } in l) (map (verdict_name (r + 1)) (others_of p 0))) c.machines-machines.ensures.count
    ∙ ap (λ b. map (λ x. let l : Letter = record {
      name = x;
      body = verdict_body (record { ruling = ruling_by s r (sums_at s r); totals = (sums_at s r).totals });
    } in l) (if b then map (verdict_name (r + 1)) (others_of (p_of s) 0) else [])) (sym (eq-eqb (machine s) 0 zeroth))
    ∙ sym (sent_by s (Judge r) c.requires.at)
