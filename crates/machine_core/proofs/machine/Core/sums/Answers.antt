use Rattle.std.proofs.Common.{◌≡◌, ◌≤◌, ◌<◌, ◌+◌, ◌-◌, ◌∙◌, List, [], ap, sym, subst, length, map, arith}
use Rattle.std.specs.Prelude.{sum}
use Rattle.std.specs.List.{range_with_len}
use Rattle.body_shape.specs.Tally.{Counted, counted_read}
use Rattle.symple_face.specs.CoreJudge.{all_joined, counted, joined, sums_at, tally_of}
use Rattle.symple_face.specs.CoreSight.{body_of, program_of, total_count}
use Rattle.symple_face.specs.PartViews.{plain_of}
use Rattle.symple_face.specs.State.{p_of}
use Rattle.circulant_plan.specs.Table.{others_of}
use Rattle.vert_base.specs.declared.message.Name.{Name}
use Rattle.vert_base.specs.Letters.{found}
use Rattle.vert_tree.specs.declared.program.Program.{Program}
use Rattle.vert_tree.specs.declared.program.TotalDecl.{TotalDecl}
use Rattle.machine_core.specs.CoreState.{core_state}
use Rattle.machine_steps.specs.Counts.{lists_read}
use Rattle.machine_steps.specs.Plain.{counted_of}
use Rattle.machine_core.proofs.SoundLaws.{steady}
use Rattle.machine_core.proofs.SumLaws.{AreBelow, grows, judge_low, left_first, left_from, left_more, left_none, sums_low}
use Rattle.machine_core.proofs.machine.Core.sums.Goals as goal

pub counted-sums-requires : goal.counted-sums-requires
counted-sums-requires c =
    let self = c.args.self.now in
    let s = core_state self in
    record {
      count = (steady s self.sound).rows;
      width = self.wide.rows;
      round = (judge_low s c.args.round self.sound c.requires).1;
    }

pub machines-init : goal.machines-init
machines-init c =
    let self = c.args.self.now in
    let s = core_state self in
    let r = c.args.round in
    let part = plain_of self.ground.part in
    let reads = c.reads_of-reads.ensures ∙ ap (λ ns. sum (map length (lists_read part ns))) c.deref.ensures.value in
    let none : Counted = counted part s.split s.rows [] r in
    let own : counted_of c.counted-sums.result ≡ counted part s.split s.rows s.reads r =
    c.counted-sums.ensures.counted ∙ (λ j. record none { reads = reads j }) in
    record {
      left = sym (left_first s r (counted_of c.counted-sums.result))
          ∙ ap (λ n. all_joined (program_of s.split).totals.items n (map (tally_of s r) (others_of (p_of s) 0))) own;
      each = c.counted-sums.ensures.each;
    }

pub join-requires : goal.join-requires
join-requires c =
    let self = c.args.self.now in
    let s = core_state self in
    let r = c.args.round in
    let from = c.machines.from in
    let p = self.ground.part.split.value.program.program in
    let ts : c.deref-in-machines.result.now ≡ p.totals.items =
    c.deref-in-machines.ensures.value ∙ ap (λ (q : Program). q.totals.items) c.program.ensures in
    let told : counted_read (length c.deref-in-machines.result.now) c.held_body-tally.result.now ≡ tally_of s r from =
    ap (λ us. counted_read (length us) c.held_body-tally.result.now) ts
    ∙ ap (counted_read (total_count s.split)) (c.held_body-tally.ensures
    ∙ ap (λ (x : Name). body_of (found x s.held)) c.tally_name.ensures) in
    let a : Counted = counted_of c.machines.sums in
    let lt : from < p_of s = omega (arith, c.machines-test.true, c.machines-from-end.ensures.count) in
    let b : Counted = tally_of s r from in
    let below : AreBelow (joined p.totals.items a b) (sums_at s r) =
    subst (AreBelow (joined p.totals.items a b)) (sym (left_more s r a from lt) ∙ c.machines.invariant.left)
    (grows p.totals.items (joined p.totals.items a b)
    (map (tally_of s r) (range_with_len (from + 1) (p_of s - (from + 1))))) in
    let low = (judge_low s r self.sound c.requires).1 in
    let most = sums_low s r self.sound (omega arith) in
    let few = c.few_totals-few.ensures.few in
    record {
      few = omega (arith, few, c.few_totals-few.ensures.count, ap length ts);
      each = c.machines.invariant.each ∙ sym (ap length ts);
      active = omega (arith, below.active, most.active, ap (λ (n : Counted). n.active) told);
      edges = omega (arith, below.edges, most.edges, ap (λ (n : Counted). n.edges) told);
      reads = omega (arith, below.reads, most.reads, ap (λ (n : Counted). n.reads) told);
    }

pub machines-preserved : goal.machines-preserved
machines-preserved c =
    let self = c.args.self.now in
    let s = core_state self in
    let r = c.args.round in
    let from = c.machines.from in
    let p = self.ground.part.split.value.program.program in
    let ts : c.deref-in-machines.result.now ≡ p.totals.items =
    c.deref-in-machines.ensures.value ∙ ap (λ (q : Program). q.totals.items) c.program.ensures in
    let told : counted_read (length c.deref-in-machines.result.now) c.held_body-tally.result.now ≡ tally_of s r from =
    ap (λ us. counted_read (length us) c.held_body-tally.result.now) ts
    ∙ ap (counted_read (total_count s.split)) (c.held_body-tally.ensures
    ∙ ap (λ (x : Name). body_of (found x s.held)) c.tally_name.ensures) in
    let a : Counted = counted_of c.machines.sums in
    let lt : from < p_of s = omega (arith, c.machines-test.true, c.machines-from-end.ensures.count) in
    record {
      left = ap (λ (n : Counted). left_from s r n (from + 1))
          (c.join.ensures.joined
          ∙ ap (λ (us : List TotalDecl). joined us a (counted_read (length c.deref-in-machines.result.now)
          c.held_body-tally.result.now)) ts
          ∙ ap (joined p.totals.items a) told)
          ∙ sym (left_more s r a from lt) ∙ c.machines.invariant.left;
      each = c.join.ensures.each ∙ ap length ts;
    }

pub returns-clause-sums : goal.returns-clause-sums
returns-clause-sums c =
    let s = core_state c.args.self.now in
    let past : p_of s ≤ c.machines.from = omega (arith, c.machines-test.false, c.machines-from-end.ensures.count) in
    sym (left_none s c.args.round (counted_of c.machines.sums) c.machines.from past) ∙ c.machines.invariant.left
