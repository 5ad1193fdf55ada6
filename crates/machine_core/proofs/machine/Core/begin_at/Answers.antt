use Rattle.std.proofs.Common.{◌≡◌, ◌∙◌, ◌==◌, List, [], ◌∷◌, ap, sym, subst, length, map, arith}
use Rattle.std.specs.Prelude.{if◌then◌else◌}
use Rattle.circulant_plan.specs.declared.spot.Spot.TheVariants.{Begin}
use Rattle.circulant_plan.specs.Names.{verdict_name}
use Rattle.double_buffer.specs.Held.{AreOfRound, Held}
use Rattle.machine_parts.specs.Flat.{RowTable}
use Rattle.vert_base.specs.declared.value.Row.{Row}
use Rattle.vert_base.specs.Letters.{Letter}
use Rattle.vert_eval.specs.Rounds.{row_at}
use Rattle.vert_tree.proofs.TypedLaws.{few_totals}
use Rattle.work_laws.specs.Sound.{core_sound}
use Rattle.work_laws.proofs.Firsts.{restarted_sound}
use Rattle.symple_face.specs.CoreFirst.{body_at_start, core_restarted, judged_at_start, rows_at_start}
use Rattle.symple_face.specs.Parts.{chunk_vertices}
use Rattle.symple_face.specs.State.{State, Sums}
use Rattle.symple_face.specs.Work.{plain_start}
use Rattle.machine_core.specs.CoreState.{core_state}
use Rattle.machine_steps.specs.Plain.{plain_sums}
use Rattle.machine_core.proofs.StartLaws.{start_of_round, start_totals}
use Rattle.machine_core.proofs.machine.Core.begin_at.Goals as goal

pub judge_start-requires : goal.judge_start-requires
judge_start-requires c =
    let program = c.args.self.now.ground.part.split.value.program in
    omega (arith, few_totals program.program program.typed, c.requires.start.totals)

pub hold_start-requires-clause-few : goal.hold_start-requires-clause-few
hold_start-requires-clause-few c =
    let program = c.args.self.now.ground.part.split.value.program in
    omega (arith, few_totals program.program program.typed, c.requires.start.totals)

pub invariant_of-self : goal.invariant_of-self
invariant_of-self c =
    let self = c.args.self.now in
    let s = core_state self in
    let part = s.part in
    let split = s.split in
    let start = plain_start c.args.start.now in
    let m = c.machine-machine.ensures.number in
    let held = ap (λ (h : Held). h.letters) c.hold_start.ensures
    ∙ ap (λ n. if n == 0 then [] else record {
      name = verdict_name start.round n;
      body = body_at_start start;
    } ∷ []) m in
    let rows : c.copy_rows.new.rows.rows ≡ rows_at_start part start = ap (λ (t : RowTable). t.rows) c.copy_rows.ensures
    ∙ ap (λ (all : List Row). map (row_at all) (chunk_vertices part.ends part.at.machine)) c.deref.ensures.value in
    let judged : plain_sums c.judge_start.new.judged ≡ judged_at_start part start = c.judge_start.ensures
    ∙ ap (λ n. if n == 0 then record {
      active = start.active;
      edges = start.edges;
      totals = start.totals;
    } else s.judged) m
    ∙ ap (λ (t : State). if part.at.machine == 0 then record {
      active = start.active;
      edges = start.edges;
      totals = start.totals;
    } else t.judged) c.requires.made in
    let begun : State = record s {
      at = record { spot = Begin start.round; round = start.round };
      ruling = start.ruling;
      held = c.hold_start.new.held.letters;
      rows = c.copy_rows.new.rows.rows;
      judged = plain_sums c.judge_start.new.judged;
    } in
    let made : begun ≡ core_restarted part split start = λ j. record (c.requires.made j) {
      at = record { spot = Begin start.round; round = start.round };
      ruling = start.ruling;
      held = held j;
      rows = rows j;
      judged = judged j;
    } in
    record {
      sound = ∣ subst core_sound (sym made) (restarted_sound part split self.ground.can start c.requires.start) ∣₁;
      wide = record {
        rows = ap (λ (t : RowTable). t.width) c.copy_rows.ensures ∙ self.wide.rows;
        partials = self.wide.partials;
        ring = self.wide.ring;
      };
      buffer = record {
        machines = ap (λ (h : Held). h.machines) c.hold_start.ensures ∙ self.buffer.machines;
        together = λ on. subst (λ (ls : List Letter). AreOfRound start.round part.at.machine ls) (sym held)
            (start_of_round part start);
      };
      read = self.read;
      read_before = self.read_before;
      summed = λ low here. ap (λ (n : Sums). length n.totals) judged
          ∙ ap length (start_totals part start here) ∙ c.requires.start.totals;
      spare = λ first. absurd (cc);
    }
