use Rattle.std.proofs.Common.{◌≡◌, ◌∙◌, List, [], ap, sym, subst, arith}
use Rattle.std.proofs.lemmas.List.Elements.{All-nil}
use Rattle.circulant_plan.specs.declared.spot.Spot.TheVariants.{Tell}
use Rattle.double_buffer.specs.Held.{AreOfRound, Held}
use Rattle.flat_table.specs.Grids.{Rows}
use Rattle.machine_parts.specs.Flat.{RowTable, StateTable}
use Rattle.slot_merge.specs.declared.partial.Partial.{Partial}
use Rattle.symple_face.specs.CoreFirst.{core_first}
use Rattle.symple_face.specs.PartViews.{plain_of}
use Rattle.symple_face.specs.State.{State}
use Rattle.symple_face.specs.declared.part.Part.{Part}
use Rattle.vert_base.specs.declared.value.Ruling.TheVariants.{Stop}
use Rattle.vert_base.specs.Letters.{Letter}
use Rattle.work_laws.specs.Sound.{core_sound}
use Rattle.work_laws.proofs.Firsts.{first_sound}
use Rattle.machine_steps.specs.Counts.{lists_read}
use Rattle.machine_steps.specs.Plain.{plain_sums}
use Rattle.machine_core.proofs.FreshLaws.{nothing_read, zero_counts}
use Rattle.machine_core.proofs.machine.Core.first.Goals as goal

pub invariant_of-result : goal.invariant_of-result
invariant_of-result c =
    let ground = c.in_ok-ground.ground in
    let part = plain_of ground.part in
    let split = ground.part.split.value in
    let blank = c.in_ok-blank.blank in
    let reading = nothing_read part ground.groups.targets.items ground.grouped.targets blank.reading.items
    c.in_ok-blank.ensures.reading in
    let reads = nothing_read part ground.groups.targets.items ground.grouped.targets blank.reads.items
    c.in_ok-blank.ensures.reads in
    let held = ap (λ (h : Held). h.letters) c.in_ok-held.ensures in
    let rows = ap (λ (t : RowTable). t.rows) c.in_ok-blank.ensures.rows in
    let partials = ap (λ (g : Rows Partial). g.rows) c.in_ok-blank.ensures.partials in
    let ring = ap (λ (t : StateTable). t.states) c.in_ok-blank.ensures.ring in
    let state : State = record {
      part = part;
      split = split;
      at = record { spot = Tell; round = 0 };
      ruling = Stop;
      held = c.in_ok-held.held.letters;
      rows = blank.rows.rows;
      partials = blank.partials.rows;
      ring = blank.ring.states;
      reading = lists_read part blank.reading.items;
      reads = lists_read part blank.reads.items;
      judged = plain_sums c.sums_before.result;
      report = c.report_before.result;
      more = [];
    } in
    let made : state ≡ core_first part split = λ j. record (core_first part split) {
      held = held j;
      rows = rows j;
      partials = partials j;
      ring = ring j;
      reading = reading j;
      reads = reads j;
      judged = c.sums_before.ensures j;
      report = c.report_before.ensures j;
    } in
    record {
      sound = ∣ subst core_sound (sym made) (first_sound part split ground.can) ∣₁;
      wide = record {
        rows = ap (λ (t : RowTable). t.width) c.in_ok-blank.ensures.rows;
        partials = ap (λ (g : Rows Partial). g.width) c.in_ok-blank.ensures.partials;
        ring = ap (λ (t : StateTable). t.width) c.in_ok-blank.ensures.ring;
      };
      buffer = record {
        machines = ap (λ (h : Held). h.machines) c.in_ok-held.ensures ∙ c.machines.ensures.count;
        together = λ on. subst (λ (ls : List Letter). AreOfRound 0 ground.part.at.machine ls) (sym held)
            (All-nil (λ (y : Letter). (y.name.round ≡ 0) × (y.name.to ≡ ground.part.at.machine)));
      };
      read = zero_counts part ground.groups.targets.items ground.grouped.targets blank.reading.items
          c.in_ok-blank.ensures.reading;
      read_before = zero_counts part ground.groups.targets.items ground.grouped.targets blank.reads.items
          c.in_ok-blank.ensures.reads;
      summed = λ low. absurd (omega arith);
      spare = λ first. (c.in_ok-verdict.ensures.items, c.in_ok-verdict.ensures.capacity);
    }

pub returns : goal.returns
returns c =
    let ground = c.in_ok-ground.ground in
    let part = plain_of ground.part in
    let split = ground.part.split.value in
    let blank = c.in_ok-blank.blank in
    let reading = nothing_read part ground.groups.targets.items ground.grouped.targets blank.reading.items
    c.in_ok-blank.ensures.reading in
    let reads = nothing_read part ground.groups.targets.items ground.grouped.targets blank.reads.items
    c.in_ok-blank.ensures.reads in
    let held = ap (λ (h : Held). h.letters) c.in_ok-held.ensures in
    let rows = ap (λ (t : RowTable). t.rows) c.in_ok-blank.ensures.rows in
    let partials = ap (λ (g : Rows Partial). g.rows) c.in_ok-blank.ensures.partials in
    let ring = ap (λ (t : StateTable). t.states) c.in_ok-blank.ensures.ring in
    let state : State = record {
      part = part;
      split = split;
      at = record { spot = Tell; round = 0 };
      ruling = Stop;
      held = c.in_ok-held.held.letters;
      rows = blank.rows.rows;
      partials = blank.partials.rows;
      ring = blank.ring.states;
      reading = lists_read part blank.reading.items;
      reads = lists_read part blank.reads.items;
      judged = plain_sums c.sums_before.result;
      report = c.report_before.result;
      more = [];
    } in
    let made : state ≡ core_first part split = λ j. record (core_first part split) {
      held = held j;
      rows = rows j;
      partials = partials j;
      ring = ring j;
      reading = reading j;
      reads = reads j;
      judged = c.sums_before.ensures j;
      report = c.report_before.ensures j;
    } in
    made ∙ ap (λ (p : Part). core_first (plain_of p) p.split.value) c.in_ok-ground.ensures
