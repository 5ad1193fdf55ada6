-- What the close asks for is what a core keeps, and what it leaves is kept.
use Rattle.std.proofs.Common.{◌∙◌, ap, length, refl, subst, sym}
use Rattle.symple_face.specs.PartViews.{plain_of}
use Rattle.symple_face.specs.State.{State}
use Rattle.work_laws.specs.Sound.{core_sound}
use Rattle.machine_core.specs.CoreState.{core_state}
use Rattle.machine_steps.specs.Counts.{AreCounts, lists_read}
use Rattle.machine_steps.proofs.CloseNeeds.{needs_at}
use Rattle.machine_core.proofs.CloseStates.{closed_sound, closed_state}
use Rattle.machine_core.proofs.TotalsLaws.{known_count}
use Rattle.machine_core.proofs.machine.Core.close_round.Goals as goal

pub close_rows-requires-clause-totals : goal.close_rows-requires-clause-totals
close_rows-requires-clause-totals c =
    ap length (c.as_slice.ensures.value ∙ c.totals-totals.ensures)
    ∙ known_count (core_state c.args.self.now) c.requires.totals

pub close_rows-requires-clause-round : goal.close_rows-requires-clause-round
close_rows-requires-clause-round c =
    let core = c.args.self.now in
    let needs = needs_at (core_state core) core.partials.width core.round c.args.dense core.wide.partials
    c.requires.spot core.sound in
    needs.round

pub close_rows-requires-clause-count : goal.close_rows-requires-clause-count
close_rows-requires-clause-count c =
    let core = c.args.self.now in
    let needs = needs_at (core_state core) core.partials.width core.round c.args.dense core.wide.partials
    c.requires.spot core.sound in
    needs.rows

pub close_rows-requires-clause-partials : goal.close_rows-requires-clause-partials
close_rows-requires-clause-partials c =
    let core = c.args.self.now in
    let needs = needs_at (core_state core) core.partials.width core.round c.args.dense core.wide.partials
    c.requires.spot core.sound in
    needs.partials

pub close_rows-requires-clause-states : goal.close_rows-requires-clause-states
close_rows-requires-clause-states c =
    let core = c.args.self.now in
    let needs = needs_at (core_state core) core.partials.width core.round c.args.dense core.wide.partials
    c.requires.spot core.sound in
    needs.ring

pub close_rows-requires-clause-cells : goal.close_rows-requires-clause-cells
close_rows-requires-clause-cells c =
    let core = c.args.self.now in
    let needs = needs_at (core_state core) core.partials.width core.round c.args.dense core.wide.partials
    c.requires.spot core.sound in
    needs.cells

pub returns-clause-state : goal.returns-clause-state
returns-clause-state c =
    let core = c.args.self.now in
    let s = core_state core in
    let part = plain_of core.ground.part in
    let closes = c.close_rows.ensures.closed s
    (record {
      part = refl;
      split = refl;
      totals = sym (c.as_slice.ensures.value ∙ c.totals-totals.ensures);
      rows = refl;
    })
    refl refl in
    closed_state s core.round c.args.dense c.close_rows.new.rows.rows c.close_rows.new.partials.rows
    c.close_rows.new.ring.states (lists_read part c.turn_counts.new.reading.items)
    (lists_read part c.turn_counts.new.reads.items) closes (c.turn_counts.ensures.none part core.read_before)
    (ap (lists_read part) c.turn_counts.ensures.reads)

pub invariant_of-self : goal.invariant_of-self
invariant_of-self c =
    let core = c.args.self.now in
    let s = core_state core in
    let part = plain_of core.ground.part in
    let closes = c.close_rows.ensures.closed s
    (record {
      part = refl;
      split = refl;
      totals = sym (c.as_slice.ensures.value ∙ c.totals-totals.ensures);
      rows = refl;
    })
    refl refl in
    let state = closed_state s core.round c.args.dense c.close_rows.new.rows.rows c.close_rows.new.partials.rows
    c.close_rows.new.ring.states (lists_read part c.turn_counts.new.reading.items)
    (lists_read part c.turn_counts.new.reads.items) closes (c.turn_counts.ensures.none part core.read_before)
    (ap (lists_read part) c.turn_counts.ensures.reads) in
    record {
      sound = subst (λ (t : State). ∥ core_sound t ∥₁) (sym state)
          (closed_sound s core.round c.args.dense c.requires.spot core.sound);
      wide = record {
        rows = c.close_rows.ensures.width ∙ core.wide.rows;
        partials = c.close_rows.ensures.cells ∙ core.wide.partials;
        ring = c.close_rows.ensures.words ∙ core.wide.ring;
      };
      buffer = core.buffer;
      read = c.turn_counts.ensures.counts part core.read_before;
      read_before = subst (AreCounts part) (sym c.turn_counts.ensures.reads) core.read;
      summed = core.summed;
      spare = core.spare;
    }
