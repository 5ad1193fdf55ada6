use Rattle.std.proofs.Common.{◌≡◌, ◌∙◌, ap, length, refl, sym, subst, arith}
use Rattle.std.proofs.lemmas.Bool.{eqb-true}
use Rattle.circulant_plan.specs.Skeleton.{is_over}
use Rattle.double_buffer.specs.Held.{Held}
use Rattle.symple_face.specs.CoreSparse.{begin_go}
use Rattle.symple_face.specs.PartViews.{plain_of}
use Rattle.symple_face.specs.State.{State, machine}
use Rattle.work_laws.specs.Sound.{core_sound}
use Rattle.machine_core.specs.CoreState.{core_state}
use Rattle.vertex_work.specs.Shown.{Shows}
use Rattle.machine_core.proofs.GoLaws.{begun_sound}
use Rattle.machine_core.proofs.SoundLaws.{steady}
use Rattle.machine_core.proofs.TotalsLaws.{known_count}
use Rattle.machine_core.proofs.machine.Core.begin_round.Goals as goal

pub begin_partials-requires : goal.begin_partials-requires
begin_partials-requires c =
    let self = c.args.self.now in
    let s = core_state self in
    let k = steady s self.sound in
    let width = self.wide.partials in
    record {
      rows = record {
        count = k.rows;
        width = self.wide.rows;
        sums = ap length (c.as_slice.ensures.value ∙ c.totals-totals.ensures)
            ∙ known_count s (λ zeroth. self.summed c.requires.some (eqb-true (machine s) 0 zeroth));
      };
      partials = record {
        count = k.partials;
        each = λ i d lt. k.cells i d lt ∙ sym self.wide.partials;
        slots = omega arith;
      };
      round = c.requires.low;
    }

pub drop_pushes-requires : goal.drop_pushes-requires
drop_pushes-requires c =
    let self = c.args.self.now in
    record { machines = self.buffer.machines; together = self.buffer.together (ap is_over c.requires.spot) }

pub invariant_of-self-clause-sound : goal.invariant_of-self-clause-sound
invariant_of-self-clause-sound c =
    let self = c.args.self.now in
    let s = core_state self in
    let r = self.round in
    let part = plain_of self.ground.part in
    let shows : Shows part s.split c.as_slice.result.now s.rows s = record {
      part = refl;
      split = refl;
      totals = sym (c.as_slice.ensures.value ∙ c.totals-totals.ensures);
      rows = refl;
    } in
    let dropped = c.drop_pushes.ensures.dropped in
    let worked = c.begin_partials.ensures.worked s shows refl refl refl in
    let path : record s { held = c.drop_pushes.new.held.letters; partials = c.begin_partials.new.partials.rows }
    ≡ begin_go s r = λ j. record s { held = (dropped j).letters; partials = worked j } in
    subst (λ (t : State). ∥ core_sound t ∥₁) (sym path) (begun_sound s r c.requires.spot self.sound)

pub invariant_of-self-clause-wide : goal.invariant_of-self-clause-wide
invariant_of-self-clause-wide c =
    let wide = c.args.self.now.wide in
    record { rows = wide.rows; partials = c.begin_partials.ensures.width ∙ wide.partials; ring = wide.ring }

pub invariant_of-self-clause-buffer : goal.invariant_of-self-clause-buffer
invariant_of-self-clause-buffer c = record {
  machines = ap (λ (h : Held). h.machines) c.drop_pushes.ensures.dropped ∙ c.args.self.now.buffer.machines;
  together = λ on. c.drop_pushes.ensures.together;
}

pub returns : goal.returns
returns c =
    let self = c.args.self.now in
    let s = core_state self in
    let r = self.round in
    let part = plain_of self.ground.part in
    let shows : Shows part s.split c.as_slice.result.now s.rows s = record {
      part = refl;
      split = refl;
      totals = sym (c.as_slice.ensures.value ∙ c.totals-totals.ensures);
      rows = refl;
    } in
    let dropped = c.drop_pushes.ensures.dropped in
    let worked = c.begin_partials.ensures.worked s shows refl refl refl in
    let path : record s { held = c.drop_pushes.new.held.letters; partials = c.begin_partials.new.partials.rows }
    ≡ begin_go s r = λ j. record s { held = (dropped j).letters; partials = worked j } in
    path
