use Rattle.std.proofs.Common.{◌≡◌, ◌∙◌, ℕ, ap, refl, sym, subst}
use Rattle.circulant_plan.specs.declared.spot.Spot.TheVariants.{Scan}
use Rattle.circulant_plan.specs.Skeleton.{is_over}
use Rattle.double_buffer.specs.Held.{AreOfRound, Held}
use Rattle.symple_face.specs.CoreDense.{needed_dep, scan_dep, scan_read, scan_update}
use Rattle.symple_face.specs.State.{State, machine}
use Rattle.work_laws.specs.Sound.{core_sound}
use Rattle.machine_core.specs.CoreState.{core_state}
use Rattle.machine_steps.specs.Counts.{lists_read}
use Rattle.machine_steps.proofs.DropLaws.{emptied_of_round}
use Rattle.machine_core.proofs.GoLaws.{round_at}
use Rattle.machine_core.proofs.HalfActs.{read_sound, scan_low}
use Rattle.machine_core.proofs.machine.Core.note_half.Goals as goal

pub note_counts-requires-clause-step : goal.note_counts-requires-clause-step
note_counts-requires-clause-step c =
    let self = c.args.self.now in
    (scan_low (core_state self) c.args.round c.args.step c.args.half self.sound c.requires.at).step_low

pub note_counts-requires-clause-half : goal.note_counts-requires-clause-half
note_counts-requires-clause-half c =
    let self = c.args.self.now in
    (scan_low (core_state self) c.args.round c.args.step c.args.half self.sound c.requires.at).half_low

pub drop_needed-requires : goal.drop_needed-requires
drop_needed-requires c =
    let self = c.args.self.now in
    let s = core_state self in
    let low = scan_low s c.args.round c.args.step c.args.half self.sound c.requires.at in
    let same : self.round ≡ c.args.round = round_at s (Scan c.args.round c.args.step c.args.half) self.sound
    c.requires.at in
    record {
      step = low.step_low;
      half = low.half_low;
      machines = self.buffer.machines;
      together = subst (λ (r : ℕ). AreOfRound r (machine s) self.held.letters) same
          (self.buffer.together (ap is_over c.requires.at));
    }

pub invariant_of-self-clause-sound : goal.invariant_of-self-clause-sound
invariant_of-self-clause-sound c =
    let self = c.args.self.now in
    let s = core_state self in
    let round = c.args.round in
    let step = c.args.step in
    let half = c.args.half in
    let read = c.note_counts.ensures.noted s round (scan_dep s round step half) (scan_update s round step half) refl
    refl
    c.requires.scanned in
    let dropped = c.drop_needed.ensures in
    let path : record s {
      held = c.drop_needed.new.held.letters;
      reading = lists_read s.part c.note_counts.new.reading.items;
    } ≡ scan_read s round step half = λ j. record s { held = (dropped j).letters; reading = read j } in
    subst (λ (t : State). ∥ core_sound t ∥₁) (sym path) (read_sound s round step half self.sound c.requires.at)

pub invariant_of-self-clause-buffer : goal.invariant_of-self-clause-buffer
invariant_of-self-clause-buffer c =
    let self = c.args.self.now in
    let s = core_state self in
    let dropped = c.drop_needed.ensures in
    record {
      machines = ap (λ (h : Held). h.machines) dropped ∙ self.buffer.machines;
      together = λ on.
          subst (λ (h : Held). AreOfRound self.round (machine s) h.letters) (sym dropped)
          (emptied_of_round self.round (machine s) (needed_dep s c.args.round c.args.step c.args.half) self.held.letters
          (self.buffer.together (ap is_over c.requires.at)));
    }

pub returns : goal.returns
returns c =
    let self = c.args.self.now in
    let s = core_state self in
    let round = c.args.round in
    let step = c.args.step in
    let half = c.args.half in
    let read = c.note_counts.ensures.noted s round (scan_dep s round step half) (scan_update s round step half) refl
    refl
    c.requires.scanned in
    let dropped = c.drop_needed.ensures in
    let path : record s {
      held = c.drop_needed.new.held.letters;
      reading = lists_read s.part c.note_counts.new.reading.items;
    } ≡ scan_read s round step half = λ j. record s { held = (dropped j).letters; reading = read j } in
    path
