use Rattle.std.proofs.Common.{◌≡◌, ◌<◌, ◌-◌, ◌∙◌, ℕ, List, ap, length, refl, sym, subst, arith}
use Rattle.std.proofs.lemmas.Bool.{eqb-true}
use Rattle.dep_layout.specs.Judgement.{FitsRing}
use Rattle.circulant_plan.specs.declared.spot.Spot.TheVariants.{Scan}
use Rattle.circulant_plan.specs.Skeleton.{is_over}
use Rattle.double_buffer.specs.Held.{AreOfRound, Held}
use Rattle.symple_face.specs.CoreDense.{needed_dep, scan_kept}
use Rattle.symple_face.specs.Plans.{loop_carry}
use Rattle.symple_face.specs.Shapes.{half_in, size_of, words_in}
use Rattle.symple_face.specs.PartViews.{plain_of}
use Rattle.symple_face.specs.State.{State, machine, p_of}
use Rattle.work_laws.specs.Sound.{core_sound}
use Rattle.machine_core.specs.CoreState.{core_state}
use Rattle.machine_steps.specs.Counts.{lists_read}
use Rattle.machine_steps.specs.Halves.{ShowsOwnHalf, needed_body}
use Rattle.machine_steps.proofs.DropLaws.{emptied_of_round}
use Rattle.machine_core.proofs.GoLaws.{round_at}
use Rattle.machine_core.proofs.HalfActs.{dep_fits, kept_sound, last_chunk, scan_low}
use Rattle.machine_core.proofs.SoundLaws.{steady}
use Rattle.machine_core.proofs.TotalsLaws.{known_count}
use Rattle.machine_core.proofs.machine.Core.keep_half.Goals as goal

pub scan_own-requires : goal.scan_own-requires
scan_own-requires c =
    let self = c.args.self.now in
    let s = core_state self in
    let round = c.args.round in
    let step = c.args.step in
    let half = c.args.half in
    let k = steady s self.sound in
    let low = scan_low s round step half self.sound c.requires.at in
    let some = low.some in
    let same : self.round ≡ round = round_at s (Scan round step half) self.sound c.requires.at in
    let needed = c.needed_bytes.ensures s refl in
    let chunk = last_chunk s step self.sound c.requires.last in
    record {
      block = low.block;
      round = low.few;
      half = low.half_low;
      totals = ap length (c.as_slice.ensures.value ∙ c.totals-totals.ensures)
          ∙ known_count s (λ zeroth. self.summed (omega arith) (eqb-true (machine s) 0 zeroth));
      count = k.rows;
      fields = self.wide.rows;
      wide = λ i d lt. k.fields i d lt ∙ sym self.wide.rows;
      fits = subst
          (λ (dep : List ℕ). 0 < length dep →
          FitsRing (words_in (loop_carry s.split.dense)) (size_of (half_in s.part.ends (machine s) half)) 0 dep)
          needed
          (subst
          (λ (d : ℕ). 0 < length (needed_body s (needed_dep s round step half)) →
          FitsRing (words_in (loop_carry s.split.dense)) (size_of (half_in s.part.ends d half)) 0
          (needed_body s (needed_dep s round step half)))
          chunk (dep_fits s round step half self.sound low.step_low));
      partials = k.partials ∙ sym k.rows;
      cells = self.wide.partials;
      each = λ i d lt. k.cells i d lt ∙ sym self.wide.partials;
      ring = k.ring ∙ sym k.rows;
      words = self.wide.ring;
      reading = self.read;
    }

pub drop_needed-requires : goal.drop_needed-requires
drop_needed-requires c =
    let self = c.args.self.now in
    let s = core_state self in
    let low = scan_low s c.args.round c.args.step c.args.half self.sound c.requires.at in
    let same : self.round ≡ c.args.round = round_at s (Scan c.args.round c.args.step c.args.half) self.sound
    c.requires.at in
    record {
      step = low.step_low;
      half = low.half_low;
      machines = self.buffer.machines;
      together = subst (λ (r : ℕ). AreOfRound r (machine s) self.held.letters) same
          (self.buffer.together (ap is_over c.requires.at));
    }

pub invariant_of-self-2-clause-sound : goal.invariant_of-self-2-clause-sound
invariant_of-self-2-clause-sound c =
    let self = c.args.self.now in
    let s = core_state self in
    let round = c.args.round in
    let step = c.args.step in
    let half = c.args.half in
    let last = c.requires.last in
    let same : p_of s - 1 ≡ step = omega arith in
    let shows : ShowsOwnHalf (plain_of self.ground.part) s.split c.as_slice.result.now s.rows round half
    c.needed_bytes.result.now s = record {
      shown = record {
        part = refl;
        split = refl;
        totals = sym (c.as_slice.ensures.value ∙ c.totals-totals.ensures);
        rows = refl;
      };
      carried = ap (λ (k : ℕ). needed_body s (needed_dep s round k half)) same ∙ c.needed_bytes.ensures s refl;
    } in
    let kept = c.in_ok-scan_own.ensures.kept s shows refl refl refl in
    let partials = kept.partials_are ∙ ap (λ (k : ℕ). (scan_kept s round k half).partials) same in
    let ring = kept.ring_is ∙ ap (λ (k : ℕ). (scan_kept s round k half).ring) same in
    let reading = kept.reading_is ∙ ap (λ (k : ℕ). (scan_kept s round k half).reading) same in
    let dropped = c.drop_needed.ensures in
    let path : record s {
      held = c.drop_needed.new.held.letters;
      partials = c.scan_own.new.partials.rows;
      ring = c.scan_own.new.ring.states;
      reading = lists_read s.part c.scan_own.new.reading.items;
    } ≡ scan_kept s round step half = λ j. record s {
      held = (dropped j).letters;
      partials = partials j;
      ring = ring j;
      reading = reading j;
    } in
    subst (λ (t : State). ∥ core_sound t ∥₁) (sym path) (kept_sound s round step half self.sound c.requires.at)

pub invariant_of-self-2-clause-wide : goal.invariant_of-self-2-clause-wide
invariant_of-self-2-clause-wide c =
    let wide = c.args.self.now.wide in
    record {
      rows = wide.rows;
      partials = c.scan_own.ensures.cells ∙ wide.partials;
      ring = c.scan_own.ensures.words ∙ wide.ring;
    }

pub invariant_of-self-2-clause-buffer : goal.invariant_of-self-2-clause-buffer
invariant_of-self-2-clause-buffer c =
    let self = c.args.self.now in
    let s = core_state self in
    let dropped = c.drop_needed.ensures in
    record {
      machines = ap (λ (h : Held). h.machines) dropped ∙ self.buffer.machines;
      together = λ on.
          subst (λ (h : Held). AreOfRound self.round (machine s) h.letters) (sym dropped)
          (emptied_of_round self.round (machine s) (needed_dep s c.args.round c.args.step c.args.half) self.held.letters
          (self.buffer.together (ap is_over c.requires.at)));
    }

pub invariant_of-self-2-clause-read : goal.invariant_of-self-2-clause-read
invariant_of-self-2-clause-read c = c.scan_own.ensures.counts

pub returns-clause-state : goal.returns-clause-state
returns-clause-state c =
    let self = c.args.self.now in
    let s = core_state self in
    let round = c.args.round in
    let step = c.args.step in
    let half = c.args.half in
    let last = c.requires.last in
    let same : p_of s - 1 ≡ step = omega arith in
    let shows : ShowsOwnHalf (plain_of self.ground.part) s.split c.as_slice.result.now s.rows round half
    c.needed_bytes.result.now s = record {
      shown = record {
        part = refl;
        split = refl;
        totals = sym (c.as_slice.ensures.value ∙ c.totals-totals.ensures);
        rows = refl;
      };
      carried = ap (λ (k : ℕ). needed_body s (needed_dep s round k half)) same ∙ c.needed_bytes.ensures s refl;
    } in
    let kept = c.in_ok-scan_own.ensures.kept s shows refl refl refl in
    let partials = kept.partials_are ∙ ap (λ (k : ℕ). (scan_kept s round k half).partials) same in
    let ring = kept.ring_is ∙ ap (λ (k : ℕ). (scan_kept s round k half).ring) same in
    let reading = kept.reading_is ∙ ap (λ (k : ℕ). (scan_kept s round k half).reading) same in
    let dropped = c.drop_needed.ensures in
    let path : record s {
      held = c.drop_needed.new.held.letters;
      partials = c.scan_own.new.partials.rows;
      ring = c.scan_own.new.ring.states;
      reading = lists_read s.part c.scan_own.new.reading.items;
    } ≡ scan_kept s round step half = λ j. record s {
      held = (dropped j).letters;
      partials = partials j;
      ring = ring j;
      reading = reading j;
    } in
    path
