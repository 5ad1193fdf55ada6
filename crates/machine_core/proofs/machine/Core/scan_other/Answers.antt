use Rattle.std.proofs.Common.{◌≡◌, ◌∙◌, ◌++◌, ℕ, List, ap, length, map, refl, sym, subst, arith, ◌<◌}
use Rattle.std.proofs.lemmas.Bool.{eqb-true}
use Rattle.circulant_plan.specs.declared.spot.Spot.TheVariants.{Judge, Scan}
use Rattle.vert_base.specs.Letters.{Letter, found, letter_of}
use Rattle.dep_layout.specs.Judgement.{FitsRing}
use Rattle.circulant_plan.specs.Ring.{chunk_of}
use Rattle.symple_face.specs.CoreSight.{body_of}
use Rattle.symple_face.specs.Plans.{loop_carry}
use Rattle.symple_face.specs.Shapes.{half_in, size_of, words_in}
use Rattle.symple_face.specs.CoreDense.{scan_dep, scan_go, scan_update}
use Rattle.symple_face.specs.PartViews.{plain_of}
use Rattle.symple_face.specs.State.{State, machine, p_of}
use Rattle.machine_core.specs.CoreState.{core_state}
use Rattle.machine_steps.specs.Going.{half_sent}
use Rattle.machine_steps.specs.Halves.{IsHalfScan, ShowsHalf}
use Rattle.machine_core.proofs.GoLaws.{go_from, gone_sound, round_at, sent_by}
use Rattle.machine_core.proofs.HalfActs.{dep_fits, half_sends, read_goes, scan_low}
use Rattle.machine_core.proofs.SoundLaws.{steady}
use Rattle.machine_core.proofs.TotalsLaws.{known_count}
use Rattle.machine_core.proofs.machine.Core.scan_other.Goals as goal

pub scan_half-requires : goal.scan_half-requires
scan_half-requires c =
    let self = c.args.self.now in
    let s = core_state self in
    let round = c.args.round in
    let step = c.args.step in
    let half = c.args.half in
    let k = steady s self.sound in
    let low = scan_low s round step half self.sound c.requires.at in
    let some = low.some in
    let same : self.round ≡ round = round_at s (Scan round step half) self.sound c.requires.at in
    let needed = c.needed_bytes.ensures s refl in
    record {
      block = low.block;
      round = low.few;
      step = c.requires.other;
      half = low.half_low;
      totals = ap length (c.as_slice.ensures.value ∙ c.totals-totals.ensures)
          ∙ known_count s (λ zeroth. self.summed (omega arith) (eqb-true (machine s) 0 zeroth));
      count = k.rows;
      fields = self.wide.rows;
      wide = λ i d lt. k.fields i d lt ∙ sym self.wide.rows;
      fits = subst
          (λ (dep : List ℕ). 0 < length dep →
          FitsRing (words_in (loop_carry s.split.dense))
          (size_of (half_in s.part.ends (chunk_of (machine s) step (p_of s)) half)) 0 dep)
          needed (dep_fits s round step half self.sound low.step_low);
    }

pub note_half-requires : goal.note_half-requires
note_half-requires c =
    let self = c.args.self.now in
    let s = core_state self in
    let round = c.args.round in
    let step = c.args.step in
    let half = c.args.half in
    let shows : ShowsHalf (plain_of self.ground.part) s.split c.as_slice.result.now s.rows round step half
    c.held_body.result.now c.needed_bytes.result.now s = record {
      shown = record {
        part = refl;
        split = refl;
        totals = sym (c.as_slice.ensures.value ∙ c.totals-totals.ensures);
        rows = refl;
      };
      told = sym (c.held_body.ensures ∙ ap (λ x. body_of (found x s.held)) c.refresh_to.ensures);
      carried = c.needed_bytes.ensures s refl;
    } in
    let h = c.in_ok-scan.ensures s shows in
    record {
      at = c.requires.at;
      scanned = subst
          (λ (counts : List ℕ).
          IsHalfScan s round step half (scan_dep s round step half) (scan_update s round step half) counts)
          (sym c.deref.ensures.value)
          (record { dep = refl; told = refl; each = h.each; reads = h.reads; few = h.few });
    }

pub move_on-requires : goal.move_on-requires
move_on-requires c =
    let self = c.args.self.now in
    let s = core_state self in
    let round = c.args.round in
    let step = c.args.step in
    let half = c.args.half in
    let mid = core_state c.note_half.new.self in
    let acted : mid ≡ scan_go s round step half = c.note_half.ensures ∙ read_goes s round step half c.requires.other in
    record {
      sound = gone_sound s mid self.sound c.requires.ready (go_from s mid (Scan round step half) c.requires.at acted);
      judged = λ k e.
          let bad : Scan round step half ≡ Judge k =
          sym c.requires.at ∙ sym (ap (λ (t : State). t.at.spot) c.note_half.ensures) ∙ e in absurd (cc);
    }

pub returns-clause-state : goal.returns-clause-state
returns-clause-state c =
    let self = c.args.self.now in
    let s = core_state self in
    let round = c.args.round in
    let step = c.args.step in
    let half = c.args.half in
    let mid = core_state c.note_half.new.self in
    let acted : mid ≡ scan_go s round step half = c.note_half.ensures ∙ read_goes s round step half c.requires.other in
    c.move_on.ensures ∙ go_from s mid (Scan round step half) c.requires.at acted

pub returns-clause-sent : goal.returns-clause-sent
returns-clause-sent c =
    let self = c.args.self.now in
    let s = core_state self in
    let round = c.args.round in
    let step = c.args.step in
    let half = c.args.half in
    let shows : ShowsHalf (plain_of self.ground.part) s.split c.as_slice.result.now s.rows round step half
    c.held_body.result.now c.needed_bytes.result.now s = record {
      shown = record {
        part = refl;
        split = refl;
        totals = sym (c.as_slice.ensures.value ∙ c.totals-totals.ensures);
        rows = refl;
      };
      told = sym (c.held_body.ensures ∙ ap (λ x. body_of (found x s.held)) c.refresh_to.ensures);
      carried = c.needed_bytes.ensures s refl;
    } in
    let h = c.in_ok-scan.ensures s shows in
    c.in_ok-hand.ensures.handed
    ∙ ap (λ (ls : List Letter). map letter_of c.args.out.now.items ++ ls)
    (c.in_ok-sent.ensures
    ∙ ap (λ (us : List ℕ). half_sent s.split (p_of s) (machine s) round step half us c.in_ok-scan.scan.states.items)
    h.told
    ∙ ap (λ (bs : List ℕ). half_sent s.split (p_of s) (machine s) round step half (scan_update s round step half) bs)
    h.dep
    ∙ sym (half_sends s round step half c.requires.other)
    ∙ sym (sent_by s (Scan round step half) c.requires.at))
