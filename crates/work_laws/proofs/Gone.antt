-- An action leaves a sound core sound.
use Rattle.std.proofs.Common.{◌≡◌, ◌≢◌, ◌<◌, ◌≤◌, ◌+◌, ◌-◌, ◌*◌, ◌==◌, ◌^◌, ℕ, Bool, true, false, ◌||◌, List, [], ◌∷◌, refl, sym, ap, subst, ◌∙◌, None, Some, arith}
use Rattle.std.specs.Prelude.{if◌then◌else◌, is_some, nat_le, nat_lt}
use Rattle.std.specs.List.{AllByRecursion}
use Rattle.std.proofs.lemmas.Bool.{and_from, and_parts, eqb-true, leb-true, ltb-true, true≢false}
use Rattle.std.proofs.lemmas.Bool.Decides.{nat_tests}
use Rattle.vert_base.specs.declared.message.Name.{Name}
use Rattle.vert_base.specs.declared.value.Mode.{Mode}
use Rattle.vert_base.specs.declared.value.Mode.TheVariants as mode
use Rattle.vert_base.specs.declared.value.Ruling.{Ruling}
use Rattle.vert_base.specs.declared.value.Ruling.TheVariants.{Stop, Dense, Sparse}
use Rattle.vert_base.specs.Letters.{Letter, found}
use Rattle.vert_tree.specs.Limits.{mode_stands}
use Rattle.mode_switch.specs.Ruling.{mode_of}
use Rattle.circulant_plan.specs.declared.spot.Spot.{Spot}
use Rattle.circulant_plan.specs.declared.spot.Spot.TheVariants.{Tell, Judge, Begin, Scan, Close, Over}
use Rattle.circulant_plan.specs.Names.{verdict_name}
use Rattle.circulant_plan.specs.Skeleton.{Blocks, acting_ruling, is_over, may_rule}
use Rattle.circulant_plan.specs.Standing.{Standing, next_standing, round_of, standing_at}
use Rattle.circulant_plan.specs.Table.{after_begin, after_judge}
use Rattle.instrument.specs.declared.split.Split.{Split}
use Rattle.body_shape.specs.Tally.{Counted}
use Rattle.vert_tree.proofs.TypedLaws.{few_rounds}
use Rattle.symple_face.specs.declared.action.Action.TheVariants as action
use Rattle.symple_face.specs.CoreClose.{close_go}
use Rattle.symple_face.specs.CoreDense.{scan_go, scan_kept, scan_read}
use Rattle.symple_face.specs.CoreJudge.{core_judge, judge_at, judge_go, ruling_by, sums_at}
use Rattle.symple_face.specs.CoreSight.{known, program_of}
use Rattle.symple_face.specs.CoreSparse.{begin_go}
use Rattle.symple_face.specs.CoreWork.{acted, core_go, held_at, moved}
use Rattle.symple_face.specs.Lawful.{CanRun, Judges}
use Rattle.symple_face.specs.Parts.{PlainPart}
use Rattle.symple_face.specs.Plans.{blocks_of, ring_of}
use Rattle.symple_face.specs.State.{State, action_of, first_missing, machine, needs, p_of, waiting_for}
use Rattle.symple_face.proofs.TableLaws.{mode_block}
use Rattle.work_laws.specs.Sound.{FitsSpot, HoldsFit, IsHeld, IsRuled, TakesPlace, core_sound}
use Rattle.work_laws.proofs.Closes.{close_go_fits}
use Rattle.work_laws.proofs.Counts.{judge_go_fits}
use Rattle.work_laws.proofs.Sees.{scan_kept_fits, scan_read_fits}
use Rattle.work_laws.proofs.Sparse.{begin_go_fits}

-- ---- a judge rules as the program may
module _ (active edges r limit : ℕ) (dense sparse : Bool) where
  may_by : (m : Mode) → mode_stands m dense sparse ≡ true → nat_le r limit ≡ true →
      may_rule (record { limit = limit; dense = dense; sparse = sparse }) r (mode_of active edges m) ≡ true
  may_by mode.Dense stands low = and_from dense (nat_le r limit) stands low
  may_by mode.Sparse stands low = and_from sparse (nat_le r limit) stands low
  may_by mode.Auto stands low = by (nat_lt edges (20 * active))
    where
      by : (b : Bool) → may_rule (record { limit = limit; dense = dense; sparse = sparse }) r
          (if b then Dense else Sparse) ≡ true
      by true = and_from dense (nat_le r limit) (and_parts dense sparse stands).0 low
      by false = and_from sparse (nat_le r limit) (and_parts dense sparse stands).1 low

may_if : (blocks : Blocks) (r : ℕ) (b : Bool) (ruling : Ruling) → (b ≡ false → may_rule blocks r ruling ≡ true) →
    may_rule blocks r (if b then Stop else ruling) ≡ true
may_if blocks r true ruling h = refl
may_if blocks r false ruling h = h refl

not_late : (active r limit : ℕ) → (active == 0 || nat_lt limit r) ≡ false → nat_le r limit ≡ true
not_late active r limit h = by (active == 0) h
  where
    by : (b : Bool) → (b || nat_lt limit r) ≡ false → nat_le r limit ≡ true
    by true h = absurd (true≢false h)
    by false h = grind (arith, nat_tests, h)

pub judged_may : (s : State) (r : ℕ) (sums : Counted) → may_rule (blocks_of s.split) (r + 1) (ruling_by s r sums) ≡ true
judged_may s r sums =
    may_if (blocks_of s.split) (r + 1) _ _
    (λ going.
    may_if (blocks_of s.split) (r + 1) _ _
    (λ early.
    may_by sums.edges s.part.edges (r + 1) (program_of s.split).limit (is_some (program_of s.split).dense) (is_some
    (program_of s.split).sparse) (program_of s.split).mode (mode_block s.split)
    (not_late sums.active (r + 1) (program_of s.split).limit early)))

pub judge_may : (s : State) (r : ℕ) → Judges s r → may_rule (blocks_of s.split) (r + 1) (core_judge s) ≡ true
judge_may s r judges =
    ap (λ spot. may_rule (blocks_of s.split) (r + 1) (judge_at s spot)) judges ∙ judged_may s r (sums_at s r)

-- ---- where it stands then
held_fits : (part : PlainPart) (split : Split) (spot : Spot) (held : List Letter) →
    AllByRecursion (IsHeld split part) held →
    AllByRecursion (IsHeld split part) (held_at spot held)
held_fits part split Tell held all = all
held_fits part split (Judge r) held all = all
held_fits part split (Begin r) held all = tt
held_fits part split (Scan r step h) held all = all
held_fits part split (Close r dense) held all = all
held_fits part split Over held all = all

moved_fits : (part : PlainPart) (split : Split) (at : Standing) (s : State) → HoldsFit part split s →
    HoldsFit part split (moved at s)
moved_fits part split at s fits = record {
  rows = fits.rows;
  partials = fits.partials;
  ring = fits.ring;
  held = held_fits part split at.spot s.held fits.held;
  reading = fits.reading;
  reads = fits.reads;
  judged = fits.judged;
  report = fits.report;
}

-- at the begin of a round no other machine than 0 knows its totals
unknown : (s : State) (r : ℕ) → (machine s == 0) ≡ false →
    known (moved (record { spot = Begin r; round = r }) s) ≡ true → ⊥
unknown s r other known = true≢false (sym known ∙ ap (λ b. if b then nat_le 1 r else false) other)

stop_not : (ruling : Ruling) → ruling ≢ Stop → (other : Ruling) → other ≡ ruling → other ≢ Stop
stop_not ruling h other e same = h (sym e ∙ same)

pub dense_not : Dense ≢ Stop
dense_not e = cc

pub sparse_not : Sparse ≢ Stop
sparse_not e = cc

low_round : (r limit : ℕ) → r ≤ limit + 1 → limit ≤ 10000 → r < 2 ^ 32
low_round r limit low few = omega (arith, low, few)

module _ (s : State) (can : CanRun s.part s.split) (fits : HoldsFit s.part s.split s) where
  abbrev limit : ℕ
  limit = (program_of s.split).limit

  pub small : (r : ℕ) → r ≤ (program_of s.split).limit + 1 → r < 2 ^ 32
  small r low = low_round r (program_of s.split).limit low (few_rounds (program_of s.split) can.program.typed)

  pub small_within : (r : ℕ) → r ≤ (program_of s.split).limit → r < 2 ^ 32
  small_within r low = small r (omega (arith, low))

  gone_tell : (round : ℕ) → core_sound (moved (next_standing (ring_of s.split (p_of s)) (machine s) s.ruling
      (record { spot = Tell; round = round })) s)
  gone_tell round = by (machine s == 0) refl
    where
      by : (b : Bool) → (machine s == 0) ≡ b → core_sound (moved (standing_at round (if b then Judge 0 else Begin 1)) s)
      by true e = record {
        can = can;
        fits = moved_fits s.part s.split (standing_at round (Judge 0)) s fits;
        round = refl;
        spot = (eqb-true (machine s) 0 e, omega arith);
      }
      by false e = record {
        can = can;
        fits = moved_fits s.part s.split (standing_at round (Begin 1)) s fits;
        round = refl;
        spot = (omega arith, omega arith, λ known. absurd (unknown s 1 e known));
      }

  gone_judge : (r : ℕ) → r ≤ (program_of s.split).limit →
      core_sound (moved (standing_at (r + 1) (after_judge r (ruling_by s r (sums_at s r)))) (judge_go s r))
  gone_judge r low = by (ruling_by s r (sums_at s r)) refl
    where
      begins : (ruling : Ruling) → ruling ≢ Stop → ruling_by s r (sums_at s r) ≡ ruling →
          core_sound (moved (standing_at (r + 1) (Begin (r + 1))) (judge_go s r))
      begins ruling going e = record {
        can = can;
        fits = moved_fits s.part s.split (standing_at (r + 1) (Begin (r + 1))) (judge_go s r)
            (judge_go_fits s can fits r (small_within r low));
        round = refl;
        spot = (
          omega arith,
          omega (arith, low),
          λ known. (stop_not ruling going (ruling_by s r (sums_at s r)) e, judged_may s r (sums_at s r)),
        );
      }

      by : (ruling : Ruling) → ruling_by s r (sums_at s r) ≡ ruling →
          core_sound (moved (standing_at (r + 1) (after_judge r ruling)) (judge_go s r))
      by Stop e = record {
        can = can;
        fits = moved_fits s.part s.split (standing_at (r + 1) Over) (judge_go s r)
            (judge_go_fits s can fits r (small_within r low));
        round = refl;
        spot = tt;
      }
      by Dense e = begins Dense dense_not e
      by Sparse e = begins Sparse sparse_not e

  gone_begin : (r : ℕ) → 1 ≤ r → r ≤ (program_of s.split).limit + 1 → IsRuled s r →
      core_sound (moved (standing_at r (after_begin r s.ruling)) (begin_go s r))
  gone_begin r some low ruled = by s.ruling ruled.1
    where
      by : (ruling : Ruling) → may_rule (blocks_of s.split) r ruling ≡ true →
          core_sound (moved (standing_at r (after_begin r ruling)) (begin_go s r))
      by Stop may = record {
        can = can;
        fits = moved_fits s.part s.split (standing_at r Over) (begin_go s r) (begin_go_fits s can fits r (small r low));
        round = refl;
        spot = tt;
      }
      by Dense may =
          let b = and_parts (blocks_of s.split).dense (nat_le r (program_of s.split).limit) may in
          let place = can.place in
          record {
            can = can;
            fits = moved_fits s.part s.split (standing_at r (Scan r 0 0)) (begin_go s r)
                (begin_go_fits s can fits r (small r low));
            round = refl;
            spot = (b.0, (some, leb-true r (program_of s.split).limit b.1), omega (arith, place), omega arith);
          }
      by Sparse may =
          let b = and_parts (blocks_of s.split).sparse (nat_le r (program_of s.split).limit) may in
          record {
            can = can;
            fits = moved_fits s.part s.split (standing_at r (Close r false)) (begin_go s r)
                (begin_go_fits s can fits r (small r low));
            round = refl;
            spot = (b.0, (some, leb-true r (program_of s.split).limit b.1));
          }

  gone_scan : (r step h : ℕ) → (blocks_of s.split).dense ≡ true → TakesPlace s r → step < p_of s →
      core_sound
      (moved
      (standing_at r (if h == 0 then Scan r step 1 else if nat_lt step (p_of s - 1) then Scan r (step + 1) 0 else Close
      r true))
      (scan_go s r step h))
  gone_scan r step h block place low = by (nat_lt step (p_of s - 1)) refl (h == 0)
    where
      read : HoldsFit s.part s.split (scan_read s r step h)
      read = scan_read_fits s can fits r step h (small_within r place.1) low

      kept : HoldsFit s.part s.split (scan_kept s r step h)
      kept = scan_kept_fits s can fits r step h (small_within r place.1) low

      by : (b : Bool) → nat_lt step (p_of s - 1) ≡ b → (c : Bool) →
          core_sound
          (moved (standing_at r (if c then Scan r step 1 else if b then Scan r (step + 1) 0 else Close r true))
          (if b then scan_read s r step h else scan_kept s r step h))
      by true e true = record {
        can = can;
        fits = moved_fits s.part s.split (standing_at r (Scan r step 1)) (scan_read s r step h) read;
        round = refl;
        spot = (block, place, low, omega arith);
      }
      by true e false = record {
        can = can;
        fits = moved_fits s.part s.split (standing_at r (Scan r (step + 1) 0)) (scan_read s r step h) read;
        round = refl;
        spot = (block, place, let early = ltb-true step (p_of s - 1) e in omega (arith, early), omega arith);
      }
      by false e true = record {
        can = can;
        fits = moved_fits s.part s.split (standing_at r (Scan r step 1)) (scan_kept s r step h) kept;
        round = refl;
        spot = (block, place, low, omega arith);
      }
      by false e false = record {
        can = can;
        fits = moved_fits s.part s.split (standing_at r (Close r true)) (scan_kept s r step h) kept;
        round = refl;
        spot = (block, place);
      }

  gone_close : (r : ℕ) (dense : Bool) → TakesPlace s r →
      core_sound (moved (standing_at r (if machine s == 0 then Judge r else Begin (r + 1))) (close_go s r dense))
  gone_close r dense place = by (machine s == 0) refl
    where
      by : (b : Bool) → (machine s == 0) ≡ b → core_sound
          (moved (standing_at r (if b then Judge r else Begin (r + 1))) (close_go s r dense))
      by true e = record {
        can = can;
        fits = moved_fits s.part s.split (standing_at r (Judge r)) (close_go s r dense)
            (close_go_fits s can fits r dense (small_within r place.1));
        round = refl;
        spot = (eqb-true (machine s) 0 e, place.1);
      }
      by false e =
          let low = place.1 in
          record {
            can = can;
            fits = moved_fits s.part s.split (standing_at r (Begin (r + 1))) (close_go s r dense)
                (close_go_fits s can fits r dense (small_within r place.1));
            round = refl;
            spot = (omega arith, omega (arith, low), λ known. absurd (unknown (close_go s r dense) (r + 1) e known));
          }

  gone : (spot : Spot) (round : ℕ) → FitsSpot s spot → ((r : ℕ) → spot ≡ Begin r → IsRuled s r) →
      core_sound
      (moved
      (next_standing (ring_of s.split (p_of s)) (machine s) (acting_ruling (judge_at s spot) s.ruling spot)
      (record { spot = spot; round = round })) (acted s spot))
  gone Tell round spot ruled = gone_tell round
  gone (Judge r) round spot ruled = gone_judge r spot.1
  gone (Begin r) round spot ruled = gone_begin r spot.0 spot.1 (ruled r refl)
  gone (Scan r step h) round spot ruled = gone_scan r step h spot.0 spot.1 spot.2
  gone (Close r true) round spot ruled = gone_close r true spot.1
  gone (Close r false) round spot ruled = gone_close r false spot.1
  gone Over round spot ruled = record {
    can = can;
    fits = moved_fits s.part s.split (standing_at round Over) s fits;
    round = refl;
    spot = tt;
  }

-- a machine that can act at the begin of a round knows its totals
missing_none : (x : Name) (held : List Letter) → waiting_for (first_missing (x ∷ []) held) ≡ action.Ready →
    is_some (found x held) ≡ true
missing_none x held ready = by (is_some (found x held)) ready
  where
    by : (b : Bool) → waiting_for (if b then None else Some x) ≡ action.Ready → b ≡ true
    by true e = refl
    by false e = cc

pub ready_knows : (s : State) (r : ℕ) → 1 ≤ r → s.at.spot ≡ Begin r → s.at.round ≡ r → action_of s ≡ action.Ready →
    known s ≡ true
ready_knows s r some here round ready = by (machine s == 0) acts
  where
    acts : waiting_for
        (first_missing (if machine s == 0 then [] else verdict_name r (machine s) ∷ []) s.held) ≡ action.Ready
    acts =
        sym
        (ap
        (λ spot. if is_over spot then action.Over
        else waiting_for (first_missing (needs (record s { at = record s.at { spot = spot } })) s.held)) here)
        ∙ ready

    by : (b : Bool) → waiting_for (first_missing (if b then [] else verdict_name r (machine s) ∷ []) s.held) ≡
        action.Ready →
        (if b then nat_le 1 s.at.round else is_some (found (verdict_name s.at.round (machine s)) s.held)) ≡ true
    by true e = grind (arith, nat_tests, some, round)
    by false e =
        ap (λ (q : ℕ). is_some (found (verdict_name q (machine s)) s.held)) round ∙ missing_none
        (verdict_name r (machine s)) s.held e

pub begin_ruled : (s : State) (spot : Spot) → FitsSpot s spot → (r : ℕ) → spot ≡ Begin r → known s ≡ true → IsRuled s r
begin_ruled s spot fits r e known = (subst (FitsSpot s) e fits).2 known

pub go_sound : (s : State) → core_sound s → action_of s ≡ action.Ready → core_sound (core_go s)
go_sound s sound ready =
    gone s sound.can sound.fits s.at.spot s.at.round sound.spot
    (λ r here.
    begin_ruled s s.at.spot sound.spot r here
    (ready_knows s r (subst (FitsSpot s) here sound.spot).0 here (sound.round ∙ ap (round_of s.at.round) here) ready))
