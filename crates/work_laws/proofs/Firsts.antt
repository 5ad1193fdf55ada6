-- A core begins sound, before the first round and at the begin of a later one.
use Rattle.std.proofs.Common.{◌≡◌, ◌≢◌, ◌<◌, ◌≤◌, ◌+◌, ◌==◌, ◌^◌, inl, inr, ℕ, ℤ, Bool, true, false, ◌&&◌, not, List, [], ◌∷◌, map, length, refl, sym, ap, subst, ◌∙◌, None, Some, FitsSigned, w64, arith}
use Rattle.std.specs.Prelude.{if◌then◌else◌, is_some, nat_le, slice_get}
use Rattle.std.specs.List.{AllByRecursion}
use Rattle.std.proofs.lemmas.Bool.{and_from, true≢false}
use Rattle.std.proofs.lemmas.Bool.Decides.{nat_tests}
use Rattle.std.proofs.lemmas.Option.{same_Some}
use Rattle.std.proofs.lemmas.List.{length-map}
use Rattle.std.proofs.lemmas.List.Elements.{All-get_or, All-nil, recursion_from_All}
use Rattle.vert_base.specs.declared.message.Name.{Name}
use Rattle.vert_base.specs.declared.message.NameKind.TheVariants as kind
use Rattle.vert_base.specs.declared.value.Ruling.{Ruling}
use Rattle.vert_base.specs.declared.value.Ruling.TheVariants.{Stop, Dense, Sparse}
use Rattle.vert_base.specs.Letters.{Letter, found}
use Rattle.vert_base.specs.Names.{same_name}
use Rattle.vert_tree.specs.Kinds.{Kinds, field_kinds, kinds_of}
use Rattle.vert_eval.specs.declared.environment.Env.{Env}
use Rattle.vert_eval.specs.Rounds.{empty_row, row_at}
use Rattle.vert_eval.specs.Values.{value_of}
use Rattle.circulant_plan.specs.declared.spot.Spot.{Spot}
use Rattle.circulant_plan.specs.declared.spot.Spot.TheVariants.{Tell, Judge, Begin, Scan, Close, Over}
use Rattle.circulant_plan.specs.Names.{verdict_name}
use Rattle.vert_base.specs.Ends.{start_of}
use Rattle.circulant_plan.specs.Skeleton.{may_rule}
use Rattle.circulant_plan.specs.Table.{needs_of}
use Rattle.circulant_plan.proofs.Members.{Has, contains_from_has}
use Rattle.instrument.specs.declared.split.Split.{Split}
use Rattle.body_shape.specs.Verdict.{Judged, may_be}
use Rattle.body_shape.proofs.VerdictLaws.{verdict_fits}
use Rattle.word_kinds.specs.Fits.{IsRow}
use Rattle.value_laws.proofs.Rounds.{no_words, parts}
use Rattle.value_laws.proofs.Rows.{decl_words}
use Rattle.value_laws.proofs.Words.{zero_fits}
use Rattle.symple_face.specs.CoreFirst.{ahead_at, body_at_start, core_ahead, core_first, core_restarted, first_row_of, held_at_start, judged_at_start, no_sums}
use Rattle.symple_face.specs.CoreScan.{fresh}
use Rattle.symple_face.specs.CoreSight.{part_sight, program_of, targets_of}
use Rattle.symple_face.specs.CoreTakes.{empty_partials}
use Rattle.symple_face.specs.Lawful.{CanRun, is_begin}
use Rattle.symple_face.specs.Parts.{PlainPart, chunk_vertices}
use Rattle.symple_face.specs.Planned.{HasMessage, has_block}
use Rattle.symple_face.specs.Plans.{blocks_of, ring_of}
use Rattle.symple_face.specs.Restarts.{BeginsAt, IsStart}
use Rattle.symple_face.specs.Shapes.{form_of}
use Rattle.symple_face.specs.Sight.{Sight, seen_env}
use Rattle.symple_face.specs.State.{State, machine}
use Rattle.symple_face.specs.Work.{PlainAhead, PlainStart}
use Rattle.symple_face.proofs.ChunkLaws.{lies_within}
use Rattle.symple_face.proofs.TableLaws.{plans_by_table}
use Rattle.work_laws.specs.Sound.{AreSums, AreWithin, HoldsFit, IsHeld, IsLoopState, ArePartials, core_sound}
use Rattle.work_laws.proofs.Partials.{IsAmong, empty_are, made_own}
use Rattle.work_laws.proofs.Scans.{fresh_fits}
use Rattle.work_laws.proofs.Sees.{among_lies, own_small, targets_small, within_map}
use Rattle.work_laws.proofs.Sights.{part_sees, seen_has}

none_read : (part : PlainPart) (split : Split) → CanRun part split →
    AreWithin part (targets_of part) (map (λ v. []) (targets_of part))
none_read part split can =
    within_map part (λ v. []) (λ v. v < 2 ^ 32) (targets_of part) (targets_small part split can) (λ v id. omega arith)

no_slots : (i : ℕ) (z : ℤ) → slice_get [] i ≡ Some (Some z) → FitsSigned w64 z
no_slots i z e = cc

none_summed : AreSums no_sums
none_summed = record { active = omega arith; edges = omega arith; totals = All-nil (FitsSigned w64) }

module _ (part : PlainPart) (split : Split) (can : CanRun part split) where
  first_word : (v : ℕ) → IsAmong (start_of part.ends part.at.machine)
      (length (chunk_vertices part.ends part.at.machine)) v →
      IsRow (kinds_of (program_of split).fields.items) (first_row_of part split v)
  first_word v among =
      let k : Kinds = field_kinds (program_of split) in
      let g : Sight = part_sight part 0 [] (λ v. empty_row) in
      let env : Env = seen_env g v 0 [] in
      let sees = part_sees part split (kinds_of (program_of split).fields.items) 0 [] (λ v. empty_row) can
      (omega arith) (λ i. zero_fits)
      (λ v. no_words (kinds_of (program_of split).fields.items)) in
      let has = seen_has k g v 0 [] sees (own_small part split can v (among_lies part v among)) no_slots in
      let own = parts (program_of split) can.program in
      record {
        count = length-map (program_of split).fields.items (λ d. value_of d.value env)
            ∙ sym (length-map (program_of split).fields.items (λ d. d.kind));
        words = decl_words k (program_of split).fields.items env own.fields.0 own.fields.1 has;
      }

  first_fits : HoldsFit part split (core_first part split)
  first_fits = record {
    rows = made_own part (IsRow (kinds_of (program_of split).fields.items)) (first_row_of part split) first_word;
    partials = made_own part (ArePartials split) (λ v. empty_partials split) (λ v among. empty_are split);
    ring = made_own part (IsLoopState split) (λ v. fresh split) (λ v among. fresh_fits split);
    held = tt;
    reading = none_read part split can;
    reads = none_read part split can;
    judged = none_summed;
    report = record { active = omega arith; edges = omega arith; reads = omega arith };
  }

  pub first_sound : core_sound (core_first part split)
  first_sound = record { can = can; fits = first_fits; round = refl; spot = tt }

  -- ---- from a start
  module _ (start : PlainStart) (is : IsStart part split start) where
    start_row : (v : ℕ) → IsAmong (start_of part.ends part.at.machine)
        (length (chunk_vertices part.ends part.at.machine)) v →
        IsRow (kinds_of (program_of split).fields.items) (row_at start.rows v)
    start_row v among =
        let place = can.place in
        let whole = can.whole.machine in
        let low = lies_within 64 part.ends can.ends part.at.machine v (omega (arith, place, whole))
        (among_lies part v among) in
        let n = is.rows in
        All-get_or (IsRow (kinds_of (program_of split).fields.items)) start.rows v empty_row (omega (arith, low, n))
        is.typed

    may_start : may_rule (blocks_of split) start.round start.ruling ≡ true
    may_start = by start.ruling is.block
      where
        low : nat_le start.round (program_of split).limit ≡ true
        low = let within = is.within in grind (arith, nat_tests, within)

        by : (ruling : Ruling) → has_block (blocks_of split) ruling ≡ true →
            may_rule (blocks_of split) start.round ruling ≡ true
        by Stop block = refl
        by Dense block = and_from (blocks_of split).dense (nat_le start.round (program_of split).limit) block low
        by Sparse block = and_from (blocks_of split).sparse (nat_le start.round (program_of split).limit) block low

    going : start.ruling ≢ Stop
    going e = true≢false (sym is.block ∙ ap (has_block (blocks_of split)) e)

    may_tell : may_be (may_rule (blocks_of split) start.round Dense) (may_rule (blocks_of split) start.round Sparse)
        start.ruling ≡ true
    may_tell = by start.ruling may_start
      where
        by : (ruling : Ruling) → may_rule (blocks_of split) start.round ruling ≡ true →
            may_be (may_rule (blocks_of split) start.round Dense) (may_rule (blocks_of split) start.round Sparse)
            ruling ≡ true
        by Stop may = refl
        by Dense may = may
        by Sparse may = may

    start_held : AllByRecursion (IsHeld split part) (held_at_start part start)
    start_held = by (part.at.machine == 0) refl
      where
        by : (b : Bool) → (part.at.machine == 0) ≡ b →
            AllByRecursion (IsHeld split part)
            (if b then [] else record { name = verdict_name start.round part.at.machine; body = body_at_start start } ∷
            [])
        by true e = tt
        by false e =
            let name : Name = verdict_name start.round part.at.machine in
            let late = is.late in
            let within = is.within in
            let place = can.place in
            let whole = can.whole.machine in
            let few = can.ends.1 in
            let needed : Has (needs_of (ring_of split part.at.machines) part.at.machine (Begin start.round)) name =
            subst (λ b. Has (if b then [] else name ∷ []) name) (sym e) (inl refl) in
            let range : (nat_le 1 start.round && nat_le start.round ((program_of split).limit + 1)) ≡ true =
            and_from (nat_le 1 start.round) (nat_le start.round ((program_of split).limit + 1))
            (grind (arith, nat_tests, late))
            (grind (arith, nat_tests, within)) in
            let first : 1 ≤ start.round = omega (arith, late) in
            let needs : List Name = needs_of (ring_of split part.at.machines) part.at.machine (Begin start.round) in
            let message : HasMessage (ring_of split part.at.machines) part.at.machine start.ruling name =
            (Begin start.round, first, inr (contains_from_has needs name needed)) in
            let planned = (plans_by_table split part.at.machines part.at.machine name (omega (arith, whole, few))
            can.place).1
            ((start.ruling, is.block, message), range) in
            let judged : Judged = record { ruling = start.ruling; totals = start.totals } in
            let n : ℕ = length (program_of split).totals.items in
            let fit = verdict_fits (may_rule (blocks_of split) start.round Dense)
            (may_rule (blocks_of split) start.round Sparse) n judged
            (may_tell, (is.totals, recursion_from_All (FitsSigned w64) start.totals is.words)) in (
              inr (
                form_of split part kind.Verdict name,
                ap (λ b. if b then Some (form_of split part kind.Verdict name) else None) planned,
                fit,
              ),
              tt,
            )

    start_judged : AreSums (judged_at_start part start)
    start_judged = by (part.at.machine == 0)
      where
        by : (b : Bool) →
            AreSums (if b then record { active = start.active; edges = start.edges; totals = start.totals }
            else no_sums)
        by true =
            let active = is.active in
            let edges = is.edges in
            record { active = omega (arith, active); edges = omega (arith, edges); totals = is.words }
        by false = none_summed

    pub restarted_sound : core_sound (core_restarted part split start)
    restarted_sound =
        let late = is.late in
        let within = is.within in
        record {
          can = can;
          fits = record {
            rows = made_own part (IsRow (kinds_of (program_of split).fields.items)) (row_at start.rows) start_row;
            partials = first_fits.partials;
            ring = first_fits.ring;
            held = start_held;
            reading = first_fits.reading;
            reads = first_fits.reads;
            judged = start_judged;
            report = first_fits.report;
          };
          round = refl;
          spot = (omega (arith, late), omega (arith, within), λ known. (going, may_start));
        }

-- ---- what is held from a start
one_found : (b : Bool) (l : Letter) → is_some (if b then Some l else None) ≡ b
one_found true l = refl
one_found false l = refl

start_taken : (part : PlainPart) (start : PlainStart) (x : Name) →
    is_some (found x (held_at_start part start)) ≡
    (not (part.at.machine == 0) && same_name (verdict_name start.round part.at.machine) x)
start_taken part start x = by (part.at.machine == 0)
  where
    by : (b : Bool) →
        is_some
        (found x (if b then [] else record {
          name = verdict_name start.round part.at.machine;
          body = body_at_start
              start;
        } ∷ []))
        ≡ (not b && same_name (verdict_name start.round part.at.machine) x)
    by true = refl
    by false =
        one_found (same_name (verdict_name start.round part.at.machine) x)
        (record { name = verdict_name start.round part.at.machine; body = body_at_start start })

pub begins_at : (part : PlainPart) (split : Split) (start : PlainStart) →
    BeginsAt part split start (core_restarted part split start)
begins_at part split start = record {
  part = refl;
  split = refl;
  at = refl;
  ruling = refl;
  held = start_taken part start;
  rows = refl;
  judged = refl;
}

-- ---- ahead
there_at : (s : State) (b : Bool) (spot : Spot) → is_some (if b then ahead_at s spot else None) ≡ (b && is_begin spot)
there_at s false spot = refl
there_at s true Tell = refl
there_at s true (Judge r) = refl
there_at s true (Begin r) = refl
there_at s true (Scan r step h) = refl
there_at s true (Close r dense) = refl
there_at s true Over = refl

pub ahead_there : (s : State) → is_some (core_ahead s) ≡ (machine s == 0 && is_begin s.at.spot)
ahead_there s = there_at s (machine s == 0) s.at.spot

-- what it tells where it does
record TellsAhead (s : State) (spot : Spot) (a : PlainAhead) : Type 0 where
  round : spot ≡ Begin a.round
  ruling : a.ruling ≡ s.ruling

tells_at : (s : State) (b : Bool) (spot : Spot) (a : PlainAhead) → (if b then ahead_at s spot else None) ≡ Some a →
    TellsAhead s spot a
tells_at s false spot a e = cc
tells_at s true Tell a e = cc
tells_at s true (Judge r) a e = cc
tells_at s true (Begin r) a e =
    let same = same_Some _ a e in
    record {
      round = ap (λ (x : PlainAhead). Begin x.round) same;
      ruling = sym (ap (λ (x : PlainAhead). x.ruling) same);
    }
tells_at s true (Scan r step h) a e = cc
tells_at s true (Close r dense) a e = cc
tells_at s true Over a e = cc

pub ahead_round : (s : State) (a : PlainAhead) → core_ahead s ≡ Some a → s.at.spot ≡ Begin a.round
ahead_round s a e = (tells_at s (machine s == 0) s.at.spot a e).round

pub ahead_ruling : (s : State) (a : PlainAhead) → core_ahead s ≡ Some a → a.ruling ≡ s.ruling
ahead_ruling s a e = (tells_at s (machine s == 0) s.at.spot a e).ruling
