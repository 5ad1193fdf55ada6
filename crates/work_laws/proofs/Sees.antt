-- What a sound core sees, and what its scan leaves.
use Rattle.std.proofs.Common.{◌≡◌, inl, ◌<◌, ◌≤◌, ◌-◌, ◌==◌, ◌^◌, ℕ, Bool, true, false, ◌&&◌, not, List, [], ◌∷◌, map, length, All, refl, sym, subst, Option, None, Some, FitsSigned, w64, arith}
use Rattle.std.specs.Prelude.{if◌then◌else◌, nat_lt, slice_index}
use Rattle.std.specs.List.{AllByRecursion, list_any, range_with_len}
use Rattle.std.proofs.lemmas.Bool.{and_parts, eqb-true, ltb-true}
use Rattle.std.proofs.lemmas.Bool.Decides.{nat_tests}
use Rattle.std.proofs.lemmas.List.FromFn.{length-range_with_len}
use Rattle.std.proofs.lemmas.List.Elements.{All-cons, All-filter, All-from_recursion, All-head, All-nil, All-tail}
use Rattle.vert_base.specs.declared.message.Name.{Name}
use Rattle.vert_base.specs.declared.value.ValueType.{ValueType}
use Rattle.vert_base.specs.Letters.{Letter}
use Rattle.vert_base.specs.Neighbours.{in_order, source, target}
use Rattle.vert_base.proofs.Orders.{in_order_below}
use Rattle.vert_tree.specs.declared.program.Dense.{Dense}
use Rattle.vert_tree.specs.Kinds.{kinds_of}
use Rattle.vert_eval.specs.Values.{word_at}
use Rattle.chunk_split.specs.Chunks.{vertices_of}
use Rattle.circulant_plan.specs.Names.{dep_name, refresh_name, verdict_name}
use Rattle.circulant_plan.specs.Ring.{before_machine, lies_in}
use Rattle.vert_base.specs.Ends.{start_of}
use Rattle.circulant_plan.specs.Skeleton.{has_name}
use Rattle.circulant_plan.specs.Table.{name_if}
use Rattle.instrument.specs.declared.split.Split.{Split}
use Rattle.body_shape.specs.Verdict.{judged_read}
use Rattle.word_kinds.specs.Fits.{AreWords, IsEdge}
use Rattle.value_laws.proofs.Rounds.{row_words}
use Rattle.symple_face.specs.CoreDense.{needed_dep, partials_after, read_after, reading_at, received_at, ring_after, ring_at, scan_chunk, scan_half, scan_kept, scan_read, scanned_at, scanned_in, states_told}
use Rattle.symple_face.specs.CoreScan.{fresh}
use Rattle.symple_face.specs.CoreSight.{beside, held_body, is_within, known_totals, members, mirror_row, own_row, own_sight, own_start, own_vertices, program_of, sight_at, targets, targets_of, total_count}
use Rattle.symple_face.specs.CoreTakes.{emptied, emptied_under, own_partials, with_sent}
use Rattle.symple_face.specs.Lawful.{CanRun}
use Rattle.symple_face.specs.Parts.{PlainPart, chunk_vertices}
use Rattle.symple_face.specs.Plans.{ring_of}
use Rattle.symple_face.specs.Shapes.{size_of}
use Rattle.symple_face.specs.State.{State, machine, p_of}
use Rattle.symple_face.proofs.ChunkLaws.{lies_within}
use Rattle.work_laws.specs.Sound.{ArePartials, AreWithin, HoldsFit, IsHeld, IsLoopState, members_in}
use Rattle.work_laws.proofs.Held.{get_or_is, may_read, mirror_words, states_told as states_told_fit, totals_told}
use Rattle.work_laws.proofs.Partials.{IsAmong, made_own, over_range, own_at, sent_more}
use Rattle.work_laws.proofs.Scans.{ScanFits, fresh_fits, passed_fits, scanned_fits}
use Rattle.work_laws.proofs.Sights.{SightFits, all_fit_at, part_sees}

-- ---- the part's edges and vertices
pub all_two : {X : Type 0} (P Q R : X → Type 0) (xs : List X) → ((x : X) → P x → Q x → R x) → All P xs → All Q xs →
    All R xs
all_two P Q R [] both p q = All-nil R
all_two P Q R (x ∷ xs) both p q =
    All-cons R x xs (both x (All-head P x xs p) (All-head Q x xs q))
    (all_two P Q R xs both (All-tail P x xs p) (All-tail Q x xs q))

module _ (part : PlainPart) (split : Split) (can : CanRun part split) where
  pub own_small : (v : ℕ) → lies_in part.ends part.at.machine v ≡ true → v < 2 ^ 32
  own_small v lies =
      let few = can.whole.within in
      let place = can.place in
      let low = lies_within 64 part.ends can.ends part.at.machine v (omega (arith, place, can.whole.machine)) lies in
      omega (arith, low, few)

  pub scan_edges : All IsEdge part.scan
  scan_edges =
      all_two (λ e. lies_in part.ends part.at.machine (source e) ≡ true) _ IsEdge part.scan
      (λ e lies fits. record { source = own_small (source e) lies; weight = fits }) can.whole.scan_chunk can.scan

  pub push_edges : All IsEdge part.push
  push_edges =
      let n : ℕ = vertices_of part.ends in
      let few = can.whole.within in
      let below : All (λ e. source e < n) part.push =
      subst (All (λ e. source e < n)) (sym can.whole.push_order)
      (All-from_recursion (λ e. source e < n) (in_order source n (in_order target n part.push))
      (in_order_below source n (in_order target n part.push))) in
      all_two (λ e. source e < n) _ IsEdge part.push
      (λ e low fits. record { source = omega (arith, low, few); weight = fits }) below can.push

  pub targets_small : All (λ v. v < 2 ^ 32) (targets_of part)
  targets_small =
      let n : ℕ = vertices_of part.ends in
      let few = can.whole.within in
      All-filter (λ v. list_any (λ e. target e == v) part.scan) (λ v. v < 2 ^ 32) (range_with_len 0 n)
      (over_range (λ v. v < 2 ^ 32) 0 n (λ v low high. omega (arith, high, few)))

-- a vertex among the own ones lies in the own chunk
pub among_lies : (part : PlainPart) (v : ℕ) → IsAmong (start_of part.ends part.at.machine)
    (length (chunk_vertices part.ends part.at.machine)) v →
    lies_in part.ends part.at.machine v ≡ true
among_lies part v among =
    let a : ℕ = start_of part.ends part.at.machine in
    let b : ℕ = slice_index part.ends part.at.machine in
    let low = among.0 in
    let high = among.1 in
    let n = length-range_with_len a (b - a) in
    grind (arith, nat_tests, low, high, n)

-- ---- what is read of each target
beside_within : (part : PlainPart) (v : ℕ) (us : List ℕ) (xs : List (List ℕ)) → AreWithin part us xs →
    length (beside [] v us xs) ≤ length (members_in part v)
beside_within part v [] xs h = omega arith
beside_within part v (u ∷ us) [] h = omega arith
beside_within part v (u ∷ us) (x ∷ xs) h = by (u == v) refl (beside_within part v us xs h.1)
  where
    by : (b : Bool) → (u == v) ≡ b → length (beside [] v us xs) ≤ length (members_in part v) →
        length (if b then x else beside [] v us xs) ≤ length (members_in part v)
    by true e more = subst (λ (w : ℕ). length x ≤ length (members_in part w)) (eqb-true u v e) h.0
    by false e more = more

pub within_map : (part : PlainPart) (f : ℕ → List ℕ) (P : ℕ → Type 0) (vs : List ℕ) → All P vs →
    ((v : ℕ) → P v → length (f v) ≤ length (members_in part v)) → AreWithin part vs (map f vs)
within_map part f P [] all h = tt
within_map part f P (v ∷ vs) all h = (h v (All-head P v vs all), within_map part f P vs (All-tail P v vs all) h)

-- ---- messages whose bodies are dropped
emptied_held : (split : Split) (part : PlainPart) (xs : List Name) (l : Letter) → IsHeld split part l →
    IsHeld split part (emptied_under xs l)
emptied_held split part xs l h = by (has_name l.name xs)
  where
    by : (b : Bool) → IsHeld split part (if b then record l { body = [] } else l)
    by true = inl refl
    by false = h

pub emptied_all : (split : Split) (part : PlainPart) (xs : List Name) (held : List Letter) →
    AllByRecursion (IsHeld split part) held →
    AllByRecursion (IsHeld split part) (emptied xs held)
emptied_all split part xs [] all = tt
emptied_all split part xs (l ∷ ls) all = (emptied_held split part xs l all.0, emptied_all split part xs ls all.1)

module _ (s : State) (can : CanRun s.part s.split) (fits : HoldsFit s.part s.split s) where
  abbrev kinds : List ValueType
  kinds = kinds_of (program_of s.split).fields.items

  pub own_words : (v : ℕ) → AreWords (kinds_of (program_of s.split).fields.items) (own_row s v).words.items
  own_words v = row_words (kinds_of (program_of s.split).fields.items) s.rows fits.rows.1 (v - own_start s)

  pub known_fit : (i : ℕ) → FitsSigned w64 (word_at (known_totals s) i)
  known_fit i = by (machine s == 0)
    where
      by : (b : Bool) →
          FitsSigned w64
          (word_at (if b then s.judged.totals
          else (judged_read (total_count s.split) (held_body s (verdict_name s.at.round (machine s)))).totals) i)
      by true = all_fit_at s.judged.totals fits.judged.totals i
      by false = totals_told (total_count s.split) (held_body s (verdict_name s.at.round (machine s))) i

  pub own_sees : (r : ℕ) → r < 2 ^ 32 → SightFits (kinds_of (program_of s.split).fields.items) (own_sight s r)
  own_sees r small =
      part_sees s.part s.split (kinds_of (program_of s.split).fields.items) r (known_totals s) (own_row s) can small
      known_fit own_words

  pub chunk_sees : (r d : ℕ) → r < 2 ^ 32 → SightFits (kinds_of (program_of s.split).fields.items) (sight_at s r d)
  chunk_sees r d small =
      part_sees s.part s.split (kinds_of (program_of s.split).fields.items) r (known_totals s) _ can small known_fit
      (λ v. by v (not (d == machine s) && lies_in s.part.ends d v))
    where
      by : (v : ℕ) (b : Bool) →
          AreWords (kinds_of (program_of s.split).fields.items)
          (if b then mirror_row s r d v else own_row s v).words.items
      by v true =
          mirror_words s.split s.part r d v (held_body s (refresh_name r d (machine s)))
          (may_read s.split s.part (refresh_name r d (machine s)) s.held fits.held)
      by v false = own_words v

  -- ---- a scan at a vertex
  received_fits : (r step h v : ℕ) → step < p_of s → IsLoopState s.split (received_at s r step h v)
  received_fits r step h v low =
      get_or_is (IsLoopState s.split) (fresh s.split) _ (v - (scan_half s step h).0) (fresh_fits s.split)
      (by ((ring_of s.split (p_of s)).carry && nat_lt 0 step) refl)
    where
      by : (b : Bool) → ((ring_of s.split (p_of s)).carry && nat_lt 0 step) ≡ b →
          All (IsLoopState s.split)
          (states_told s (size_of (scan_half s step h))
          (name_if b (dep_name r (step - 1) h (before_machine (machine s) (p_of s)) (machine s))))
      by true e =
          All-from_recursion (IsLoopState s.split) _
          (states_told_fit s.split s.part r step h
          (held_body s (dep_name r (step - 1) h (before_machine (machine s) (p_of s)) (machine s))) can.place
          (ltb-true 0 step (and_parts (ring_of s.split (p_of s)).carry (nat_lt 0 step) e).1) low
          (may_read s.split s.part (dep_name r (step - 1) h (before_machine (machine s) (p_of s)) (machine s)) s.held
          fits.held))
      by false e = All-nil (IsLoopState s.split)

  pub scan_fits : (r step h v : ℕ) → r < 2 ^ 32 → step < p_of s → v < 2 ^ 32 →
      ScanFits s.split (length (members s v)) (scanned_at s r step h v)
  scan_fits r step h v small low id = by (program_of s.split).dense refl
    where
      by : (o : Option Dense) → (program_of s.split).dense ≡ o →
          ScanFits s.split (length (members s v)) (scanned_in o s r step h v)
      by None e = passed_fits s.split (length (members s v)) (received_at s r step h v) (received_fits r step h v low)
      by (Some d) e =
          scanned_fits s.split d e can.program (sight_at s r (scan_chunk s step)) step (members s v) v
          (received_at s r step h v)
          (chunk_sees r (scan_chunk s step) small) id
          (All-filter (λ e. target e == v) IsEdge s.part.scan (scan_edges s.part s.split can))
          (received_fits r step h v low)

  -- ---- what a scan leaves
  reading_within : (v : ℕ) → length (reading_at s v) ≤ length (members s v)
  reading_within v = beside_within s.part v (targets s) s.reading fits.reading

  read_within : (r step h v : ℕ) → r < 2 ^ 32 → step < p_of s → v < 2 ^ 32 →
      length (read_after s r step h v) ≤ length (members s v)
  read_within r step h v small low id = by (is_within (scan_half s step h) v)
    where
      by : (b : Bool) → length (if b then (scanned_at s r step h v).reads else reading_at s v) ≤ length (members s v)
      by true = (scan_fits r step h v small low id).few
      by false = reading_within v

  pub scan_read_fits : (r step h : ℕ) → r < 2 ^ 32 → step < p_of s → HoldsFit s.part s.split (scan_read s r step h)
  scan_read_fits r step h small low = record {
    rows = fits.rows;
    partials = fits.partials;
    ring = fits.ring;
    held = emptied_all s.split s.part (needed_dep s r step h) s.held fits.held;
    reading = within_map s.part (read_after s r step h) (λ v. v < 2 ^ 32) (targets s) (targets_small s.part s.split can)
        (λ v id. read_within r step h v small low id);
    reads = fits.reads;
    judged = fits.judged;
    report = fits.report;
  }

  among_small : (v : ℕ) → IsAmong (own_start s) (length (own_vertices s)) v → v < 2 ^ 32
  among_small v among = own_small s.part s.split can v (among_lies s.part v among)

  pub own_partials_are : (v : ℕ) → IsAmong (own_start s) (length (own_vertices s)) v →
      ArePartials s.split (own_partials s v)
  own_partials_are v among = own_at s.part (ArePartials s.split) s.partials [] v fits.partials among

  scan_partials : (r step h v : ℕ) → r < 2 ^ 32 → step < p_of s → IsAmong (own_start s) (length (own_vertices s)) v →
      ArePartials s.split (partials_after s r step h v)
  scan_partials r step h v small low among = by (is_within (scan_half s step h) v)
    where
      by : (b : Bool) → ArePartials s.split (if b then with_sent step (scanned_at s r step h v).sent (own_partials s v)
          else own_partials s v)
      by true =
          sent_more s.split step (scanned_at s r step h v).sent (own_partials s v)
          (scan_fits r step h v small low (among_small v among)).sent (own_partials_are v among)
      by false = own_partials_are v among

  scan_ring : (r step h v : ℕ) → r < 2 ^ 32 → step < p_of s → IsAmong (own_start s) (length (own_vertices s)) v →
      IsLoopState s.split (ring_after s r step h v)
  scan_ring r step h v small low among = by (is_within (scan_half s step h) v)
    where
      by : (b : Bool) → IsLoopState s.split (if b then (scanned_at s r step h v).state else ring_at s v)
      by true = (scan_fits r step h v small low (among_small v among)).state
      by false = own_at s.part (IsLoopState s.split) s.ring (fresh s.split) v fits.ring among

  pub scan_kept_fits : (r step h : ℕ) → r < 2 ^ 32 → step < p_of s → HoldsFit s.part s.split (scan_kept s r step h)
  scan_kept_fits r step h small low =
      let read = scan_read_fits r step h small low in
      record {
        rows = fits.rows;
        partials = made_own s.part (ArePartials s.split) (partials_after s r step h)
            (λ v among. scan_partials r step h v small low among);
        ring = made_own s.part (IsLoopState s.split) (ring_after s r step h)
            (λ v among. scan_ring r step h v small low among);
        held = read.held;
        reading = read.reading;
        reads = fits.reads;
        judged = fits.judged;
        report = fits.report;
      }
