-- What a machine sees in a scan of a half.
use Rattle.std.proofs.Common.{◌≡◌, ◌≢◌, ◌<◌, ◌≤◌, ◌+◌, ◌-◌, ◌*◌, ℕ, zero, suc, Bool, true, false, ◌||◌, not, cond, List, [], ◌∷◌, length, get_or, drop, map, refl, sym, ap, subst, ◌∙◌, ⊎_elim, arith}
use Rattle.std.specs.Prelude.{◌==◌, ◌&&◌, if◌then◌else◌, nat_le, nat_lt, slice_index, slice_index_or}
use Rattle.std.specs.List.{filter, list_any, range_with_len}
use Rattle.std.specs.List.Sorted.{IsStrictlyIncreasing}
use Rattle.std.proofs.lemmas.Bool.{and_parts, cases_Bool, eq-eqb, ne_eqb, leb-true, ltb-true}
use Rattle.std.proofs.lemmas.List.{get_or-map, length-map}
use Rattle.std.proofs.lemmas.List.Elements.{All-from_recursion, filter_agree}
use Rattle.std.proofs.lemmas.List.FromFn.{get_or-range_with_len, length-range_with_len}
use Rattle.std.proofs.lemmas.List.Kept.{AllPairs-from_increasing, IsStrictlyIncreasing-filter}
use Rattle.graph_table.proofs.FilterLaws.{all_passes, filter-map, filter_filter, map-map}
use Rattle.vert_base.specs.declared.graph.Edge.{Edge}
use Rattle.vert_base.specs.declared.graph.VertexId.{VertexId}
use Rattle.vert_base.specs.Ends.{start_of}
use Rattle.vert_base.specs.Neighbours.{bucket, target}
use Rattle.vert_eval.specs.declared.environment.Env.{Env}
use Rattle.vert_eval.specs.Rounds.{empty_row, row_at}
use Rattle.chunk_split.specs.Chunks.{AreEnds, vertices_of}
use Rattle.circulant_plan.specs.Names.{refresh_name}
use Rattle.circulant_plan.specs.Ring.{lies_in}
use Rattle.body_shape.specs.Refresh.{row_of, rows_read}
use Rattle.dep_layout.specs.Judgement.{rows_in}
use Rattle.body_shape.proofs.RefreshLaws.{refresh_in_place}
use Rattle.symple_face.specs.declared.degree.Degree.{Degree}
use Rattle.symple_face.specs.CoreSight.{beside, degree_of, field_count, held_body, is_within, known_totals, mirror_row, mirrors, none, own_row, own_start, sight_at, targets_of, those_within, told_row, told_rows}
use Rattle.symple_face.specs.Parts.{IsPart, PlainPart, chunk_vertices, ends_met, refresh_list}
use Rattle.symple_face.specs.State.{State, machine}
use Rattle.symple_face.proofs.ChunkLaws.{lies_is}
use Rattle.symple_face.proofs.ListLaws.{other_list}
use Rattle.round_laws.proofs.Chunks.{none_has_two}
use Rattle.round_laws.proofs.Lists.{any_kept, any_range}
use Rattle.machine_parts.specs.declared.spans.Span.{Span}
use Rattle.machine_parts.specs.Neighbours.{ArePlaced}
use Rattle.machine_parts.specs.Seen.{ShowsOwn}
use Rattle.machine_parts.specs.Spans.{AreSpans, vertex_of}
use Rattle.machine_parts.proofs.TargetLaws.{targets_are_told}
use Rattle.machine_parts.proofs.UpdateLaws.{StandOnce, stand_once}
use Rattle.machine_steps.specs.Halves.{AreMirrors}
use Rattle.vertex_work.specs.Known.{AreDegreesOf}
use Rattle.vertex_work.proofs.MergeLaws.{range_up}
use Rattle.vertex_work.specs.Scanning.{ShowsMirrors}

-- ---- lists
-- the ends of edges ascend
pub ends_rise : (end : Edge → ℕ) (n : ℕ) (edges : List Edge) → IsStrictlyIncreasing (ends_met end n edges)
ends_rise end n edges =
    IsStrictlyIncreasing-filter (λ v. list_any (λ e. end e == v) edges) (range_with_len 0 n) (range_up 0 n)

-- what stands beside a vertex that comes first at a place
beside_at : {X : Type 0} (d : X) (us : List ℕ) (xs : List X) (k v : ℕ) → k < length us → get_or us k 0 ≡ v →
    ((j : ℕ) → j < k → get_or us j 0 ≢ v) → beside d v us xs ≡ get_or xs k d
beside_at d [] xs k v lt is first = absurd (omega arith)
beside_at d (u ∷ us) [] zero v lt is first = refl
beside_at d (u ∷ us) [] (suc k) v lt is first = refl
beside_at d (u ∷ us) (x ∷ xs) zero v lt is first = ap (λ b. if b then x else beside d v us xs) (eq-eqb u v is)
beside_at d (u ∷ us) (x ∷ xs) (suc k) v lt is first =
    ap (λ b. if b then x else beside d v us xs) (ne_eqb u v (first 0 (omega arith)))
    ∙ beside_at d us xs k v (omega arith) is (λ j low. first (suc j) (omega arith))

-- of a list that ascends
pub beside_up : {X : Type 0} (d : X) (us : List ℕ) (xs : List X) (k : ℕ) → IsStrictlyIncreasing us → k < length us →
    beside d (get_or us k 0) us xs ≡ get_or xs k d
beside_up d us xs k up lt =
    beside_at d us xs k (get_or us k 0) lt refl (λ j low same. let rises =
    AllPairs-from_increasing us up j k 0 low lt in omega arith)

none_pass : {X : Type 0} (p : X → Bool) (xs : List X) → list_any p xs ≡ false → filter p xs ≡ []
none_pass p [] empty = refl
none_pass p (x ∷ xs) empty = by (p x) refl empty (none_pass p xs)
  where
    by : (b : Bool) → p x ≡ b → (b || list_any p xs) ≡ false → (list_any p xs ≡ false → filter p xs ≡ []) →
        cond (p x) (x ∷ filter p xs) (filter p xs) ≡ []
    by true is some rest = cc
    by false is rest_none rest = ap (λ t. cond t (x ∷ filter p xs) (filter p xs)) is ∙ rest rest_none

-- ---- the own vertices
module _ (s : State) (r d : ℕ) (degrees : List Degree) (env : Env) (ends : AreEnds 64 s.part.ends)
    (own : machine s < length s.part.ends) (other : d < length s.part.ends)
    (count : length s.rows ≡ length (chunk_vertices s.part.ends (machine s)))
    (known : AreDegreesOf s.part (chunk_vertices s.part.ends (machine s)) degrees) where
  size : length (chunk_vertices s.part.ends (machine s)) ≡ slice_index s.part.ends (machine s) - own_start s
  size = length-range_with_len (own_start s) (slice_index s.part.ends (machine s) - own_start s)

  number_is : (i : ℕ) → i < length s.rows →
      slice_index (chunk_vertices s.part.ends (machine s)) i ≡ own_start s + i
  number_is i lt =
      get_or-range_with_len (own_start s) (slice_index s.part.ends (machine s) - own_start s) i 0
      (omega (arith, count, size))

  row_by : (b c : Bool) (v : ℕ) → (d == machine s) ≡ b → lies_in s.part.ends d v ≡ c →
      lies_in s.part.ends (machine s) v ≡ true →
      (sight_at s r d).row v ≡ own_row s v
  row_by true c v is lies here =
      ap (λ t. if not t && lies_in s.part.ends d v then mirror_row s r d v else own_row s v) is
  row_by false true v is lies here =
      absurd (let same = none_has_two 64 s.part.ends d (machine s) v ends other own lies here in
      let clash : true ≡ false = sym (eq-eqb d (machine s) same) ∙ is in cc)
  row_by false false v is lies here =
      ap (λ t. if not t && lies_in s.part.ends d v then mirror_row s r d v else own_row s v) is
      ∙ ap (λ t. if t then mirror_row s r d v else own_row s v) lies

  pub own_shown : env.n ≡ vertices_of s.part.ends → env.round ≡ r → env.draws ≡ s.part.draws →
      env.totals.items ≡ known_totals s → env.slots.items ≡ none s.split →
      ShowsOwn (sight_at s r d) s.rows degrees (own_start s) (none s.split) env
  own_shown n round draws totals slots = record {
    n = n;
    round = round;
    draws = draws;
    totals = totals;
    slots = slots;
    row = λ i lt.
        let here = lies_is (own_start s) (slice_index s.part.ends (machine s)) (own_start s + i) (omega arith)
        (omega (arith, count, size)) in
        let place : own_start s + i - own_start s ≡ i = omega arith in
        ap (row_at s.rows) (sym place)
        ∙ sym (row_by (d == machine s) (lies_in s.part.ends d (own_start s + i)) (own_start s + i) refl refl here);
    ins = λ i lt.
        ap (λ x. x.ins) (known.at i (omega (arith, count)))
        ∙ ap (λ v. (degree_of s.part v).ins) (number_is i lt);
    outs = λ i lt.
        ap (λ x. x.outs) (known.at i (omega (arith, count)))
        ∙ ap (λ v. (degree_of s.part v).outs) (number_is i lt);
  }

-- ---- vertices within a range of targets
-- each vertex of some within a range is within it
pub within_range : (range : ℕ × ℕ) (us ids : List ℕ) (i : ℕ) → ids ≡ those_within range us → i < length ids →
    (range.0 ≤ get_or ids i 0) × (get_or ids i 0 < range.1)
within_range range us ids i are lt =
    let all = All-from_recursion (λ v. is_within range v ≡ true) (filter (is_within range) us)
    (all_passes (is_within range) us) in
    let passes : is_within range (get_or ids i 0) ≡ true =
    ap (λ vs. is_within range (get_or vs i 0)) are ∙ all i 0 (omega (arith, ap length are)) in
    both (get_or ids i 0) passes
  where
    both : (v : ℕ) → (nat_le range.0 v && nat_lt v range.1) ≡ true → (range.0 ≤ v) × (v < range.1)
    both v h = let parts = and_parts (nat_le range.0 v) (nat_lt v range.1) h in
        (leb-true range.0 v parts.0, ltb-true v range.1 parts.1)

-- they stand once
pub within_once : (range : ℕ × ℕ) (us : List ℕ) (spans : List Span) → IsStrictlyIncreasing us →
    map vertex_of spans ≡ those_within range us →
    StandOnce range.0 (range.1 - range.0) (map vertex_of spans)
within_once range us spans up are =
    let vertices : List VertexId = map (λ s. s.vertex) spans in
    let same : map (λ v. v.0) (map (λ (s : Span). s.vertex) spans) ≡ map vertex_of spans =
    map-map (λ (v : VertexId). v.0) (λ (s : Span). s.vertex) spans in
    let size : length (map (λ (s : Span). s.vertex) spans) ≡ length spans = length-map spans (λ s. s.vertex) in
    let rises : IsStrictlyIncreasing (map vertex_of spans) =
    subst IsStrictlyIncreasing (sym are) (IsStrictlyIncreasing-filter (is_within range) us up) in
    let placed : ArePlaced range.0 (range.1 - range.0) (map (λ s. s.vertex) spans) = λ k e lt.
    let here = within_range range us (map vertex_of spans) k are (omega (arith, length-map spans vertex_of)) in
    let is : get_or (map vertex_of spans) k 0 ≡ (get_or (map (λ (s : Span). s.vertex) spans) k e).0 =
    ap (λ vs. get_or vs k 0) (sym same) ∙ get_or-map (λ (v : VertexId). v.0) vertices k e 0 lt in
    (omega (arith, is, here.0), omega (arith, is, here.0, here.1)) in
    subst (StandOnce range.0 (range.1 - range.0)) same
    (stand_once range.0 (range.1 - range.0) vertices placed (subst IsStrictlyIncreasing (sym same) rises))

-- a vertex of the range that isn't among them has no members
module _ (part : PlainPart) (range : ℕ × ℕ) (ids : List ℕ) (v : ℕ) where
  pub no_members : ids ≡ those_within range (targets_of part) → range.0 ≤ v → v < range.1 →
      range.1 ≤ vertices_of part.ends → list_any (λ u. u == v) ids ≡ false → bucket target v part.scan ≡ []
  no_members are low high most none =
      ⊎_elim
      (λ (some : list_any (λ e. target e == v) part.scan ≡ true).
      let among = any_kept (λ u. list_any (λ e. target e == u) part.scan) v (range_with_len 0 (vertices_of part.ends))
      some
      (any_range v 0 (vertices_of part.ends) (omega arith) (omega arith)) in
      let within = any_kept (is_within range) v (targets_of part) (lies_is range.0 range.1 v low high) among in
      let clash : true ≡ false = sym within ∙ ap (list_any (λ u. u == v)) (sym are) ∙ none in
      absurd (cc))
      (λ (no : list_any (λ e. target e == v) part.scan ≡ false). none_pass (λ e. target e == v) part.scan no)
      (cases_Bool (list_any (λ e. target e == v) part.scan))

-- what lies within a range lies within a wider one
narrower : (a b : ℕ) (range : ℕ × ℕ) (v : ℕ) → a ≤ range.0 → range.1 ≤ b →
    ((nat_le a v && nat_lt v b) && is_within range v) ≡ is_within range v
narrower a b range v low high =
    ⊎_elim
    (λ (yes : is_within range v ≡ true).
    let parts = and_parts (nat_le range.0 v) (nat_lt v range.1) yes in
    let above = leb-true range.0 v parts.0 in
    let below = ltb-true v range.1 parts.1 in
    ap (λ t. t && is_within range v) (lies_is a b v (omega arith) (omega arith)))
    (λ (no : is_within range v ≡ false).
    ap (λ t. (nat_le a v && nat_lt v b) && t) no ∙ and_none (nat_le a v && nat_lt v b) ∙ sym no)
    (cases_Bool (is_within range v))
  where
    and_none : (b : Bool) → (b && false) ≡ false
    and_none true = refl
    and_none false = refl

length-rows_in : (width count : ℕ) (body : List ℕ) → length (rows_in width count body) ≡ count
length-rows_in width zero body = refl
length-rows_in width (suc count) body = ap suc (length-rows_in width count (drop (8 * width) body))

length-rows_read : (count width : ℕ) (body : List ℕ) → length (rows_read width count body) ≡ count
length-rows_read count width body =
    length-map (rows_in (suc width) count body) (row_of width) ∙ length-rows_in (suc width) count body

-- ---- mirrors
module _ (s : State) (r d : ℕ) (is : IsPart s.part) (within : d < s.part.at.machines) (other : d ≢ machine s) where
  abbrev list : List ℕ
  list = refresh_list s.part.ends d (machine s) s.part.scan

  pub mirrors_are : mirrors s d ≡ refresh_list s.part.ends d (machine s) s.part.scan
  mirrors_are =
      ap (λ ls. slice_index_or ls d []) is.refresh_of
      ∙ other_list s.part.at.machines (machine s) d (λ k. refresh_list s.part.ends k (machine s) s.part.scan) within
      (ne_eqb d (machine s) other)

  pub mirrors_shown : (range : ℕ × ℕ) (spans : List Span) (degrees : List Degree) (first : ℕ) →
      AreMirrors s.part d range spans degrees first → start_of s.part.ends d ≤ range.0 →
      range.1 ≤ slice_index s.part.ends d →
      ShowsMirrors (sight_at s r d) (map vertex_of spans) degrees (field_count s.split) first
      (held_body s (refresh_name r d (machine s)))
  mirrors_shown range spans degrees first are low high =
      let width : ℕ = field_count s.split in
      let body : List ℕ = held_body s (refresh_name r d (machine s)) in
      let size : length (map vertex_of spans) ≡ length spans = length-map spans vertex_of in
      record {
        row = λ i lt.
            let v : ℕ = slice_index (map vertex_of spans) i in
            let here = within_range range (targets_of s.part) (map vertex_of spans) i are.vertices lt in
            let lies = lies_is (start_of s.part.ends d) (slice_index s.part.ends d) v (omega (arith, here.0))
            (omega (arith, here.1)) in
            let place : first + i < length (refresh_list s.part.ends d (machine s) s.part.scan) =
            omega (arith, are.most, size) in
            let stand = are.stand i (omega (arith, size)) in
            let count : length (mirrors s d) ≡ length (refresh_list s.part.ends d (machine s) s.part.scan) =
            ap length mirrors_are in
            sym (ap (λ t. if not t && lies_in s.part.ends d v then mirror_row s r d v else own_row s v)
            (ne_eqb d (machine s) other)
            ∙ ap (λ t. if t then mirror_row s r d v else own_row s v) lies
            ∙ ap (λ us. beside empty_row v us (told_rows s r d)) mirrors_are
            ∙ ap (λ u. beside empty_row u list (told_rows s r d)) (sym stand)
            ∙ beside_up empty_row list (told_rows s r d) (first + i)
            (ends_rise target (vertices_of s.part.ends) _) place
            ∙ get_or-map told_row (rows_read width (length (mirrors s d)) body) (first + i)
            (record { fields = []; active = false }) empty_row
            (omega (arith, length-rows_read (length (mirrors s d)) width body))
            ∙ ap told_row (refresh_in_place (length (mirrors s d)) width (first + i) body
            (record { fields = []; active = false }) (omega arith)));
        ins = λ i lt. ap (λ x. x.ins) (are.known.at i lt);
        outs = λ i lt. ap (λ x. x.outs) (are.known.at i lt);
      }

  -- the mirrors within a range of the chunk are the targets within it
  pub mirrors_within : (targets : List Span) → AreSpans target (vertices_of s.part.ends) s.part.scan targets →
      (range : ℕ × ℕ) → start_of s.part.ends d ≤ range.0 → range.1 ≤ slice_index s.part.ends d →
      those_within range (mirrors s d) ≡ those_within range (targets_of s.part)
  mirrors_within targets are range low high =
      let p : ℕ → Bool = lies_in s.part.ends d in
      let told : filter (lies_in s.part.ends d) (targets_of s.part)
      ≡ refresh_list s.part.ends d (machine s) s.part.scan =
      ap (filter p) (sym are.vertices) ∙ filter-map p vertex_of targets
      ∙ targets_are_told s.part d targets is are in
      ap (those_within range) (mirrors_are ∙ sym told)
      ∙ filter_filter (is_within range) p (targets_of s.part)
      ∙ filter_agree (λ v. p v && is_within range v) (is_within range)
      (λ v. narrower (start_of s.part.ends d) (slice_index s.part.ends d) range v low high) (targets_of s.part)
