-- Where the targets of a chunk and of a half of it stand.
use Rattle.std.proofs.Common.{◌≡◌, ◌≢◌, ◌<◌, ◌≤◌, ◌+◌, ◌-◌, ℕ, Bool, true, false, List, ◌++◌, length, get_or, take, drop, map, sym, ap, subst, ◌∙◌, ⊎_elim, arith}
use Rattle.std.specs.Prelude.{if◌then◌else◌, slice_index}
use Rattle.std.specs.List.{AllByRecursion, filter, slice_range}
use Rattle.std.proofs.lemmas.Bool.{cases_lt, ne_eqb}
use Rattle.std.proofs.lemmas.List.{append-nil, get_or-drop, get_or-map, get_or-take, length-drop, length-map, length-take, take-append-drop}
use Rattle.std.proofs.lemmas.List.Elements.{All-drop, All-from_get_or, All-take, filter-append, recursion_from_All}
use Rattle.graph_table.proofs.FilterLaws.{filter-map, filter_all, filter_none}
use Rattle.vert_base.specs.Ends.{start_of}
use Rattle.vert_base.specs.Neighbours.{target}
use Rattle.chunk_split.specs.Chunks.{vertices_of}
use Rattle.symple_face.specs.declared.degree.Degree.{Degree}
use Rattle.symple_face.specs.CoreSight.{degree_of, is_within, those_within}
use Rattle.symple_face.specs.Parts.{IsPart, PlainPart, chunk_vertices, refresh_list}
use Rattle.symple_face.proofs.ChunkLaws.{lies_is, lies_not_above, lies_not_below}
use Rattle.machine_parts.specs.declared.spans.Span.{Span}
use Rattle.machine_parts.specs.Neighbours.{no_degree}
use Rattle.machine_parts.specs.Spans.{AreSpans, IsSpan, vertex_of}
use Rattle.machine_parts.proofs.SpanLaws.{no_span}
use Rattle.machine_parts.proofs.TargetLaws.{targets_are_told}
use Rattle.machine_steps.specs.Halves.{AreMirrors, IsPlace}
use Rattle.vertex_work.specs.Known.{AreDegreesOf, known_in}

-- places stand as their vertices do
pub places_rise : (x y : ℕ) (spans : List Span) (a b : ℕ) → x ≤ y → IsPlace x spans a → IsPlace y spans b → a ≤ b
places_rise x y spans a b le first last =
    ⊎_elim
    (λ (lt : b < a).
    let low = first.below b lt in
    let high = last.others b (omega arith) (omega (arith, first.within)) in
    absurd (omega arith))
    (λ (ge : a ≤ b). ge)
    (cases_lt b a)

-- the vertices between two places are those from the first to the second of two
module _ (x y : ℕ) (spans : List Span) (a b : ℕ) (first : IsPlace x spans a) (last : IsPlace y spans b) (le : a ≤ b)
  where
    abbrev p : Span → Bool
    p s = is_within (x, y) (vertex_of s)

    abbrev rest : List Span
    rest = drop a spans

    before : AllByRecursion (λ s. is_within (x, y) (vertex_of s) ≡ false) (take a spans)
    before =
        recursion_from_All (λ s. is_within (x, y) (vertex_of s) ≡ false) (take a spans)
        (All-from_get_or (λ s. is_within (x, y) (vertex_of s) ≡ false) (take a spans) no_span
        (λ k lt.
        let low : k < a = omega (arith, length-take a spans) in
        ap p (get_or-take a spans k no_span low)
        ∙ lies_not_below x y (vertex_of (get_or spans k no_span)) (first.below k low)))

    between : AllByRecursion (λ s. is_within (x, y) (vertex_of s) ≡ true) (take (b - a) (drop a spans))
    between =
        recursion_from_All (λ s. is_within (x, y) (vertex_of s) ≡ true) (take (b - a) (drop a spans))
        (All-from_get_or (λ s. is_within (x, y) (vertex_of s) ≡ true) (take (b - a) (drop a spans)) no_span
        (λ k lt.
        let low : k < b - a = omega (arith, length-take (b - a) (drop a spans)) in
        ap p (get_or-take (b - a) (drop a spans) k no_span low ∙ get_or-drop a spans k no_span)
        ∙ lies_is x y (vertex_of (get_or spans (a + k) no_span))
        (first.others (a + k) (omega arith) (omega (arith, last.within))) (last.below (a + k) (omega arith))))

    behind : AllByRecursion (λ s. is_within (x, y) (vertex_of s) ≡ false) (drop (b - a) (drop a spans))
    behind =
        recursion_from_All (λ s. is_within (x, y) (vertex_of s) ≡ false) (drop (b - a) (drop a spans))
        (All-from_get_or (λ s. is_within (x, y) (vertex_of s) ≡ false) (drop (b - a) (drop a spans)) no_span
        (λ k lt.
        let size : length (drop (b - a) (drop a spans)) ≡ length spans - a - (b - a) =
        length-drop (b - a) (drop a spans) ∙ ap (λ n. n - (b - a)) (length-drop a spans) in
        ap p (get_or-drop (b - a) (drop a spans) k no_span ∙ get_or-drop a spans (b - a + k) no_span)
        ∙ lies_not_above x y (vertex_of (get_or spans (a + (b - a + k)) no_span))
        (last.others (a + (b - a + k)) (omega arith) (omega arith))))

    pub spans_between : filter (λ s. is_within (x, y) (vertex_of s)) spans ≡ slice_range spans a b
    spans_between =
        ap (filter p) (sym (take-append-drop a spans))
        ∙ filter-append p (take a spans) rest
        ∙ ap (λ ss. ss ++ filter p rest) (filter_none p (take a spans) before)
        ∙ ap (filter p) (sym (take-append-drop (b - a) rest))
        ∙ filter-append p (take (b - a) rest) (drop (b - a) rest)
        ∙ ap (λ ss. ss ++ filter p (drop (b - a) rest)) (filter_all p (take (b - a) rest) between)
        ∙ ap (λ ss. take (b - a) rest ++ ss) (filter_none p (drop (b - a) rest) behind)
        ∙ append-nil (take (b - a) rest)

    pub vertices_between : map vertex_of (slice_range spans a b) ≡ those_within (x, y) (map vertex_of spans)
    vertices_between = ap (map vertex_of) (sym spans_between) ∙ sym (filter-map (is_within (x, y)) vertex_of spans)

-- what stands between two places
pub at_slice : (spans : List Span) (a b i : ℕ) → b ≤ length spans → i < b - a →
    slice_index (map vertex_of (slice_range spans a b)) i ≡ vertex_of (get_or spans (a + i) no_span)
at_slice spans a b i within lt =
    get_or-map vertex_of (take (b - a) (drop a spans)) i no_span 0
    (omega (arith, length-take (b - a) (drop a spans), length-drop a spans))
    ∙ ap vertex_of (get_or-take (b - a) (drop a spans) i no_span lt ∙ get_or-drop a spans i no_span)

pub length-slice : (spans : List Span) (a b : ℕ) → b ≤ length spans → length (slice_range spans a b) ≡ b - a
length-slice spans a b within =
    omega (arith, length-take (b - a) (drop a spans), length-drop a spans)

-- the degrees known in another chunk are those of the vertices whose rows are told
pub known_list : (part : PlainPart) (chunk : ℕ) → chunk ≢ part.at.machine →
    known_in part chunk ≡ refresh_list part.ends chunk part.at.machine part.scan
known_list part chunk other =
    ap (λ t. if t then chunk_vertices part.ends chunk else refresh_list part.ends chunk part.at.machine part.scan)
    (ne_eqb chunk part.at.machine other)

module _ (part : PlainPart) (chunk : ℕ) (range : ℕ × ℕ) (spans : List Span) (c e a b : ℕ) (is : IsPart part)
    (are : AreSpans target (vertices_of part.ends) part.scan spans)
    (from : IsPlace (start_of part.ends chunk) spans c) (to : IsPlace (slice_index part.ends chunk) spans e)
    (first : IsPlace range.0 spans a) (last : IsPlace range.1 spans b) (low : start_of part.ends chunk ≤ range.0)
    (rises : range.0 ≤ range.1) (high : range.1 ≤ slice_index part.ends chunk) where
  pub starts_before : c ≤ a
  starts_before = places_rise (start_of part.ends chunk) range.0 spans c a low from first

  ends_behind : b ≤ e
  ends_behind = places_rise range.1 (slice_index part.ends chunk) spans b e high last to

  order : a ≤ b
  order = places_rise range.0 range.1 spans a b rises first last

  told : map vertex_of (slice_range spans c e) ≡ refresh_list part.ends chunk part.at.machine part.scan
  told =
      vertices_between (start_of part.ends chunk) (slice_index part.ends chunk) spans c e from to (omega
      (arith, starts_before, ends_behind, order))
      ∙ filter-map (is_within (start_of part.ends chunk, slice_index part.ends chunk)) vertex_of spans
      ∙ targets_are_told part chunk spans is are

  told_count : length (refresh_list part.ends chunk part.at.machine part.scan) ≡ e - c
  told_count =
      ap length (sym told) ∙ length-map (slice_range spans c e) vertex_of ∙ length-slice spans c e to.within

  pub enough : a - c + (b - a) ≤ length (refresh_list part.ends chunk part.at.machine part.scan)
  enough = omega (arith, told_count, starts_before, ends_behind, order)

  stands : (i : ℕ) → i < b - a → slice_index (refresh_list part.ends chunk part.at.machine part.scan) (a - c + i) ≡
      slice_index (map vertex_of (slice_range spans a b)) i
  stands i lt =
      let place : c + (a - c + i) ≡ a + i = omega (arith, starts_before) in
      ap (λ us. slice_index us (a - c + i)) (sym told)
      ∙ at_slice spans c e (a - c + i) to.within (omega (arith, starts_before, ends_behind))
      ∙ ap (λ k. vertex_of (get_or spans k no_span)) place
      ∙ sym (at_slice spans a b i last.within lt)

  pub mirrors_stand : (all rest degrees : List Degree) → (chunk ≢ part.at.machine) →
      AreDegreesOf part (known_in part chunk) all → rest ≡ drop (a - c) all → degrees ≡ take (b - a) rest →
      AreMirrors part chunk range (slice_range spans a b) degrees (a - c)
  mirrors_stand all rest degrees other known behind some =
      let size = length-slice spans a b last.within in
      let known_are : AreDegreesOf part (refresh_list part.ends chunk part.at.machine part.scan) all =
      subst (λ vs. AreDegreesOf part vs all) (known_list part chunk other) known in
      let here : degrees ≡ take (b - a) (drop (a - c) all) = some ∙ ap (take (b - a)) behind in
      record {
        vertices =
            vertices_between range.0 range.1 spans a b first last order ∙ ap (those_within range) are.vertices;
        each = All-take (IsSpan target part.scan) (b - a) (drop a spans) (All-drop (IsSpan target part.scan) a spans
            are.each);
        known = record {
          each = ap length here ∙ omega (
            arith,
            length-take (b - a) (drop (a - c) all),
            length-drop (a - c) all,
            known_are.each,
            enough,
            length-map (slice_range spans a b) vertex_of,
            size,
          );
          at = λ i lt.
              let low : i < b - a = omega (arith, length-map (slice_range spans a b) vertex_of, size) in
              ap (λ ds. get_or ds i no_degree) here
              ∙ get_or-take (b - a) (drop (a - c) all) i no_degree low
              ∙ get_or-drop (a - c) all i no_degree
              ∙ known_are.at (a - c + i) (omega (arith, enough))
              ∙ ap (degree_of part) (stands i low);
        };
        most = omega (arith, size, enough);
        stand = λ i lt. stands i (omega (arith, size));
      }
