-- Counts noted beside targets are the sources read.
use Rattle.std.proofs.Common.{◌≡◌, ◌<◌, ◌≤◌, ◌+◌, ◌-◌, ℕ, List, [], length, get_or, map, sym, ap, subst, ◌∙◌, ⊎_elim, arith}
use Rattle.std.specs.Prelude.{if◌then◌else◌, slice_index}
use Rattle.std.specs.List.{slice_range}
use Rattle.std.specs.List.Sorted.{IsStrictlyIncreasing}
use Rattle.std.proofs.lemmas.Bool.{cases_lt}
use Rattle.std.proofs.lemmas.List.{get_or-map, get_or_default, length-map, same_lists}
use Rattle.vert_base.specs.Neighbours.{target}
use Rattle.chunk_split.specs.Chunks.{vertices_of}
use Rattle.symple_face.specs.CoreDense.{read_after, reading_at, scan_half, scanned_at}
use Rattle.symple_face.specs.CoreSight.{beside, is_within, targets_of, those_within}
use Rattle.symple_face.specs.Parts.{PlainPart}
use Rattle.symple_face.specs.State.{State}
use Rattle.symple_face.proofs.ChunkLaws.{lies_is, lies_not_above, lies_not_below}
use Rattle.machine_parts.specs.declared.spans.Span.{Span}
use Rattle.machine_parts.specs.Flat.{zip_with}
use Rattle.machine_parts.specs.Spans.{AreSpans, vertex_of}
use Rattle.machine_parts.proofs.FlatLaws.{get_or-zip_with, length-zip_with}
use Rattle.machine_parts.proofs.SpanLaws.{no_span}
use Rattle.work_laws.specs.Sound.{members_in}
use Rattle.machine_steps.specs.Counts.{AreCounts, first_read, lists_read}
use Rattle.machine_steps.specs.Halves.{IsPlace}
use Rattle.machine_steps.proofs.PlaceLaws.{at_slice, length-slice, vertices_between}
use Rattle.machine_steps.proofs.SightLaws.{beside_up, ends_rise}

-- what is noted, place by place
pub record IsNoted (old new counts : List ℕ) (from : ℕ) : Type 0 where
  pub size : length new ≡ length old
  pub before : (k : ℕ) → k < from → slice_index new k ≡ slice_index old k
  pub within : (k : ℕ) → k < length counts → slice_index new (from + k) ≡ slice_index counts k
  pub behind : (k : ℕ) → from + length counts ≤ k → slice_index new k ≡ slice_index old k

-- how many targets a half has
module _ (part : PlainPart) (range : ℕ × ℕ) (spans : List Span) (a b : ℕ) where
  pub half_size : AreSpans target (vertices_of part.ends) part.scan spans → IsPlace range.0 spans a →
      IsPlace range.1 spans b → a ≤ b → length (those_within range (targets_of part)) ≡ b - a
  half_size are first last le =
      ap length
      (sym (vertices_between range.0 range.1 spans a b first last le ∙ ap (those_within range) are.vertices))
      ∙ length-map (slice_range spans a b) vertex_of
      ∙ length-slice spans a b last.within

module _ (part : PlainPart) (range : ℕ × ℕ) (spans : List Span) (a b : ℕ)
    (are : AreSpans target (vertices_of part.ends) part.scan spans) (first : IsPlace range.0 spans a)
    (last : IsPlace range.1 spans b) (le : a ≤ b) (old new counts : List ℕ) (noted : IsNoted old new counts a)
    (were : AreCounts part old) (each : length counts ≡ length (those_within range (targets_of part))) where
  abbrev us : List ℕ
  us = targets_of part

  us_count : length (targets_of part) ≡ length spans
  us_count = ap length (sym are.vertices) ∙ length-map spans vertex_of

  half_are : map vertex_of (slice_range spans a b) ≡ those_within range (targets_of part)
  half_are = vertices_between range.0 range.1 spans a b first last le ∙ ap (those_within range) are.vertices

  half_count : length counts ≡ b - a
  half_count = each ∙ half_size part range spans a b are first last le

  at_target : (k : ℕ) → k < length spans → slice_index (targets_of part) k ≡ vertex_of (get_or spans k no_span)
  at_target k lt =
      ap (λ vs. slice_index vs k) (sym are.vertices) ∙ get_or-map vertex_of spans k no_span 0 lt

  at_half : (i : ℕ) → i < b - a →
      slice_index (those_within range (targets_of part)) i ≡ slice_index (targets_of part) (a + i)
  at_half i lt =
      ap (λ vs. slice_index vs i) (sym half_are)
      ∙ at_slice spans a b i last.within lt
      ∙ sym (at_target (a + i) (omega (arith, last.within)))

  pub counts_stay : ((i : ℕ) → i < length counts → slice_index counts i ≤
      length (members_in part (slice_index (those_within range (targets_of part)) i))) → AreCounts part new
  counts_stay few = record {
    each = noted.size ∙ were.each;
    within = λ k lt. by_place (λ n. n ≤ length (members_in part (slice_index us k))) k
        (were.within k (omega (arith, noted.size)))
        (λ i lt' at. subst (λ j. slice_index counts i ≤ length (members_in part (slice_index us j))) at
        (subst (λ v. slice_index counts i ≤ length (members_in part v)) (at_half i (omega (arith, half_count)))
        (few i lt')));
  }
    where
      by_place : (P : ℕ → Type 0) (k : ℕ) → P (slice_index old k) →
          ((i : ℕ) → i < length counts → a + i ≡ k → P (slice_index counts i)) → P (slice_index new k)
      by_place P k kept fresh =
          ⊎_elim
          (λ (low : k < a). subst P (sym (noted.before k low)) kept)
          (λ (from : a ≤ k).
          ⊎_elim
          (λ (low : k < a + length counts).
          let at : a + (k - a) ≡ k = omega arith in
          subst P (sym (noted.within (k - a) (omega arith)) ∙ ap (slice_index new) at)
          (fresh (k - a) (omega arith) at))
          (λ (high : a + length counts ≤ k). subst P (sym (noted.behind k high)) kept)
          (cases_lt k (a + length counts)))
          (cases_lt k a)

  -- ---- by a state of this part
  module _ (s : State) (r step h : ℕ) (sp : s.part ≡ part) (half_is : scan_half s step h ≡ range)
      (held : s.reading ≡ lists_read part old)
      (reads : zip_with (first_read s.part) (those_within (scan_half s step h) (targets_of s.part)) counts ≡
      map (λ v. (scanned_at s r step h v).reads) (those_within (scan_half s step h) (targets_of s.part))) where
    abbrev g : ℕ → ℕ → List ℕ
    g = first_read part

    abbrev within : List ℕ
    within = those_within range us

    abbrev rd : ℕ → List ℕ
    rd v = (scanned_at s r step h v).reads

    reads_here : zip_with (first_read part) (those_within range (targets_of part)) counts ≡
        map (λ v. (scanned_at s r step h v).reads) (those_within range (targets_of part))
    reads_here =
        sym (λ i. zip_with (first_read (sp i)) (those_within (half_is i) (targets_of (sp i))) counts)
        ∙ reads
        ∙ (λ i. map rd (those_within (half_is i) (targets_of (sp i))))

    up : IsStrictlyIncreasing (targets_of part)
    up = ends_rise target (vertices_of part.ends) part.scan

    -- what was noted before
    old_at : (k : ℕ) → k < length (targets_of part) →
        reading_at s (slice_index (targets_of part) k)
        ≡ first_read part (slice_index (targets_of part) k) (slice_index old k)
    old_at k lt =
        (λ i. beside [] (slice_index us k) (targets_of (sp i)) (held i))
        ∙ beside_up [] us (lists_read part old) k up lt
        ∙ get_or-zip_with g us old k 0 0 [] (sym were.each) (omega (arith, were.each))

    -- and what is read in the half
    new_at : (i : ℕ) → i < length counts →
        first_read part (slice_index (targets_of part) (a + i)) (slice_index counts i)
        ≡ (scanned_at s r step h (slice_index (targets_of part) (a + i))).reads
    new_at i lt =
        let here = at_half i (omega (arith, half_count)) in
        ap (λ v. g v (slice_index counts i)) (sym here)
        ∙ sym (get_or-zip_with g within counts i 0 0 [] (sym each) lt)
        ∙ ap (λ xs. get_or xs i []) reads_here
        ∙ get_or-map rd within i 0 [] (omega (arith, each))
        ∙ ap rd here

    after_by : (k : ℕ) → k < length (targets_of part) →
        first_read part (slice_index (targets_of part) k) (slice_index new k)
        ≡ read_after s r step h (slice_index (targets_of part) k)
    after_by k lt =
        let v : ℕ = slice_index us k in
        let vertex = at_target k (omega (arith, us_count)) in
        let half : is_within (scan_half s step h) (slice_index (targets_of part) k)
        ≡ is_within range (slice_index (targets_of part) k) = ap (λ p. is_within p v) half_is in
        ⊎_elim
        (λ (low : k < a).
        ap (g v) (noted.before k low) ∙ sym (old_at k lt)
        ∙ sym (ap (λ t. if t then rd v else reading_at s v)
        (half ∙ lies_not_below range.0 range.1 v (omega (arith, vertex, first.below k low)))))
        (λ (from : a ≤ k).
        ⊎_elim
        (λ (low : k < b).
        let at : a + (k - a) ≡ k = omega arith in
        let inside : k - a < length counts = omega (arith, half_count) in
        ap (g v) (sym (ap (slice_index new) at) ∙ noted.within (k - a) inside)
        ∙ ap (λ j. g (slice_index us j) (slice_index counts (k - a))) (sym at)
        ∙ new_at (k - a) inside
        ∙ ap (λ j. rd (slice_index us j)) at
        ∙ sym (ap (λ t. if t then rd v else reading_at s v) (half ∙ lies_is range.0 range.1 v
        (omega (arith, vertex, first.others k from (omega (arith, us_count))))
        (omega (arith, vertex, last.below k low)))))
        (λ (high : b ≤ k).
        ap (g v) (noted.behind k (omega (arith, half_count))) ∙ sym (old_at k lt)
        ∙ sym (ap (λ t. if t then rd v else reading_at s v) (half ∙ lies_not_above range.0 range.1 v
        (omega (arith, vertex, last.others k high (omega (arith, us_count)))))))
        (cases_lt k b))
        (cases_lt k a)

    pub noted_is : lists_read part new ≡ map (read_after s r step h) (targets_of s.part)
    noted_is =
        let all : length (targets_of part) ≡ length new = sym (noted.size ∙ were.each) in
        let size = length-zip_with (first_read part) (targets_of part) new all in
        same_lists (lists_read part new) (map (read_after s r step h) us)
        (size ∙ sym all ∙ sym (length-map us (read_after s r step h)))
        (λ k d lt.
        let low : k < length (targets_of part) = omega (arith, size) in
        get_or_default (lists_read part new) k d [] lt
        ∙ get_or-zip_with g us new k 0 0 [] all (omega (arith, all))
        ∙ after_by k low
        ∙ sym (get_or-map (read_after s r step h) us k 0 d low))
        ∙ ap (λ p. map (read_after s r step h) (targets_of p)) (sym sp)
