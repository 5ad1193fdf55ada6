-- The vertices that a machine knows ascend.
use Rattle.std.proofs.Common.{◌≡◌, ℕ, zero, suc, ◌+◌, ◌-◌, ◌<◌, ◌≤◌, Bool, true, false, cond, List, [], ◌∷◌, ◌++◌, length, get_or, ap, sym, subst, ◌∙◌, arith}
use Rattle.std.specs.Prelude.{◌==◌, ◌&&◌, if◌then◌else◌, slice_index}
use Rattle.std.specs.List.{AllByRecursion, filter, flat_map, list_any, range_with_len}
use Rattle.std.specs.List.Sorted.{IsStrictlyIncreasing}
use Rattle.vert_base.specs.declared.graph.Edge.{Edge}
use Rattle.vert_base.specs.Neighbours.{source, target}
use Rattle.chunk_split.specs.Chunks.{AreEnds, vertices_of}
use Rattle.circulant_plan.specs.Ring.{lies_in}
use Rattle.vert_base.specs.Ends.{start_of}
use Rattle.vert_base.proofs.Chains.{and_second}
use Rattle.symple_face.specs.Parts.{chunk_vertices, degree_in, edges_between, refresh_list}
use Rattle.mirror_table.specs.Laws.{DegreesAscend}
use Rattle.symple_face.specs.PartsOf.{known_of}
use Rattle.symple_face.proofs.ChunkLaws.{chunk_rises, lies_high, lies_low}
use Rattle.graph_table.proofs.FilterLaws.{all_filter, all_passes, all_range, all_weaker, map-map, map_itself}
use Rattle.vert_base.proofs.Orders.{all_append}
use Rattle.mirror_table.proofs.MovedLaws.{passes_from_any}
use Rattle.mirror_table.proofs.RangeLaws.{flat_map_more}
use Rattle.mirror_table.proofs.MetLaws.{Ascends}

-- ascending numbers from lo up to hi
record Between (lo hi : ℕ) (xs : List ℕ) : Type 0 where
  up : Ascends xs
  all : AllByRecursion (λ x. (lo ≤ x) × (x < hi)) xs

range_ascends : (a n : ℕ) → Ascends (range_with_len a n)
range_ascends a zero = tt
range_ascends a (suc n) = (all_range (λ y. a < y) (a + 1) n (λ v low high. omega arith), range_ascends (a + 1) n)

filter_ascends : (p : ℕ → Bool) (xs : List ℕ) → Ascends xs → Ascends (filter p xs)
filter_ascends p [] up = tt
filter_ascends p (x ∷ xs) up =
    elim (p x) as (λ b. Ascends (cond b (x ∷ filter p xs) (filter p xs)))
    [ true ↦ (all_filter (λ y. x < y) p xs up.0, filter_ascends p xs up.1) | false ↦ filter_ascends p xs up.1 ]

append_ascends : (mid : ℕ) (xs ys : List ℕ) → Ascends xs → AllByRecursion (λ x. x < mid) xs → Ascends ys →
    AllByRecursion (λ y. mid ≤ y) ys → Ascends (xs ++ ys)
append_ascends mid [] ys up low up' high = up'
append_ascends mid (x ∷ xs) ys up low up' high =
    let first = low.0 in (
      all_append (λ y. x < y) xs ys up.0 (all_weaker (λ y. mid ≤ y) (λ y. x < y) (λ y le. omega arith) ys high),
      append_ascends mid xs ys up.1 low.1 up' high,
    )

module _ (lo mid hi : ℕ) (xs ys : List ℕ) where
  between_append : lo ≤ mid → mid ≤ hi → Between lo mid xs → Between mid hi ys → Between lo hi (xs ++ ys)
  between_append le le' b c = record {
    up = append_ascends mid xs ys b.up (all_weaker (λ x. (lo ≤ x) × (x < mid)) (λ x. x < mid) (λ x h. h.1) xs b.all)
        c.up (all_weaker (λ x. (mid ≤ x) × (x < hi)) (λ x. mid ≤ x) (λ x h. h.0) ys c.all);
    all = all_append (λ x. (lo ≤ x) × (x < hi)) xs ys
        (all_weaker (λ x. (lo ≤ x) × (x < mid)) (λ x. (lo ≤ x) × (x < hi)) (λ x h.
        let top = h.1 in (h.0, omega arith)) xs b.all)
        (all_weaker (λ x. (mid ≤ x) × (x < hi)) (λ x. (lo ≤ x) × (x < hi)) (λ x h.
        let low = h.0 in (omega arith, h.1)) ys c.all);
  }

next_above : (x y : ℕ) (ys : List ℕ) → x < y → IsStrictlyIncreasing (y ∷ ys) → (k : ℕ) → k + 1 < length (x ∷ y ∷ ys) →
    get_or (x ∷ y ∷ ys) k 0 < get_or (x ∷ y ∷ ys) (k + 1) 0
next_above x y ys first more zero lt = first
next_above x y ys first more (suc k) lt =
    let e : suc k + 1 ≡ suc (k + 1) = omega arith in
    subst (λ (q : ℕ). get_or (x ∷ y ∷ ys) (suc k) 0 < get_or (x ∷ y ∷ ys) q 0) (sym e) (more k (omega arith))

increasing : (xs : List ℕ) → Ascends xs → IsStrictlyIncreasing xs
increasing [] up = λ k lt. absurd (omega arith)
increasing (x ∷ []) up = λ k lt. absurd (omega arith)
increasing (x ∷ y ∷ ys) up = next_above x y ys up.0.0 (increasing (y ∷ ys) up.1)

module _ (most : ℕ) (ends : List ℕ) (edges : List Edge) (are : AreEnds most ends) (m : ℕ) where
  own_between : (k : ℕ) → k < length ends → Between (start_of ends k) (slice_index ends k) (chunk_vertices ends k)
  own_between k lt =
      let rises = chunk_rises most ends are k lt in
      record {
        up = range_ascends (start_of ends k) (slice_index ends k - start_of ends k);
        all = all_range (λ x. (start_of ends k ≤ x) × (x < slice_index ends k)) (start_of ends k)
            (slice_index ends k - start_of ends k) (λ v low high. (low, omega arith));
      }

  list_between : (k : ℕ) → Between (start_of ends k) (slice_index ends k) (refresh_list ends k m edges)
  list_between k =
      let between : List Edge = edges_between ends m k edges in
      let there : AllByRecursion (λ e. lies_in ends k (target e) ≡ true) between =
      all_weaker (λ e. (lies_in ends m (source e) && lies_in ends k (target e)) ≡ true) (λ e.
      lies_in ends k (target e) ≡ true)
      (λ e h. and_second (lies_in ends m (source e)) (lies_in ends k (target e)) h) between
      (all_passes (λ e. lies_in ends m (source e) && lies_in ends k (target e)) edges) in
      record {
        up = filter_ascends (λ v. list_any (λ e. target e == v) between) (range_with_len 0 (vertices_of ends))
            (range_ascends 0 (vertices_of ends));
        all = all_weaker (λ v. list_any (λ e. target e == v) between ≡ true) (λ v. (start_of ends k ≤ v) ×
            (v < slice_index ends k))
            (λ v met.
            let at : lies_in ends k v ≡ true = passes_from_any target (lies_in ends k) v between there met in
            (lies_low ends k v at, lies_high ends k v at))
            (refresh_list ends k m edges) (all_passes (λ v. list_any (λ e. target e == v) between)
            (range_with_len 0 (vertices_of ends)));
      }

  known_between : (k : ℕ) → k ≤ length ends →
      Between 0 (start_of ends k) (flat_map (λ k. if k == m then chunk_vertices ends k
      else refresh_list ends k m edges) (range_with_len 0 k))
  known_between zero le = record { up = tt; all = tt }
  known_between (suc k) le =
      let g : ℕ → List ℕ = λ k. if k == m then chunk_vertices ends k else refresh_list ends k m edges in
      let here : Between (start_of ends k) (slice_index ends k) (g k) =
      elim (k == m) as (λ b. Between (start_of ends k) (slice_index ends k)
      (cond b (chunk_vertices ends k) (refresh_list ends k m edges)))
      [ true ↦ own_between k (omega arith) | false ↦ list_between k ] in
      let one : k + 1 ≡ suc k = omega arith in
      let all : flat_map g (range_with_len 0 k) ++ g k ≡ flat_map g (range_with_len 0 (suc k)) =
      sym (flat_map_more g k) ∙ ap (λ q. flat_map g (range_with_len 0 q)) one in
      subst (λ (xs : List ℕ). Between 0 (slice_index ends k) xs) all
      (between_append 0 (start_of ends k) (slice_index ends k) (flat_map g (range_with_len 0 k)) (g k) (omega arith)
      (chunk_rises most ends are k (omega arith)) (known_between k (omega arith)) here)

pub degrees_ascend : DegreesAscend
degrees_ascend most ends draws edges m are =
    subst (λ (xs : List ℕ). IsStrictlyIncreasing xs)
    (sym (map-map (λ d. d.id.0) (degree_in edges edges) (known_of ends edges m) ∙ map_itself (known_of ends edges m)))
    (increasing (known_of ends edges m) (known_between most ends edges are m (length ends) (omega arith)).up)
