-- Each edge stands in the lists of one machine.
use Rattle.std.proofs.Common.{◌≡◌, ℕ, zero, suc, ◌+◌, ◌-◌, ◌<◌, ◌≤◌, Bool, true, false, not, ◌&&◌, List, [], ◌∷◌, ◌++◌, length, refl, ap, sym, subst, ◌∙◌, arith}
use Rattle.std.specs.Prelude.{nat_le, nat_lt, slice_index}
use Rattle.std.specs.List.{AllByRecursion, filter, flat_map, range_with_len}
use Rattle.std.specs.List.Sorted.{IsPermutation}
use Rattle.std.proofs.lemmas.Bool.Decides.{nat_tests}
use Rattle.std.proofs.lemmas.List.Elements.{filter_agree, recursion_from_All}
use Rattle.std.proofs.lemmas.List.Sorted.{IsPermutation-append, IsPermutation-filter_both, IsPermutation-refl, IsPermutation-trans}
use Rattle.vert_base.specs.declared.graph.Edge.{Edge}
use Rattle.vert_base.specs.Neighbours.{AreBelow, source, target}
use Rattle.chunk_split.specs.Chunks.{AreEnds, vertices_of}
use Rattle.circulant_plan.specs.Ring.{lies_in}
use Rattle.vert_base.specs.Ends.{start_of}
use Rattle.mirror_table.specs.Laws.{PushesHoldEach, ScansHoldEach}
use Rattle.symple_face.specs.PartsOf.{push_of, scan_of}
use Rattle.symple_face.proofs.ChunkLaws.{chunk_rises}
use Rattle.graph_table.proofs.FilterLaws.{all_filter, all_true, all_weaker, filter_all, filter_filter, filter_none}
use Rattle.mirror_table.proofs.MovedLaws.{two_moves}
use Rattle.mirror_table.proofs.RangeLaws.{flat_map_more}

-- lists that are moved each on its own
moved_each : {X : Type 0} (f g : ℕ → List X) → ((k : ℕ) → IsPermutation (f k) (g k)) → (ks : List ℕ) →
    IsPermutation (flat_map f ks) (flat_map g ks)
moved_each f g h [] = IsPermutation-refl []
moved_each f g h (k ∷ ks) = IsPermutation-append (f k) (g k) (flat_map f ks) (flat_map g ks) (h k) (moved_each f g h ks)

none_below : (k : ℕ) → nat_lt k 0 ≡ false
none_below k = grind (arith, nat_tests)

below_first : (a b k : ℕ) → a ≤ b → (nat_lt k b && nat_lt k a) ≡ nat_lt k a
below_first a b k le = grind (arith, nat_tests)

from_first : (a b k : ℕ) → (nat_lt k b && not (nat_lt k a)) ≡ (nat_le a k && nat_lt k b)
from_first a b k = grind (arith, nat_tests)

below_is : (n k : ℕ) → k < n → nat_lt k n ≡ true
below_is n k lt = grind (arith, nat_tests)

last_start : (ends : List ℕ) → 1 ≤ length ends → start_of ends (length ends) ≡ vertices_of ends
last_start [] some = absurd (omega arith)
last_start (x ∷ xs) some = let e : length xs ≡ suc (length xs) - 1 = omega arith in ap (slice_index (x ∷ xs)) e

module _ (ends : List ℕ) (are : AreEnds (length ends) ends) (edges : List Edge) (key : Edge → ℕ) where
  -- the edges of the first chunks are those with a key below the next one
  chunks_below : (k : ℕ) → k ≤ length ends →
      IsPermutation (filter (λ e. nat_lt (key e) (start_of ends k)) edges)
      (flat_map (λ m. filter (λ e. lies_in ends m (key e)) edges) (range_with_len 0 k))
  chunks_below zero le =
      subst (λ (es : List Edge). IsPermutation es [])
      (sym (filter_none (λ e. nat_lt (key e) 0) edges
      (all_true (λ e. nat_lt (key e) 0 ≡ false) (λ e. none_below (key e)) edges))) (IsPermutation-refl [])
  chunks_below (suc k) le =
      let f : ℕ → List Edge = λ m. filter (λ e. lies_in ends m (key e)) edges in
      let a : ℕ = start_of ends k in
      let b : ℕ = slice_index ends k in
      let rises : a ≤ b = chunk_rises (length ends) ends are k (omega arith) in
      let xs : List Edge = filter (λ e. nat_lt (key e) b) edges in
      let low : Edge → Bool = λ e. nat_lt (key e) a in
      let high : Edge → Bool = λ e. not (nat_lt (key e) a) in
      let first : filter low xs ≡ filter low edges = filter_filter low (λ e. nat_lt (key e) b) edges
      ∙ filter_agree (λ e. nat_lt (key e) b && low e) low (λ e. below_first a b (key e) rises) edges in
      let last : filter high xs ≡ f k = filter_filter high (λ e. nat_lt (key e) b) edges
      ∙ filter_agree (λ e. nat_lt (key e) b && high e) (λ e. lies_in ends k (key e)) (λ e. from_first a b (key e))
      edges in
      let parted : IsPermutation xs (filter low edges ++ f k) =
      subst (λ (es : List Edge). IsPermutation xs es) (ap (λ es. es ++ filter high xs) first
      ∙ ap (λ es. filter low edges ++ es) last) (IsPermutation-filter_both low high (λ e. refl) xs) in
      let joined : IsPermutation (filter low edges ++ f k) (flat_map f (range_with_len 0 k) ++ f k) =
      IsPermutation-append (filter low edges) (flat_map f (range_with_len 0 k)) (f k) (f k)
      (chunks_below k (omega arith)) (IsPermutation-refl (f k)) in
      let one : k + 1 ≡ suc k = omega arith in
      let all : flat_map f (range_with_len 0 k) ++ f k ≡ flat_map f (range_with_len 0 (suc k)) =
      sym (flat_map_more f k) ∙ ap (λ q. flat_map f (range_with_len 0 q)) one in
      subst (λ (es : List Edge). IsPermutation xs es) all
      (IsPermutation-trans xs (filter low edges ++ f k) (flat_map f (range_with_len 0 k) ++ f k) parted joined)

  -- and those of all chunks are all
  pub chunks_hold : AllByRecursion (λ e. key e < vertices_of ends) edges →
      IsPermutation edges (flat_map (λ m. filter (λ e. lies_in ends m (key e)) edges) (range_with_len 0 (length ends)))
  chunks_hold below =
      let all : filter (λ e. nat_lt (key e) (start_of ends (length ends))) edges ≡ edges =
      ap (λ n. filter (λ e. nat_lt (key e) n) edges) (last_start ends are.0)
      ∙ filter_all (λ e. nat_lt (key e) (vertices_of ends)) edges
      (all_weaker (λ e. key e < vertices_of ends) (λ e. nat_lt (key e) (vertices_of ends) ≡ true) (λ e lt.
      below_is (vertices_of ends) (key e) lt) edges below) in
      subst (λ (es : List Edge). IsPermutation es
      (flat_map (λ m. filter (λ e. lies_in ends m (key e)) edges) (range_with_len 0 (length ends)))) all
      (chunks_below (length ends) (omega arith))

sources : (n : ℕ) (edges : List Edge) → AreBelow n edges → AllByRecursion (λ e. source e < n) edges
sources n edges below = recursion_from_All (λ e. source e < n) edges (λ k d lt. (below k d lt).0)

targets : (n : ℕ) (edges : List Edge) → AreBelow n edges → AllByRecursion (λ e. target e < n) edges
targets n edges below = recursion_from_All (λ e. target e < n) edges (λ k d lt. (below k d lt).1)

pub scans_hold_each : ScansHoldEach
scans_hold_each most ends edges are below =
    let n : ℕ = vertices_of ends in
    let low = sources n edges below in
    let high = targets n edges below in
    let chunk : ℕ → List Edge = λ m. filter (λ e. lies_in ends m (source e)) edges in
    IsPermutation-trans edges (flat_map chunk (range_with_len 0 (length ends)))
    (flat_map (scan_of ends edges) (range_with_len 0 (length ends)))
    (chunks_hold ends (are.0, omega arith, are.2) edges source low)
    (moved_each chunk (scan_of ends edges) (λ m.
    two_moves target source n (chunk m)
    (all_filter (λ e. target e < n) (λ e. lies_in ends m (source e)) edges high)
    (all_filter (λ e. source e < n) (λ e. lies_in ends m (source e)) edges low)) (range_with_len 0 (length ends)))

pub pushes_hold_each : PushesHoldEach
pushes_hold_each most ends edges are below =
    let n : ℕ = vertices_of ends in
    let low = sources n edges below in
    let high = targets n edges below in
    let chunk : ℕ → List Edge = λ m. filter (λ e. lies_in ends m (target e)) edges in
    IsPermutation-trans edges (flat_map chunk (range_with_len 0 (length ends)))
    (flat_map (push_of ends edges) (range_with_len 0 (length ends)))
    (chunks_hold ends (are.0, omega arith, are.2) edges target high)
    (moved_each chunk (push_of ends edges) (λ m.
    two_moves source target n (chunk m)
    (all_filter (λ e. source e < n) (λ e. lies_in ends m (target e)) edges low)
    (all_filter (λ e. target e < n) (λ e. lies_in ends m (target e)) edges high)) (range_with_len 0 (length ends)))
