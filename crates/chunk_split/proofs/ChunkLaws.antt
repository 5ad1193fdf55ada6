-- Which chunk holds a vertex.
use Rattle.std.proofs.Common.{◌≡◌, ℕ, zero, suc, ◌+◌, ◌-◌, ◌<◌, ◌≤◌, Bool, true, false, leb, List, [], ◌∷◌, length, get_or, refl, sym, subst, ◌∙◌, arith, ⊎_elim}
use Rattle.std.specs.Prelude.{nat_lt, slice_index}
use Rattle.std.specs.Bool.{MatchBool}
use Rattle.std.specs.List.Sorted.{IsNonDecreasing, IsPartitionPoint}
use Rattle.std.proofs.lemmas.Bool.{cases_lt, true≢false}
use Rattle.std.proofs.lemmas.Bool.Decides.{nat_tests}
use Rattle.vert_base.specs.Neighbours.{turn_of}
use Rattle.chunk_split.specs.Chunks.{AreEnds, Holds, vertices_of}
use Rattle.vert_base.specs.Ends.{start_of}

-- the ends up to one of them aren't above v, and those from it on are
pub record Parts (ends : List ℕ) (v m : ℕ) : Type 0 where
  pub before : (k : ℕ) → k < m → get_or ends k 0 ≤ v
  pub after : (k : ℕ) → m ≤ k → k < length ends → v < get_or ends k 0

below_is : (a v : ℕ) → leb a v ≡ true → a ≤ v
below_is a v e = grind (arith, nat_tests)

above_is : (a v : ℕ) → leb a v ≡ false → v < a
above_is a v e = grind (arith, nat_tests)

pub parts : (ends : List ℕ) (v m : ℕ) → IsPartitionPoint (λ y. leb y v ≡ true) (λ y. leb y v ≡ false) ends m →
    Parts ends v m
parts ends v m h = record {
  before = λ k lt. let low : 0 ≤ k = omega arith in below_is (get_or ends k 0) v (h.0 k 0 low lt);
  after = λ k le lt. above_is (get_or ends k 0) v (h.1 k 0 le lt);
}

starts_before : (ends : List ℕ) (v m : ℕ) → Parts ends v m → start_of ends m ≤ v
starts_before ends v zero h = omega arith
starts_before ends v (suc m) h = let lt : m < suc m = omega arith in h.before m lt

-- the chunk between them holds v
pub parts_hold : (ends : List ℕ) (v m : ℕ) → 1 ≤ length ends → m ≤ length ends → v < vertices_of ends →
    Parts ends v m → Holds ends v m
parts_hold ends v m some le within h =
    let here : m < length ends =
    ⊎_elim
    (λ (lt : m < length ends). lt)
    (λ (ge : length ends ≤ m).
    let last : length ends - 1 < m = omega arith in
    let low = h.before (length ends - 1) last in
    absurd (omega arith))
    (cases_lt m (length ends)) in
    let self : m ≤ m = omega arith in
    (here, starts_before ends v m h, h.after m self here)

not_later : (ends : List ℕ) (v m i : ℕ) → Parts ends v i → Holds ends v m → i < m → ⊥
not_later ends v zero i h holds lt = absurd (omega arith)
not_later ends v (suc m) i h holds lt =
    let le : i ≤ m = omega arith in
    let here = holds.0 in
    let within : m < length ends = omega arith in
    let high = h.after m le within in
    let low = holds.1 in
    omega arith

-- and no other does
pub parts_alone : (ends : List ℕ) (v m i : ℕ) → Parts ends v i → Holds ends v m → m ≡ i
parts_alone ends v m i h holds =
    ⊎_elim
    (λ (lt : m < i). let low = h.before m lt in let high = holds.2 in absurd (omega arith))
    (λ (ge : i ≤ m).
    ⊎_elim
    (λ (lt : i < m). absurd (not_later ends v m i h holds lt))
    (λ (le : m ≤ i). omega arith)
    (cases_lt i m))
    (cases_lt m i)

-- its end is where the list of v turns
pub parts_turn : (ends : List ℕ) (v m : ℕ) → m < length ends → Parts ends v m → turn_of ends v ≡ get_or ends m 0
parts_turn [] v m lt h = absurd (omega arith)
parts_turn (end ∷ ends) v zero lt h =
    let self : 0 ≤ 0 = omega arith in
    let here : v < end = h.after 0 self lt in
    let yes : nat_lt v end ≡ true = grind (arith, nat_tests) in
    rw yes refl
parts_turn (end ∷ ends) v (suc m) lt h =
    let some : 0 < suc m = omega arith in
    let here : end ≤ v = h.before 0 some in
    let no : nat_lt v end ≡ false = grind (arith, nat_tests) in
    let inner : m < length ends = omega arith in
    rw no (parts_turn ends v m inner (record {
      before = λ k low. let low' : suc k < suc m = omega arith in h.before (suc k) low';
      after = λ k le low. let le' : suc m ≤ suc k = omega arith in
          let low' : suc k < suc (length ends) = omega arith in h.after (suc k) le' low';
    }))

-- what a binary search for the first end above v finds
module _ (most : ℕ) (ends view list : List ℕ) (v m : ℕ) where
  pub search_parts : AreEnds most list → list ≡ view → ends ≡ list →
      (IsNonDecreasing ends → IsPartitionPoint (λ y. leb y v ≡ true) (λ y. leb y v ≡ false) ends m) →
      Parts view v m
  search_parts are same copied h =
      parts view v m (subst (λ (xs : List ℕ). IsPartitionPoint (λ y. leb y v ≡ true) (λ y. leb y v ≡ false) xs m)
      (copied ∙ same) (h (subst (λ (xs : List ℕ). IsNonDecreasing xs) (sym copied) are.2)))

-- ends of which one is below the one before it are none of chunks
pub fall_refutes : (most : ℕ) (ends : List ℕ) (sorted : Bool) → sorted ≡ false →
    MatchBool sorted (IsNonDecreasing ends) ((k : ℕ) × (k + 1 < length ends) ×
    ((d : ℕ) → get_or ends (k + 1) d < get_or ends k d)) → (false ≡ true → AreEnds most ends) ×
    (AreEnds most ends → false ≡ true)
fall_refutes most ends true e answer = absurd (true≢false e)
fall_refutes most ends false e answer = (
  λ f. absurd (true≢false (sym f)),
  λ are. let low = answer.2 0 in
      let le : answer.0 ≤ answer.0 + 1 = omega arith in
      let high = are.2 answer.0 (answer.0 + 1) 0 le answer.1 in absurd (omega arith),
)

-- and others are, where they are neither none nor too many
pub rise_stands : (most : ℕ) (ends : List ℕ) (sorted : Bool) → sorted ≡ true →
    MatchBool sorted (IsNonDecreasing ends) ((k : ℕ) × (k + 1 < length ends) ×
    ((d : ℕ) → get_or ends (k + 1) d < get_or ends k d)) → 1 ≤ length ends → length ends ≤ most → AreEnds most ends
rise_stands most ends true e answer some few = (some, few, answer)
rise_stands most ends false e answer some few = absurd (true≢false (sym e))

-- a chunk ends no earlier than it begins
pub start_rises : (ends : List ℕ) (m : ℕ) → IsNonDecreasing ends → m < length ends →
    start_of ends m ≤ slice_index ends m
start_rises ends zero rise lt = omega arith
start_rises ends (suc m) rise lt = let le : m ≤ suc m = omega arith in rise m (suc m) 0 le lt

before_start : (ends : List ℕ) (m k : ℕ) → IsNonDecreasing ends → m < length ends → k < m →
    get_or ends k 0 ≤ start_of ends m
before_start ends zero k rise lt low = absurd (omega arith)
before_start ends (suc m) k rise lt low =
    let le : k ≤ m = omega arith in
    let within : m < length ends = omega arith in
    rise k m 0 le within

-- around the chunk that holds v the ends part
pub holder_parts : (ends : List ℕ) (v m : ℕ) → IsNonDecreasing ends → Holds ends v m → Parts ends v m
holder_parts ends v m rise holds =
    let low = holds.1 in
    let high = holds.2 in
    record {
      before = λ k lt. omega (arith, before_start ends m k rise holds.0 lt);
      after = λ k le lt. omega (arith, rise m k 0 le lt);
    }

-- the list of v turns at the end of the chunk that holds v
pub holder_turn : (ends : List ℕ) (v m : ℕ) → IsNonDecreasing ends → Holds ends v m →
    turn_of ends v ≡ slice_index ends m
holder_turn ends v m rise holds = parts_turn ends v m holds.0 (holder_parts ends v m rise holds)
