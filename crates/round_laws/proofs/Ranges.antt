-- Lists over the first so many numbers.
use Rattle.std.proofs.Common.{◌≡◌, ◌<◌, ℕ, zero, suc, List, [], ◌∷◌, ◌++◌, refl, sym, ap, ◌∙◌, arith, append-nil}
use Rattle.std.specs.List.{flat_map, range_with_len}
use Rattle.std.proofs.lemmas.List.Concat.{flat_map-append}
use Rattle.vert_base.specs.declared.graph.Edge.{Edge}
use Rattle.circulant_plan.specs.Ring.{members_by_steps, members_with, order_of}
use Rattle.graph_table.proofs.BucketLaws.{range_more}

-- what one more number brings comes behind
pub joined_more : {X : Type 0} (f : ℕ → List X) (n : ℕ) →
    flat_map f (range_with_len 0 (suc n)) ≡ flat_map f (range_with_len 0 n) ++ f n
joined_more f n =
    ap (flat_map f) (range_more n)
    ∙ flat_map-append f (range_with_len 0 n) (n ∷ [])
    ∙ ap (λ l. flat_map f (range_with_len 0 n) ++ l) (append-nil (f n))

-- lists that are the same below a number, joined up to it
pub same_below : {X : Type 0} (f g : ℕ → List X) (n : ℕ) → ((k : ℕ) → k < n → f k ≡ g k) →
    flat_map f (range_with_len 0 n) ≡ flat_map g (range_with_len 0 n)
same_below f g zero same = refl
same_below f g (suc n) same =
    joined_more f n
    ∙ ap (λ l. l ++ f n) (same_below f g n (λ k lt. same k (omega arith)))
    ∙ ap (λ l. flat_map g (range_with_len 0 n) ++ l) (same n (omega arith))
    ∙ sym (joined_more g n)

-- a step more reads the members that lie with its machine
pub steps_more : (ends : List ℕ) (p c count : ℕ) (members : List Edge) →
    members_by_steps ends p c 0 (suc count) members ≡
    members_by_steps ends p c 0 count members ++ members_with ends (order_of c count p) members
steps_more ends p c count members = joined_more (λ step. members_with ends (order_of c step p) members) count
