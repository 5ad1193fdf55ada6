-- Sums over the machines.
use Rattle.std.proofs.Common.{◌≡◌, ◌≢◌, ℕ, zero, suc, ◌+◌, ◌<◌, List, [], ◌∷◌, length, refl, ap, ◌∙◌, arith}
use Rattle.std.specs.Prelude.{slice_set}
use Rattle.std.specs.List.{range_with_len, sum_by}
use Rattle.std.proofs.lemmas.List.Sums.{sum_by-cons}
use Rattle.vert_base.specs.declared.value.Ruling.{Ruling}
use Rattle.circulant_plan.specs.Counts.{over_machines}
use Rattle.circulant_plan.specs.Standing.{Standing}
use Rattle.skeleton_laws.specs.Counted.{over_rounds}
use Rattle.skeleton_laws.proofs.Standings.{standing_of}

abbrev pub total : (ℕ → Standing → ℕ) → List Standing → ℕ
total f [] = 0
total f (s ∷ ss) = f 0 s + total (λ i. f (suc i)) ss

pub total_same : (f g : ℕ → Standing → ℕ) (ss : List Standing) →
    ((i : ℕ) → i < length ss → g i (standing_of ss i) ≡ f i (standing_of ss i)) → total g ss ≡ total f ss
total_same f g [] all = refl
total_same f g (s ∷ ss) all =
    let one = all 0 (omega arith) in
    let more = total_same (λ i. f (suc i)) (λ i. g (suc i)) ss (λ i lt. all (suc i) (omega arith)) in
    omega arith

pub total_set : (f g : ℕ → Standing → ℕ) (ss : List Standing) (m : ℕ) (n : Standing) → m < length ss →
    ((i : ℕ) → i < length ss → i ≢ m → g i (standing_of ss i) ≡ f i (standing_of ss i)) →
    total g (slice_set ss m n) + f m (standing_of ss m) ≡ total f ss + g m n
total_set f g [] m n lt all = absurd (omega arith)
total_set f g (s ∷ ss) zero n lt all =
    let more =
    total_same (λ i. f (suc i)) (λ i. g (suc i)) ss
    (λ i less. all (suc i) (omega arith) (λ e. omega arith)) in
    omega arith
total_set f g (s ∷ ss) (suc m) n lt all =
    let one = all 0 (omega arith) (λ e. omega arith) in
    let more =
    total_set (λ i. f (suc i)) (λ i. g (suc i)) ss m n (omega arith)
    (λ i less ne. all (suc i) (omega arith) (λ e. ne (omega arith))) in
    omega arith

pub total_range : (f : ℕ → Standing → ℕ) (g : ℕ → ℕ) (a : ℕ) (ss : List Standing) →
    ((i : ℕ) → i < length ss → f i (standing_of ss i) ≡ g (a + i)) →
    total f ss ≡ sum_by g (range_with_len a (length ss))
total_range f g a [] all = refl
total_range f g a (s ∷ ss) all =
    let one : f 0 s ≡ g (a + 0) = all 0 (omega arith) in
    let here : g (a + 0) ≡ g a = let e : a + 0 ≡ a = omega arith in ap g e in
    let more =
    total_range (λ i. f (suc i)) g (a + 1) ss
    (λ i lt. all (suc i) (omega arith) ∙ (let e : a + suc i ≡ a + 1 + i = omega arith in ap g e)) in
    let sum = sum_by-cons g a (range_with_len (a + 1) (length ss)) in
    omega arith

sum_add : (f g : ℕ → ℕ) (xs : List ℕ) → sum_by (λ m. f m + g m) xs ≡ sum_by f xs + sum_by g xs
sum_add f g [] = refl
sum_add f g (x ∷ xs) =
    let a = sum_by-cons (λ m. f m + g m) x xs in
    let b = sum_by-cons f x xs in
    let c = sum_by-cons g x xs in
    let more = sum_add f g xs in
    omega arith

pub sum_none : (xs : List ℕ) → sum_by (λ m. 0) xs ≡ 0
sum_none [] = refl
sum_none (x ∷ xs) = let a = sum_by-cons (λ m. 0) x xs in let more = sum_none xs in omega arith

sum_rounds : (h : ℕ → ℕ → Ruling → ℕ) (xs : List ℕ) (rounds : List (ℕ × Ruling)) →
    sum_by (λ m. over_rounds (h m) rounds) xs ≡ over_rounds (λ r a. sum_by (λ m. h m r a) xs) rounds
sum_rounds h xs [] = sum_none xs
sum_rounds h xs (made ∷ more) =
    let a = sum_add (λ m. h m made.0 made.1) (λ m. over_rounds (h m) more) xs in
    let rest = sum_rounds h xs more in
    omega arith

-- the sum over machines of what is before the first round and in the rounds
pub over_all : (p : ℕ) (f : ℕ → ℕ) (h : ℕ → ℕ → Ruling → ℕ) (rounds : List (ℕ × Ruling)) →
    over_machines p (λ m. f m + over_rounds (h m) rounds) ≡ over_machines p f + over_rounds
    (λ r a. over_machines p (λ m. h m r a)) rounds
over_all p f h rounds =
    let a = sum_add f (λ m. over_rounds (h m) rounds) (range_with_len 0 p) in
    let b = sum_rounds h (range_with_len 0 p) rounds in
    omega arith

pub sum_alike : (f g : ℕ → ℕ) (xs : List ℕ) → ((m : ℕ) → f m ≡ g m) → sum_by f xs ≡ sum_by g xs
sum_alike f g [] all = refl
sum_alike f g (x ∷ xs) all =
    let a = sum_by-cons f x xs in
    let b = sum_by-cons g x xs in
    let one = all x in
    let more = sum_alike f g xs all in
    omega arith
