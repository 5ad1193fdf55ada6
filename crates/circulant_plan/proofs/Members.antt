-- What a list holds, by recursion on the list.
use Rattle.std.proofs.Common.{◌≡◌, ◌≢◌, ◌⊎◌, ℕ, zero, suc, ◌+◌, ◌-◌, ◌<◌, ◌≤◌, List, [], ◌∷◌, ◌++◌, map, refl, ap, inl, inr, arith, ⊎_elim}
use Rattle.std.specs.List.{Contains, flat_map, range_with_len}
use Rattle.std.proofs.lemmas.Bool.{cases_lt}
use Rattle.circulant_plan.specs.Table.{others_of}

abbrev pub Has : {X : Type 0} → List X → X → Type 0
Has [] x = ⊥
Has (y ∷ ys) x = (y ≡ x) ⊎ Has ys x

pub has_from_contains : {X : Type 0} (xs : List X) (x : X) → Contains xs x → Has xs x
has_from_contains [] x c = absurd (let lt = c.1 in omega arith)
has_from_contains (y ∷ ys) x (zero, lt, e) = inl e
has_from_contains (y ∷ ys) x (suc k, lt, e) = inr (has_from_contains ys x (k, omega arith, e))

pub contains_from_has : {X : Type 0} (xs : List X) (x : X) → Has xs x → Contains xs x
contains_from_has [] x h = absurd h
contains_from_has (y ∷ ys) x (inl e) = (0, omega arith, e)
contains_from_has (y ∷ ys) x (inr h) = let c = contains_from_has ys x h in let lt = c.1 in (suc c.0, omega arith, c.2)

pub has_append_cases : {X : Type 0} (xs ys : List X) (x : X) → Has (xs ++ ys) x → Has xs x ⊎ Has ys x
has_append_cases [] ys x h = inr h
has_append_cases (y ∷ xs) ys x (inl e) = inl (inl e)
has_append_cases (y ∷ xs) ys x (inr h) = ⊎_elim (λ a. inl (inr a)) (λ b. inr b) (has_append_cases xs ys x h)

pub has_left : {X : Type 0} (xs ys : List X) (x : X) → Has xs x → Has (xs ++ ys) x
has_left [] ys x h = absurd h
has_left (y ∷ xs) ys x (inl e) = inl e
has_left (y ∷ xs) ys x (inr h) = inr (has_left xs ys x h)

pub has_right : {X : Type 0} (xs ys : List X) (x : X) → Has ys x → Has (xs ++ ys) x
has_right [] ys x h = h
has_right (y ∷ xs) ys x h = inr (has_right xs ys x h)

pub has_map_cases : {X Y : Type 0} (f : X → Y) (xs : List X) (y : Y) → Has (map f xs) y → (x : X) × Has xs x × (f x ≡ y)
has_map_cases f [] y h = absurd h
has_map_cases f (x ∷ xs) y (inl e) = (x, inl refl, e)
has_map_cases f (x ∷ xs) y (inr h) = let more = has_map_cases f xs y h in (more.0, inr more.1, more.2)

pub has_map : {X Y : Type 0} (f : X → Y) (xs : List X) (x : X) → Has xs x → Has (map f xs) (f x)
has_map f [] x h = absurd h
has_map f (y ∷ xs) x (inl e) = inl (ap f e)
has_map f (y ∷ xs) x (inr h) = inr (has_map f xs x h)

pub has_flat_map_cases : {X Y : Type 0} (f : X → List Y) (xs : List X) (y : Y) → Has (flat_map f xs) y →
    (x : X) × Has xs x × Has (f x) y
has_flat_map_cases f [] y h = absurd h
has_flat_map_cases f (x ∷ xs) y h =
    ⊎_elim (λ a. (x, inl refl, a))
    (λ b. let more = has_flat_map_cases f xs y b in (more.0, inr more.1, more.2))
    (has_append_cases (f x) (flat_map f xs) y h)

pub has_flat_map : {X Y : Type 0} (f : X → List Y) (xs : List X) (x : X) (y : Y) → Has xs x → Has (f x) y →
    Has (flat_map f xs) y
has_flat_map f [] x y h g = absurd h
has_flat_map f (z ∷ xs) x y (inl e) g = has_left (f z) (flat_map f xs) y (rw e g)
has_flat_map f (z ∷ xs) x y (inr h) g = has_right (f z) (flat_map f xs) y (has_flat_map f xs x y h g)

pub has_range_cases : (a n j : ℕ) → Has (range_with_len a n) j → (a ≤ j) × (j < a + n)
has_range_cases a zero j h = absurd h
has_range_cases a (suc n) j (inl e) = (omega arith, omega arith)
has_range_cases a (suc n) j (inr h) =
    let more = has_range_cases (a + 1) n j h in
    let low = more.0 in
    let high = more.1 in
    (omega arith, omega arith)

pub has_range : (a n j : ℕ) → a ≤ j → j < a + n → Has (range_with_len a n) j
has_range a zero j low high = absurd (omega arith)
has_range a (suc n) j low high =
    ⊎_elim (λ (more : a < j). inr (has_range (a + 1) n j (omega arith) (omega arith)))
    (λ (not : j ≤ a). inl (omega arith)) (cases_lt a j)

pub has_others_cases : (p m k : ℕ) → m < p → Has (others_of p m) k → (k < p) × (k ≢ m)
has_others_cases p m k lt h =
    ⊎_elim
    (λ a. let r = has_range_cases 0 m k a in let high = r.1 in (omega arith, λ e. omega arith))
    (λ b.
    let r = has_range_cases (m + 1) (p - 1 - m) k b in
    let low = r.0 in
    let high = r.1 in
    (omega arith, λ e. omega arith))
    (has_append_cases (range_with_len 0 m) (range_with_len (m + 1) (p - 1 - m)) k h)

pub has_others : (p m k : ℕ) → m < p → k < p → k ≢ m → Has (others_of p m) k
has_others p m k a b differ =
    ⊎_elim
    (λ (low : k < m).
    has_left (range_with_len 0 m) (range_with_len (m + 1) (p - 1 - m)) k
    (has_range 0 m k (omega arith) (omega arith)))
    (λ (ge : m ≤ k).
    has_right (range_with_len 0 m) (range_with_len (m + 1) (p - 1 - m)) k
    (has_range (m + 1) (p - 1 - m) k (omega arith) (omega arith)))
    (cases_lt k m)
