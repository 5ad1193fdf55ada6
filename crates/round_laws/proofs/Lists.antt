-- Tests of lists, of filters and of orders.
use Rattle.std.proofs.Common.{◌≡◌, ℕ, zero, suc, ◌+◌, ◌<◌, ◌≤◌, Bool, true, false, cond, ◌&&◌, ◌||◌, List, [], ◌∷◌, length, refl, ap, sym, ◌∙◌, arith, ⊎_elim}
use Rattle.std.specs.Prelude.{◌==◌}
use Rattle.std.specs.List.{AllByRecursion, filter, flat_map, list_any, range_with_len}
use Rattle.std.proofs.lemmas.Bool.{cases_Bool, cases_lt, eqb-true, eq-eqb}
use Rattle.std.proofs.lemmas.List.Elements.{All-from_recursion}
use Rattle.std.proofs.lemmas.List.Folds.{list_any-append}
use Rattle.vert_base.specs.Neighbours.{in_order}
use Rattle.graph_table.proofs.StartLaws.{start_all}
use Rattle.round_laws.specs.Vertices.{are_some}

pub some-filter : {X : Type 0} (test : X → Bool) (xs : List X) → are_some (filter test xs) ≡ list_any test xs
some-filter test [] = refl
some-filter test (x ∷ xs) =
    elim (test x) as
    (λ b. are_some (cond b (x ∷ filter test xs) (filter test xs)) ≡
    (b || list_any test xs)) [ true ↦ refl | false ↦ some-filter test xs ]

pub any-filter :
    {X : Type 0} (test kept : X → Bool) (xs : List X) →
    list_any test (filter kept xs) ≡ list_any (λ x. kept x && test x) xs
any-filter test kept [] = refl
any-filter test kept (x ∷ xs) =
    elim (kept x) as (λ b. list_any test (cond b (x ∷ filter kept xs) (filter kept xs)) ≡
    ((b && test x) || list_any (λ x. kept x && test x) xs))
    [ true ↦ ap (λ b. test x || b) (any-filter test kept xs) | false ↦ any-filter test kept xs ]

pub any_same : {X : Type 0} (p q : X → Bool) (xs : List X) → ((x : X) → p x ≡ q x) → list_any p xs ≡ list_any q xs
any_same p q [] h = refl
any_same p q (x ∷ xs) h = ap (λ b. b || list_any p xs) (h x) ∙ ap (λ b. q x || b) (any_same p q xs h)

any_false : {X : Type 0} (q : X → Bool) (xs : List X) → list_any (λ x. false && q x) xs ≡ false
any_false q [] = refl
any_false q (x ∷ xs) = any_false q xs

pub any_and : {X : Type 0} (b : Bool) (q : X → Bool) (xs : List X) → list_any (λ x. b && q x) xs ≡ (b && list_any q xs)
any_and true q xs = refl
any_and false q xs = any_false q xs

pub any-flat_map :
    {X Y : Type 0} (test : Y → Bool) (f : X → List Y) (xs : List X) →
    list_any test (flat_map f xs) ≡ list_any (λ x. list_any test (f x)) xs
any-flat_map test f [] = refl
any-flat_map test f (x ∷ xs) = list_any-append test (f x) (flat_map f xs)
    ∙ ap (λ b. list_any test (f x) || b) (any-flat_map test f xs)

-- where one test passes, another one does
pub any_more :
    {X : Type 0} (p q : X → Bool) (xs : List X) → AllByRecursion (λ x. p x ≡ true → q x ≡ true) xs →
    list_any p xs ≡ true → list_any q xs ≡ true
any_more p q [] all h = h
any_more p q (x ∷ xs) all h =
    ⊎_elim
    (λ (yes : p x ≡ true). ap (λ b. b || list_any q xs) (all.0 yes))
    (λ (no : p x ≡ false).
    let rest = any_more p q xs all.1 (sym (ap (λ b. b || list_any p xs) no) ∙ h) in
    elim (q x) as (λ b. (b || list_any q xs) ≡ true) [ true ↦ refl | false ↦ rest ])
    (cases_Bool (p x))

next_up : (a v : ℕ) → a ≤ v → (a == v) ≡ false → a + 1 ≤ v
next_up a v low other =
    ⊎_elim
    (λ (lt : a < v). omega arith)
    (λ (ge : v ≤ a).
    let same : a ≡ v = omega arith in
    let clash : true ≡ false = sym (eq-eqb a v same) ∙ other in
    absurd cc)
    (cases_lt a v)

-- a number is among those of a range that holds it
pub any_range : (v a n : ℕ) → a ≤ v → v < a + n → list_any (λ u. u == v) (range_with_len a n) ≡ true
any_range v a zero low high = absurd (omega arith)
any_range v a (suc n) low high =
    ⊎_elim
    (λ (here : (a == v) ≡ true). ap (λ b. b || list_any (λ u. u == v) (range_with_len (a + 1) n)) here)
    (λ (other : (a == v) ≡ false).
    let more = any_range v (a + 1) n (next_up a v low other) (omega arith) in
    ap (λ b. b || list_any (λ u. u == v) (range_with_len (a + 1) n)) other ∙ more)
    (cases_Bool (a == v))

-- a number passes a test of which it is found among those that pass
pub any_kept :
    (test : ℕ → Bool) (v : ℕ) (xs : List ℕ) → test v ≡ true → list_any (λ u. u == v) xs ≡ true →
    list_any (λ u. u == v) (filter test xs) ≡ true
any_kept test v xs passes h =
    any-filter (λ u. u == v) test xs
    ∙ (any_same (λ u. test u && (u == v)) (λ u. u == v) xs (λ u.
    ⊎_elim
    (λ (here : (u == v) ≡ true). let at : test u ≡ true = ap test (eqb-true u v here) ∙ passes in rw at refl)
    (λ (other : (u == v) ≡ false). rw other
    (elim (test u) as (λ b. (b && false) ≡ false) [ true ↦ refl | false ↦ refl ]))
    (cases_Bool (u == v)))
    ∙ h)

-- an order of elements whose keys are all there has one where the list has one
some_by_length : {X Y : Type 0} (xs : List X) (ys : List Y) → length xs ≡ length ys → are_some xs ≡ are_some ys
some_by_length [] [] e = refl
some_by_length [] (y ∷ ys) e = absurd (omega arith)
some_by_length (x ∷ xs) [] e = absurd (omega arith)
some_by_length (x ∷ xs) (y ∷ ys) e = refl

pub some-in_order :
    {X : Type 0} (key : X → ℕ) (n : ℕ) (xs : List X) → AllByRecursion (λ x. key x < n) xs →
    are_some (in_order key n xs) ≡ are_some xs
some-in_order key n xs low =
    some_by_length (in_order key n xs) xs (start_all key n xs (All-from_recursion (λ x. key x < n) xs low))
