-- Spans of keys in lists whose keys don't fall, and the chunks of a ring put one after another.
use Rattle.vert_base.proofs.Orders.{Rises}
use Rattle.std.proofs.Common.{◌≡◌, ℕ, zero, suc, ◌+◌, ◌-◌, ◌<◌, ◌≤◌, ◌*◌, ◌%◌, Bool, true, false, cond, ◌&&◌, leb, ltb, List, [], ◌∷◌, ◌++◌, refl, ap, sym, ◌∙◌, arith, ⊎_elim}
use Rattle.std.specs.List.{filter, flat_map, range_with_len, AllByRecursion}
use Rattle.std.proofs.lemmas.Bool.{cases_lt}
use Rattle.std.proofs.lemmas.Bool.Decides.{nat_tests}
use Rattle.std.proofs.lemmas.Nat.{mod-mul-add}
use Rattle.std.proofs.lemmas.List.Concat.{flat_map-append}
use Rattle.circulant_plan.specs.Ring.{order_of}
use Rattle.circulant_plan.proofs.CircleLaws.{order_low}

-- the elements whose key is from lo up to hi, without hi
abbrev pub span : {X : Type 0} → (X → ℕ) → ℕ → ℕ → List X → List X
span key lo hi xs = filter (λ x. leb lo (key x) && ltb (key x) hi) xs

-- the elements by machine, in the order in which machines work on chunk d; machine m has the keys from `from m`
-- to `from (m + 1)`
abbrev pub by_machines : {X : Type 0} → (X → ℕ) → (ℕ → ℕ) → ℕ → ℕ → List X → List X
by_machines key from d p xs =
    flat_map (λ s. span key (from (order_of d s p)) (from (order_of d s p + 1)) xs) (range_with_len 0 p)

abbrev within : ℕ → ℕ → ℕ → Bool
within lo hi k = leb lo k && ltb k hi

within_is : (lo hi k : ℕ) → lo ≤ k → k < hi → within lo hi k ≡ true
within_is lo hi k h i = grind (arith, nat_tests)

within_below : (lo hi k : ℕ) → k < lo → within lo hi k ≡ false
within_below lo hi k h = grind (arith, nat_tests)

within_above : (lo hi k : ℕ) → hi ≤ k → within lo hi k ≡ false
within_above lo hi k h = grind (arith, nat_tests)

-- past hi there is nothing
span_past : {X : Type 0} (key : X → ℕ) (lo hi : ℕ) (k : ℕ) (xs : List X) → hi ≤ k →
    AllByRecursion (λ y. k ≤ key y) xs → span key lo hi xs ≡ []
span_past key lo hi k [] h all = refl
span_past key lo hi k (x ∷ xs) h all =
    let first = all.0 in
    let out : within lo hi (key x) ≡ false = within_above lo hi (key x) (omega arith) in
    rw out (span_past key lo hi k xs h all.1)

span-cons_in : {X : Type 0} (key : X → ℕ) (lo hi : ℕ) (x : X) (xs : List X) → lo ≤ key x → key x < hi →
    span key lo hi (x ∷ xs) ≡ x ∷ span key lo hi xs
span-cons_in key lo hi x xs h i = let at : within lo hi (key x) ≡ true = within_is lo hi (key x) h i in rw at refl

span-cons_below : {X : Type 0} (key : X → ℕ) (lo hi : ℕ) (x : X) (xs : List X) → key x < lo →
    span key lo hi (x ∷ xs) ≡ span key lo hi xs
span-cons_below key lo hi x xs h = let at : within lo hi (key x) ≡ false = within_below lo hi (key x) h in rw at refl

span-cons_above : {X : Type 0} (key : X → ℕ) (lo hi : ℕ) (x : X) (xs : List X) → hi ≤ key x →
    span key lo hi (x ∷ xs) ≡ span key lo hi xs
span-cons_above key lo hi x xs h = let at : within lo hi (key x) ≡ false = within_above lo hi (key x) h in rw at refl

-- two spans side by side are one
pub span_join : {X : Type 0} (key : X → ℕ) (lo mid hi : ℕ) (xs : List X) → lo ≤ mid → mid ≤ hi →
    Rises key xs → span key lo mid xs ++ span key mid hi xs ≡ span key lo hi xs
span_join key lo mid hi [] a b up = refl
span_join key lo mid hi (x ∷ xs) a b up =
    let more = span_join key lo mid hi xs a b up.1 in
    ⊎_elim
    (λ (low : key x < lo).
    let low' : key x < mid = omega arith in
    ap (λ ys. ys ++ span key mid hi (x ∷ xs)) (span-cons_below key lo mid x xs low)
    ∙ (ap (λ ys. span key lo mid xs ++ ys) (span-cons_below key mid hi x xs low')
    ∙ (more ∙ sym (span-cons_below key lo hi x xs low))))
    (λ (in' : lo ≤ key x).
    ⊎_elim
    (λ (left : key x < mid).
    let left' : key x < hi = omega arith in
    ap (λ ys. ys ++ span key mid hi (x ∷ xs)) (span-cons_in key lo mid x xs in' left)
    ∙ (ap (λ ys. x ∷ (span key lo mid xs ++ ys)) (span-cons_below key mid hi x xs left)
    ∙ (ap (λ ys. x ∷ ys) more ∙ sym (span-cons_in key lo hi x xs in' left'))))
    (λ (right : mid ≤ key x).
    let none : span key lo mid xs ≡ [] = span_past key lo mid (key x) xs right up.0 in
    let first : span key lo mid (x ∷ xs) ≡ [] = span-cons_above key lo mid x xs right ∙ none in
    let rest : span key mid hi xs ≡ span key lo hi xs = sym (ap (λ ys. ys ++ span key mid hi xs) none) ∙ more in
    ap (λ ys. ys ++ span key mid hi (x ∷ xs)) first
    ∙ ⊎_elim
    (λ (inside : key x < hi). span-cons_in key mid hi x xs right inside
    ∙ (ap (λ ys. x ∷ ys) rest ∙ sym (span-cons_in key lo hi x xs in' inside)))
    (λ (out : hi ≤ key x). span-cons_above key mid hi x xs out ∙ (rest ∙ sym (span-cons_above key lo hi x xs out)))
    (cases_lt (key x) hi))
    (cases_lt (key x) mid))
    (cases_lt (key x) lo)

span_nothing : {X : Type 0} (key : X → ℕ) (lo hi : ℕ) (xs : List X) → hi ≤ lo → span key lo hi xs ≡ []
span_nothing key lo hi [] h = refl
span_nothing key lo hi (x ∷ xs) h =
    ⊎_elim
    (λ (below : key x < lo). span-cons_below key lo hi x xs below ∙ span_nothing key lo hi xs h)
    (λ (above : lo ≤ key x).
    let out : hi ≤ key x = omega arith in
    span-cons_above key lo hi x xs out ∙ span_nothing key lo hi xs h)
    (cases_lt (key x) lo)

pub rises_far : (from : ℕ → ℕ) → ((m : ℕ) → from m ≤ from (m + 1)) → (k a b : ℕ) → a + k ≡ b → from a ≤ from b
rises_far from up zero a b e = let same : a ≡ b = omega arith in rw same (omega arith)
rises_far from up (suc k) a b e =
    let e' : a + 1 + k ≡ b = omega arith in
    omega (arith, up a, rises_far from up k (a + 1) b e')

-- chunks side by side are one span
module _ {X : Type 0} (key : X → ℕ) (from : ℕ → ℕ) (xs : List X) where
  pub spans_cover : ((m : ℕ) → from m ≤ from (m + 1)) → Rises key xs → (k a b : ℕ) → a + k ≡ b →
      flat_map (λ m. span key (from m) (from (m + 1)) xs) (range_with_len a k) ≡ span key (from a) (from b) xs
  spans_cover up h zero a b e =
      let same : a ≡ b = omega arith in
      let le : from b ≤ from a = rw same (omega arith) in
      sym (span_nothing key (from a) (from b) xs le)
  spans_cover up h (suc k) a b e =
      let e' : a + 1 + k ≡ b = omega arith in
      ap (λ ys. span key (from a) (from (a + 1)) xs ++ ys) (spans_cover up h k (a + 1) b e')
      ∙ span_join key (from a) (from (a + 1)) (from b) xs (up a) (rises_far from up k (a + 1) b e') h

pub range_split : (a b c d : ℕ) → c + a ≡ d → range_with_len c (a + b) ≡ range_with_len c a ++ range_with_len d b
range_split zero b c d e =
    let same : c ≡ d = omega arith in
    let none : 0 + b ≡ b = omega arith in
    rw (none, same) refl
range_split (suc a) b c d e =
    let e' : c + 1 + a ≡ d = omega arith in
    let one : suc a + b ≡ suc (a + b) = omega arith in
    rw one (ap (λ ys. c ∷ ys) (range_split a b (c + 1) d e'))

pub flat_map_shift : {X : Type 0} (f g : ℕ → List X) (k c e : ℕ) →
    ((i : ℕ) → i < k → f (c + i) ≡ g (e + i)) →
    flat_map f (range_with_len c k) ≡ flat_map g (range_with_len e k)
flat_map_shift f g zero c e h = refl
flat_map_shift f g (suc k) c e h =
    let first : f c ≡ g e = let c' : c + 0 ≡ c = omega arith in
    let e' : e + 0 ≡ e = omega arith in
    sym (ap f c') ∙ (h 0 (omega arith) ∙ ap g e') in
    let rest : flat_map f (range_with_len (c + 1) k) ≡ flat_map g (range_with_len (e + 1) k) =
    flat_map_shift f g k (c + 1) (e + 1) (λ i lt.
    let lt' : i + 1 < suc k = omega arith in
    let c' : c + 1 + i ≡ c + (i + 1) = omega arith in
    let e' : e + 1 + i ≡ e + (i + 1) = omega arith in
    ap f c' ∙ (h (i + 1) lt' ∙ sym (ap g e'))) in
    ap (λ ys. ys ++ flat_map f (range_with_len (c + 1) k)) first ∙ ap (λ ys. g e ++ ys) rest

order_late : (d s p i : ℕ) → d + 1 + s ≡ p + i → i < p → order_of d s p ≡ i
order_late d s p i e h =
    let e' : d + 1 + s ≡ 1 * p + i = omega arith in
    ap (λ q. q % p) e' ∙ mod-mul-add 1 p i h

-- the chunks above d, then those up to d
pub by_machines_is : {X : Type 0} (key : X → ℕ) (from : ℕ → ℕ) (d p : ℕ) (xs : List X) →
    ((m : ℕ) → from m ≤ from (m + 1)) → d < p → Rises key xs →
    by_machines key from d p xs ≡ span key (from (d + 1)) (from p) xs ++ span key (from 0) (from (d + 1)) xs
by_machines_is key from d p xs up lt h =
    let a = p - 1 - d in
    let parts : a + (d + 1) ≡ p = omega arith in
    let whole : range_with_len 0 p ≡ range_with_len 0 a ++ range_with_len a (d + 1) =
    sym (ap (range_with_len 0) parts) ∙ range_split a (d + 1) 0 a (omega arith) in
    let f : ℕ → List _ = λ s. span key (from (order_of d s p)) (from (order_of d s p + 1)) xs in
    let g : ℕ → List _ = λ m. span key (from m) (from (m + 1)) xs in
    let later : flat_map f (range_with_len 0 a) ≡ flat_map g (range_with_len (d + 1) a) =
    flat_map_shift f g a 0 (d + 1)
    (λ i l. let small : d + 1 + (0 + i) < p = omega arith in let at : order_of d (0 + i) p ≡ d + 1 + i =
    order_low d (0 + i) p small ∙ omega arith in ap g at) in
    let earlier : flat_map f (range_with_len a (d + 1)) ≡ flat_map g (range_with_len 0 (d + 1)) =
    flat_map_shift f g (d + 1) a 0
    (λ i l. let round : d + 1 + (a + i) ≡ p + (0 + i) = omega arith in let small : 0 + i < p = omega arith
    in ap g (order_late d (a + i) p (0 + i) round small)) in
    ap (flat_map f) whole
    ∙ (flat_map-append f (range_with_len 0 a) (range_with_len a (d + 1))
    ∙
    (ap (λ ys. ys ++ flat_map f (range_with_len a (d + 1)))
    (later ∙ spans_cover key from xs up h a (d + 1) p (omega arith))
    ∙ ap (λ ys. span key (from (d + 1)) (from p) xs ++ ys)
    (earlier ∙ spans_cover key from xs up h (d + 1) 0 (d + 1) (omega arith))))

and_true : (b : Bool) → (b && true) ≡ b
and_true true = refl
and_true false = refl

pub is_below : (a b : ℕ) → a < b → ltb a b ≡ true
is_below a b h = grind (arith, nat_tests)

-- up to the end of all keys
pub span_to_end : {X : Type 0} (key : X → ℕ) (t n : ℕ) (xs : List X) → AllByRecursion (λ x. key x < n) xs →
    span key t n xs ≡ filter (λ x. leb t (key x)) xs
span_to_end key t n [] all = refl
span_to_end key t n (x ∷ xs) all =
    let low : ltb (key x) n ≡ true = is_below (key x) n all.0 in
    rw (low, and_true) (ap (λ ys. cond (leb t (key x)) (x ∷ ys) ys) (span_to_end key t n xs all.1))

pub span_from_start : {X : Type 0} (key : X → ℕ) (t : ℕ) (xs : List X) →
    span key 0 t xs ≡ filter (λ x. ltb (key x) t) xs
span_from_start key t [] = refl
span_from_start key t (x ∷ xs) =
    let low : leb 0 (key x) ≡ true = grind (arith, nat_tests) in
    rw low (ap (λ ys. cond (ltb (key x) t) (x ∷ ys) ys) (span_from_start key t xs))
