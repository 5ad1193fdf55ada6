-- The keys of a sparse round rise along the members of a vertex.
use Rattle.std.proofs.Common.{◌≡◌, ◌<◌, ◌≤◌, ◌+◌, ◌-◌, ℕ, Bool, true, false, List, [], ◌∷◌, ◌++◌, sym, ◌∙◌, arith, ⊎_elim, leb, ltb}
use Rattle.std.specs.Prelude.{◌==◌}
use Rattle.std.specs.List.{AllByRecursion, filter}
use Rattle.std.proofs.lemmas.Bool.{cases_Bool, leb-true}
use Rattle.std.proofs.lemmas.Bool.Decides.{nat_tests}
use Rattle.std.proofs.Math.Nat.{mod-lt}
use Rattle.vert_base.specs.declared.graph.Edge.{Edge}
use Rattle.vert_base.specs.Neighbours.{in_order, ins_of, source, target, turned}
use Rattle.vert_base.proofs.Orders.{Rises, all_append, in_order_below, in_order_rises, in_order_sorted}
use Rattle.circulant_plan.proofs.CircleLaws.{mod_high, mod_low}
use Rattle.graph_table.proofs.BucketLaws.{in_order_is}
use Rattle.symple_face.specs.CoreSparse.{key_of}
use Rattle.round_laws.specs.Keys.{KeysBelow, KeysRise}

all_that :
    {X : Type 0} (P Q : X → Type 0) (p : X → Bool) (xs : List X) → AllByRecursion P xs →
    ((x : X) → P x → p x ≡ true → Q x) → AllByRecursion Q (filter p xs)
all_that P Q p [] all f = tt
all_that P Q p (x ∷ xs) all f =
    ⊎_elim (λ (yes : p x ≡ true). rw yes (f x all.0 yes, all_that P Q p xs all.1 f))
    (λ (no : p x ≡ false). rw no (all_that P Q p xs all.1 f)) (cases_Bool (p x))

-- what rises by one key rises by another one that follows it where a test holds
rises_by :
    {X : Type 0} (key other : X → ℕ) (n : ℕ) (p : X → Bool) (xs : List X) → Rises key xs →
    AllByRecursion (λ x. key x < n) xs →
    ((x y : X) → p x ≡ true → p y ≡ true → key x < n → key y < n → key x ≤ key y → other x ≤ other y) → Rises other
    (filter p xs)
rises_by key other n p [] up low f = tt
rises_by key other n p (x ∷ xs) up low f =
    ⊎_elim
    (λ (yes : p x ≡ true).
    rw yes (all_both xs up.0 low.1 yes, rises_by key other n p xs up.1 low.1 f))
    (λ (no : p x ≡ false). rw no (rises_by key other n p xs up.1 low.1 f))
    (cases_Bool (p x))
  where
    all_both :
        (ys : List _) → AllByRecursion (λ y. key x ≤ key y) ys → AllByRecursion (λ y. key y < n) ys → p x ≡ true →
        AllByRecursion (λ y. other x ≤ other y) (filter p ys)
    all_both [] a b h = tt
    all_both (y ∷ ys) a b h =
        ⊎_elim (λ (here : p y ≡ true). rw here (f x y h here low.0 b.0 a.0, all_both ys a.1 b.1 h))
        (λ (not : p y ≡ false). rw not (all_both ys a.1 b.1 h)) (cases_Bool (p y))

rises_joined :
    {X : Type 0} (key : X → ℕ) (k : ℕ) (xs ys : List X) → Rises key xs → Rises key ys →
    AllByRecursion (λ x. key x ≤ k) xs → AllByRecursion (λ y. k ≤ key y) ys → Rises key (xs ++ ys)
rises_joined key k [] ys up down low high = down
rises_joined key k (x ∷ xs) ys up down low high =
    (behind xs up.0, rises_joined key k xs ys up.1 down low.1 high)
  where
    behind : (zs : List _) → AllByRecursion (λ y. key x ≤ key y) zs → AllByRecursion (λ y. key x ≤ key y) (zs ++ ys)
    behind [] a = later ys high
      where
        later : (ws : List _) → AllByRecursion (λ y. k ≤ key y) ws → AllByRecursion (λ y. key x ≤ key y) ws
        later [] b = tt
        later (w ∷ ws) b = ((let l = low.0 in let h = b.0 in let e : key x ≤ key w = omega arith in e), later ws b.1)
    behind (z ∷ zs) a = (a.0, behind zs a.1)

pub key_above : (n t u : ℕ) → t ≤ u → u < n → key_of n t u ≡ u - t
key_above n t u le lt = mod_high (u + n - t) n (u - t) (omega arith) (omega arith)

pub key_below : (n t u : ℕ) → u < t → t ≤ n → key_of n t u ≡ u + n - t
key_below n t u lt le = mod_low (u + n - t) n (omega arith)

is_above : (t u : ℕ) → leb t u ≡ true → t ≤ u
is_above t u h = leb-true t u h

is_below : (t u : ℕ) → ltb u t ≡ true → u < t
is_below t u h = grind (arith, nat_tests)

module _ (n t v : ℕ) (edges : List Edge) (le : t ≤ n) where
  abbrev key : Edge → ℕ
  key e = key_of n t (source e)

  abbrev xs : List Edge
  xs = ins_of n edges v

  up : Rises source xs
  up = in_order_rises source n (filter (λ e. target e == v) edges)

  low : AllByRecursion (λ e. source e < n) xs
  low = in_order_below source n (filter (λ e. target e == v) edges)

  front_rises : Rises key (filter (λ e. leb t (source e)) xs)
  front_rises = rises_by source key n (λ e. leb t (source e)) xs up low
      (λ x y p q a b c. let px = is_above t (source x) p in let py = is_above t (source y) q in
      let kx = key_above n t (source x) px a in let ky = key_above n t (source y) py b in omega arith)

  back_rises : Rises key (filter (λ e. ltb (source e) t) xs)
  back_rises = rises_by source key n (λ e. ltb (source e) t) xs up low
      (λ x y p q a b c. let px = is_below t (source x) p in let py = is_below t (source y) q in
      let kx = key_below n t (source x) px le in let ky = key_below n t (source y) py le in omega arith)

  front_low : AllByRecursion (λ e. key e ≤ n - t) (filter (λ e. leb t (source e)) xs)
  front_low = all_that (λ e. source e < n) (λ e. key e ≤ n - t) (λ e. leb t (source e)) xs low
      (λ e a p. let above = is_above t (source e) p in let k = key_above n t (source e) above a in omega arith)

  back_high : AllByRecursion (λ e. n - t ≤ key e) (filter (λ e. ltb (source e) t) xs)
  back_high = all_that (λ e. source e < n) (λ e. n - t ≤ key e) (λ e. ltb (source e) t) xs low
      (λ e a p. let below = is_below t (source e) p in let k = key_below n t (source e) below le in omega arith)

  all_low : AllByRecursion (λ e. key e < n) (turned t xs)
  all_low = all_append (λ e. key e < n) (filter (λ e. leb t (source e)) xs) (filter (λ e. ltb (source e) t) xs)
      (all_that (λ e. source e < n) (λ e. key e < n) (λ e. leb t (source e)) xs low
      (λ e a p. let above = is_above t (source e) p in let k = key_above n t (source e) above a in omega arith))
      (all_that (λ e. source e < n) (λ e. key e < n) (λ e. ltb (source e) t) xs low
      (λ e a p. let below = is_below t (source e) p in let k = key_below n t (source e) below le in omega arith))

  in_keys : in_order key n (turned t xs) ≡ turned t xs
  in_keys = in_order_sorted key n (turned t xs)
      (rises_joined key (n - t) (filter (λ e. leb t (source e)) xs)
      (filter (λ e. ltb (source e) t) xs) front_rises back_rises front_low back_high) all_low

pub keys_below : KeysBelow
keys_below n t u le lt = mod-lt (u + n - t) (omega arith)

pub keys_rise : KeysRise
keys_rise n t v edges le = sym (in_order_is (λ e. key_of n t (source e)) n (turned t (ins_of n edges v)))
    ∙ in_keys n t v edges le
