-- Names in lists: whether one is there, the list without it, and lists that hold each name once.
use Rattle.std.proofs.Common.{◌≡◌, ◌≢◌, ◌⊎◌, suc, ◌+◌, Bool, true, false, ◌||◌, not, List, [], ◌∷◌, ◌++◌, length, refl, ap, sym, ◌∙◌, subst, inl, inr, arith, ⊎_elim}
use Rattle.std.specs.Prelude.{if◌then◌else◌}
use Rattle.std.specs.List.{filter}
use Rattle.std.proofs.lemmas.Bool.{false≢true, or_left, or_right}
use Rattle.vert_base.specs.declared.message.Name.{Name}
use Rattle.vert_base.specs.Names.{same_name, numbers_of}
use Rattle.vert_base.proofs.LetterLaws.{names_law, same_self}
use Rattle.circulant_plan.specs.Skeleton.{has_name}
use Rattle.circulant_plan.proofs.Members.{Has, has_append_cases, has_left, has_right}

pub same_as_self : (x : Name) → same_name x x ≡ true
same_as_self x = same_self (numbers_of x)

name_step : (x y : Name) (b c : Bool) → same_name x y ≡ b → (b || c) ≡ true → (y ≡ x) ⊎ (c ≡ true)
name_step x y true c e h = inl (sym (names_law x y e))
name_step x y false c e h = inr h

pub has_from_name : (x : Name) (xs : List Name) → has_name x xs ≡ true → Has xs x
has_from_name x [] h = absurd (false≢true h)
has_from_name x (y ∷ ys) h =
    ⊎_elim (λ (e : y ≡ x). inl e) (λ (more : has_name x ys ≡ true). inr (has_from_name x ys more))
    (name_step x y (same_name x y) (has_name x ys) refl h)

pub name_from_has : (x : Name) (xs : List Name) → Has xs x → has_name x xs ≡ true
name_from_has x [] h = absurd h
name_from_has x (y ∷ ys) (inl e) =
    or_left (same_name x y) (has_name x ys) (subst (λ z. same_name x z ≡ true) (sym e) (same_as_self x))
name_from_has x (y ∷ ys) (inr h) = or_right (same_name x y) (has_name x ys) (name_from_has x ys h)

-- a name in two lists after one another
pub name_append_cases : (x : Name) (xs ys : List Name) → has_name x (xs ++ ys) ≡ true →
    (has_name x xs ≡ true) ⊎ Has ys x
name_append_cases x xs ys h =
    ⊎_elim (λ (a : Has xs x). inl (name_from_has x xs a)) (λ (b : Has ys x). inr b)
    (has_append_cases xs ys x (has_from_name x (xs ++ ys) h))

pub name_left : (x : Name) (xs ys : List Name) → has_name x xs ≡ true → has_name x (xs ++ ys) ≡ true
name_left x xs ys h = name_from_has x (xs ++ ys) (has_left xs ys x (has_from_name x xs h))

pub name_right : (x : Name) (xs ys : List Name) → Has ys x → has_name x (xs ++ ys) ≡ true
name_right x xs ys h = name_from_has x (xs ++ ys) (has_right xs ys x h)

-- the names but for x
abbrev pub but_for : Name → List Name → List Name
but_for x xs = filter (λ y. not (same_name x y)) xs

but_step : (x y : Name) (xs : List Name) (z : Name) (b : Bool) → same_name x z ≡ b →
    Has (if not b then z ∷ but_for x xs else but_for x xs) y → (Has (but_for x xs) y → Has xs y × (y ≢ x)) →
    Has (z ∷ xs) y × (y ≢ x)
but_step x y xs z true e h more = let m = more h in (inr m.0, m.1)
but_step x y xs z false e (inl is) more =
    (inl is, λ same. false≢true (sym e ∙ subst (λ q. same_name x q ≡ true) (sym (is ∙ same)) (same_as_self x)))
but_step x y xs z false e (inr h) more = let m = more h in (inr m.0, m.1)

pub has_but_cases : (x y : Name) (xs : List Name) → Has (but_for x xs) y → Has xs y × (y ≢ x)
has_but_cases x y [] h = absurd h
has_but_cases x y (z ∷ xs) h = but_step x y xs z (same_name x z) refl h (has_but_cases x y xs)

but_put : (x y : Name) (xs : List Name) (z : Name) (b : Bool) → same_name x z ≡ b →
    (z ≡ y) ⊎ Has (but_for x xs) y → (y ≡ x) ⊎ Has (if not b then z ∷ but_for x xs else but_for x xs) y
but_put x y xs z true e (inl is) = inl (sym is ∙ sym (names_law x z e))
but_put x y xs z true e (inr h) = inr h
but_put x y xs z false e h = inr h

pub has_but : (x y : Name) (xs : List Name) → Has xs y → (y ≡ x) ⊎ Has (but_for x xs) y
has_but x y [] h = absurd h
has_but x y (z ∷ xs) (inl is) = but_put x y xs z (same_name x z) refl (inl is)
has_but x y (z ∷ xs) (inr h) =
    ⊎_elim (λ (same : y ≡ x). inl same)
    (λ (more : Has (but_for x xs) y). but_put x y xs z (same_name x z) refl (inr more)) (has_but x y xs h)

-- each name once
abbrev pub Once : List Name → Type 0
Once [] = Unit {0}
Once (x ∷ xs) = (Has xs x → ⊥) × Once xs

pub once_append : (xs ys : List Name) → Once xs → Once ys → ((x : Name) → Has xs x → Has ys x → ⊥) → Once (xs ++ ys)
once_append [] ys f g apart = g
once_append (x ∷ xs) ys f g apart = (
  (λ again.
      ⊎_elim (λ (a : Has xs x). f.0 a) (λ (b : Has ys x). apart x (inl refl) b) (has_append_cases xs ys x again)),
  once_append xs ys f.1 g (λ z h k. apart z (inr h) k),
)

but_none_step : (x z : Name) (xs : List Name) (b : Bool) → same_name x z ≡ b → (z ≡ x → ⊥) →
    but_for x xs ≡ xs → (if not b then z ∷ but_for x xs else but_for x xs) ≡ z ∷ xs
but_none_step x z xs true e ne more = absurd (ne (sym (names_law x z e)))
but_none_step x z xs false e ne more = ap (λ q. z ∷ q) more

but_none : (x : Name) (xs : List Name) → (Has xs x → ⊥) → but_for x xs ≡ xs
but_none x [] none = refl
but_none x (z ∷ xs) none =
    but_none_step x z xs (same_name x z) refl (λ e. none (inl e)) (but_none x xs (λ h. none (inr h)))

but_one_step : (x z : Name) (xs : List Name) (b : Bool) → same_name x z ≡ b → (z ≡ x) ⊎ Has xs x →
    (Has xs z → ⊥) → (Has xs x → length (but_for x xs) + 1 ≡ length xs) →
    length (if not b then z ∷ but_for x xs else but_for x xs) + 1 ≡ suc (length xs)
but_one_step x z xs true e h none more =
    let is : x ≡ z = names_law x z e in
    let same : but_for x xs ≡ xs = but_none x xs (λ k. none (subst (λ q. Has xs q) is k)) in
    let len = ap length same in
    omega arith
but_one_step x z xs false e (inl is) none more =
    absurd (false≢true (sym e ∙ subst (λ q. same_name x q ≡ true) (sym is) (same_as_self x)))
but_one_step x z xs false e (inr h) none more = let m = more h in omega arith

-- one is taken out
pub but_one : (x : Name) (xs : List Name) → Once xs → Has xs x → length (but_for x xs) + 1 ≡ length xs
but_one x [] f h = absurd h
but_one x (z ∷ xs) f h = but_one_step x z xs (same_name x z) refl h f.0 (but_one x xs f.1)

once_but_step : (x z : Name) (xs : List Name) (b : Bool) → (Has xs z → ⊥) → Once (but_for x xs) →
    Once (if not b then z ∷ but_for x xs else but_for x xs)
once_but_step x z xs true none more = more
once_but_step x z xs false none more = ((λ h. none (has_but_cases x z xs h).0), more)

pub once_but : (x : Name) (xs : List Name) → Once xs → Once (but_for x xs)
once_but x [] f = tt
once_but x (z ∷ xs) f = once_but_step x z xs (same_name x z) f.0 (once_but x xs f.1)
