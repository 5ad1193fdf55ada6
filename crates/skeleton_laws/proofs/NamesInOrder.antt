-- Names in order: the ordered list holds the names of the list, and rises.
use Rattle.std.proofs.Common.{◌≡◌, ◌⊎◌, Bool, true, false, List, [], ◌∷◌, refl, sym, ◌∙◌, subst, inl, inr, ⊎_elim}
use Rattle.std.specs.Prelude.{if◌then◌else◌}
use Rattle.std.proofs.lemmas.Bool.{false≢true}
use Rattle.vert_base.specs.declared.message.Name.{Name}
use Rattle.vert_base.specs.Names.{is_before, same_name, numbers_of}
use Rattle.vert_base.proofs.NameOrder.{apart, total, along}
use Rattle.vert_base.proofs.LetterLaws.{names_law}
use Rattle.circulant_plan.specs.Choosing.{name_placed, names_in_order}
use Rattle.circulant_plan.proofs.Members.{Has, has_from_contains, contains_from_has}
use Rattle.circulant_plan.proofs.NameLists.{same_as_self}
use Rattle.skeleton_laws.specs.Laws.{NamesRise}

-- a name put in is there, with the others
module _ (x y : Name) (ys : List Name) (z : Name) where
  placed_step : (b c : Bool) → same_name x y ≡ b →
      Has (if b then y ∷ ys else if c then x ∷ y ∷ ys else y ∷ name_placed x ys) z →
      (Has (name_placed x ys) z → (z ≡ x) ⊎ Has ys z) → (z ≡ x) ⊎ Has (y ∷ ys) z
  placed_step true c e h more = inr h
  placed_step false true e (inl is) more = inl (sym is)
  placed_step false true e (inr h) more = inr h
  placed_step false false e (inl is) more = inr (inl is)
  placed_step false false e (inr h) more =
      ⊎_elim (λ (same : z ≡ x). inl same) (λ (old : Has ys z). inr (inr old)) (more h)

has_placed_cases : (x : Name) (ys : List Name) (z : Name) → Has (name_placed x ys) z → (z ≡ x) ⊎ Has ys z
has_placed_cases x [] z (inl is) = inl (sym is)
has_placed_cases x [] z (inr h) = absurd h
has_placed_cases x (y ∷ ys) z h = placed_step x y ys z (same_name x y) (is_before x y) refl h (has_placed_cases x ys z)

module _ (x y : Name) (ys : List Name) (z : Name) where
  put_step : (b c : Bool) → same_name x y ≡ b → (z ≡ x) ⊎ Has (y ∷ ys) z →
      ((z ≡ x) ⊎ Has ys z → Has (name_placed x ys) z) →
      Has (if b then y ∷ ys else if c then x ∷ y ∷ ys else y ∷ name_placed x ys) z
  put_step true c e (inl is) more = inl (sym (names_law x y e) ∙ sym is)
  put_step true c e (inr h) more = h
  put_step false true e (inl is) more = inl (sym is)
  put_step false true e (inr h) more = inr h
  put_step false false e (inl is) more = inr (more (inl is))
  put_step false false e (inr (inl is)) more = inl is
  put_step false false e (inr (inr h)) more = inr (more (inr h))

has_placed : (x : Name) (ys : List Name) (z : Name) → (z ≡ x) ⊎ Has ys z → Has (name_placed x ys) z
has_placed x [] z (inl is) = inl (sym is)
has_placed x [] z (inr h) = absurd h
has_placed x (y ∷ ys) z h = put_step x y ys z (same_name x y) (is_before x y) refl h (has_placed x ys z)

pub has_ordered_cases : (xs : List Name) (z : Name) → Has (names_in_order xs) z → Has xs z
has_ordered_cases [] z h = absurd h
has_ordered_cases (x ∷ xs) z h =
    ⊎_elim (λ (is : z ≡ x). inl (sym is))
    (λ (more : Has (names_in_order xs) z). inr (has_ordered_cases xs z more))
    (has_placed_cases x (names_in_order xs) z h)

pub has_ordered : (xs : List Name) (z : Name) → Has xs z → Has (names_in_order xs) z
has_ordered [] z h = absurd h
has_ordered (x ∷ xs) z (inl is) = has_placed x (names_in_order xs) z (inl (sym is))
has_ordered (x ∷ xs) z (inr h) = has_placed x (names_in_order xs) z (inr (has_ordered xs z h))

-- the names rise
pub before_both : (x y z : Name) → is_before x y ≡ true → is_before y z ≡ true → is_before x z ≡ true
before_both x y z e f = along (numbers_of x) (numbers_of y) (numbers_of z) e f

before_head : (x y : Name) (ys : List Name) → is_before x y ≡ true → NamesRise (y ∷ ys) → (z : Name) →
    Has (y ∷ ys) z → is_before x z ≡ true
before_head x y ys e rise z (inl is) = subst (λ q. is_before x q ≡ true) is e
before_head x y ys e rise z (inr h) = before_both x y z e (rise.0 z (contains_from_has ys z h))

module _ (x y : Name) (ys : List Name) where
  rise_step : (b c : Bool) → same_name x y ≡ b → is_before x y ≡ c → NamesRise (y ∷ ys) →
      NamesRise (name_placed x ys) →
      NamesRise (if b then y ∷ ys else if c then x ∷ y ∷ ys else y ∷ name_placed x ys)
  rise_step true c e f rise more = rise
  rise_step false true e f rise more =
      ((λ z h. before_head x y ys f rise z (has_from_contains (y ∷ ys) z h)), rise)
  rise_step false false e f rise more =
      let back : is_before y x ≡ true = total (numbers_of x) (numbers_of y) f e in (
        (λ z h.
            ⊎_elim (λ (is : z ≡ x). subst (λ q. is_before y q ≡ true) (sym is) back)
            (λ (old : Has ys z). rise.0 z (contains_from_has ys z old))
            (has_placed_cases x ys z (has_from_contains (name_placed x ys) z h))),
        more,
      )

placed_rises : (x : Name) (ys : List Name) → NamesRise ys → NamesRise (name_placed x ys)
placed_rises x [] rise = ((λ z h. absurd (has_from_contains [] z h)), tt)
placed_rises x (y ∷ ys) rise =
    rise_step x y ys (same_name x y) (is_before x y) refl refl rise (placed_rises x ys rise.1)

pub names_rise : (xs : List Name) → NamesRise (names_in_order xs)
names_rise [] = tt
names_rise (x ∷ xs) = placed_rises x (names_in_order xs) (names_rise xs)

pub not_before_self : (x : Name) → is_before x x ≡ true → ⊥
not_before_self x e = false≢true (sym (apart (numbers_of x) (numbers_of x) e) ∙ same_as_self x)
