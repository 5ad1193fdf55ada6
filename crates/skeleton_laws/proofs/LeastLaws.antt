-- The least of what is missing.
use Rattle.skeleton_laws.proofs.NamesInOrder.{before_both, has_ordered_cases, has_ordered, names_rise, not_before_self}
use Rattle.std.proofs.Common.{◌≡◌, ◌⊎◌, ℕ, ◌+◌, ◌<◌, Bool, true, false, List, [], ◌∷◌, ◌++◌, length, map, Option, Some, refl, ap, sym, ◌∙◌, subst, inl, inr, arith, ⊎_elim, slice_get}
use Rattle.std.specs.List.{range_with_len}
use Rattle.std.proofs.lemmas.Bool.{false≢true, false_from_ne_true}
use Rattle.std.proofs.lemmas.Option.{none-some, same_Some}
use Rattle.vert_base.specs.declared.message.Name.{Name}
use Rattle.vert_base.specs.declared.message.Event.{Event}
use Rattle.vert_base.specs.declared.message.Event.TheVariants.{Go, Take}
use Rattle.vert_base.specs.Names.{is_before}
use Rattle.circulant_plan.specs.declared.spot.Ring.{Ring}
use Rattle.circulant_plan.specs.Skeleton.{Skeleton, has_name}
use Rattle.circulant_plan.specs.Choosing.{names_in_order, could_act, ready_machines, missing_of}
use Rattle.circulant_plan.proofs.Members.{Has, contains_from_has, has_range}
use Rattle.circulant_plan.proofs.NameLists.{has_from_name, name_from_has}
use Rattle.circulant_plan.proofs.Rise.{Rise, rise_least}
use Rattle.skeleton_laws.specs.Laws.{NamesRise, IsLeast, MissingIsLeast, RisingNamesAreOne}
use Rattle.skeleton_laws.proofs.ChoiceLaws.{name_in, number_in, is_go, filter_rises, has_filter_cases, has_filter, go_within_slot}

-- rising lists
first_before : (x : Name) (xs : List Name) → NamesRise (x ∷ xs) → (y : Name) → Has (x ∷ xs) y →
    (x ≡ y) ⊎ (is_before x y ≡ true)
first_before x xs rise y (inl e) = inl e
first_before x xs rise y (inr h) = inr (rise.0 y (contains_from_has xs y h))

same_first : (x y : Name) → (x ≡ y) ⊎ (is_before x y ≡ true) → (y ≡ x) ⊎ (is_before y x ≡ true) → x ≡ y
same_first x y (inl e) g = e
same_first x y (inr e) (inl g) = sym g
same_first x y (inr e) (inr g) = absurd (not_before_self x (before_both x y x e g))

tail_has : (x : Name) (xs ys : List Name) → NamesRise (x ∷ xs) →
    ((z : Name) → has_name z (x ∷ xs) ≡ true → has_name z (x ∷ ys) ≡ true) → (z : Name) → has_name z xs ≡ true →
    has_name z ys ≡ true
tail_has x xs ys rise all z h =
    let in_xs = has_from_name z xs h in
    ⊎_elim
    (λ (e : x ≡ z).
    absurd
    (not_before_self x
    (subst (λ q. is_before x q ≡ true) (sym e) (rise.0 z (contains_from_has xs z in_xs)))))
    (λ (more : Has ys z). name_from_has z ys more)
    (has_from_name z (x ∷ ys) (all z (name_from_has z (x ∷ xs) (inr in_xs))))

pub same_bool : (a b : Bool) → (a ≡ true → b ≡ true) → (b ≡ true → a ≡ true) → a ≡ b
same_bool true b f g = sym (f refl)
same_bool false true f g = g refl
same_bool false false f g = refl

pub rising_are_one : RisingNamesAreOne
rising_are_one [] [] f g all = refl
rising_are_one [] (y ∷ ys) f g all = absurd (false≢true (all y ∙ name_from_has y (y ∷ ys) (inl refl)))
rising_are_one (x ∷ xs) [] f g all = absurd (false≢true (sym (all x) ∙ name_from_has x (x ∷ xs) (inl refl)))
rising_are_one (x ∷ xs) (y ∷ ys) f g all =
    let there : Has (y ∷ ys) x = has_from_name x (y ∷ ys) (sym (all x) ∙ name_from_has x (x ∷ xs) (inl refl)) in
    let back : Has (x ∷ xs) y = has_from_name y (x ∷ xs) (all y ∙ name_from_has y (y ∷ ys) (inl refl)) in
    let same : x ≡ y = same_first x y (first_before x xs f y back) (first_before y ys g x there) in
    let rise : NamesRise (x ∷ ys) = subst (λ q. NamesRise (q ∷ ys)) (sym same) g in
    let alike : (z : Name) → has_name z (x ∷ xs) ≡ has_name z (x ∷ ys) =
    subst (λ q. (z : Name) → has_name z (x ∷ xs) ≡ has_name z (q ∷ ys)) (sym same) all in
    let rest : xs ≡ ys =
    rising_are_one xs ys f.1 g.1
    (λ z. same_bool (has_name z xs) (has_name z ys) (tail_has x xs ys f (λ q h. sym (alike q) ∙ h) z)
    (tail_has x ys xs rise (λ q h. alike q ∙ h) z)) in
    ap (λ q. q ∷ xs) same ∙ ap (λ q. y ∷ q) rest

-- the first of takes and then goes
abbrev first_of_both : List Name → List ℕ → Option Event
first_of_both xs ns = slice_get (map (λ x. Take x) xs ++ map (λ m. Go m) ns) 0

event_go : (e : Event) (m : ℕ) (x : Name) → Take x ≡ e → e ≡ Go m → ⊥
event_go e m x f g = false≢true (ap is_go (f ∙ g))

take_first : (xs : List Name) (ns : List ℕ) (x : Name) → first_of_both xs ns ≡ Some (Take x) →
    (more : List Name) × (xs ≡ x ∷ more)
take_first [] [] x e = absurd (none-some (Take x) e)
take_first [] (n ∷ ns) x e = absurd (event_go (Go n) n x (sym (same_Some (Go n) (Take x) e)) refl)
take_first (y ∷ ys) ns x e =
    let same : y ≡ x = ap (name_in x) (same_Some (Take y) (Take x) e) in (ys, ap (λ q. q ∷ ys) same)

go_first : (xs : List Name) (ns : List ℕ) (m : ℕ) → first_of_both xs ns ≡ Some (Go m) →
    (xs ≡ []) × ((more : List ℕ) × (ns ≡ m ∷ more))
go_first [] [] m e = absurd (none-some (Go m) e)
go_first [] (n ∷ ns) m e =
    let same : n ≡ m = ap number_in (same_Some (Go n) (Go m) e) in (refl, (ns, ap (λ q. q ∷ ns) same))
go_first (y ∷ ys) ns m e = absurd (event_go (Take y) m y refl (same_Some (Take y) (Go m) e))

none_in_order : (xs : List Name) → names_in_order xs ≡ [] → xs ≡ []
none_in_order [] e = refl
none_in_order (x ∷ xs) e = absurd (subst (λ q. Has q x) e (has_ordered (x ∷ xs) x (inl refl)))

module _ (ring : Ring) (k : Skeleton) where
  abbrev ready : ℕ → Bool
  ready m = could_act ring m (slice_get k.standings m) k.taken

  abbrev names : List Name
  names = names_in_order k.under_way

  rising : (more : List Name) (x : Name) → names ≡ x ∷ more → NamesRise (x ∷ more)
  rising more x e = subst (λ q. NamesRise q) e (names_rise k.under_way)

  least_name : (x y : Name) → missing_of ring k ≡ Some (Take x) → has_name y k.under_way ≡ true →
      is_before y x ≡ true → ⊥
  least_name x y e flew early =
      let t = take_first names (ready_machines ring k) x e in
      let there : Has (x ∷ t.0) y =
      subst (λ q. Has q y) t.1 (has_ordered k.under_way y (has_from_name y k.under_way flew)) in
      ⊎_elim
      (λ (same : x ≡ y). not_before_self x (subst (λ q. is_before q x ≡ true) (sym same) early))
      (λ (late : is_before x y ≡ true). not_before_self x (before_both x y x late early))
      (first_before x t.0 (rising t.0 x t.1) y there)

  least_go : (m j : ℕ) → missing_of ring k ≡ Some (Go m) → j < m → ready j ≡ true → ⊥
  least_go m j e lt so =
      let g = go_first names (ready_machines ring k) m e in
      let inside = go_within_slot ring k j so in
      let there : Has (ready_machines ring k) j =
      has_filter ready (range_with_len 0 (length k.standings)) j
      (has_range 0 (length k.standings) j (omega arith) (omega arith)) so in
      let rise : Rise 0 (m ∷ g.1.0) = subst (λ q. Rise 0 q) g.1.1 (filter_rises ready 0 (length k.standings)) in
      ⊎_elim
      (λ (same : m ≡ j). omega arith)
      (λ (more : Has g.1.0 j). let low = rise_least (m + 1) g.1.0 j rise.1 more in omega arith)
      (subst (λ q. Has q j) g.1.1 there)

  pub is_least : IsLeast ring k
  is_least = record {
    take_flies = λ x e.
        let t = take_first names (ready_machines ring k) x e in
        name_from_has x k.under_way (has_ordered_cases k.under_way x (subst (λ q. Has q x) (sym t.1) (inl refl)));
    take_least = λ x y e flew. false_from_ne_true (is_before y x) (least_name x y e flew);
    go_alone = λ m e. none_in_order k.under_way (go_first names (ready_machines ring k) m e).0;
    go_ready = λ m e.
        let g = go_first names (ready_machines ring k) m e in
        (has_filter_cases ready (range_with_len 0 (length k.standings)) m
        (subst (λ q. Has q m) (sym g.1.1) (inl refl))).1;
    go_least = λ m j e lt. false_from_ne_true (ready j) (least_go m j e lt);
  }

pub missing_is_least : MissingIsLeast
missing_is_least ring k = is_least ring k
