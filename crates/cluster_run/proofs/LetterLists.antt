-- Letters put among others, and their names.
use Rattle.std.proofs.Common.{◌≡◌, ◌⊎◌, suc, ◌+◌, Bool, true, false, ◌||◌, ◌&&◌, not, List, [], ◌∷◌, length, map, Option, Some, None, refl, ap, sym, ◌∙◌, subst, inl, inr, arith, ⊎_elim}
use Rattle.std.specs.Prelude.{if◌then◌else◌, is_some}
use Rattle.std.specs.List.{AllByRecursion}
use Rattle.std.proofs.lemmas.Bool.{false≢true, and_parts, and_from, not-true, not_from_false, or_from}
use Rattle.vert_base.specs.declared.message.Name.{Name}
use Rattle.vert_base.specs.Names.{is_before, same_name}
use Rattle.vert_base.specs.Letters.{Letter, found, placed, without, Ascends}
use Rattle.vert_base.proofs.LetterLaws.{names_law, placed_law, taken_law, placed_ascends, longer}
use Rattle.circulant_plan.specs.Skeleton.{has_name}
use Rattle.circulant_plan.proofs.Members.{Has, has_from_contains, contains_from_has}
use Rattle.circulant_plan.proofs.NameLists.{Once, same_as_self, has_from_name, name_from_has, but_for, has_but, has_but_cases}
use Rattle.skeleton_laws.specs.Laws.{EachOnce, NamesRise}
use Rattle.skeleton_laws.proofs.NamesInOrder.{has_ordered, has_ordered_cases, names_rise}
use Rattle.skeleton_laws.proofs.LeastLaws.{rising_are_one}
use Rattle.circulant_plan.specs.Choosing.{names_in_order}
use Rattle.symple_face.specs.Cluster.{all_placed}
use Rattle.skeleton_laws.proofs.LeastLaws.{same_bool}
use Rattle.cluster_run.specs.Sends.{AreNew}
use Rattle.state_laws.proofs.Options.{none_found, some_if}
use Rattle.state_laws.proofs.Letters.{apart_names}

pub same_swap : (a b : Name) → same_name a b ≡ same_name b a
same_swap a b =
    same_bool (same_name a b) (same_name b a)
    (λ e. subst (λ c. same_name c a ≡ true) (names_law a b e) (same_as_self a))
    (λ e. subst (λ c. same_name c b ≡ true) (names_law b a e) (same_as_self b))

abbrev pub names_of : List Letter → List Name
names_of ls = map (λ l. l.name) ls

-- whether a name is found
abbrev pub has_letter : Name → List Letter → Bool
has_letter x ms = is_some (found x ms)

pub has_placed : (x : Name) (l : Letter) (ms : List Letter) →
    has_letter x (placed l ms) ≡ (same_name x l.name || has_letter x ms)
has_placed x l ms =
    ap is_some (placed_law l ms x) ∙ some_if (same_name l.name x) l (found x ms)
    ∙ ap (λ b. b || has_letter x ms) (same_swap l.name x)

pub has_cons : (x : Name) (m : Letter) (ms : List Letter) →
    has_letter x (m ∷ ms) ≡ (same_name x m.name || has_letter x ms)
has_cons x m ms = some_if (same_name m.name x) m (found x ms) ∙ ap (λ b. b || has_letter x ms) (same_swap m.name x)

-- a name is found where the list of names has it
pub has_names : (x : Name) (ms : List Letter) → has_letter x ms ≡ has_name x (names_of ms)
has_names x [] = refl
has_names x (m ∷ ms) = has_cons x m ms ∙ ap (λ b. same_name x m.name || b) (has_names x ms)

none_or : (a b c : Bool) → (b || (a || c)) ≡ ((a || b) || c)
none_or true true c = refl
none_or true false c = refl
none_or false true c = refl
none_or false false c = refl

-- ---- many letters put among others
pub has_all_placed : (x : Name) (ls ms : List Letter) →
    has_letter x (all_placed ls ms) ≡ (has_name x (names_of ls) || has_letter x ms)
has_all_placed x [] ms = refl
has_all_placed x (l ∷ ls) ms =
    has_all_placed x ls (placed l ms)
    ∙ ap (λ b. has_name x (names_of ls) || b) (has_placed x l ms)
    ∙ none_or (same_name x l.name) (has_name x (names_of ls)) (has_letter x ms)

pub not_found : (x : Name) (ms : List Letter) → has_letter x ms ≡ false → found x ms ≡ None
not_found x ms e = none_found (found x ms) e

pub are_new : (ls ms : List Letter) → Once (names_of ls) →
    ((x : Name) → Has (names_of ls) x → has_letter x ms ≡ false) → AreNew ls ms
are_new [] ms once apart = tt
are_new (l ∷ ls) ms once apart = (
  not_found l.name ms (apart l.name (inl refl)),
  are_new ls (placed l ms) once.1
      (λ x h. has_placed x l ms ∙ or_from (same_name x l.name) (has_letter x ms)
      (apart_names x l.name (λ e. once.0 (subst (λ y. Has (names_of ls) y) e h))) (apart x (inr h))),
)

pub all_placed_ascends : (ls ms : List Letter) → Ascends ms → AreNew ls ms → Ascends (all_placed ls ms)
all_placed_ascends [] ms rise new = rise
all_placed_ascends (l ∷ ls) ms rise new = all_placed_ascends ls (placed l ms) (placed_ascends l ms rise new.0) new.1

pub all_placed_length : (ls ms : List Letter) → length (all_placed ls ms) ≡ length ls + length ms
all_placed_length [] ms = omega arith
all_placed_length (l ∷ ls) ms = let rest = all_placed_length ls (placed l ms) in let one = longer l ms in omega arith

placed_is_step : (l : Letter) (o : Option Letter) (y : Letter) (b : Bool) → (if b then Some l else o) ≡ Some y →
    (o ≡ Some y) ⊎ (l ≡ y)
placed_is_step l o y true e = inr (let same : l ≡ y = cc in same)
placed_is_step l o y false e = inl e

-- what is found there was there, or was put there
pub all_placed_is : (x : Name) (ls ms : List Letter) (y : Letter) → found x (all_placed ls ms) ≡ Some y →
    (found x ms ≡ Some y) ⊎ Has ls y
all_placed_is x [] ms y e = inl e
all_placed_is x (l ∷ ls) ms y e =
    ⊎_elim
    (λ (there : found x (placed l ms) ≡ Some y).
    ⊎_elim (λ (old : found x ms ≡ Some y). inl old) (λ (new : l ≡ y). inr (inl new))
    (placed_is_step l (found x ms) y (same_name l.name x) (sym (placed_law l ms x) ∙ there)))
    (λ (new : Has ls y). inr (inr new))
    (all_placed_is x ls (placed l ms) y e)

-- ---- a letter taken out
left_if : (b : Bool) (o : Option Letter) → is_some (if b then None else o) ≡ (not b && is_some o)
left_if true o = refl
left_if false o = refl

pub has_without : (x y : Name) (ms : List Letter) → Ascends ms →
    has_letter y (without x ms) ≡ (not (same_name x y) && has_letter y ms)
has_without x y ms rise = ap is_some (taken_law x ms y rise) ∙ left_if (same_name x y) (found y ms)

shorter_step : (x : Name) (m : Letter) (ms : List Letter) (y : Letter) (b : Bool) →
    (if b then Some m else found x ms) ≡ Some y → (found x ms ≡ Some y → length (without x ms) + 1 ≡ length ms) →
    length (if b then ms else m ∷ without x ms) + 1 ≡ suc (length ms)
shorter_step x m ms y true e more = omega arith
shorter_step x m ms y false e more = let rest = more e in omega arith

pub length_without : (x : Name) (ms : List Letter) (y : Letter) → found x ms ≡ Some y →
    length (without x ms) + 1 ≡ length ms
length_without x [] y e = cc
length_without x (m ∷ ms) y e = shorter_step x m ms y (same_name m.name x) e (length_without x ms y)

left_is_step : (y : Letter) (o : Option Letter) (b : Bool) → (if b then None else o) ≡ Some y → o ≡ Some y
left_is_step y o true e = cc
left_is_step y o false e = e

pub without_is : (x z : Name) (ms : List Letter) (y : Letter) → Ascends ms → found z (without x ms) ≡ Some y →
    found z ms ≡ Some y
without_is x z ms y rise e = left_is_step y (found z ms) (same_name x z) (sym (taken_law x ms z rise) ∙ e)

pub name_but_for : (x y : Name) (xs : List Name) →
    has_name y (but_for x xs) ≡ (not (same_name x y) && has_name y xs)
name_but_for x y xs =
    same_bool (has_name y (but_for x xs)) (not (same_name x y) && has_name y xs)
    (λ h.
    let c = has_but_cases x y xs (has_from_name y (but_for x xs) h) in
    and_from (not (same_name x y)) (has_name y xs)
    (not_from_false (same_name x y) (apart_names x y (λ e. c.1 (sym e)))) (name_from_has y xs c.0))
    (λ h.
    let parts = and_parts (not (same_name x y)) (has_name y xs) h in
    ⊎_elim
    (λ (e : y ≡ x).
    absurd
    (false≢true
    (sym (not-true (same_name x y) parts.0) ∙ subst (λ z. same_name x z ≡ true) (sym e) (same_as_self x))))
    (λ (left : Has (but_for x xs) y). name_from_has y (but_for x xs) left)
    (has_but x y xs (has_from_name y xs parts.1)))

-- ---- the names under way, in order
behind_name : (x : Name) (ms : List Letter) (y : Name) → AllByRecursion (λ z. is_before x z.name ≡ true) ms →
    Has (names_of ms) y → is_before x y ≡ true
behind_name x [] y all h = absurd h
behind_name x (m ∷ ms) y all (inl e) = subst (λ z. is_before x z ≡ true) e all.0
behind_name x (m ∷ ms) y all (inr h) = behind_name x ms y all.1 h

letters_rise : (ms : List Letter) → Ascends ms → NamesRise (names_of ms)
letters_rise [] rise = tt
letters_rise (m ∷ ms) rise = (
  (λ y c. behind_name m.name ms y rise.0 (has_from_contains (names_of ms) y c)),
  letters_rise ms rise.1,
)

-- two lists of messages with the same names, the one ascending, have the same names in order
pub ordered_names : (xs : List Name) (ms : List Letter) → Ascends ms →
    ((x : Name) → has_letter x ms ≡ has_name x xs) → names_in_order xs ≡ names_of ms
ordered_names xs ms rise same =
    rising_are_one (names_in_order xs) (names_of ms) (names_rise xs) (letters_rise ms rise)
    (λ x. same_bool (has_name x (names_in_order xs)) (has_name x (names_of ms))
    (λ h.
    sym (has_names x ms) ∙ same x
    ∙ name_from_has x xs (has_ordered_cases xs x (has_from_name x (names_in_order xs) h)))
    (λ h.
    name_from_has x (names_in_order xs)
    (has_ordered xs x (has_from_name x xs (sym (same x) ∙ has_names x ms ∙ h)))))

pub once_from_each : (xs : List Name) → EachOnce xs → Once xs
once_from_each [] once = tt
once_from_each (x ∷ xs) once = ((λ h. once.0 (contains_from_has xs x h)), once_from_each xs once.1)
