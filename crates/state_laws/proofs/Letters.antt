-- Messages put among others, bodies dropped, and names told apart.
use Rattle.std.proofs.Common.{◌≡◌, Bool, true, false, ◌||◌, List, [], ◌∷◌, ◌++◌, Some, refl, ap, sym, ◌∙◌, ⊎_elim}
use Rattle.std.specs.Prelude.{if◌then◌else◌, is_some}
use Rattle.std.specs.List.{AllByRecursion}
use Rattle.std.proofs.Math.Bool.{or_assoc}
use Rattle.std.proofs.lemmas.Bool.{cases_Bool}
use Rattle.vert_base.specs.declared.message.Name.{Name}
use Rattle.vert_base.specs.Letters.{Letter, found, placed}
use Rattle.vert_base.specs.Names.{is_before, same_name}
use Rattle.vert_base.proofs.LetterLaws.{names_law}
use Rattle.circulant_plan.specs.Skeleton.{has_name}
use Rattle.symple_face.specs.CoreTakes.{emptied}

-- what holds of each message held and of one more holds of all
pub all_placed : (P : Letter → Type 0) (l : Letter) (held : List Letter) → P l → AllByRecursion P held →
    AllByRecursion P (placed l held)
all_placed P l [] here all = (here, tt)
all_placed P l (y ∷ ys) here all = by (is_before y.name l.name) (all_placed P l ys here all.1)
  where
    by : (b : Bool) → AllByRecursion P (placed l ys) → AllByRecursion P (if b then y ∷ placed l ys else l ∷ y ∷ ys)
    by true rest = (all.0, rest)
    by false rest = (here, all)

-- different names are told apart
pub apart_names : (a b : Name) → (a ≡ b → ⊥) → same_name a b ≡ false
apart_names a b apart =
    ⊎_elim (λ (same : same_name a b ≡ true). absurd (apart (names_law a b same)))
    (λ (other : same_name a b ≡ false). other) (cases_Bool (same_name a b))

pub name_append : (x : Name) (xs ys : List Name) → has_name x (xs ++ ys) ≡ (has_name x xs || has_name x ys)
name_append x [] ys = refl
name_append x (y ∷ xs) ys = ap (λ b. same_name x y || b) (name_append x xs ys)
    ∙ sym (or_assoc (same_name x y) (has_name x xs) (has_name x ys))

-- a name is held as before, where bodies are dropped
pub still_there : (xs : List Name) (x : Name) (held : List Letter) →
    is_some (found x (emptied xs held)) ≡ is_some (found x held)
still_there xs x [] = refl
still_there xs x (l ∷ ls) = by (has_name l.name xs) (still_there xs x ls)
  where
    by : (b : Bool) → is_some (found x (emptied xs ls)) ≡ is_some (found x ls) →
        is_some (found x ((if b then record l { body = [] } else l) ∷ emptied xs ls)) ≡ is_some (found x (l ∷ ls))
    by true more = named (same_name l.name x) (record l { body = [] }) l more
      where
        named : (b : Bool) (k m : Letter) → is_some (found x (emptied xs ls)) ≡ is_some (found x ls) →
            is_some (if b then Some k else found x (emptied xs ls)) ≡ is_some (if b then Some m else found x ls)
        named true k m more = refl
        named false k m more = more
    by false more = named (same_name l.name x) l l more
      where
        named : (b : Bool) (k m : Letter) → is_some (found x (emptied xs ls)) ≡ is_some (found x ls) →
            is_some (if b then Some k else found x (emptied xs ls)) ≡ is_some (if b then Some m else found x ls)
        named true k m more = refl
        named false k m more = more
