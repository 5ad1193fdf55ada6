-- Of messages held: what is found of them, and what stays where some bodies are dropped.
use Rattle.std.proofs.Common.{◌≡◌, ◌≤◌, ◌+◌, ℕ, Bool, true, false, arith, List, [], ◌∷◌, refl, ap, subst, ◌∙◌, Option, None, Some}
use Rattle.std.specs.Prelude.{◌++◌, if◌then◌else◌, is_some, nat_lt, option_map}
use Rattle.std.specs.List.{AllByRecursion}
use Rattle.std.proofs.lemmas.Bool.Decides.{nat_tests}
use Rattle.vert_base.specs.declared.message.Name.{Name}
use Rattle.vert_base.specs.Letters.{Letter, found}
use Rattle.vert_base.specs.Names.{same_name}
use Rattle.vert_base.proofs.LetterLaws.{found_name, names_law}
use Rattle.circulant_plan.specs.declared.spot.Spot.TheVariants.{Scan}
use Rattle.circulant_plan.specs.Skeleton.{has_name}
use Rattle.circulant_plan.specs.Standing.{Standing, place_of}
use Rattle.circulant_plan.specs.Table.{name_if}
use Rattle.symple_face.specs.declared.action.Action.TheVariants.{Ready}
use Rattle.symple_face.specs.CoreSight.{body_of}
use Rattle.symple_face.specs.CoreTakes.{emptied, emptied_under}
use Rattle.symple_face.specs.State.{first_missing, waiting_for}
use Rattle.round_laws.specs.IsIdeal.{is_used}

-- of a message that was taken, what holds of all that are held holds
pub found_holds : (P : Letter → Type 0) (x : Name) (held : List Letter) → AllByRecursion P held →
    is_some (found x held) ≡ true → P (record { name = x; body = body_of (found x held) })
found_holds P x [] all some = cc
found_holds P x (y ∷ ys) all some = by (same_name y.name x) refl some (found_holds P x ys all.1)
  where
    by : (b : Bool) → same_name y.name x ≡ b → is_some (if b then Some y else found x ys) ≡ true →
        (is_some (found x ys) ≡ true → P (record { name = x; body = body_of (found x ys) })) →
        P (record { name = x; body = body_of (if b then Some y else found x ys) })
    by true same here rest = subst (λ n. P (record { name = n; body = y.body })) (names_law y.name x same) all.0
    by false same here rest = rest here

-- ---- readiness
-- where nothing of one or two names is missing, both are there
pub ready_one : (x : Name) (more : List Name) (held : List Letter) → waiting_for (first_missing (x ∷ more) held)
    ≡ Ready →
    is_some (found x held) ≡ true
ready_one x more held ready = by (is_some (found x held)) refl ready
  where
    by : (b : Bool) → is_some (found x held) ≡ b →
        waiting_for (if b then first_missing more held else Some x) ≡ Ready → is_some (found x held) ≡ true
    by true is ready = is
    by false is ready = cc

pub ready_rest : (x : Name) (more : List Name) (held : List Letter) →
    waiting_for (first_missing (x ∷ more) held) ≡ Ready → waiting_for (first_missing more held) ≡ Ready
ready_rest x more held ready = by (is_some (found x held)) ready
  where
    by : (b : Bool) → waiting_for (if b then first_missing more held else Some x) ≡ Ready →
        waiting_for (first_missing more held) ≡ Ready
    by true ready = ready
    by false ready = cc

pub ready_both : (a b : Bool) (x y : Name) (held : List Letter) →
    waiting_for (first_missing (name_if a x ++ name_if b y) held) ≡ Ready →
    (a ≡ true → is_some (found x held) ≡ true) × (b ≡ true → is_some (found y held) ≡ true)
ready_both true true x y held ready =
    (λ yes. ready_one x (y ∷ []) held ready, λ yes. ready_one y [] held (ready_rest x (y ∷ []) held ready))
ready_both true false x y held ready = (λ yes. ready_one x [] held ready, λ yes. cc)
ready_both false true x y held ready = (λ yes. cc, λ yes. ready_one y [] held ready)
ready_both false false x y held ready = (λ yes. cc, λ yes. cc)

-- ---- dropped bodies
pub name_stays : (xs : List Name) (l : Letter) → (emptied_under xs l).name ≡ l.name
name_stays xs l = by (has_name l.name xs)
  where
    by : (b : Bool) → (if b then record l { body = [] } else l).name ≡ l.name
    by true = refl
    by false = refl

pub found_emptied : (xs : List Name) (x : Name) (held : List Letter) →
    found x (emptied xs held) ≡ option_map (emptied_under xs) (found x held)
found_emptied xs x [] = refl
found_emptied xs x (y ∷ ys) =
    ap (λ n. if same_name n x then Some (emptied_under xs y) else found x (emptied xs ys)) (name_stays xs y)
    ∙ by (same_name y.name x) (found_emptied xs x ys)
  where
    by : (b : Bool) → found x (emptied xs ys) ≡ option_map (emptied_under xs) (found x ys) →
        (if b then Some (emptied_under xs y) else found x (emptied xs ys)) ≡
        option_map (emptied_under xs) (if b then Some y else found x ys)
    by true rest = refl
    by false rest = rest

-- and a body under another name
pub still_whole : (xs : List Name) (x : Name) (held : List Letter) → has_name x xs ≡ false →
    found x (emptied xs held) ≡ found x held
still_whole xs x held other = found_emptied xs x held ∙ by (found x held) refl
  where
    by : (o : Option Letter) → found x held ≡ o → option_map (emptied_under xs) o ≡ o
    by None is = refl
    by (Some l) is =
        ap (λ b. Some (if b then record l { body = [] } else l))
        (ap (λ n. has_name n xs) (found_name x held l is) ∙ other)

-- a loop state that isn't used at a standing isn't used at an earlier one
pub still_ahead : (a b : Standing) (x : Name) → place_of a ≤ place_of b → is_used b x ≡ false → is_used a x ≡ false
still_ahead a b x le late =
    not_before (place_of (record { spot = Scan x.round (x.step + 1) x.half; round = x.round })) (place_of b)
    (place_of a)
    le late
  where
    not_before : (n high low : ℕ) → low ≤ high → nat_lt n high ≡ false → nat_lt n low ≡ false
    not_before n high low le is = grind (arith, nat_tests)
