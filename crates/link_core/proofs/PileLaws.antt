-- Piles in the order of names: what one more and one fewer do to the count of each name, and to the order.
use Rattle.std.proofs.Common.{◌≡◌, ℕ, ◌+◌, ◌-◌, ◌<◌, ◌≤◌, Bool, true, false, List, [], ◌∷◌, refl, ap, sym, ◌∙◌, subst, arith, lit≤}
use Rattle.std.specs.Prelude.{if◌then◌else◌, min, nat_le}
use Rattle.std.specs.List.{AllByRecursion}
use Rattle.std.proofs.lemmas.Bool.{false≢true}
use Rattle.std.proofs.lemmas.Bool.Decides.{nat_tests}
use Rattle.vert_base.specs.declared.message.Name.{Name}
use Rattle.vert_base.specs.Names.{is_before, numbers_of, same_name}
use Rattle.vert_base.proofs.LetterLaws.{names_law, same_self}
use Rattle.vert_base.proofs.NameOrder.{along, apart, apart_back, total}
use Rattle.link_core.specs.declared.pile.Pile.{Pile}
use Rattle.link_core.specs.Piles.{ArePiles, Ascend, IsPile, count_of, fallen, fewer, more, one_of, risen}

-- every pile is behind x
abbrev pub Behind : Name → List Pile → Type 0
Behind x ps = AllByRecursion (λ (p : Pile). is_before x p.name ≡ true) ps

pub behind_along : (x y : Name) (ps : List Pile) → is_before x y ≡ true → Behind y ps → Behind x ps
behind_along x y [] e all = tt
behind_along x y (p ∷ ps) e all = (
  along (numbers_of x) (numbers_of y) (numbers_of p.name) e all.0,
  behind_along x y ps e all.1,
)

-- a name before all others has no pile
pub record IsAbsent (x : Name) (ps : List Pile) : Type 0 where
  pub none : count_of x ps ≡ 0
  pub whole : fewer x ps ≡ ps

pub past_other : (x : Name) (p : Pile) (ps : List Pile) → same_name p.name x ≡ false → IsAbsent x ps →
    IsAbsent x (p ∷ ps)
past_other x p ps other rest = record {
  none = ap (λ (b : Bool). if b then p.count else count_of x ps) other ∙ rest.none;
  whole =
      ap (λ (b : Bool). if b then if nat_le p.count 1 then ps else fallen p ∷ ps else p ∷ fewer x ps) other
      ∙ ap (λ (r : List Pile). p ∷ r) rest.whole;
}

pub none_behind : (x : Name) (ps : List Pile) → Behind x ps → IsAbsent x ps
none_behind x [] all = record { none = refl; whole = refl }
none_behind x (p ∷ ps) all = past_other x p ps (apart_back (numbers_of p.name) (numbers_of x) all.0)
    (none_behind x ps all.1)

-- the first pile is before the others
first_before : (x : Name) (p : Pile) (ps : List Pile) → Ascend (p ∷ ps) → is_before p.name x ≡ false →
    same_name p.name x ≡ false → Behind x (p ∷ ps)
first_before x p ps up late other =
    let less : is_before x p.name ≡ true = total (numbers_of p.name) (numbers_of x) late other in
    (less, behind_along x p.name ps less up.0)

both_same : (x y z : Name) → same_name x y ≡ true → same_name z y ≡ true → same_name z x ≡ true
both_same x y z e f =
    subst (λ n. same_name z n ≡ true) (names_law z y f ∙ sym (names_law x y e)) (same_self (numbers_of z))

-- ---- one more
abbrev grown : ℕ → ℕ
grown n = min (n + 1) 255

-- past a pile of another name
module _ (x y : Name) (p : Pile) (f : ℕ → ℕ) (n m : ℕ) where
  past_count : (s t : Bool) → same_name x y ≡ s → same_name p.name y ≡ t → same_name p.name x ≡ false →
      (if t then p.count else if s then f n else m) ≡ (if s then f (if same_name p.name x then p.count else n)
      else if t then p.count else m)
  past_count true true e g other = absurd (false≢true (sym other ∙ both_same x y p.name e g))
  past_count true false e g other = ap (λ (b : Bool). f (if b then p.count else n)) (sym other)
  past_count false true e g other = refl
  past_count false false e g other = refl

-- at the pile of the name
at_count : (x y : Name) (p : Pile) (f : ℕ → ℕ) (n m : ℕ) → same_name p.name x ≡ true →
    (if same_name p.name y then f p.count else m)
    ≡ (if same_name x y then f (if same_name p.name x then p.count else n) else if same_name p.name y then p.count
    else m)
at_count x y p f n m same =
    subst (λ z. (if same_name z y then f p.count else m)
    ≡ (if same_name x y then f (if same_name p.name x then p.count else n) else if same_name z y then p.count else m))
    (sym (names_law p.name x same)) (choose (same_name x y))
  where
    choose : (b : Bool) → (if b then f p.count else m)
        ≡ (if b then f (if same_name p.name x then p.count else n) else if b then p.count else m)
    choose true = ap (λ (c : Bool). f (if c then p.count else n)) (sym same)
    choose false = refl

new_count : (x y : Name) (qs : List Pile) → count_of x qs ≡ 0 →
    (if same_name x y then 1 else count_of y qs) ≡ (if same_name x y then grown (count_of x qs) else count_of y qs)
new_count x y qs none = ap (λ (n : ℕ). if same_name x y then grown n else count_of y qs) (sym none)

module _ (x y : Name) (p : Pile) (ps : List Pile) where
  count_more_step : (b c : Bool) → is_before p.name x ≡ b → same_name p.name x ≡ c → Ascend (p ∷ ps) →
      count_of y (more x ps) ≡ (if same_name x y then grown (count_of x ps) else count_of y ps) →
      count_of y (if b then p ∷ more x ps else if c then risen p ∷ ps else one_of x ∷ p ∷ ps) ≡ (if same_name x
      y then grown (count_of x (p ∷ ps)) else count_of y (p ∷ ps))
  count_more_step true c e f up rest =
      ap (λ (n : ℕ). if same_name p.name y then p.count else n) rest
      ∙ past_count x y p grown (count_of x ps) (count_of y ps) (same_name x y) (same_name p.name y) refl refl
      (apart (numbers_of p.name) (numbers_of x) e)
  count_more_step false true e f up rest = at_count x y p grown (count_of x ps) (count_of y ps) f
  count_more_step false false e f up rest =
      new_count x y (p ∷ ps) (none_behind x (p ∷ ps) (first_before x p ps up e f)).none

pub count_more : (x y : Name) (ps : List Pile) → Ascend ps →
    count_of y (more x ps) ≡ (if same_name x y then min (count_of x ps + 1) 255 else count_of y ps)
count_more x y [] up = refl
count_more x y (p ∷ ps) up =
    count_more_step x y p ps (is_before p.name x) (same_name p.name x) refl refl up (count_more x y ps up.1)

-- ---- one fewer
none_either : (b : Bool) → ◌≡◌ {A = ℕ} 0 (if b then 0 else 0)
none_either true = refl
none_either false = refl

last_count : (x y : Name) (p : Pile) (ps : List Pile) (s : Bool) → same_name x y ≡ s → p.count ≤ 1 →
    Behind x ps → count_of y ps ≡ (if s then p.count - 1 else count_of y ps)
last_count x y p ps true e few up =
    let same : x ≡ y = names_law x y e in
    let none : count_of y ps ≡ 0 = (none_behind y ps (subst (λ n. Behind n ps) same up)).none in
    omega arith
last_count x y p ps false e few up = refl

few_from : (n : ℕ) → nat_le n 1 ≡ true → n ≤ 1
few_from n e = grind (arith, nat_tests)

count_last : (x y : Name) (p : Pile) (ps : List Pile) → same_name p.name x ≡ true → nat_le p.count 1 ≡ true →
    Ascend (p ∷ ps) →
    count_of y ps ≡ (if same_name x y then count_of x (p ∷ ps) - 1 else count_of y (p ∷ ps))
count_last x y p ps same few up =
    last_count x y p ps (same_name x y) refl (few_from p.count few)
    (subst (λ n. Behind n ps) (names_law p.name x same) up.0)
    ∙ over (same_name x y) refl
  where
    over : (s : Bool) → same_name x y ≡ s →
        (if s then p.count - 1 else count_of y ps) ≡ (if s then count_of x (p ∷ ps) - 1 else count_of y (p ∷ ps))
    over true e = ap (λ (b : Bool). (if b then p.count else count_of x ps) - 1) (sym same)
    over false e =
        ap (λ (b : Bool). if b then p.count else count_of y ps)
        (sym (ap (λ n. same_name n y) (names_law p.name x same) ∙ e))

module _ (x y : Name) (p : Pile) (ps : List Pile) where
  count_fewer_step : (b c : Bool) → same_name p.name x ≡ b → nat_le p.count 1 ≡ c → Ascend (p ∷ ps) →
      count_of y (fewer x ps) ≡ (if same_name x y then count_of x ps - 1 else count_of y ps) →
      count_of y (if b then if c then ps else fallen p ∷ ps else p ∷ fewer x ps) ≡ (if same_name x y then
      count_of x (p ∷ ps) - 1 else count_of y (p ∷ ps))
  count_fewer_step true true e f up rest = count_last x y p ps e f up
  count_fewer_step true false e f up rest = at_count x y p (λ n. n - 1) (count_of x ps) (count_of y ps) e
  count_fewer_step false c e f up rest =
      ap (λ (n : ℕ). if same_name p.name y then p.count else n) rest
      ∙ past_count x y p (λ n. n - 1) (count_of x ps) (count_of y ps) (same_name x y) (same_name p.name y) refl refl e

pub count_fewer : (x y : Name) (ps : List Pile) → Ascend ps →
    count_of y (fewer x ps) ≡ (if same_name x y then count_of x ps - 1 else count_of y ps)
count_fewer x y [] up = none_either (same_name x y)
count_fewer x y (p ∷ ps) up =
    count_fewer_step x y p ps (same_name p.name x) (nat_le p.count 1) refl refl up (count_fewer x y ps up.1)

-- ---- the order stays
module _ (w x : Name) (p : Pile) (ps rest : List Pile) where
  behind_more_step : (b c : Bool) → is_before w x ≡ true → Behind w (p ∷ ps) → Behind w rest →
      Behind w (if b then p ∷ rest else if c then risen p ∷ ps else one_of x ∷ p ∷ ps)
  behind_more_step true c e all after = (all.0, after)
  behind_more_step false true e all after = all
  behind_more_step false false e all after = (e, all)

behind_more : (w x : Name) (ps : List Pile) → is_before w x ≡ true → Behind w ps → Behind w (more x ps)
behind_more w x [] e all = (e, tt)
behind_more w x (p ∷ ps) e all =
    behind_more_step w x p ps (more x ps) (is_before p.name x) (same_name p.name x) e all
    (behind_more w x ps e all.1)

module _ (x : Name) (p : Pile) (ps : List Pile) where
  more_step : (b c : Bool) → is_before p.name x ≡ b → same_name p.name x ≡ c → Ascend (p ∷ ps) →
      Ascend (more x ps) → Ascend (if b then p ∷ more x ps else if c then risen p ∷ ps else one_of x ∷ p ∷ ps)
  more_step true c e f up rest = (behind_more p.name x ps e up.0, rest)
  more_step false true e f up rest = up
  more_step false false e f up rest = (first_before x p ps up e f, up)

pub more_ascends : (x : Name) (ps : List Pile) → Ascend ps → Ascend (more x ps)
more_ascends x [] up = (tt, tt)
more_ascends x (p ∷ ps) up =
    more_step x p ps (is_before p.name x) (same_name p.name x) refl refl up (more_ascends x ps up.1)

behind_fewer_step : (w : Name) (p : Pile) (ps rest : List Pile) (b c : Bool) → Behind w (p ∷ ps) → Behind w rest →
    Behind w (if b then if c then ps else fallen p ∷ ps else p ∷ rest)
behind_fewer_step w p ps rest true true all after = all.1
behind_fewer_step w p ps rest true false all after = all
behind_fewer_step w p ps rest false c all after = (all.0, after)

behind_fewer : (w x : Name) (ps : List Pile) → Behind w ps → Behind w (fewer x ps)
behind_fewer w x [] all = tt
behind_fewer w x (p ∷ ps) all =
    behind_fewer_step w p ps (fewer x ps) (same_name p.name x) (nat_le p.count 1) all (behind_fewer w x ps all.1)

fewer_step : (x : Name) (p : Pile) (ps : List Pile) (b c : Bool) → Ascend (p ∷ ps) → Ascend (fewer x ps) →
    Ascend (if b then if c then ps else fallen p ∷ ps else p ∷ fewer x ps)
fewer_step x p ps true true up rest = up.1
fewer_step x p ps true false up rest = up
fewer_step x p ps false c up rest = (behind_fewer p.name x ps up.0, rest)

pub fewer_ascends : (x : Name) (ps : List Pile) → Ascend ps → Ascend (fewer x ps)
fewer_ascends x [] up = tt
fewer_ascends x (p ∷ ps) up =
    fewer_step x p ps (same_name p.name x) (nat_le p.count 1) up (fewer_ascends x ps up.1)

-- ---- and each is a pile
risen_is : (p : Pile) → IsPile p → IsPile (risen p)
risen_is p is = record { some = (let some = is.some in omega arith); few = omega arith }

fallen_is : (p : Pile) → IsPile p → nat_le p.count 1 ≡ false → IsPile (fallen p)
fallen_is p is many = record {
  some = (let above : 1 < p.count = grind (arith, nat_tests) in omega arith);
  few = (let few = is.few in omega arith);
}

piles_more_step : (x : Name) (p : Pile) (ps rest : List Pile) (b c : Bool) → AllByRecursion IsPile (p ∷ ps) →
    AllByRecursion IsPile rest →
    AllByRecursion IsPile (if b then p ∷ rest else if c then risen p ∷ ps else one_of x ∷ p ∷ ps)
piles_more_step x p ps rest true c all after = (all.0, after)
piles_more_step x p ps rest false true all after = (risen_is p all.0, all.1)
piles_more_step x p ps rest false false all after = (record { some = lit≤ tt; few = lit≤ tt }, all)

piles_more : (x : Name) (ps : List Pile) → AllByRecursion IsPile ps → AllByRecursion IsPile (more x ps)
piles_more x [] all = (record { some = lit≤ tt; few = lit≤ tt }, tt)
piles_more x (p ∷ ps) all =
    piles_more_step x p ps (more x ps) (is_before p.name x) (same_name p.name x) all (piles_more x ps all.1)

piles_fewer_step : (p : Pile) (ps rest : List Pile) (b c : Bool) → nat_le p.count 1 ≡ c →
    AllByRecursion IsPile (p ∷ ps) → AllByRecursion IsPile rest →
    AllByRecursion IsPile (if b then if c then ps else fallen p ∷ ps else p ∷ rest)
piles_fewer_step p ps rest true true e all after = all.1
piles_fewer_step p ps rest true false e all after = (fallen_is p all.0 e, all.1)
piles_fewer_step p ps rest false c e all after = (all.0, after)

piles_fewer : (x : Name) (ps : List Pile) → AllByRecursion IsPile ps → AllByRecursion IsPile (fewer x ps)
piles_fewer x [] all = tt
piles_fewer x (p ∷ ps) all =
    piles_fewer_step p ps (fewer x ps) (same_name p.name x) (nat_le p.count 1) refl all (piles_fewer x ps all.1)

pub more_are : (x : Name) (ps : List Pile) → ArePiles ps → ArePiles (more x ps)
more_are x ps are = record { ascend = more_ascends x ps are.ascend; each = piles_more x ps are.each }

pub fewer_are : (x : Name) (ps : List Pile) → ArePiles ps → ArePiles (fewer x ps)
fewer_are x ps are = record { ascend = fewer_ascends x ps are.ascend; each = piles_fewer x ps are.each }
