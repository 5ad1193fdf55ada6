-- The place of a name among piles, and what stands there.
use Rattle.std.proofs.Common.{◌≡◌, ℕ, zero, suc, ◌<◌, ◌≤◌, Bool, true, false, List, [], ◌∷◌, length, refl, ap, sym, ◌∙◌, arith}
use Rattle.std.specs.Prelude.{if◌then◌else◌, nat_le, slice_index_or}
use Rattle.std.specs.List.Sorted.{IsPartitionPoint, IsPartitionedBy}
use Rattle.std.proofs.lemmas.Bool.Decides.{nat_tests}
use Rattle.vert_base.specs.declared.message.Name.{Name}
use Rattle.vert_base.specs.Names.{is_before, numbers_of, same_name}
use Rattle.vert_base.proofs.NameOrder.{along, apart, apart_back, total}
use Rattle.link_core.specs.declared.pile.Pile.{Pile}
use Rattle.link_core.specs.Piles.{Ascend, count_of, fallen, fewer, more, one_of, risen}
use Rattle.link_core.specs.PilePlaces.{HasNoPile, IsPileAt, place_of}
use Rattle.link_core.proofs.PileLaws.{Behind, IsAbsent, behind_along, none_behind, past_other}

-- an element within a list, whatever stands for none
pub same_item : (ps : List Pile) (i : ℕ) (d e : Pile) → i < length ps → slice_index_or ps i d ≡ slice_index_or ps i e
same_item [] i d e lt = absurd (omega (arith, lt))
same_item (p ∷ ps) zero d e lt = refl
same_item (p ∷ ps) (suc i) d e lt = same_item ps i d e (omega (arith, lt))

behind_at : (x : Name) (ps : List Pile) (j : ℕ) (d : Pile) → Behind x ps → j < length ps →
    is_before x (slice_index_or ps j d).name ≡ true
behind_at x [] j d all lt = absurd (omega (arith, lt))
behind_at x (p ∷ ps) zero d all lt = all.0
behind_at x (p ∷ ps) (suc j) d all lt = behind_at x ps j d all.1 (omega (arith, lt))

pub parted : (x : Name) (ps : List Pile) → Ascend ps → IsPartitionedBy (λ (p : Pile). is_before p.name x) ps
parted x [] up i j d le lt e = absurd (omega (arith, lt))
parted x (p ∷ ps) up zero zero d le lt e = e
parted x (p ∷ ps) up zero (suc j) d le lt e =
    along (numbers_of p.name) (numbers_of (slice_index_or ps j d).name) (numbers_of x)
    (behind_at p.name ps j d up.0 (omega (arith, lt))) e
parted x (p ∷ ps) up (suc i) zero d le lt e = absurd (omega (arith, le))
parted x (p ∷ ps) up (suc i) (suc j) d le lt e = parted x ps up.1 i j d (omega (arith, le)) (omega (arith, lt)) e

pub point_is : (x : Name) (ps : List Pile) (i : ℕ) → i ≤ length ps →
    IsPartitionPoint (λ (p : Pile). is_before p.name x ≡ true) (λ (p : Pile). is_before p.name x ≡ false) ps i →
    i ≡ place_of x ps
point_is x [] i le point = omega (arith, le)
point_is x (p ∷ ps) zero le point =
    sym (ap (λ (b : Bool). if b then suc (place_of x ps) else 0) (point.1 0 p (omega arith) (omega arith)))
point_is x (p ∷ ps) (suc i) le point =
    let rest : i ≡ place_of x ps =
    point_is x ps i (omega (arith, le)) (
      λ k d lo hi. point.0 (suc k) d (omega arith) (omega (arith, hi)),
      λ k d lo hi. point.1 (suc k) d (omega (arith, lo)) (omega (arith, hi)),
    ) in
    ap suc rest ∙ sym (ap (λ (b : Bool). if b then suc (place_of x ps) else 0)
    (point.0 0 p (omega arith) (omega arith)))

-- ---- no pile has the name where its place is the end, or another name stands there
none_later : (x : Name) (p : Pile) (ps : List Pile) (at : ℕ) → is_before p.name x ≡ true → HasNoPile x ps at →
    HasNoPile x (p ∷ ps) (suc at)
none_later x p ps at e rest =
    let absent : IsAbsent x ps = record { none = rest.none; whole = rest.fewer_is } in
    let gone = past_other x p ps (apart (numbers_of p.name) (numbers_of x) e) absent in
    record {
      within = omega (arith, rest.within);
      none = gone.none;
      more_is =
          ap (λ (b : Bool). if b then p ∷ more x ps else if same_name p.name x then risen p ∷ ps
          else one_of x ∷ p ∷ ps) e
          ∙ ap (λ (r : List Pile). p ∷ r) rest.more_is;
      fewer_is = gone.whole;
    }

none_here : (x : Name) (p : Pile) (ps : List Pile) → is_before p.name x ≡ false → is_before x p.name ≡ true →
    Ascend (p ∷ ps) → HasNoPile x (p ∷ ps) 0
none_here x p ps e less up =
    let behind : Behind x (p ∷ ps) = (less, behind_along x p.name ps less up.0) in
    let gone = none_behind x (p ∷ ps) behind in
    record {
      within = omega arith;
      none = gone.none;
      more_is =
          ap (λ (b : Bool). if b then p ∷ more x ps else if same_name p.name x then risen p ∷ ps
          else one_of x ∷ p ∷ ps) e
          ∙ ap (λ (b : Bool). if b then risen p ∷ ps else one_of x ∷ p ∷ ps)
          (apart_back (numbers_of p.name) (numbers_of x) less);
      fewer_is = gone.whole;
    }

missing_step : (x : Name) (p : Pile) (ps : List Pile) (b : Bool) → is_before p.name x ≡ b → Ascend (p ∷ ps) →
    (((d : Pile) → place_of x ps < length ps → is_before x (slice_index_or ps (place_of x ps) d).name ≡ true) →
    HasNoPile x ps (place_of x ps)) →
    ((d : Pile) → (if b then suc (place_of x ps) else 0) < suc (length ps) →
    is_before x (slice_index_or (p ∷ ps) (if b then suc (place_of x ps) else 0) d).name ≡ true) →
    HasNoPile x (p ∷ ps) (if b then suc (place_of x ps) else 0)
missing_step x p ps true e up next gone =
    none_later x p ps (place_of x ps) e (next (λ d lt. gone d (omega (arith, lt))))
missing_step x p ps false e up next gone = none_here x p ps e (gone p (omega arith)) up

pub missing : (x : Name) (ps : List Pile) → Ascend ps →
    ((d : Pile) → place_of x ps < length ps → is_before x (slice_index_or ps (place_of x ps) d).name ≡ true) →
    HasNoPile x ps (place_of x ps)
missing x [] up gone = record { within = omega arith; none = refl; more_is = refl; fewer_is = refl }
missing x (p ∷ ps) up gone = missing_step x p ps (is_before p.name x) refl up (missing x ps up.1) gone

-- ---- the pile of a name stands in its place
same_if : (b : Bool) → (b ≡ false → false ≡ true) → b ≡ true
same_if true f = refl
same_if false f = f refl

is_few : (n : ℕ) → n ≤ 1 → nat_le n 1 ≡ true
is_few n le = grind (arith, nat_tests)

are_many : (n : ℕ) → 1 < n → nat_le n 1 ≡ false
are_many n lt = grind (arith, nat_tests)

abbrev left_at : Pile → List Pile → List Pile → Bool → List Pile
left_at p ps rest b = if b then if nat_le p.count 1 then ps else fallen p ∷ ps else p ∷ rest

at_first : (x : Name) (p : Pile) (ps : List Pile) → is_before p.name x ≡ false → same_name p.name x ≡ true →
    IsPileAt x (p ∷ ps) 0
at_first x p ps e same = record {
  within = omega arith;
  count = λ d. ap (λ (b : Bool). if b then p.count else count_of x ps) same;
  more_is = λ d.
      ap (λ (b : Bool). if b then p ∷ more x ps else if same_name p.name x then risen p ∷ ps
      else one_of x ∷ p ∷ ps) e
      ∙ ap (λ (b : Bool). if b then risen p ∷ ps else one_of x ∷ p ∷ ps) same;
  last_is = λ d few. ap (left_at p ps (fewer x ps)) same
      ∙ ap (λ (b : Bool). if b then ps else fallen p ∷ ps) (is_few p.count few);
  fewer_is = λ d many. ap (left_at p ps (fewer x ps)) same
      ∙ ap (λ (b : Bool). if b then ps else fallen p ∷ ps) (are_many p.count many);
}

at_later : (x : Name) (p : Pile) (ps : List Pile) (at : ℕ) → is_before p.name x ≡ true → IsPileAt x ps at →
    IsPileAt x (p ∷ ps) (suc at)
at_later x p ps at e there =
    let other : same_name p.name x ≡ false = apart (numbers_of p.name) (numbers_of x) e in
    record {
      within = omega (arith, there.within);
      count = λ d. ap (λ (b : Bool). if b then p.count else count_of x ps) other ∙ there.count d;
      more_is = λ d.
          ap (λ (b : Bool). if b then p ∷ more x ps else if same_name p.name x then risen p ∷ ps
          else one_of x ∷ p ∷ ps) e
          ∙ ap (λ (r : List Pile). p ∷ r) (there.more_is d);
      last_is = λ d few. ap (left_at p ps (fewer x ps)) other ∙ ap (λ (r : List Pile). p ∷ r) (there.last_is d few);
      fewer_is = λ d many. ap (left_at p ps (fewer x ps)) other
          ∙ ap (λ (r : List Pile). p ∷ r) (there.fewer_is d many);
    }

there_step : (x : Name) (p : Pile) (ps : List Pile) (b : Bool) → is_before p.name x ≡ b →
    (place_of x ps < length ps →
    ((d : Pile) → is_before x (slice_index_or ps (place_of x ps) d).name ≡ false) → IsPileAt x ps (place_of x ps)) →
    (if b then suc (place_of x ps) else 0) < suc (length ps) →
    ((d : Pile) → is_before x (slice_index_or (p ∷ ps) (if b then suc (place_of x ps) else 0) d).name ≡ false) →
    IsPileAt x (p ∷ ps) (if b then suc (place_of x ps) else 0)
there_step x p ps true e next lt stands =
    at_later x p ps (place_of x ps) e (next (omega (arith, lt)) (λ d. stands d))
there_step x p ps false e next lt stands =
    at_first x p ps e
    (same_if (same_name p.name x) (λ other. sym (stands p) ∙ total (numbers_of p.name) (numbers_of x) e other))

pub there : (x : Name) (ps : List Pile) → place_of x ps < length ps →
    ((d : Pile) → is_before x (slice_index_or ps (place_of x ps) d).name ≡ false) → IsPileAt x ps (place_of x ps)
there x [] lt stands = absurd (omega (arith, lt))
there x (p ∷ ps) lt stands = there_step x p ps (is_before p.name x) refl (there x ps) lt stands
