-- Where the machines stand, as a list.
use Rattle.std.proofs.Common.{◌≡◌, ◌≢◌, ℕ, zero, suc, ◌+◌, ◌<◌, true, false, List, [], ◌∷◌, length, Some, refl, ap, sym, arith, ⊎_elim, slice_get}
use Rattle.std.specs.Prelude.{slice_set}
use Rattle.std.specs.List.{list_all}
use Rattle.std.proofs.lemmas.Bool.{false≢true, and_parts, and_cases}
use Rattle.circulant_plan.specs.Standing.{Standing, first_standing}
use Rattle.circulant_plan.specs.Skeleton.{Blocks, is_over}
use Rattle.circulant_plan.specs.Remaining.{way_left, ways_left}

-- where a machine stands
abbrev pub standing_of : List Standing → ℕ → Standing
standing_of [] m = first_standing
standing_of (s ∷ ss) zero = s
standing_of (s ∷ ss) (suc m) = standing_of ss m

pub got : (ss : List Standing) (m : ℕ) → m < length ss → slice_get ss m ≡ Some (standing_of ss m)
got [] m lt = absurd (omega arith)
got (s ∷ ss) zero lt = refl
got (s ∷ ss) (suc m) lt = got ss m (omega arith)

pub set_length : (ss : List Standing) (m : ℕ) (s : Standing) → length (slice_set ss m s) ≡ length ss
set_length [] m s = refl
set_length (t ∷ ss) zero s = refl
set_length (t ∷ ss) (suc m) s = ap suc (set_length ss m s)

pub set_here : (ss : List Standing) (m : ℕ) (s : Standing) → m < length ss → standing_of (slice_set ss m s) m ≡ s
set_here [] m s lt = absurd (omega arith)
set_here (t ∷ ss) zero s lt = refl
set_here (t ∷ ss) (suc m) s lt = set_here ss m s (omega arith)

pub set_other : (ss : List Standing) (m j : ℕ) (s : Standing) → j ≢ m →
    standing_of (slice_set ss m s) j ≡ standing_of ss j
set_other [] m j s ne = refl
set_other (t ∷ ss) zero zero s ne = absurd (ne refl)
set_other (t ∷ ss) zero (suc j) s ne = refl
set_other (t ∷ ss) (suc m) zero s ne = refl
set_other (t ∷ ss) (suc m) (suc j) s ne = set_other ss m j s (λ e. ne (ap suc e))

pub set_sum : (blocks : Blocks) (ss : List Standing) (m : ℕ) (s : Standing) → m < length ss →
    ways_left blocks (slice_set ss m s) + way_left blocks
    (standing_of ss m) ≡ ways_left blocks ss + way_left blocks s
set_sum blocks [] m s lt = absurd (omega arith)
set_sum blocks (t ∷ ss) zero s lt = omega arith
set_sum blocks (t ∷ ss) (suc m) s lt = omega (arith, set_sum blocks ss m s (omega arith))

-- all are over, or one isn't
pub all_over_at : (ss : List Standing) (m : ℕ) → list_all (λ s. is_over s.spot) ss ≡ true → m < length ss →
    is_over (standing_of ss m).spot ≡ true
all_over_at [] m all lt = absurd (omega arith)
all_over_at (s ∷ ss) zero all lt = (and_parts (is_over s.spot) (list_all (λ t. is_over t.spot) ss) all).0
all_over_at (s ∷ ss) (suc m) all lt =
    all_over_at ss m (and_parts (is_over s.spot) (list_all (λ t. is_over t.spot) ss) all).1 (omega arith)

pub all_over_from : (ss : List Standing) →
    ((m : ℕ) → m < length ss → is_over (standing_of ss m).spot ≡ true) →
    list_all (λ s. is_over s.spot) ss ≡ true
all_over_from [] all = refl
all_over_from (s ∷ ss) all =
    let first : is_over s.spot ≡ true = all 0 (omega arith) in
    let more = all_over_from ss (λ m lt. all (suc m) (omega arith)) in
    rw first more

pub one_going : (ss : List Standing) → list_all (λ s. is_over s.spot) ss ≡ false →
    (m : ℕ) × (m < length ss) × (is_over (standing_of ss m).spot ≡ false)
one_going [] none = absurd (false≢true (sym none))
one_going (s ∷ ss) none =
    ⊎_elim
    (λ (e : is_over s.spot ≡ false). (0, omega arith, e))
    (λ (more : list_all (λ t. is_over t.spot) ss ≡ false).
    let one = one_going ss more in
    let lt = one.1 in
    (suc one.0, omega arith, one.2))
    (and_cases (is_over s.spot) (list_all (λ t. is_over t.spot) ss) none)
