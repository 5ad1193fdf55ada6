-- How many costs in front it takes to reach a sum.
use Rattle.std.proofs.Common.{◌≡◌, ℕ, zero, suc, ◌+◌, ◌-◌, ◌<◌, ◌≤◌, false, List, [], ◌∷◌, length, take, drop, sum, map, refl, ap, ◌∙◌, arith}
use Rattle.std.specs.Prelude.{nat_le}
use Rattle.std.specs.List.{range_with_len}
use Rattle.std.proofs.lemmas.List.{drop_all, drop_more}
use Rattle.std.proofs.lemmas.List.FromFn.{get_or-map-range_with_len, length-map-range_with_len}
use Rattle.std.proofs.lemmas.List.Sums.{sum_by-cons}
use Rattle.std.proofs.lemmas.Bool.Decides.{nat_tests}
use Rattle.chunk_split.specs.Bounds.{reach}

pub reach_none : (costs : List ℕ) → reach 0 costs ≡ 0
reach_none [] = refl
reach_none (c ∷ cs) = refl

pub reach_more : (need c : ℕ) (cs : List ℕ) → 0 < need → reach need (c ∷ cs) ≡ suc (reach (need - c) cs)
reach_more need c cs h =
    let more : nat_le need 0 ≡ false = grind (arith, nat_tests) in
    rw more refl

-- the least number of costs in front that reach `need`, or all
pub record IsFewest (need : ℕ) (costs : List ℕ) (n : ℕ) : Type 0 where
  pub within : n ≤ length costs
  pub reached : n < length costs → need ≤ sum (take n costs)
  pub least : (k : ℕ) → k < n → sum (take k costs) < need

fewest_at : (m c : ℕ) (cs : List ℕ) → IsFewest (suc m - c) cs (reach (suc m - c) cs) →
    reach (suc m) (c ∷ cs) ≡ suc (reach (suc m - c) cs) → (k : ℕ) → k < reach (suc m) (c ∷ cs) →
    sum (take k (c ∷ cs)) < suc m
fewest_at m c cs rest e zero h = omega arith
fewest_at m c cs rest e (suc k) h =
    let h' = rw e at h in
    let inner : k < reach (suc m - c) cs = omega arith in
    let here = rest.least k inner in
    omega (arith, sum_by-cons (λ x. x) c (take k cs))

pub reach_fewest : (need : ℕ) (costs : List ℕ) → IsFewest need costs (reach need costs)
reach_fewest need [] = record {
  within = omega arith;
  reached = λ h. absurd (omega arith);
  least = λ k h.
      absurd (omega arith);
}
reach_fewest zero (c ∷ cs) = record {
  within = omega arith;
  reached = λ _. omega arith;
  least = λ k h.
      absurd (omega arith);
}
reach_fewest (suc m) (c ∷ cs) =
    let some : 0 < suc m = omega arith in
    let e = reach_more (suc m) c cs some in
    let rest = reach_fewest (suc m - c) cs in
    record {
      within = rw e (omega (arith, rest.within));
      reached = λ h.
          let h' = rw e at h in
          let inner : reach (suc m - c) cs < length cs = omega arith in
          let here = rest.reached inner in
          rw e (omega (arith, sum_by-cons (λ x. x) c (take (reach (suc m - c) cs) cs)));
      least = λ k h. fewest_at m c cs rest e k h;
    }

-- the values from v on begin with that of v
pub values_from : (f : ℕ → ℕ) (n v : ℕ) → v < n → drop v (map f (range_with_len 0 n)) ≡ f v
    ∷ drop (v + 1) (map f (range_with_len 0 n))
values_from f n v lt =
    let within : v < length (map f (range_with_len 0 n)) = omega (arith, length-map-range_with_len f 0 n) in
    drop_more (map f (range_with_len 0 n)) v 0 within
    ∙ ap (λ x. x ∷ drop (v + 1) (map f (range_with_len 0 n))) (get_or-map-range_with_len f 0 n v v 0 lt (omega arith))

-- one vertex more on the way
pub reach_step : (need sum v c : ℕ) (costs rest : List ℕ) → costs ≡ c ∷ rest → sum < need →
    v + 1 + reach (need - (sum + c)) rest ≡ v + reach (need - sum) costs
reach_step need sum v c costs rest e low =
    let some : 0 < need - sum = omega arith in
    let here : reach (need - sum) costs ≡ suc (reach (need - sum - c) rest) = ap (reach (need - sum)) e
    ∙ reach_more (need - sum) c rest some in
    let less : need - sum - c ≡ need - (sum + c) = omega arith in
    let here' = rw less at here in
    omega arith

pub reach_done : (need sum : ℕ) (costs : List ℕ) → need ≤ sum → reach (need - sum) costs ≡ 0
reach_done need sum costs h = let none : need - sum ≡ 0 = omega arith in rw none (reach_none costs)

-- the sum of the values from v on
pub sum_step : (c : ℕ) (costs rest : List ℕ) → costs ≡ c ∷ rest → sum costs ≡ c + sum rest
sum_step c costs rest e = ap sum e ∙ sum_by-cons (λ x. x) c rest

-- past the vertices there are no values
pub none_from : (f : ℕ → ℕ) (n v : ℕ) → n ≤ v → drop v (map f (range_with_len 0 n)) ≡ []
none_from f n v le = drop_all v (map f (range_with_len 0 n)) (omega (arith, length-map-range_with_len f 0 n))
