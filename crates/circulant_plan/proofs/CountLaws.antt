-- How many actions a round has, and how many messages they send.
use Rattle.std.proofs.Common.{◌≡◌, ℕ, zero, suc, ◌+◌, ◌-◌, ◌*◌, ◌<◌, ◌≤◌, true, false, List, [], ◌∷◌, ◌++◌, length, map, refl, ap, ◌∙◌, arith}
use Rattle.std.specs.List.{flat_map, range_with_len, sum_by}
use Rattle.std.proofs.lemmas.List.{length-append, length-map}
use Rattle.std.proofs.lemmas.List.Concat.{flat_map-append}
use Rattle.std.proofs.lemmas.List.FromFn.{length-range_with_len}
use Rattle.std.proofs.lemmas.List.Sums.{sum_by-cons}
use Rattle.vert_base.specs.declared.message.Name.{Name}
use Rattle.vert_base.specs.declared.value.Ruling.{Ruling}
use Rattle.vert_base.specs.declared.value.Ruling.TheVariants.{Dense, Sparse}
use Rattle.circulant_plan.specs.declared.spot.Ring.{Ring}
use Rattle.circulant_plan.specs.declared.spot.Spot.TheVariants.{Scan, Close}
use Rattle.circulant_plan.specs.Names.{refresh_name, push_name, dep_name, verdict_name}
use Rattle.circulant_plan.specs.Ring.{after_machine}
use Rattle.circulant_plan.specs.Table.{others_of, name_if, gives_of, tally_gives}
use Rattle.circulant_plan.specs.Counts.{judges_of, scans_of, first_spots, round_spots, gifts_at, over_machines, goes_in, takes_in, RoundsAreCounted}
use Rattle.circulant_plan.proofs.StandingLaws.{not_zero, below_true, below_false}
use Rattle.circulant_plan.proofs.TableLaws.{pairs_length}

sum_same : (f : ℕ → ℕ) (b a n : ℕ) → ((m : ℕ) → a ≤ m → m < a + n → f m ≡ b) → sum_by f (range_with_len a n) ≡ n * b
sum_same f b a zero all = omega arith
sum_same f b a (suc n) all =
    sum_by-cons f a (range_with_len (a + 1) n)
    ∙ (let first = all a (omega arith) (omega arith) in
    let rest = sum_same f b (a + 1) n (λ m low high. all m (omega arith) (omega arith)) in
    omega (arith, first, rest))

-- machine 0 counts for itself, and the q others alike
sum_first : (f : ℕ → ℕ) (a b p q : ℕ) → p ≡ suc q → f 0 ≡ a → ((m : ℕ) → 1 ≤ m → m < p → f m ≡ b) →
    over_machines p f ≡ a + q * b
sum_first f a b p q e first all =
    ap (λ n. over_machines n f) e
    ∙ (sum_by-cons f 0 (range_with_len 1 q)
    ∙ (let rest = sum_same f b 1 q (λ m low high. all m low (omega arith)) in omega (arith, first, rest)))

length-others : (p m : ℕ) → m < p → length (others_of p m) ≡ p - 1
length-others p m lt =
    length-append (range_with_len 0 m) (range_with_len (m + 1) (p - 1 - m))
    ∙ omega (arith, length-range_with_len 0 m, length-range_with_len (m + 1) (p - 1 - m))

judges_one : (r : ℕ) → length (judges_of 0 r) ≡ 1
judges_one r = refl

judges_none : (m r : ℕ) → 1 ≤ m → judges_of m r ≡ []
judges_none m r some = let b = not_zero m (λ e. omega arith) in rw b refl

tally_none : (r : ℕ) → length (tally_gives 0 r) ≡ 0
tally_none r = refl

tally_one : (m r : ℕ) → 1 ≤ m → length (tally_gives m r) ≡ 1
tally_one m r some = let b = not_zero m (λ e. omega arith) in rw b refl

pub length-map_others : (f : ℕ → Name) (p m : ℕ) → m < p → length (map f (others_of p m)) ≡ p - 1
length-map_others f p m lt = length-map (others_of p m) f ∙ length-others p m lt

length-flat_map_append : {X Y : Type 0} (f : X → List Y) (xs ys : List X) →
    length (flat_map f (xs ++ ys)) ≡ length (flat_map f xs) + length (flat_map f ys)
length-flat_map_append f xs ys = ap length (flat_map-append f xs ys) ∙ length-append (flat_map f xs) (flat_map f ys)

goes_total : (p q : ℕ) → p ≡ suc q → (2 * p + 3) + q * (2 * p + 2) ≡ p * (2 * p + 2) + 1
goes_total p q e = rw e (omega arith)

-- what each machine sends in a round, summed
takes_total : (p q c : ℕ) → p ≡ suc q → (c + 1) * q + q * (c * q + 1) ≡ c * p * (p - 1) + 2 * (p - 1)
takes_total p q c e = let less : p - 1 ≡ q = omega arith in rw less (rw e (omega arith))

module _ (ring : Ring) (q : ℕ) (more : ring.machines ≡ suc q) where
  judge_gifts_first : (r : ℕ) (ruling : Ruling) → length (gifts_at ring 0 ruling (judges_of 0 r)) ≡ q
  judge_gifts_first r ruling =
      length-append (map (verdict_name (r + 1)) (others_of ring.machines 0)) []
      ∙ (let len = length-map_others (verdict_name (r + 1)) ring.machines 0 (omega arith) in omega (arith, len))

  judge_gifts_other : (m r : ℕ) (ruling : Ruling) → 1 ≤ m → length (gifts_at ring m ruling (judges_of m r)) ≡ 0
  judge_gifts_other m r ruling some = ap (λ spots. length (gifts_at ring m ruling spots)) (judges_none m r some)

  -- a tally or the verdicts
  end_gifts_first : (r : ℕ) (ruling : Ruling) → length (tally_gives 0 r ++ gifts_at ring 0 ruling (judges_of 0 r)) ≡ q
  end_gifts_first r ruling = judge_gifts_first r ruling

  end_gifts_other : (m r : ℕ) (ruling : Ruling) → 1 ≤ m →
      length (tally_gives m r ++ gifts_at ring m ruling (judges_of m r)) ≡ 1
  end_gifts_other m r ruling some =
      length-append (tally_gives m r) (gifts_at ring m ruling (judges_of m r))
      ∙ omega (arith, tally_one m r some, judge_gifts_other m r ruling some)

  first_goes_are : over_machines ring.machines (λ m. length (first_spots m)) ≡ ring.machines + 1
  first_goes_are =
      sum_first (λ m. length (first_spots m)) 2 1 ring.machines q more refl
      (λ m some within. let none = ap length (judges_none m 0 some) in omega (arith, none))
      ∙ omega arith

  first_takes_are : (ruling : Ruling) →
      over_machines ring.machines (λ m. length (gifts_at ring m ruling (first_spots m))) ≡ 2 *
      (ring.machines - 1)
  first_takes_are ruling =
      sum_first (λ m. length (gifts_at ring m ruling (first_spots m))) q 1 ring.machines q more
      (end_gifts_first 0 ruling)
      (λ m some within. end_gifts_other m 0 ruling some)
      ∙ omega arith

  sparse_goes_are : (r : ℕ) → goes_in ring r Sparse ≡ 2 * ring.machines + 1
  sparse_goes_are r =
      sum_first (λ m. length (round_spots ring m r Sparse)) 3 2 ring.machines q more refl
      (λ m some within. let none = ap length (judges_none m r some) in omega (arith, none))
      ∙ omega arith

  sparse_gifts : (m r : ℕ) → m < ring.machines →
      length (gifts_at ring m Sparse (round_spots ring m r Sparse)) ≡ q + length
      (tally_gives m r ++ gifts_at ring m Sparse (judges_of m r))
  sparse_gifts m r within =
      length-append (map (push_name r m) (others_of ring.machines m))
      (tally_gives m r ++ gifts_at ring m Sparse (judges_of m r))
      ∙ (let len = length-map_others (push_name r m) ring.machines m within in omega (arith, len))

  sparse_takes_are : (r : ℕ) → takes_in ring r Sparse ≡ ring.machines * (ring.machines - 1) + 2 * (ring.machines - 1)
  sparse_takes_are r =
      sum_first (λ m. length (gifts_at ring m Sparse (round_spots ring m r Sparse))) (q + q)
      (q + 1) ring.machines q more
      (let head = sparse_gifts 0 r (omega arith) in omega (arith, head, end_gifts_first r Sparse))
      (λ m some within. let head = sparse_gifts m r within in omega (arith, head, end_gifts_other m r Sparse some))
      ∙ (let total = takes_total ring.machines q 1 more in omega (arith, total))

  dense_spots : (m r : ℕ) → length (round_spots ring m r Dense) ≡ 2 * ring.machines + 2 + length (judges_of m r)
  dense_spots m r =
      let rest = length-append (scans_of ring.machines r) (Close r true ∷ judges_of m r) in
      let scans = pairs_length (λ s h. Scan r s h) 0 ring.machines in
      omega (arith, rest, scans)

  dense_goes_are : (r : ℕ) → goes_in ring r Dense ≡ ring.machines * (2 * ring.machines + 2) + 1
  dense_goes_are r =
      sum_first (λ m. length (round_spots ring m r Dense)) (2 * ring.machines + 3)
      (2 * ring.machines + 2) ring.machines q more
      (let all = dense_spots 0 r in omega (arith, all, judges_one r))
      (λ m some within.
      let all = dense_spots m r in
      let none = ap length (judges_none m r some) in
      omega (arith, all, none))
      ∙ goes_total ring.machines q more

  module _ (w : ℕ) (states : (x : Name) → length (name_if ring.carry x) ≡ w) where
    -- one scan before the last step, and one of the last step
    scan_early : (m r s h : ℕ) → s < q → length (gives_of ring m (Scan r s h) Dense) ≡ 1 + w
    scan_early m r s h early =
        let b = below_true s (ring.machines - 1) (omega arith) in
        rw b (omega (arith, states (dep_name r s h m (after_machine m ring.machines))))

    scan_last : (m r s h : ℕ) → q ≤ s → gives_of ring m (Scan r s h) Dense ≡ []
    scan_last m r s h last = let b = below_false s (ring.machines - 1) (omega arith) in rw b refl

    scans_gifts : (m r j a : ℕ) → a + j ≡ q →
        length
        (gifts_at ring m Dense (flat_map (λ s. Scan r s 0 ∷ Scan r s 1 ∷ []) (range_with_len a (suc j)))) ≡
        j *
        (2 * (1 + w))
    scans_gifts m r zero a e =
        ap (λ ys. length (ys ++ (gives_of ring m (Scan r a 1) Dense ++ []))) (scan_last m r a 0 (omega arith))
        ∙ (ap (λ ys. length (ys ++ [])) (scan_last m r a 1 (omega arith)) ∙ omega arith)
    scans_gifts m r (suc j) a e =
        let rest = flat_map (λ s. Scan r s 0 ∷ Scan r s 1 ∷ []) (range_with_len (a + 1) (suc j)) in
        let one = gives_of ring m (Scan r a 0) Dense in
        let two = gives_of ring m (Scan r a 1) Dense in
        let first = length-append one (two ++ gifts_at ring m Dense rest) in
        let second = length-append two (gifts_at ring m Dense rest) in
        let x = scan_early m r a 0 (omega arith) in
        let y = scan_early m r a 1 (omega arith) in
        let z = scans_gifts m r j (a + 1) (omega arith) in
        omega (arith, first, second, x, y, z)

    dense_gifts : (m r : ℕ) → m < ring.machines →
        length (gifts_at ring m Dense (round_spots ring m r Dense)) ≡ q + q * (2 * (1 + w)) + length
        (tally_gives m r ++ gifts_at ring m Dense (judges_of m r))
    dense_gifts m r within =
        let scans = scans_of ring.machines r in
        let end = Close r true ∷ judges_of m r in
        let head =
        length-append (map (refresh_name r m) (others_of ring.machines m))
        (gifts_at ring m Dense (scans ++ end)) in
        let len = length-map_others (refresh_name r m) ring.machines m within in
        let both = length-flat_map_append (λ spot. gives_of ring m spot Dense) scans end in
        let inner : length (gifts_at ring m Dense scans) ≡ q * (2 * (1 + w)) =
        ap (λ n. length (gifts_at ring m Dense (scans_of n r))) more ∙ scans_gifts m r q 0 (omega arith) in
        omega (arith, head, len, both, inner)

    dense_takes_are : (r : ℕ) → takes_in ring r Dense ≡ (2 * (1 + w) + 1 + 1) * q + q * ((2 * (1 + w) + 1) * q + 1)
    dense_takes_are r =
        sum_first (λ m. length (gifts_at ring m Dense (round_spots ring m r Dense)))
        ((2 * (1 + w) + 1 + 1) * q) ((2 * (1 + w) + 1) * q + 1) ring.machines q more
        (let all = dense_gifts 0 r (omega arith) in omega (arith, all, end_gifts_first r Dense))
        (λ m some within. let all = dense_gifts m r within in omega (arith, all, end_gifts_other m r Dense some))

  carry_takes_are : (r : ℕ) → ring.carry ≡ true →
      takes_in ring r Dense ≡ 5 * ring.machines * (ring.machines - 1) + 2 * (ring.machines - 1)
  carry_takes_are r carries = dense_takes_are 1 (λ x. rw carries refl) r ∙ takes_total ring.machines q 5 more

  plain_takes_are : (r : ℕ) → ring.carry ≡ false →
      takes_in ring r Dense ≡ 3 * ring.machines * (ring.machines - 1) + 2 * (ring.machines - 1)
  plain_takes_are r carries = dense_takes_are 0 (λ x. rw carries refl) r ∙ takes_total ring.machines q 3 more

pub rounds_are_counted : RoundsAreCounted
rounds_are_counted ring r some =
    let q = ring.machines - 1 in
    let more : ring.machines ≡ suc q = omega arith in
    record {
      first_goes = first_goes_are ring q more;
      first_takes = first_takes_are ring q more;
      dense_goes = dense_goes_are ring q more r;
      carry_takes = carry_takes_are ring q more r;
      plain_takes = plain_takes_are ring q more r;
      sparse_goes = sparse_goes_are ring q more r;
      sparse_takes = sparse_takes_are ring q more r;
    }
