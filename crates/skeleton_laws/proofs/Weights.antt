-- What a machine has done before a spot, as a sum over the spots of its list, each with a weight.
use Rattle.std.proofs.Common.{◌≡◌, ◌≢◌, ℕ, zero, suc, ◌+◌, ◌-◌, ◌<◌, ◌≤◌, Bool, true, false, ◌==◌, nat_lt, List, [], ◌∷◌, ◌++◌, refl, ap, sym, ◌∙◌, subst, arith, ⊎_elim}
use Rattle.std.specs.Prelude.{if◌then◌else◌}
use Rattle.std.specs.List.{flat_map, range_with_len}
use Rattle.std.proofs.lemmas.Bool.{cases_eq}
use Rattle.vert_base.specs.declared.value.Ruling.{Ruling}
use Rattle.vert_base.specs.declared.value.Ruling.TheVariants.{Stop, Dense, Sparse}
use Rattle.circulant_plan.specs.declared.spot.Ring.{Ring}
use Rattle.circulant_plan.specs.declared.spot.Spot.{Spot}
use Rattle.circulant_plan.specs.declared.spot.Spot.TheVariants.{Tell, Judge, Begin, Scan, Close, Over}
use Rattle.circulant_plan.specs.Counts.{judges_of, scans_of, first_spots, round_spots}
use Rattle.circulant_plan.specs.Standing.{Standing, round_of}
use Rattle.circulant_plan.specs.Skeleton.{ruling_in}
use Rattle.circulant_plan.proofs.StandingLaws.{is_zero, not_zero, below_true, below_false}
use Rattle.skeleton_laws.specs.Counted.{over_rounds, AreRounds}
use Rattle.skeleton_laws.proofs.GoFacts.{ruling_here, ruling_other}

-- the rulings made up to round z, of which all but the last are modes
abbrev pub Made : List (ℕ × Ruling) → ℕ → Type 0
Made [] z = z ≡ 0
Made (made ∷ more) z = (made.0 ≡ z) × (1 ≤ z) × AreRounds more (z - 1)

-- the sum over the rounds before round r
abbrev pub before : (ℕ → Ruling → ℕ) → ℕ → List (ℕ × Ruling) → ℕ
before f r [] = 0
before f r (made ∷ more) = (if nat_lt made.0 r then f made.0 made.1 else 0) + before f r more

before_all : (f : ℕ → Ruling → ℕ) (r n : ℕ) (rounds : List (ℕ × Ruling)) → AreRounds rounds n → n < r →
    before f r rounds ≡ over_rounds f rounds
before_all f r n [] are lt = refl
before_all f r n (made ∷ more) are lt =
    let e = are.0 in
    let some = are.1 in
    let b : nat_lt made.0 r ≡ true = below_true made.0 r (omega arith) in
    rw b (ap (λ q. f made.0 made.1 + q) (before_all f r (n - 1) more are.3 (omega arith)))

before_none : (f : ℕ → Ruling → ℕ) (n : ℕ) (rounds : List (ℕ × Ruling)) → AreRounds rounds n → before f 1 rounds ≡ 0
before_none f n [] are = refl
before_none f n (made ∷ more) are =
    let e = are.0 in
    let some = are.1 in
    let b : nat_lt made.0 1 ≡ false = below_false made.0 1 (omega arith) in
    let one : before f 1 (made ∷ more) ≡ 0 + before f 1 more =
    ap (λ q. (if q then f made.0 made.1 else 0) + before f 1 more) b in
    let none = before_none f (n - 1) more are.3 in
    omega arith

pub made_none : (f : ℕ → Ruling → ℕ) (z : ℕ) (rulings : List (ℕ × Ruling)) → Made rulings z → before f 1 rulings ≡ 0
made_none f z [] are = refl
made_none f z (made ∷ more) are =
    let e = are.0 in
    let some = are.1 in
    let b : nat_lt made.0 1 ≡ false = below_false made.0 1 (omega arith) in
    let one : before f 1 (made ∷ more) ≡ 0 + before f 1 more =
    ap (λ q. (if q then f made.0 made.1 else 0) + before f 1 more) b in
    let none = before_none f (z - 1) more are.2 in
    omega arith

-- a later ruling doesn't matter
pub before_later : (f : ℕ → Ruling → ℕ) (r n : ℕ) (a : Ruling) (rulings : List (ℕ × Ruling)) → r ≤ n →
    before f r ((n, a) ∷ rulings) ≡ before f r rulings
before_later f r n a rulings le =
    let b = below_false n r le in
    let one : before f r ((n, a) ∷ rulings) ≡ 0 + before f r rulings =
    ap (λ q. (if q then f n a else 0) + before f r rulings) b in
    omega arith

-- one round more
before_next_in : (f : ℕ → Ruling → ℕ) (r n : ℕ) (rounds : List (ℕ × Ruling)) → AreRounds rounds n → 1 ≤ r →
    r ≤ n → before f (r + 1) rounds ≡ before f r rounds + f r (ruling_in rounds r)
before_next_in f r n [] are some le = absurd (omega arith)
before_next_in f r n (made ∷ more) are some le =
    let e = are.0 in
    let b : nat_lt made.0 (r + 1) ≡ nat_lt made.0 (r + 1) = refl in
    ⊎_elim
    (λ (here : made.0 ≡ r).
    let now : nat_lt made.0 (r + 1) ≡ true = below_true made.0 (r + 1) (omega arith) in
    let not_yet : nat_lt made.0 r ≡ false = below_false made.0 r (omega arith) in
    let one : before f (r + 1) (made ∷ more) ≡ f made.0 made.1 + before f (r + 1) more =
    ap (λ q. (if q then f made.0 made.1 else 0) + before f (r + 1) more) now in
    let two : before f r (made ∷ more) ≡ 0 + before f r more =
    ap (λ q. (if q then f made.0 made.1 else 0) + before f r more) not_yet in
    let all_1 = before_all f (r + 1) (n - 1) more are.3 (omega arith) in
    let all_2 = before_all f r (n - 1) more are.3 (omega arith) in
    let found : ruling_in (made ∷ more) r ≡ made.1 =
    subst (λ q. ruling_in (made ∷ more) q ≡ made.1) here (ruling_here more made.1 made.0) in
    let value : f r (ruling_in (made ∷ more) r) ≡ f made.0 made.1 =
    ap (λ q. f r q) found ∙ ap (λ q. f q made.1) (sym here) in
    omega arith)
    (λ (ne : made.0 ≢ r).
    let now : nat_lt made.0 (r + 1) ≡ false = below_false made.0 (r + 1) (omega arith) in
    let not_yet : nat_lt made.0 r ≡ false = below_false made.0 r (omega arith) in
    let one : before f (r + 1) (made ∷ more) ≡ 0 + before f (r + 1) more =
    ap (λ q. (if q then f made.0 made.1 else 0) + before f (r + 1) more) now in
    let two : before f r (made ∷ more) ≡ 0 + before f r more =
    ap (λ q. (if q then f made.0 made.1 else 0) + before f r more) not_yet in
    let found : ruling_in (made ∷ more) r ≡ ruling_in more r = ruling_other more made.1 made.0 r ne in
    let value : f r (ruling_in (made ∷ more) r) ≡ f r (ruling_in more r) = ap (λ q. f r q) found in
    let rest = before_next_in f r (n - 1) more are.3 some (omega arith) in
    omega arith)
    (cases_eq made.0 r)

pub before_next : (f : ℕ → Ruling → ℕ) (r z : ℕ) (rulings : List (ℕ × Ruling)) → Made rulings z → 1 ≤ r →
    r ≤ z → before f (r + 1) rulings ≡ before f r rulings + f r (ruling_in rulings r)
before_next f r z [] are some le = absurd (omega arith)
before_next f r z (made ∷ more) are some le =
    let e = are.0 in
    ⊎_elim
    (λ (here : made.0 ≡ r).
    let now : nat_lt made.0 (r + 1) ≡ true = below_true made.0 (r + 1) (omega arith) in
    let not_yet : nat_lt made.0 r ≡ false = below_false made.0 r (omega arith) in
    let one : before f (r + 1) (made ∷ more) ≡ f made.0 made.1 + before f (r + 1) more =
    ap (λ q. (if q then f made.0 made.1 else 0) + before f (r + 1) more) now in
    let two : before f r (made ∷ more) ≡ 0 + before f r more =
    ap (λ q. (if q then f made.0 made.1 else 0) + before f r more) not_yet in
    let all_1 = before_all f (r + 1) (z - 1) more are.2 (omega arith) in
    let all_2 = before_all f r (z - 1) more are.2 (omega arith) in
    let found : ruling_in (made ∷ more) r ≡ made.1 =
    subst (λ q. ruling_in (made ∷ more) q ≡ made.1) here (ruling_here more made.1 made.0) in
    let value : f r (ruling_in (made ∷ more) r) ≡ f made.0 made.1 =
    ap (λ q. f r q) found ∙ ap (λ q. f q made.1) (sym here) in
    omega arith)
    (λ (ne : made.0 ≢ r).
    let now : nat_lt made.0 (r + 1) ≡ false = below_false made.0 (r + 1) (omega arith) in
    let not_yet : nat_lt made.0 r ≡ false = below_false made.0 r (omega arith) in
    let one : before f (r + 1) (made ∷ more) ≡ 0 + before f (r + 1) more =
    ap (λ q. (if q then f made.0 made.1 else 0) + before f (r + 1) more) now in
    let two : before f r (made ∷ more) ≡ 0 + before f r more =
    ap (λ q. (if q then f made.0 made.1 else 0) + before f r more) not_yet in
    let found : ruling_in (made ∷ more) r ≡ ruling_in more r = ruling_other more made.1 made.0 r ne in
    let value : f r (ruling_in (made ∷ more) r) ≡ f r (ruling_in more r) = ap (λ q. f r q) found in
    let rest = before_next_in f r (z - 1) more are.2 some (omega arith) in
    omega arith)
    (cases_eq made.0 r)

-- at the end: the last ruling is a stop, which has nothing
pub before_end : (f : ℕ → Ruling → ℕ) (z : ℕ) (rounds : List (ℕ × Ruling)) → 1 ≤ z →
    AreRounds rounds (z - 1) → before f z ((z, Stop) ∷ rounds) ≡ over_rounds f rounds
before_end f z rounds some are =
    before_later f z z Stop rounds (omega arith) ∙ before_all f z (z - 1) rounds are (omega arith)

-- sums over a list of spots
abbrev pub sum_of : (Spot → ℕ) → List Spot → ℕ
sum_of f [] = 0
sum_of f (x ∷ xs) = f x + sum_of f xs

sum_of-append : (f : Spot → ℕ) (xs ys : List Spot) → sum_of f (xs ++ ys) ≡ sum_of f xs + sum_of f ys
sum_of-append f [] ys = omega arith
sum_of-append f (x ∷ xs) ys = omega (arith, sum_of-append f xs ys)

-- the scans of the first steps
abbrev pub scans_to : (ℕ → ℕ → ℕ) → ℕ → ℕ
scans_to v zero = 0
scans_to v (suc s) = scans_to v s + (v s 0 + v s 1)

scans_from : (f : Spot → ℕ) (r a n : ℕ) →
    scans_to (λ s h. f (Scan r s h)) a + sum_of f
    (flat_map (λ s. Scan r s 0 ∷ Scan r s 1 ∷ []) (range_with_len a n)) ≡ scans_to (λ s h. f (Scan r s h))
    (a + n)
scans_from f r a zero = let e : a + 0 ≡ a = omega arith in rw e (omega arith)
scans_from f r a (suc n) =
    let more = scans_from f r (a + 1) n in
    let one : scans_to (λ s h. f (Scan r s h)) (a + 1) ≡ scans_to (λ s h. f (Scan r s h)) (suc a) =
    let e : a + 1 ≡ suc a = omega arith in
    ap (scans_to (λ s h. f (Scan r s h))) e in
    let two : scans_to (λ s h. f (Scan r s h)) (a + 1 + n) ≡ scans_to (λ s h. f (Scan r s h)) (a + suc n) =
    let e : a + 1 + n ≡ a + suc n = omega arith in
    ap (scans_to (λ s h. f (Scan r s h))) e in
    omega arith

scans_sum : (f : Spot → ℕ) (p r : ℕ) → sum_of f (scans_of p r) ≡ scans_to (λ s h. f (Scan r s h)) p
scans_sum f p r =
    let e = scans_from f r 0 p in
    let z : scans_to (λ s h. f (Scan r s h)) (0 + p) ≡ scans_to (λ s h. f (Scan r s h)) p =
    let q : 0 + p ≡ p = omega arith in
    ap (scans_to (λ s h. f (Scan r s h))) q in
    omega arith

-- weights of a machine's spots, which depend on the ruling at a begin alone
pub record Weighs (w : Ruling → Spot → ℕ) : Type 0 where
  pub tell : (a b : Ruling) → w a Tell ≡ w b Tell
  pub judge : (a b : Ruling) (r : ℕ) → w a (Judge r) ≡ w b (Judge r)
  pub scan : (a b : Ruling) (r s h : ℕ) → w a (Scan r s h) ≡ w b (Scan r s h)
  pub close : (a b : Ruling) (r : ℕ) (dense : Bool) → w a (Close r dense) ≡ w b (Close r dense)

-- the rulings of the round in which the machine is, as far as the spot tells them
abbrev pub Knows : Ring → List (ℕ × Ruling) → ℕ → Spot → Type 0
Knows ring rulings z Tell = Unit {0}
Knows ring rulings z (Judge r) = (r ≤ z) × (1 ≤ r → ruling_in rulings r ≢ Stop)
Knows ring rulings z (Begin r) = 1 ≤ r
Knows ring rulings z (Scan r s h) = (r ≤ z) × (1 ≤ r) × (ruling_in rulings r ≡ Dense) × (s < ring.machines) × (h ≤ 1)
Knows ring rulings z (Close r true) = (r ≤ z) × (1 ≤ r) × (ruling_in rulings r ≡ Dense)
Knows ring rulings z (Close r false) = (r ≤ z) × (1 ≤ r) × (ruling_in rulings r ≡ Sparse)
Knows ring rulings z Over = Unit {0}

-- a ruling for a later round leaves what is known
pub knows_later : (ring : Ring) (rulings : List (ℕ × Ruling)) (z : ℕ) (made : ℕ × Ruling) (spot : Spot) → z < made.0 →
    Knows ring rulings z spot → Knows ring (made ∷ rulings) z spot
knows_later ring rulings z made Tell lt knows = tt
knows_later ring rulings z made (Judge r) lt knows =
    let k = knows.0 in
    (knows.0, λ some stop. knows.1 some (sym (ruling_other rulings made.1 made.0 r (λ e. omega arith)) ∙ stop))
knows_later ring rulings z made (Begin r) lt knows = knows
knows_later ring rulings z made (Scan r s h) lt knows =
    let k = knows.0 in
    let same = ruling_other rulings made.1 made.0 r (λ e. omega arith) in
    (knows.0, knows.1, same ∙ knows.2, knows.3, knows.4)
knows_later ring rulings z made (Close r true) lt knows =
    let k = knows.0 in (knows.0, knows.1, ruling_other rulings made.1 made.0 r (λ e. omega arith) ∙ knows.2)
knows_later ring rulings z made (Close r false) lt knows =
    let k = knows.0 in (knows.0, knows.1, ruling_other rulings made.1 made.0 r (λ e. omega arith) ∙ knows.2)
knows_later ring rulings z made Over lt knows = tt

-- and so does a later round
pub knows_more : (ring : Ring) (rulings : List (ℕ × Ruling)) (z y : ℕ) (spot : Spot) → z ≤ y →
    Knows ring rulings z spot → Knows ring rulings y spot
knows_more ring rulings z y Tell le knows = tt
knows_more ring rulings z y (Judge r) le knows = let k = knows.0 in (omega arith, knows.1)
knows_more ring rulings z y (Begin r) le knows = knows
knows_more ring rulings z y (Scan r s h) le knows = let k = knows.0 in (omega arith, knows.1, knows.2, knows.3, knows.4)
knows_more ring rulings z y (Close r true) le knows = let k = knows.0 in (omega arith, knows.1, knows.2)
knows_more ring rulings z y (Close r false) le knows = let k = knows.0 in (omega arith, knows.1, knows.2)
knows_more ring rulings z y Over le knows = tt

module _ (ring : Ring) (w : Ruling → Spot → ℕ) (m : ℕ) where
  abbrev pub first_weight : ℕ
  first_weight = sum_of (w Stop) (first_spots m)

  abbrev pub round_weight : ℕ → Ruling → ℕ
  round_weight r a = sum_of (w a) (round_spots ring m r a)

  abbrev pub scans_weight : ℕ → ℕ → ℕ
  scans_weight r s = scans_to (λ i h. w Dense (Scan r i h)) s

  -- what stands before the judge of a round
  abbrev pub closed : ℕ → Ruling → ℕ
  closed r Stop = 0
  closed r Dense = w Dense (Begin r) + scans_weight r ring.machines + w Dense (Close r true)
  closed r Sparse = w Sparse (Begin r) + w Sparse (Close r false)

  abbrev pub start : List (ℕ × Ruling) → ℕ → ℕ
  start rulings r = first_weight + before round_weight r rulings

  abbrev pub judge_at : List (ℕ × Ruling) → ℕ → ℕ
  judge_at rulings zero = w Stop Tell
  judge_at rulings (suc r) = start rulings (suc r) + closed (suc r) (ruling_in rulings (suc r))

  pub judge_later : (rulings : List (ℕ × Ruling)) (r : ℕ) → 1 ≤ r →
      judge_at rulings r ≡ start rulings r + closed r (ruling_in rulings r)
  judge_later rulings zero some = absurd (omega arith)
  judge_later rulings (suc r) some = refl

  -- what the machine has done before it stands here
  abbrev pub done_at : List (ℕ × Ruling) → Spot → ℕ → ℕ
  done_at rulings Tell round = 0
  done_at rulings (Judge r) round = judge_at rulings r
  done_at rulings (Begin r) round = start rulings r
  done_at rulings (Scan r s h) round =
      start rulings r + w Dense (Begin r) + scans_weight r s + (if h == 0 then 0 else w Dense (Scan r s 0))
  done_at rulings (Close r true) round = start rulings r + w Dense (Begin r) + scans_weight r ring.machines
  done_at rulings (Close r false) round = start rulings r + w Sparse (Begin r)
  done_at rulings Over round = start rulings round

  abbrev pub done : List (ℕ × Ruling) → Standing → ℕ
  done rulings s = done_at rulings s.spot s.round

  -- a ruling for a later round changes nothing
  judge_same : (rulings : List (ℕ × Ruling)) (n : ℕ) (a : Ruling) (r : ℕ) → r < n →
      judge_at ((n, a) ∷ rulings) r ≡ judge_at rulings r
  judge_same rulings n a zero lt = refl
  judge_same rulings n a (suc r) lt =
      let b = before_later round_weight (suc r) n a rulings (omega arith) in
      let c = ap (closed (suc r)) (ruling_other rulings a n (suc r) (λ e. omega arith)) in
      omega arith

  -- a standing that is of a round before that of a new ruling, or at its begin
  pub record IsEarlier (rulings : List (ℕ × Ruling)) (n : ℕ) (s : Standing) : Type 0 where
    pub last : ℕ
    pub before : last < n
    pub within : s.round ≤ n
    pub round : s.round ≡ round_of s.round s.spot
    pub knows : Knows ring rulings last s.spot

  pub done_same : (rulings : List (ℕ × Ruling)) (made : ℕ × Ruling) (s : Standing) → IsEarlier rulings made.0 s →
      done (made ∷ rulings) s ≡ done rulings s
  done_same rulings made s early =
      at s.spot s.round early.within early.round early.knows where
        at : (spot : Spot) (round : ℕ) → round ≤ made.0 → round ≡ round_of round spot →
            Knows ring rulings early.last spot →
            done_at (made ∷ rulings) spot round ≡ done_at rulings spot round
        at Tell round le e knows = refl
        at (Judge r) round le e knows =
            judge_same rulings made.0 made.1 r (let k = knows.0 in let b = early.before in omega arith)
        at (Begin r) round le e knows =
            let b = before_later round_weight r made.0 made.1 rulings (omega arith) in omega arith
        at (Scan r s h) round le e knows =
            let b = before_later round_weight r made.0 made.1 rulings (omega arith) in omega arith
        at (Close r true) round le e knows =
            let b = before_later round_weight r made.0 made.1 rulings (omega arith) in omega arith
        at (Close r false) round le e knows =
            let b = before_later round_weight r made.0 made.1 rulings (omega arith) in omega arith
        at Over round le e knows =
            let b = before_later round_weight round made.0 made.1 rulings (omega arith) in omega arith

  pub no_judges : m ≢ 0 → (r : ℕ) (f : Spot → ℕ) → sum_of f (judges_of m r) ≡ 0
  no_judges ne r f = rw (not_zero m ne) refl

  one_judge : m ≡ 0 → (r : ℕ) (f : Spot → ℕ) → sum_of f (judges_of m r) ≡ f (Judge r)
  one_judge e r f = rw (is_zero m e) (omega arith)

  -- a whole round is what stands before the judge, and the judge where the machine judges
  dense_weight : (r : ℕ) → round_weight r Dense ≡ closed r Dense + sum_of (w Dense) (judges_of m r)
  dense_weight r =
      let a = sum_of-append (w Dense) (scans_of ring.machines r) (Close r true ∷ judges_of m r) in
      let b = scans_sum (w Dense) ring.machines r in
      omega arith

  sparse_weight : (r : ℕ) → round_weight r Sparse ≡ closed r Sparse + sum_of (w Sparse) (judges_of m r)
  sparse_weight r = omega arith

-- a machine with weights of its spots, and the rulings made up to round z
pub record Account : Type 0 where
  pub ring : Ring
  pub some : 1 ≤ ring.machines
  pub m : ℕ
  pub weight : Ruling → Spot → ℕ
  pub weighs : Weighs weight
  pub rulings : List (ℕ × Ruling)
  pub z : ℕ
  pub made : Made rulings z

module _ (account : Account) where
  open account use {ring, some, m, weight as w, weighs, rulings, z, made as are}

  pub next_round : (r : ℕ) → 1 ≤ r → r ≤ z →
      start ring w m rulings (r + 1) ≡ start ring w m rulings r + round_weight ring w m r (ruling_in rulings r)
  next_round r some le = let n = before_next (round_weight ring w m) r z rulings are some le in omega arith

  -- from the close to the next round
  pub close_dense : (r : ℕ) → m ≢ 0 → 1 ≤ r → r ≤ z → ruling_in rulings r ≡ Dense →
      start ring w m rulings (r + 1) ≡ done_at ring w m rulings (Close r true) r + w Dense (Close r true)
  close_dense r ne some le e =
      let n = next_round r some le in
      let v : round_weight ring w m r (ruling_in rulings r) ≡ round_weight ring w m r Dense =
      ap (round_weight ring w m r) e in
      let d = dense_weight ring w m r in
      let j = no_judges ring w m ne r (w Dense) in
      omega arith

  pub close_sparse : (r : ℕ) → m ≢ 0 → 1 ≤ r → r ≤ z → ruling_in rulings r ≡ Sparse →
      start ring w m rulings (r + 1) ≡ done_at ring w m rulings (Close r false) r + w Sparse (Close r false)
  close_sparse r ne some le e =
      let n = next_round r some le in
      let v : round_weight ring w m r (ruling_in rulings r) ≡ round_weight ring w m r Sparse =
      ap (round_weight ring w m r) e in
      let d = sparse_weight ring w m r in
      let j = no_judges ring w m ne r (w Sparse) in
      omega arith

  judge_round_weight : (a : Ruling) (r : ℕ) → m ≡ 0 → a ≢ Stop →
      round_weight ring w m r a ≡ closed ring w m r a + w Stop (Judge r)
  judge_round_weight Stop r first on = absurd (on refl)
  judge_round_weight Dense r first on =
      let d = dense_weight ring w m r in
      let j = one_judge ring w m first r (w Dense) in
      let e = weighs.judge Dense Stop r in
      omega arith
  judge_round_weight Sparse r first on =
      let d = sparse_weight ring w m r in
      let j = one_judge ring w m first r (w Sparse) in
      let e = weighs.judge Sparse Stop r in
      omega arith

  -- from the judge to the next round
  pub judge_on : (r : ℕ) (b : Ruling) → m ≡ 0 → r ≤ z → (1 ≤ r → ruling_in rulings r ≢ Stop) →
      start ring w m rulings (r + 1) ≡ judge_at ring w m rulings r + w b (Judge r)
  judge_on zero b first le on =
      let none = made_none (round_weight ring w m) z rulings are in
      let none' : before (round_weight ring w m) (0 + 1) rulings ≡ before (round_weight ring w m) 1 rulings =
      let e : 0 + 1 ≡ 1 = omega arith in
      ap (λ q. before (round_weight ring w m) q rulings) e in
      let j = one_judge ring w m first 0 (w Stop) in
      let e = weighs.judge Stop b 0 in
      omega arith
  judge_on (suc r) b first le on =
      let n = next_round (suc r) (omega arith) le in
      let v = judge_round_weight (ruling_in rulings (suc r)) (suc r) first (on (omega arith)) in
      let e = weighs.judge Stop b (suc r) in
      omega arith
