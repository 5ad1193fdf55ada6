-- What the action of a spot does: it leads on, and passes no other spot of its machine.
use Rattle.std.proofs.Common.{◌≡◌, ◌≢◌, ◌⊎◌, ℕ, ◌+◌, ◌-◌, ◌*◌, ◌<◌, ◌≤◌, true, false, refl, ap, sym, ◌∙◌, inl, inr, arith, ⊎_elim}
use Rattle.std.proofs.lemmas.Bool.{cases_lt, cases_eq, false≢true}
use Rattle.vert_base.specs.declared.value.Ruling.{Ruling}
use Rattle.vert_base.specs.declared.value.Ruling.TheVariants.{Stop, Dense, Sparse}
use Rattle.circulant_plan.specs.declared.spot.Ring.{Ring}
use Rattle.circulant_plan.specs.declared.spot.Spot.{Spot}
use Rattle.circulant_plan.specs.declared.spot.Spot.TheVariants.{Tell, Judge, Begin, Scan, Close, Over}
use Rattle.circulant_plan.specs.Standing.{Standing, standing_at, next_standing, round_of, place_of}
use Rattle.circulant_plan.specs.Deliveries.{HasSpot, place_at}
use Rattle.circulant_plan.specs.Skeleton.{is_over}
use Rattle.circulant_plan.proofs.StandingLaws.{is_zero, not_zero, below_true, below_false}

-- a ring of at most 64 machines, and for each round a mode, which is never stop
pub record Course : Type 0 where
  pub ring : Ring
  pub few : ring.machines ≤ 64
  pub mode : ℕ → Ruling
  pub not_stop : (r : ℕ) → mode r ≢ Stop

abbrev pub course_by : (ring : Ring) → ring.machines ≤ 64 → (mode : ℕ → Ruling) → ((r : ℕ) → mode r ≢ Stop) → Course
course_by ring few mode not_stop = record { ring = ring; few = few; mode = mode; not_stop = not_stop }

dense_not_sparse : Dense ≡ Sparse → ⊥
dense_not_sparse e = grind arith

-- the action of a spot, by this ruling
abbrev pub next_of : Ring → ℕ → Ruling → Spot → Standing
next_of ring m ruling spot = next_standing ring m ruling (standing_at 0 spot)

module _ (course : Course) (m : ℕ) (within : m < course.ring.machines) where
  open course use {ring, few, mode, not_stop}

  -- the spots of machine m
  abbrev pub IsSpot : Spot → Type 0
  IsSpot spot = HasSpot ring m (mode (round_of 0 spot)) spot

  -- a spot of machine m, whose place is from a on and before b
  pub record Lies (a b : ℕ) (t : Spot) : Type 0 where
    pub has : IsSpot t
    pub going : is_over t ≡ false
    pub low : a ≤ place_at t
    pub high : place_at t < b

  -- the place after Tell or a close: that of the judge at machine 0, elsewhere that of the next begin
  abbrev IsAfter : ℕ → ℕ → Type 0
  IsAfter r b = ((m ≡ 0) × (b ≡ 256 * r + 255)) ⊎ ((m ≢ 0) × (b ≡ 256 * r + 256))

  after_254 : (r b : ℕ) → IsAfter r b → b ≤ 256 * r + 256
  after_254 r b (inl e) = let f = e.1 in omega arith
  after_254 r b (inr e) = let f = e.1 in omega arith

  no_judge : (r q b : ℕ) → IsAfter r b → m ≡ 0 → 256 * q + 255 < b → q < r
  no_judge r q b (inl e) has lt = let f = e.1 in omega arith
  no_judge r q b (inr e) has lt = absurd (e.0 has)

  tell_between : (b : ℕ) → IsAfter 0 b → (t : Spot) → Lies 254 b t → t ≡ Tell
  tell_between b at Tell lies = refl
  tell_between b at (Judge q) lies =
      absurd
      (let low = lies.low in
      let high = lies.high in
      let n = no_judge 0 q b at lies.has lies.high in
      omega arith)
  tell_between b at (Begin q) lies =
      absurd (let low = lies.low in let high = lies.high in let n = after_254 0 b at in omega arith)
  tell_between b at (Scan q s h) lies =
      absurd
      (let low = lies.low in
      let high = lies.high in
      let n = after_254 0 b at in
      let some = lies.has.0 in
      omega arith)
  tell_between b at (Close q true) lies =
      absurd
      (let low = lies.low in
      let high = lies.high in
      let n = after_254 0 b at in
      let some = lies.has.0 in
      omega arith)
  tell_between b at (Close q false) lies =
      absurd
      (let low = lies.low in
      let high = lies.high in
      let n = after_254 0 b at in
      let some = lies.has.0 in
      omega arith)
  tell_between b at Over lies = absurd (false≢true (sym lies.going))

  close_true_between : (r b : ℕ) → HasSpot ring m (mode r) (Close r true) →
      IsAfter r b → (t : Spot) → Lies (256 * r + 254) b t → t ≡ Close r true
  close_true_between r b has at Tell lies = absurd (let low = lies.low in let high = lies.high in omega arith)
  close_true_between r b has at (Judge q) lies =
      absurd
      (let low = lies.low in
      let high = lies.high in
      let n = no_judge r q b at lies.has lies.high in
      omega arith)
  close_true_between r b has at (Begin q) lies =
      absurd (let low = lies.low in let high = lies.high in let n = after_254 r b at in omega arith)
  close_true_between r b has at (Scan q s h) lies =
      absurd
      (let low = lies.low in
      let high = lies.high in
      let n = after_254 r b at in
      let step = lies.has.1 in
      let half = lies.has.2 in
      omega arith)
  close_true_between r b has at (Close q true) lies =
      let low = lies.low in
      let high = lies.high in
      let n = after_254 r b at in
      let e : q ≡ r = omega arith in
      ap (λ i. Close i true) e
  close_true_between r b has at (Close q false) lies =
      absurd
      (let low = lies.low in
      let high = lies.high in
      let n = after_254 r b at in
      let e : q ≡ r = omega arith in
      dense_not_sparse (sym has.1 ∙ ap mode (sym e) ∙ lies.has.1))
  close_true_between r b has at Over lies = absurd (false≢true (sym lies.going))

  close_false_between : (r b : ℕ) → HasSpot ring m (mode r) (Close r false) →
      IsAfter r b → (t : Spot) → Lies (256 * r + 254) b t → t ≡ Close r false
  close_false_between r b has at Tell lies = absurd (let low = lies.low in let high = lies.high in omega arith)
  close_false_between r b has at (Judge q) lies =
      absurd
      (let low = lies.low in
      let high = lies.high in
      let n = no_judge r q b at lies.has lies.high in
      omega arith)
  close_false_between r b has at (Begin q) lies =
      absurd (let low = lies.low in let high = lies.high in let n = after_254 r b at in omega arith)
  close_false_between r b has at (Scan q s h) lies =
      absurd
      (let low = lies.low in
      let high = lies.high in
      let n = after_254 r b at in
      let step = lies.has.1 in
      let half = lies.has.2 in
      omega arith)
  close_false_between r b has at (Close q false) lies =
      let low = lies.low in
      let high = lies.high in
      let n = after_254 r b at in
      let e : q ≡ r = omega arith in
      ap (λ i. Close i false) e
  close_false_between r b has at (Close q true) lies =
      absurd
      (let low = lies.low in
      let high = lies.high in
      let n = after_254 r b at in
      let e : q ≡ r = omega arith in
      dense_not_sparse (sym lies.has.1 ∙ ap mode e ∙ has.1))
  close_false_between r b has at Over lies = absurd (false≢true (sym lies.going))

  judge_between : (r : ℕ) (t : Spot) → Lies (256 * r + 255) (256 * r + 256) t → t ≡ Judge r
  judge_between r Tell lies = absurd (let low = lies.low in let high = lies.high in omega arith)
  judge_between r (Judge q) lies =
      let low = lies.low in let high = lies.high in let e : q ≡ r = omega arith in ap (λ i. Judge i) e
  judge_between r (Begin q) lies = absurd (let low = lies.low in let high = lies.high in omega arith)
  judge_between r (Scan q s h) lies =
      absurd
      (let low = lies.low in
      let high = lies.high in
      let step = lies.has.1 in
      let half = lies.has.2 in
      omega arith)
  judge_between r (Close q dense) lies = absurd (let low = lies.low in let high = lies.high in omega arith)
  judge_between r Over lies = absurd (false≢true (sym lies.going))

  -- with no scan between them: the round is a sparse one, or the place after the begin is the next
  begin_between : (r b : ℕ) → 1 ≤ r → (mode r ≡ Sparse) ⊎ (b ≡ 256 * r + 1) → b ≤ 256 * r + 254 →
      (t : Spot) → Lies (256 * r) b t → t ≡ Begin r
  begin_between r b later sparse near Tell lies = absurd (let low = lies.low in let high = lies.high in omega arith)
  begin_between r b later sparse near (Judge q) lies =
      absurd (let low = lies.low in let high = lies.high in omega arith)
  begin_between r b later sparse near (Begin q) lies =
      let low = lies.low in let high = lies.high in let e : q ≡ r = omega arith in ap (λ i. Begin i) e
  begin_between r b later (inl sparse) near (Scan q s h) lies =
      absurd
      (let low = lies.low in
      let high = lies.high in
      let step = lies.has.1 in
      let half = lies.has.2 in
      let e : q ≡ r = omega arith in
      dense_not_sparse (sym lies.has.3 ∙ ap mode e ∙ sparse))
  begin_between r b later (inr one) near (Scan q s h) lies =
      absurd
      (let low = lies.low in
      let high = lies.high in
      let step = lies.has.1 in
      let half = lies.has.2 in
      omega arith)
  begin_between r b later sparse near (Close q dense) lies =
      absurd (let low = lies.low in let high = lies.high in omega arith)
  begin_between r b later sparse near Over lies = absurd (false≢true (sym lies.going))

  scan_between : (r s h b : ℕ) → HasSpot ring m (mode r) (Scan r s h) →
      (b ≡ 256 * r + 1 + 2 * s + h + 1) ⊎ ((b ≡ 256 * r + 254) × (h ≡ 1) × (ring.machines ≤ s + 1)) →
      (t : Spot) → Lies (256 * r + (1 + 2 * s + h)) b t →
      t ≡ Scan r s h
  scan_between r s h b has (inl e) Tell lies = absurd (let low = lies.low in let high = lies.high in omega arith)
  scan_between r s h b has (inr e) Tell lies =
      absurd (let low = lies.low in let high = lies.high in let f = e.0 in omega arith)
  scan_between r s h b has (inl e) (Judge q) lies = absurd (let low = lies.low in let high = lies.high in omega arith)
  scan_between r s h b has (inr e) (Judge q) lies =
      absurd (let low = lies.low in let high = lies.high in let f = e.0 in omega arith)
  scan_between r s h b has (inl e) (Begin q) lies = absurd (let low = lies.low in let high = lies.high in omega arith)
  scan_between r s h b has (inr e) (Begin q) lies =
      absurd (let low = lies.low in let high = lies.high in let f = e.0 in omega arith)
  scan_between r s h b has (inl e) (Scan q u j) lies =
      let low = lies.low in
      let high = lies.high in
      let step = has.1 in
      let half = has.2 in
      let step2 = lies.has.1 in
      let half2 = lies.has.2 in
      let e1 : q ≡ r = omega arith in
      let e2 : u ≡ s = omega arith in
      let e3 : j ≡ h = omega arith in
      ap (λ i. Scan i u j) e1 ∙ ap (λ i. Scan r i j) e2 ∙ ap (λ i. Scan r s i) e3
  scan_between r s h b has (inr e) (Scan q u j) lies =
      let low = lies.low in
      let high = lies.high in
      let step = has.1 in
      let half = has.2 in
      let step2 = lies.has.1 in
      let half2 = lies.has.2 in
      let f0 = e.0 in
      let f1 = e.1 in
      let f2 = e.2 in
      let e1 : q ≡ r = omega arith in
      let e2 : u ≡ s = omega arith in
      let e3 : j ≡ h = omega arith in
      ap (λ i. Scan i u j) e1 ∙ ap (λ i. Scan r i j) e2 ∙ ap (λ i. Scan r s i) e3
  scan_between r s h b has (inl e) (Close q d) lies = absurd (let low = lies.low in let high = lies.high in omega arith)
  scan_between r s h b has (inr e) (Close q d) lies =
      absurd (let low = lies.low in let high = lies.high in let f = e.0 in omega arith)
  scan_between r s h b has e Over lies = absurd (false≢true (sym lies.going))

  -- what the action of a spot does
  pub record Acts (ruling : Ruling) (spot : Spot) : Type 0 where
    pub later : place_at spot < place_of (next_of ring m ruling spot)
    pub near : place_of (next_of ring m ruling spot) ≤ 256 * round_of 0 spot + 256
    pub has : HasSpot ring m (mode (next_of ring m ruling spot).round) (next_of ring m ruling spot).spot
    pub round : (next_of ring m ruling spot).round ≡ round_of (next_of ring m ruling spot).round
        (next_of ring m ruling spot).spot
    pub between : (t : Spot) → Lies (place_at spot) (place_of (next_of ring m ruling spot)) t → t ≡ spot

  -- the same between places that are no nearer
  moved : (a b c d : ℕ) (t : Spot) → Lies a b t → c ≤ a → b ≤ d → Lies c d t
  moved a b c d t lies low high = record {
    has = lies.has;
    going = lies.going;
    low = let l = lies.low in omega arith;
    high = let l = lies.high in omega arith;
  }

  pub acts : (ruling : Ruling) (spot : Spot) → IsSpot spot → is_over spot ≡ false →
      ((r : ℕ) → spot ≡ Begin r → ruling ≡ mode r) → Acts ruling spot
  acts ruling Tell has going mine =
      ⊎_elim
      (λ (e : m ≡ 0).
      let b = is_zero m e in
      record {
        later = rw b (omega arith);
        near = rw b (omega arith);
        has = rw b e;
        round = rw b refl;
        between = rw b (tell_between 255 (inl (e, omega arith)));
      })
      (λ (ne : m ≢ 0).
      let b = not_zero m ne in
      record {
        later = rw b (omega arith);
        near = rw b (omega arith);
        has = rw b (omega arith);
        round = rw b refl;
        between = rw b (tell_between 256 (inr (ne, omega arith)));
      })
      (cases_eq m 0)
  acts Stop (Judge r) has going mine =
      record {
        later = omega arith;
        near = omega arith;
        has = tt;
        round = refl;
        between = λ t lies. judge_between r t (moved _ _ _ _ t lies (omega arith) (omega arith));
      }
  acts Dense (Judge r) has going mine =
      record {
        later = omega arith;
        near = omega arith;
        has = omega arith;
        round = refl;
        between = λ t lies. judge_between r t (moved _ _ _ _ t lies (omega arith) (omega arith));
      }
  acts Sparse (Judge r) has going mine =
      record {
        later = omega arith;
        near = omega arith;
        has = omega arith;
        round = refl;
        between = λ t lies. judge_between r t (moved _ _ _ _ t lies (omega arith) (omega arith));
      }
  acts Stop (Begin r) has going mine = absurd (not_stop r (sym (mine r refl)))
  acts Dense (Begin r) has going mine =
      record {
        later = omega arith;
        near = omega arith;
        has = (has, omega arith, omega arith, sym (mine r refl));
        round = refl;
        between =
            λ t lies.
            begin_between r (256 * r + 1) has (inr refl) (omega arith) t
            (moved _ _ _ _ t lies (omega arith) (omega arith));
      }
  acts Sparse (Begin r) has going mine =
      record {
        later = omega arith;
        near = omega arith;
        has = (has, sym (mine r refl));
        round = refl;
        between =
            λ t lies.
            begin_between r (256 * r + 254) has (inl (sym (mine r refl))) (omega arith) t
            (moved _ _ _ _ t lies (omega arith) (omega arith));
      }
  acts ruling (Scan r s h) has going mine =
      let some = has.0 in let step = has.1 in let half = has.2 in let dense = has.3 in
      ⊎_elim
      (λ (first : h ≡ 0). let b = is_zero h first in record {
        later = rw b (omega arith);
        near = rw b (omega arith);
        has = rw b (some, step, omega arith, dense);
        round = rw b refl;
        between =
            rw b
            (λ t lies.
            scan_between r s h (256 * r + 1 + 2 * s + h + 1) has (inl refl) t
            (moved _ _ _ _ t lies (omega arith) (omega arith)));
      })
      (λ (second : h ≢ 0).
      let b = not_zero h second in
      ⊎_elim
      (λ (more : s < ring.machines - 1). let c = below_true s (ring.machines - 1) more in record {
        later = rw (b, c) (omega arith);
        near = rw (b, c) (omega arith);
        has = rw (b, c) (some, omega arith, omega arith, dense);
        round = rw (b, c) refl;
        between =
            rw (b, c)
            (λ t lies.
            scan_between r s h (256 * r + 1 + 2 * s + h + 1) has (inl refl) t
            (moved _ _ _ _ t lies (omega arith) (omega arith)));
      })
      (λ (last : ring.machines - 1 ≤ s). let c = below_false s (ring.machines - 1) last in record {
        later = rw (b, c) (omega arith);
        near = rw (b, c) (omega arith);
        has = rw (b, c) (some, dense);
        round = rw (b, c) refl;
        between =
            rw (b, c)
            (λ t lies.
            scan_between r s h (256 * r + 254) has (inr (refl, omega arith, omega arith)) t
            (moved _ _ _ _ t lies (omega arith) (omega arith)));
      })
      (cases_lt s (ring.machines - 1)))
      (cases_eq h 0)
  acts ruling (Close r true) has going mine =
      ⊎_elim
      (λ (e : m ≡ 0).
      let b = is_zero m e in
      record {
        later = rw b (omega arith);
        near = rw b (omega arith);
        has = rw b e;
        round = rw b refl;
        between = rw b (close_true_between r (256 * r + 255) has (inl (e, refl)));
      })
      (λ (ne : m ≢ 0).
      let b = not_zero m ne in
      record {
        later = rw b (omega arith);
        near = rw b (omega arith);
        has = rw b (omega arith);
        round = rw b refl;
        between =
            rw b
            (λ t lies.
            close_true_between r (256 * r + 256) has (inr (ne, refl)) t
            (moved _ _ _ _ t lies (omega arith) (omega arith)));
      })
      (cases_eq m 0)
  acts ruling (Close r false) has going mine =
      ⊎_elim
      (λ (e : m ≡ 0).
      let b = is_zero m e in
      record {
        later = rw b (omega arith);
        near = rw b (omega arith);
        has = rw b e;
        round = rw b refl;
        between = rw b (close_false_between r (256 * r + 255) has (inl (e, refl)));
      })
      (λ (ne : m ≢ 0).
      let b = not_zero m ne in
      record {
        later = rw b (omega arith);
        near = rw b (omega arith);
        has = rw b (omega arith);
        round = rw b refl;
        between =
            rw b
            (λ t lies.
            close_false_between r (256 * r + 256) has (inr (ne, refl)) t
            (moved _ _ _ _ t lies (omega arith) (omega arith)));
      })
      (cases_eq m 0)
  acts ruling Over has going mine = absurd (false≢true (sym going))
