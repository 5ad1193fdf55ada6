-- An action adds the weight of its spot to what its machine has done.
use Rattle.std.proofs.Common.{◌≡◌, ◌≢◌, ℕ, suc, ◌+◌, ◌-◌, ◌<◌, ◌≤◌, Bool, true, false, ◌==◌, ◌∷◌, refl, ap, sym, ◌∙◌, subst, arith, ⊎_elim}
use Rattle.std.specs.Prelude.{if◌then◌else◌}
use Rattle.std.proofs.lemmas.Bool.{cases_lt, cases_eq, false≢true}
use Rattle.vert_base.specs.declared.value.Ruling.{Ruling}
use Rattle.vert_base.specs.declared.value.Ruling.TheVariants.{Stop, Dense, Sparse}
use Rattle.circulant_plan.specs.declared.spot.Spot.{Spot}
use Rattle.circulant_plan.specs.declared.spot.Spot.TheVariants.{Tell, Judge, Begin, Scan, Close, Over}
use Rattle.circulant_plan.specs.Standing.{standing_at, round_of}
use Rattle.circulant_plan.specs.Skeleton.{ruling_in, is_over, rulings_after}
use Rattle.circulant_plan.proofs.StandingLaws.{is_zero, not_zero, below_true, below_false}
use Rattle.circulant_plan.proofs.ActionLaws.{next_of}
use Rattle.skeleton_laws.proofs.Settled.{dense_goes, sparse_goes}
use Rattle.skeleton_laws.proofs.Weights.{Account, before_later, made_none, round_weight, scans_weight, start, closed, judge_at, judge_later, done_at, done, Knows, no_judges, close_dense, close_sparse, judge_on}

module _ (account : Account) where
  open account use {ring, some, m, weight as w, weighs, rulings, z, made as are}

  tell_zero : (a : Ruling) → m ≡ 0 → next_of ring m a Tell ≡ standing_at 0 (Judge 0)
  tell_zero a e = rw (is_zero m e) refl

  tell_other : (a : Ruling) → m ≢ 0 → next_of ring m a Tell ≡ standing_at 0 (Begin 1)
  tell_other a ne = rw (not_zero m ne) refl

  scan_first : (a : Ruling) (r s h : ℕ) → h ≡ 0 → next_of ring m a (Scan r s h) ≡ standing_at 0 (Scan r s 1)
  scan_first a r s h e = rw (is_zero h e) refl

  scan_more : (a : Ruling) (r s h : ℕ) → h ≢ 0 → s < ring.machines - 1 →
      next_of ring m a (Scan r s h) ≡ standing_at 0 (Scan r (s + 1) 0)
  scan_more a r s h ne lt = let b = not_zero h ne in let c = below_true s (ring.machines - 1) lt in rw (b, c) refl

  scan_last : (a : Ruling) (r s h : ℕ) → h ≢ 0 → ring.machines - 1 ≤ s →
      next_of ring m a (Scan r s h) ≡ standing_at 0 (Close r true)
  scan_last a r s h ne le = let b = not_zero h ne in let c = below_false s (ring.machines - 1) le in rw (b, c) refl

  close_zero : (a : Ruling) (r : ℕ) (dense : Bool) → m ≡ 0 → next_of ring m a (Close r dense) ≡ standing_at 0 (Judge r)
  close_zero a r dense e = rw (is_zero m e) refl

  close_other : (a : Ruling) (r : ℕ) (dense : Bool) → m ≢ 0 →
      next_of ring m a (Close r dense) ≡ standing_at 0 (Begin (r + 1))
  close_other a r dense ne = rw (not_zero m ne) refl

  first_half : (r s h : ℕ) → h ≡ 0 → (if h == 0 then 0 else w Dense (Scan r s 0)) ≡ 0
  first_half r s h e = rw (is_zero h e) refl

  second_half : (r s h : ℕ) → h ≢ 0 → (if h == 0 then 0 else w Dense (Scan r s 0)) ≡ w Dense (Scan r s 0)
  second_half r s h ne = rw (not_zero h ne) refl

  -- the ruling by which the action is done: at a begin that of its round
  pub record Does (a : Ruling) (spot : Spot) (y : ℕ) : Type 0 where
    pub done : done ring w m (rulings_after a spot rulings)
        (next_of ring m a spot) ≡ done_at ring w m rulings spot (round_of 0 spot) + w a spot
    pub knows : Knows ring (rulings_after a spot rulings) y (next_of ring m a spot).spot

  judge_done : (a : Ruling) (r y : ℕ) → m ≡ 0 → z ≡ r → r ≤ y → Knows ring rulings z (Judge r) →
      start ring w m ((r + 1, a) ∷ rulings) (r + 1) ≡ judge_at ring w m rulings r + w a (Judge r)
  judge_done a r y first at le knows =
      let same = before_later (round_weight ring w m) (r + 1) (r + 1) a rulings (omega arith) in
      let on = judge_on account r a first knows.0 knows.1 in
      omega arith

  pub does : (a : Ruling) (spot : Spot) (y : ℕ) → is_over spot ≡ false → z ≤ y → Knows ring rulings z spot →
      ((r : ℕ) → spot ≡ Judge r → (m ≡ 0) × (z ≡ r)) →
      ((r : ℕ) → spot ≡ Begin r → (a ≡ ruling_in rulings r) × (a ≢ Stop) × (r ≤ z)) → Does a spot y
  does a Tell y going le knows judge begins =
      ⊎_elim
      (λ (e : m ≡ 0).
      let n = tell_zero a e in
      let t = weighs.tell Stop a in
      record {
        done = ap (done ring w m rulings) n ∙ (let q : w Stop Tell ≡ 0 + w a Tell = omega arith in q);
        knows = subst (λ s. Knows ring rulings y s.spot) (sym n) (omega arith, λ some. absurd (omega arith));
      })
      (λ (ne : m ≢ 0).
      let n = tell_other a ne in
      let t = weighs.tell Stop a in
      let none = made_none (round_weight ring w m) z rulings are in
      let j = no_judges ring w m ne 0 (w Stop) in
      record {
        done =
            ap (done ring w m rulings) n
            ∙ (let q : start ring w m rulings 1 ≡ 0 + w a Tell = omega arith in q);
        knows = subst (λ s. Knows ring rulings y s.spot) (sym n) (omega arith);
      })
      (cases_eq m 0)
  does Stop (Judge r) y going le knows judge begins =
      let j = judge r refl in record { done = judge_done Stop r r j.0 j.1 (omega arith) knows; knows = tt }
  does Dense (Judge r) y going le knows judge begins =
      let j = judge r refl in
      record { done = judge_done Dense r r j.0 j.1 (omega arith) knows; knows = omega arith }
  does Sparse (Judge r) y going le knows judge begins =
      let j = judge r refl in
      record { done = judge_done Sparse r r j.0 j.1 (omega arith) knows; knows = omega arith }
  does Stop (Begin r) y going le knows judge begins = absurd ((begins r refl).1 refl)
  does Dense (Begin r) y going le knows judge begins =
      let b = begins r refl in
      let low = b.2 in
      record { done = omega arith; knows = (omega arith, knows, sym b.0, omega arith, omega arith) }
  does Sparse (Begin r) y going le knows judge begins =
      let b = begins r refl in let low = b.2 in record { done = refl; knows = (omega arith, knows, sym b.0) }
  does a (Scan r s h) y going le knows judge begins =
      let low = knows.0 in
      let same = weighs.scan a Dense r s 0 in
      let same_1 = weighs.scan a Dense r s 1 in
      let same_h = weighs.scan a Dense r s h in
      let step = knows.3 in
      let half = knows.4 in
      ⊎_elim
      (λ (e : h ≡ 0).
      let n = scan_first a r s h e in
      let f = first_half r s h e in
      let v : w Dense (Scan r s h) ≡ w Dense (Scan r s 0) = ap (λ i. w Dense (Scan r s i)) e in
      record {
        done =
            ap (done ring w m rulings) n
            ∙
            (let q : done_at ring w m rulings (Scan r s 1) r ≡ done_at ring w m rulings (Scan r s h) r + w
            a (Scan r s h) =
            omega arith in
            q);
        knows = subst (λ t. Knows ring rulings y t.spot) (sym n) (omega arith, knows.1, knows.2, knows.3, omega arith);
      })
      (λ (ne : h ≢ 0).
      let f = second_half r s h ne in
      let one : h ≡ 1 = omega arith in
      let v : w Dense (Scan r s h) ≡ w Dense (Scan r s 1) = ap (λ i. w Dense (Scan r s i)) one in
      ⊎_elim
      (λ (more : s < ring.machines - 1).
      let n = scan_more a r s h ne more in
      let next : scans_weight ring w m r (s + 1) ≡ scans_weight ring w m r (suc s) =
      let e : s + 1 ≡ suc s = omega arith in
      ap (scans_weight ring w m r) e in
      record {
        done =
            ap (done ring w m rulings) n
            ∙
            (let q : done_at ring w m rulings (Scan r (s + 1) 0) r ≡ done_at ring w m rulings (Scan r s h)
            r + w a (Scan r s h) =
            omega arith in
            q);
        knows =
            subst (λ t. Knows ring rulings y t.spot) (sym n)
            (omega arith, knows.1, knows.2, omega arith, omega arith);
      })
      (λ (last : ring.machines - 1 ≤ s).
      let n = scan_last a r s h ne last in
      let next : scans_weight ring w m r ring.machines ≡ scans_weight ring w m r (suc s) =
      let e : ring.machines ≡ suc s = omega arith in
      ap (scans_weight ring w m r) e in
      record {
        done =
            ap (done ring w m rulings) n
            ∙
            (let q : done_at ring w m rulings (Close r true) r ≡ done_at ring w m rulings (Scan r s h) r +
            w a (Scan r s h) =
            omega arith in
            q);
        knows = subst (λ t. Knows ring rulings y t.spot) (sym n) (omega arith, knows.1, knows.2);
      })
      (cases_lt s (ring.machines - 1)))
      (cases_eq h 0)
  does a (Close r true) y going le knows judge begins =
      let low = knows.0 in
      let same = weighs.close a Dense r true in
      ⊎_elim
      (λ (e : m ≡ 0).
      let n = close_zero a r true e in
      let j = judge_later ring w m rulings r knows.1 in
      let v : closed ring w m r (ruling_in rulings r) ≡ closed ring w m r Dense = ap (closed ring w m r) knows.2 in
      record {
        done =
            ap (done ring w m rulings) n
            ∙
            (let q : judge_at ring w m rulings r ≡ done_at ring w m rulings (Close r true) r + w a
            (Close r true) =
            omega arith in
            q);
        knows =
            subst (λ t. Knows ring rulings y t.spot) (sym n)
            (omega arith, λ some stop. dense_goes (sym knows.2 ∙ stop));
      })
      (λ (ne : m ≢ 0).
      let n = close_other a r true ne in
      let c = close_dense account r ne knows.1 knows.0 knows.2 in
      record {
        done =
            ap (done ring w m rulings) n
            ∙
            (let q : start ring w m rulings (r + 1) ≡ done_at ring w m rulings (Close r true) r + w a
            (Close r true) =
            omega arith in
            q);
        knows = subst (λ t. Knows ring rulings y t.spot) (sym n) (omega arith);
      })
      (cases_eq m 0)
  does a (Close r false) y going le knows judge begins =
      let low = knows.0 in
      let same = weighs.close a Sparse r false in
      ⊎_elim
      (λ (e : m ≡ 0).
      let n = close_zero a r false e in
      let j = judge_later ring w m rulings r knows.1 in
      let v : closed ring w m r (ruling_in rulings r) ≡ closed ring w m r Sparse = ap (closed ring w m r) knows.2 in
      record {
        done =
            ap (done ring w m rulings) n
            ∙
            (let q : judge_at ring w m rulings r ≡ done_at ring w m rulings (Close r false) r + w a
            (Close r false) =
            omega arith in
            q);
        knows =
            subst (λ t. Knows ring rulings y t.spot) (sym n)
            (omega arith, λ some stop. sparse_goes (sym knows.2 ∙ stop));
      })
      (λ (ne : m ≢ 0).
      let n = close_other a r false ne in
      let c = close_sparse account r ne knows.1 knows.0 knows.2 in
      record {
        done =
            ap (done ring w m rulings) n
            ∙
            (let q : start ring w m rulings (r + 1) ≡ done_at ring w m rulings (Close r false) r + w a
            (Close r false) =
            omega arith in
            q);
        knows = subst (λ t. Knows ring rulings y t.spot) (sym n) (omega arith);
      })
      (cases_eq m 0)
  does a Over y going le knows judge begins = absurd (false≢true (sym going))
