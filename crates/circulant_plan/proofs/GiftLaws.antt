-- What a spot sends is needed later.
use Rattle.std.proofs.Common.{◌≡◌, ◌≢◌, ℕ, ◌+◌, ◌-◌, ◌<◌, ◌≤◌, Bool, true, false, cond, ◌&&◌, nat_lt, List, [], ◌∷◌, map, refl, ap, sym, subst, inl, inr, arith, ⊎_elim}
use Rattle.std.specs.List.{range_with_len}
use Rattle.std.proofs.lemmas.Bool.{and_from, cases_lt, cases_eq}
use Rattle.std.proofs.Math.Nat.{mod-lt}
use Rattle.vert_base.specs.declared.message.Name.{Name}
use Rattle.vert_base.specs.declared.value.Ruling.{Ruling}
use Rattle.vert_base.specs.declared.value.Ruling.TheVariants.{Stop, Dense, Sparse}
use Rattle.circulant_plan.specs.declared.spot.Ring.{Ring}
use Rattle.circulant_plan.specs.declared.spot.Spot.{Spot}
use Rattle.circulant_plan.specs.declared.spot.Spot.TheVariants.{Tell, Judge, Begin, Scan, Close, Over}
use Rattle.circulant_plan.specs.Names.{refresh_name, dep_name, update_name, push_name, tally_name, verdict_name}
use Rattle.circulant_plan.specs.Ring.{order_of, chunk_of, after_machine, before_machine}
use Rattle.circulant_plan.specs.Table.{others_of, name_if, updates_to, needs_of, tally_gives, gives_of}
use Rattle.circulant_plan.specs.Deliveries.{HasSpot, place_at, IsNeededLater, SentIsNeeded}
use Rattle.circulant_plan.proofs.Members.{Has, has_from_contains, contains_from_has, has_left, has_right, has_map_cases, has_map, has_flat_map, has_range, has_others_cases, has_others}
use Rattle.circulant_plan.proofs.Choices.{has_name_if_cases, has_name_if}
use Rattle.circulant_plan.proofs.StandingLaws.{is_zero, not_zero, below_true, below_false}
use Rattle.circulant_plan.proofs.CircleLaws.{chunk_other, order_of_chunk, before_after, after_other, step_of_chunk, step_early}

module _ (ring : Ring) (small : ring.machines ≤ 64) where
  -- the list of one tally
  tally_gift : (m r : ℕ) (x : Name) → Has (tally_gives m r) x → (m ≢ 0) × (tally_name r m ≡ x)
  tally_gift m r x h =
      ⊎_elim
      (λ (first : m ≡ 0).
      let b = is_zero m first in
      let none : Has [] x = subst (λ q. Has (cond q [] (tally_name r m ∷ [])) x) b h in
      absurd none)
      (λ (other : m ≢ 0).
      let b = not_zero m other in
      let one : Has (tally_name r m ∷ []) x = subst (λ q. Has (cond q [] (tally_name r m ∷ [])) x) b h in
      ⊎_elim (λ (e : tally_name r m ≡ x). (other, e)) (λ never. absurd never) one)
      (cases_eq m 0)

  tally_needed : (m r : ℕ) (ruling : Ruling) (spot : Spot) → m < ring.machines → m ≢ 0 →
      place_at spot < place_at (Judge r) → IsNeededLater ring m ruling spot (tally_name r m)
  tally_needed m r ruling spot within other before = record {
    from = refl;
    to = omega arith;
    other = λ same. other (sym same);
    round = refl;
    has = refl;
    needed =
        contains_from_has (map (tally_name r) (others_of ring.machines 0)) (tally_name r m)
        (has_map (tally_name r) (others_of ring.machines 0) m
        (has_others ring.machines 0 m (omega arith) within other));
    later = before;
  }

  judge_gifts : (r : ℕ) (ruling : Ruling) (x : Name) → 0 < ring.machines →
      Has (gives_of ring 0 (Judge r) ruling) x → IsNeededLater ring 0 ruling (Judge r) x
  judge_gifts r ruling x some h =
      let c = has_map_cases (verdict_name (r + 1)) (others_of ring.machines 0) x h in
      let k = c.0 in
      let o = has_others_cases ring.machines 0 k some c.1 in
      let b = not_zero k o.1 in
      let listed : Has (needs_of ring k (Begin (r + 1))) (verdict_name (r + 1) k) = rw b (inl refl) in
      subst (λ y. IsNeededLater ring 0 ruling (Judge r) y) c.2 (record {
        from = refl;
        to = o.0;
        other = o.1;
        round = refl;
        has = omega arith;
        needed = contains_from_has (needs_of ring k (Begin (r + 1))) (verdict_name (r + 1) k) listed;
        later = omega arith;
      })

  begin_dense_gifts : (m r : ℕ) (x : Name) → m < ring.machines → 1 ≤ r →
      Has (gives_of ring m (Begin r) Dense) x → IsNeededLater ring m Dense (Begin r) x
  begin_dense_gifts m r x within later h =
      let p = ring.machines in
      let c = has_map_cases (refresh_name r m) (others_of p m) x h in
      let k = c.0 in
      let o = has_others_cases p m k within c.1 in
      let s = chunk_of k m p in
      let early : s < p - 1 = step_early k m p o.0 within (λ same. o.1 (sym same)) in
      let b : nat_lt s (p - 1) ≡ true = below_true s (p - 1) early in
      let back : chunk_of k s p ≡ m = step_of_chunk k m p o.0 within in
      let first : Has (name_if (nat_lt s (p - 1)) (refresh_name r (chunk_of k s p) k)) (refresh_name r m k) =
      subst (λ q. Has (name_if (nat_lt s (p - 1)) (refresh_name r q k)) (refresh_name r m k)) (sym back)
      (has_name_if (nat_lt s (p - 1)) (refresh_name r m k) b) in
      let listed : Has (needs_of ring k (Scan r s 0)) (refresh_name r m k) =
      has_left (name_if (nat_lt s (p - 1)) (refresh_name r (chunk_of k s p) k))
      (name_if (ring.carry && nat_lt 0 s) (dep_name r (s - 1) 0 (before_machine k p) k))
      (refresh_name r m k) first in
      subst (λ y. IsNeededLater ring m Dense (Begin r) y) c.2 (record {
        from = refl;
        to = o.0;
        other = o.1;
        round = refl;
        has = (later, omega arith, omega arith, refl);
        needed = contains_from_has (needs_of ring k (Scan r s 0)) (refresh_name r m k) listed;
        later = omega arith;
      })

  begin_sparse_gifts : (m r : ℕ) (x : Name) → m < ring.machines → 1 ≤ r →
      Has (gives_of ring m (Begin r) Sparse) x → IsNeededLater ring m Sparse (Begin r) x
  begin_sparse_gifts m r x within later h =
      let p = ring.machines in
      let c = has_map_cases (push_name r m) (others_of p m) x h in
      let k = c.0 in
      let o = has_others_cases p m k within c.1 in
      subst (λ y. IsNeededLater ring m Sparse (Begin r) y) c.2 (record {
        from = refl;
        to = o.0;
        other = o.1;
        round = refl;
        has = (later, refl);
        needed =
            contains_from_has (needs_of ring k (Close r false)) (push_name r m k)
            (has_map (λ j. push_name r j k) (others_of p k) m
            (has_others p k m o.0 within (λ same. o.1 (sym same))));
        later = omega arith;
      })

  update_needed : (m r s h : ℕ) → m < ring.machines → 1 ≤ r → s < ring.machines - 1 → h ≤ 1 →
      IsNeededLater ring m Dense (Scan r s h) (update_name r s h m (chunk_of m s ring.machines))
  update_needed m r s h within later early half =
      let p = ring.machines in
      let d = chunk_of m s p in
      let inside : d < p = mod-lt (m + p - 1 - s) (omega arith) in
      let back : order_of d s p ≡ m = order_of_chunk p m s within (omega arith) in
      let f : ℕ → List Name = λ i. update_name r i 0 (order_of d i p) d ∷ update_name r i 1 (order_of d i p) d ∷ [] in
      let pair : Has (f s) (update_name r s h (order_of d s p) d) =
      ⊎_elim
      (λ (first : h ≡ 0). inl (ap (λ q. update_name r s q (order_of d s p) d) (sym first)))
      (λ (second : h ≢ 0).
      let one : 1 ≡ h = omega arith in
      inr (inl (ap (λ q. update_name r s q (order_of d s p) d) one)))
      (cases_eq h 0) in
      let there : Has (updates_to p r d) (update_name r s h (order_of d s p) d) =
      has_flat_map f (range_with_len 0 (p - 1)) s (update_name r s h (order_of d s p) d)
      (has_range 0 (p - 1) s (omega arith) (omega arith)) pair in
      let listed : Has (updates_to p r d) (update_name r s h m d) =
      subst (λ q. Has (updates_to p r d) (update_name r s h q d)) back there in
      record {
        from = refl;
        to = inside;
        other = chunk_other m s p within early;
        round = refl;
        has = (later, refl);
        needed = contains_from_has (updates_to p r d) (update_name r s h m d) listed;
        later = omega arith;
      }

  module _ (m r s h : ℕ) where
    dep_needed : m < ring.machines → 1 ≤ r → s < ring.machines - 1 → h ≤ 1 → ring.carry ≡ true →
        IsNeededLater ring m Dense (Scan r s h) (dep_name r s h m (after_machine m ring.machines))
    dep_needed within later early half carries =
        let p = ring.machines in
        let k = after_machine m p in
        let inside : k < p = mod-lt (m + 1) (omega arith) in
        let back : before_machine k p ≡ m = before_after m p within in
        let same : s + 1 - 1 ≡ s = omega arith in
        let test : (ring.carry && nat_lt 0 (s + 1)) ≡ true =
        and_from ring.carry (nat_lt 0 (s + 1)) carries (below_true 0 (s + 1) (omega arith)) in
        let plain : Has (name_if (ring.carry && nat_lt 0 (s + 1)) (dep_name r s h m k)) (dep_name r s h m k) =
        has_name_if (ring.carry && nat_lt 0 (s + 1)) (dep_name r s h m k) test in
        let half_way : Has (name_if (ring.carry && nat_lt 0 (s + 1)) (dep_name r s h (before_machine k p) k))
        (dep_name r s h m k) =
        subst
        (λ q. Has (name_if (ring.carry && nat_lt 0 (s + 1)) (dep_name r s h q k)) (dep_name r s h m k))
        (sym back) plain in
        let second : Has
        (name_if (ring.carry && nat_lt 0 (s + 1)) (dep_name r (s + 1 - 1) h (before_machine k p) k))
        (dep_name r s h m k) =
        subst
        (λ q.
        Has (name_if (ring.carry && nat_lt 0 (s + 1)) (dep_name r q h (before_machine k p) k))
        (dep_name r s h m k))
        (sym same) half_way in
        let listed : Has (needs_of ring k (Scan r (s + 1) h)) (dep_name r s h m k) =
        has_right (name_if (nat_lt (s + 1) (p - 1)) (refresh_name r (chunk_of k (s + 1) p) k))
        (name_if (ring.carry && nat_lt 0 (s + 1)) (dep_name r (s + 1 - 1) h (before_machine k p) k))
        (dep_name r s h m k) second in
        record {
          from = refl;
          to = inside;
          other = after_other m p within (omega arith);
          round = refl;
          has = (later, omega arith, half, refl);
          needed = contains_from_has (needs_of ring k (Scan r (s + 1) h)) (dep_name r s h m k) listed;
          later = omega arith;
        }

  module _ (m r s h : ℕ) (x : Name) where
    scan_gifts : m < ring.machines → 1 ≤ r → s < ring.machines → h ≤ 1 →
        Has (gives_of ring m (Scan r s h) Dense) x → IsNeededLater ring m Dense (Scan r s h) x
    scan_gifts within later step half has =
        let p = ring.machines in
        let list : Bool → List Name =
        λ q.
        cond q
        (update_name r s h m (chunk_of m s p) ∷ name_if ring.carry (dep_name r s h m (after_machine m p)))
        [] in
        ⊎_elim
        (λ (early : s < p - 1).
        let b = below_true s (p - 1) early in
        let listed : Has (list true) x = subst (λ q. Has (list q) x) b has in
        ⊎_elim
        (λ (e : update_name r s h m (chunk_of m s p) ≡ x).
        subst (λ y. IsNeededLater ring m Dense (Scan r s h) y) e (update_needed m r s h within later early half))
        (λ more.
        let c = has_name_if_cases ring.carry (dep_name r s h m (after_machine m p)) x more in
        subst (λ y. IsNeededLater ring m Dense (Scan r s h) y) c.1 (dep_needed m r s h within later early half c.0))
        listed)
        (λ (last : p - 1 ≤ s).
        let b = below_false s (p - 1) last in
        let none : Has (list false) x = subst (λ q. Has (list q) x) b has in
        absurd none)
        (cases_lt s (p - 1))

  begin_gifts : (m r : ℕ) (ruling : Ruling) (x : Name) → m < ring.machines → ruling ≢ Stop → 1 ≤ r →
      Has (gives_of ring m (Begin r) ruling) x → IsNeededLater ring m ruling (Begin r) x
  begin_gifts m r Stop x within mode later h = absurd (mode refl)
  begin_gifts m r Dense x within mode later h = begin_dense_gifts m r x within later h
  begin_gifts m r Sparse x within mode later h = begin_sparse_gifts m r x within later h

  gifts_needed : (m : ℕ) (ruling : Ruling) (spot : Spot) (x : Name) → m < ring.machines → ruling ≢ Stop →
      HasSpot ring m ruling spot → Has (gives_of ring m spot ruling) x → IsNeededLater ring m ruling spot x
  gifts_needed m ruling Tell x within mode has h =
      let t = tally_gift m 0 x h in
      subst (λ y. IsNeededLater ring m ruling Tell y) t.1 (tally_needed m 0 ruling Tell within t.0 (omega arith))
  gifts_needed m ruling (Judge r) x within mode has h =
      subst (λ q. Has (gives_of ring q (Judge r) ruling) x → IsNeededLater ring q ruling (Judge r) x)
      (sym has) (λ g. judge_gifts r ruling x (omega arith) g) h
  gifts_needed m ruling (Begin r) x within mode has h = begin_gifts m r ruling x within mode has h
  gifts_needed m ruling (Scan r s j) x within mode has h =
      subst (λ q. Has (gives_of ring m (Scan r s j) q) x → IsNeededLater ring m q (Scan r s j) x)
      (sym has.3) (λ g. scan_gifts m r s j x within has.0 has.1 has.2 g) h
  gifts_needed m ruling (Close r dense) x within mode has h =
      let t = tally_gift m r x h in
      subst (λ y. IsNeededLater ring m ruling (Close r dense) y) t.1
      (tally_needed m r ruling (Close r dense) within t.0 (omega arith))
  gifts_needed m ruling Over x within mode has h = absurd h

pub sent_is_needed : SentIsNeeded
sent_is_needed ring m ruling spot x within small mode has h =
    gifts_needed ring small m ruling spot x within mode has
    (has_from_contains (gives_of ring m spot ruling) x h)
