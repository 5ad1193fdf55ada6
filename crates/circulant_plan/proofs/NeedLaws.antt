-- What a spot needs was sent before.
use Rattle.std.proofs.Common.{◌≡◌, ◌≢◌, ℕ, zero, suc, ◌+◌, ◌-◌, ◌*◌, ◌<◌, ◌≤◌, true, false, cond, ◌&&◌, nat_lt, List, [], ◌∷◌, map, refl, ap, sym, subst, inl, inr, arith, ⊎_elim}
use Rattle.std.specs.List.{range_with_len}
use Rattle.std.proofs.lemmas.Bool.{and_parts, cases_eq}
use Rattle.std.proofs.Math.Nat.{mod-lt}
use Rattle.vert_base.specs.declared.message.Name.{Name}
use Rattle.vert_base.specs.declared.value.Ruling.{Ruling}
use Rattle.vert_base.specs.declared.value.Ruling.TheVariants.{Stop, Dense, Sparse}
use Rattle.circulant_plan.specs.declared.spot.Ring.{Ring}
use Rattle.circulant_plan.specs.declared.spot.Spot.{Spot}
use Rattle.circulant_plan.specs.declared.spot.Spot.TheVariants.{Tell, Judge, Begin, Scan, Close, Over}
use Rattle.circulant_plan.specs.Names.{refresh_name, dep_name, update_name, push_name, tally_name, verdict_name}
use Rattle.circulant_plan.specs.Ring.{order_of, chunk_of, after_machine, before_machine}
use Rattle.circulant_plan.specs.Table.{others_of, name_if, needs_of, gives_of}
use Rattle.circulant_plan.specs.Deliveries.{HasSpot, tally_at, place_at, IsSentBefore, NeededIsSent}
use Rattle.circulant_plan.proofs.Members.{Has, has_from_contains, contains_from_has, has_append_cases, has_map_cases, has_map, has_flat_map_cases, has_range_cases, has_others_cases, has_others}
use Rattle.circulant_plan.proofs.Choices.{has_name_if_cases, has_name_if, below_from}
use Rattle.circulant_plan.proofs.StandingLaws.{is_zero, not_zero, below_true}
use Rattle.circulant_plan.proofs.CircleLaws.{chunk_other, order_other, chunk_of_order, after_before, before_other}

module _ (ring : Ring) (small : ring.machines ≤ 64) where
  -- a tally is sent where its round closes
  tally_sent : (r k : ℕ) (ruling : Ruling) → ruling ≢ Stop → 1 ≤ k →
      HasSpot ring k ruling (tally_at r ruling) × Has (gives_of ring k (tally_at r ruling) ruling)
      (tally_name r k) × (place_at (tally_at r ruling) < 256 * r + 255)
  tally_sent zero k ruling mode some = let b = not_zero k (λ e. omega arith) in (tt, rw b (inl refl), omega arith)
  tally_sent (suc r) k Stop mode some = absurd (mode refl)
  tally_sent (suc r) k Dense mode some =
      let b = not_zero k (λ e. omega arith) in ((omega arith, refl), rw b (inl refl), omega arith)
  tally_sent (suc r) k Sparse mode some =
      let b = not_zero k (λ e. omega arith) in ((omega arith, refl), rw b (inl refl), omega arith)

  judge_needs : (r : ℕ) (ruling : Ruling) (x : Name) → 0 < ring.machines → ruling ≢ Stop →
      Has (needs_of ring 0 (Judge r)) x → IsSentBefore ring 0 ruling (Judge r) x
  judge_needs r ruling x some mode h =
      let c = has_map_cases (tally_name r) (others_of ring.machines 0) x h in
      let k = c.0 in
      let o = has_others_cases ring.machines 0 k some c.1 in
      let differ = o.1 in
      let t = tally_sent r k ruling mode (let e : k ≢ 0 = differ in omega arith) in
      subst (λ y. IsSentBefore ring 0 ruling (Judge r) y) c.2 (record {
        to = refl;
        from = o.0;
        other = differ;
        round = refl;
        has = t.0;
        sent = contains_from_has (gives_of ring k (tally_at r ruling) ruling) (tally_name r k) t.1;
        earlier = t.2;
      })

  begin_needs : (m r : ℕ) (ruling : Ruling) (x : Name) → m < ring.machines → 1 ≤ r →
      Has (needs_of ring m (Begin r)) x → IsSentBefore ring m ruling (Begin r) x
  begin_needs m r ruling x within later h =
      ⊎_elim
      (λ (first : m ≡ 0).
      let b = is_zero m first in
      let none : Has [] x = subst (λ q. Has (cond q [] (verdict_name r m ∷ [])) x) b h in
      absurd none)
      (λ (other : m ≢ 0).
      let b = not_zero m other in
      let one : Has (verdict_name r m ∷ []) x = subst (λ q. Has (cond q [] (verdict_name r m ∷ [])) x) b h in
      ⊎_elim
      (λ (e : verdict_name r m ≡ x).
      let back : r - 1 + 1 ≡ r = omega arith in
      let there : Has (map (verdict_name (r - 1 + 1)) (others_of ring.machines 0))
      (verdict_name (r - 1 + 1) m) =
      has_map (verdict_name (r - 1 + 1)) (others_of ring.machines 0) m
      (has_others ring.machines 0 m (omega arith) within other) in
      let here : Has (gives_of ring 0 (Judge (r - 1)) ruling) (verdict_name r m) =
      subst
      (λ q. Has (map (verdict_name (r - 1 + 1)) (others_of ring.machines 0)) (verdict_name q m)) back
      there in
      subst (λ y. IsSentBefore ring m ruling (Begin r) y) e (record {
        to = refl;
        from = omega arith;
        other = λ same. other (sym same);
        round = refl;
        has = refl;
        sent = contains_from_has (gives_of ring 0 (Judge (r - 1)) ruling) (verdict_name r m) here;
        earlier = omega arith;
      }))
      (λ never. absurd never)
      one)
      (cases_eq m 0)

  module _ (m r s h : ℕ) (x : Name) where
    scan_needs : m < ring.machines → 1 ≤ r → s < ring.machines → h ≤ 1 → Has (needs_of ring m (Scan r s h)) x →
        IsSentBefore ring m Dense (Scan r s h) x
    scan_needs within later step half has =
        let p = ring.machines in
        ⊎_elim
        (λ rows.
        let c = has_name_if_cases (nat_lt s (p - 1)) (refresh_name r (chunk_of m s p) m) x rows in
        let early = below_from s (p - 1) c.0 in
        let d = chunk_of m s p in
        let inside : d < p = mod-lt (m + p - 1 - s) (omega arith) in
        let other : d ≢ m = chunk_other m s p within early in
        subst (λ y. IsSentBefore ring m Dense (Scan r s h) y) c.1 (record {
          to = refl;
          from = inside;
          other = other;
          round = refl;
          has = later;
          sent =
              contains_from_has (map (refresh_name r d) (others_of p d)) (refresh_name r d m)
              (has_map (refresh_name r d) (others_of p d) m
              (has_others p d m inside within (λ same. other (sym same))));
          earlier = omega arith;
        }))
        (λ states.
        let c = has_name_if_cases (ring.carry && nat_lt 0 s) (dep_name r (s - 1) h (before_machine m p) m) x states in
        let carries = (and_parts ring.carry (nat_lt 0 s) c.0).0 in
        let some = below_from 0 s (and_parts ring.carry (nat_lt 0 s) c.0).1 in
        let k = before_machine m p in
        let inside : k < p = mod-lt (m + p - 1) (omega arith) in
        let early : nat_lt (s - 1) (p - 1) ≡ true = below_true (s - 1) (p - 1) (omega arith) in
        let back : after_machine k p ≡ m = after_before m p within in
        let there : Has (name_if ring.carry (dep_name r (s - 1) h k m)) (dep_name r (s - 1) h k m) =
        has_name_if ring.carry (dep_name r (s - 1) h k m) carries in
        let listed : Has
        (update_name r (s - 1) h k (chunk_of k (s - 1) p) ∷ name_if ring.carry
        (dep_name r (s - 1) h k (after_machine k p)))
        (dep_name r (s - 1) h k m) =
        inr
        (subst (λ q. Has (name_if ring.carry (dep_name r (s - 1) h k q)) (dep_name r (s - 1) h k m))
        (sym back) there) in
        let here : Has (gives_of ring k (Scan r (s - 1) h) Dense) (dep_name r (s - 1) h k m) = rw early listed in
        subst (λ y. IsSentBefore ring m Dense (Scan r s h) y) c.1 (record {
          to = refl;
          from = inside;
          other = before_other m p within (omega arith);
          round = refl;
          has = (later, omega arith, half, refl);
          sent = contains_from_has (gives_of ring k (Scan r (s - 1) h) Dense) (dep_name r (s - 1) h k m) here;
          earlier = omega arith;
        }))
        (has_append_cases (name_if (nat_lt s (p - 1)) (refresh_name r (chunk_of m s p) m))
        (name_if (ring.carry && nat_lt 0 s) (dep_name r (s - 1) h (before_machine m p) m)) x has)

  update_sent : (m r s h : ℕ) → m < ring.machines → 1 ≤ r → s < ring.machines - 1 → h ≤ 1 →
      IsSentBefore ring m Dense (Close r true) (update_name r s h (order_of m s ring.machines) m)
  update_sent m r s h within later early half =
      let p = ring.machines in
      let k = order_of m s p in
      let inside : k < p = mod-lt (m + 1 + s) (omega arith) in
      let b : nat_lt s (p - 1) ≡ true = below_true s (p - 1) early in
      let own : chunk_of k s p ≡ m = chunk_of_order p m s within (omega arith) in
      let listed : Has
      (update_name r s h k (chunk_of k s p) ∷ name_if ring.carry (dep_name r s h k (after_machine k p)))
      (update_name r s h k m) =
      inl (ap (update_name r s h k) own) in
      let here : Has (gives_of ring k (Scan r s h) Dense) (update_name r s h k m) = rw b listed in
      record {
        to = refl;
        from = inside;
        other = order_other m s p within early;
        round = refl;
        has = (later, omega arith, half, refl);
        sent = contains_from_has (gives_of ring k (Scan r s h) Dense) (update_name r s h k m) here;
        earlier = omega arith;
      }

  close_dense_needs : (m r : ℕ) (x : Name) → m < ring.machines → 1 ≤ r →
      Has (needs_of ring m (Close r true)) x → IsSentBefore ring m Dense (Close r true) x
  close_dense_needs m r x within later h =
      let p = ring.machines in
      let f : ℕ → List Name = λ s. update_name r s 0 (order_of m s p) m ∷ update_name r s 1 (order_of m s p) m ∷ [] in
      let c = has_flat_map_cases f (range_with_len 0 (p - 1)) x h in
      let s = c.0 in
      let range = has_range_cases 0 (p - 1) s c.1 in
      let early : s < p - 1 = (let high = range.1 in omega arith) in
      ⊎_elim
      (λ (e : update_name r s 0 (order_of m s p) m ≡ x).
      subst (λ y. IsSentBefore ring m Dense (Close r true) y) e
      (update_sent m r s 0 within later early (omega arith)))
      (λ (more : Has (update_name r s 1 (order_of m s p) m ∷ []) x).
      ⊎_elim
      (λ (e : update_name r s 1 (order_of m s p) m ≡ x).
      subst (λ y. IsSentBefore ring m Dense (Close r true) y) e
      (update_sent m r s 1 within later early (omega arith)))
      (λ never. absurd never)
      more)
      c.2

  close_sparse_needs : (m r : ℕ) (x : Name) → m < ring.machines → 1 ≤ r →
      Has (needs_of ring m (Close r false)) x → IsSentBefore ring m Sparse (Close r false) x
  close_sparse_needs m r x within later h =
      let p = ring.machines in
      let c = has_map_cases (λ k. push_name r k m) (others_of p m) x h in
      let k = c.0 in
      let o = has_others_cases p m k within c.1 in
      subst (λ y. IsSentBefore ring m Sparse (Close r false) y) c.2 (record {
        to = refl;
        from = o.0;
        other = o.1;
        round = refl;
        has = later;
        sent =
            contains_from_has (map (push_name r k) (others_of p k)) (push_name r k m)
            (has_map (push_name r k) (others_of p k) m
            (has_others p k m o.0 within (λ same. o.1 (sym same))));
        earlier = omega arith;
      })

  needs_sent : (m : ℕ) (ruling : Ruling) (spot : Spot) (x : Name) → m < ring.machines → ruling ≢ Stop →
      HasSpot ring m ruling spot → Has (needs_of ring m spot) x → IsSentBefore ring m ruling spot x
  needs_sent m ruling Tell x within mode has h = absurd h
  needs_sent m ruling (Judge r) x within mode has h =
      subst (λ q. Has (needs_of ring q (Judge r)) x → IsSentBefore ring q ruling (Judge r) x) (sym has)
      (λ g. judge_needs r ruling x (omega arith) mode g) h
  needs_sent m ruling (Begin r) x within mode has h = begin_needs m r ruling x within has h
  needs_sent m ruling (Scan r s j) x within mode has h =
      subst (λ q. IsSentBefore ring m q (Scan r s j) x) (sym has.3)
      (scan_needs m r s j x within has.0 has.1 has.2 h)
  needs_sent m ruling (Close r true) x within mode has h =
      subst (λ q. IsSentBefore ring m q (Close r true) x) (sym has.1) (close_dense_needs m r x within has.0 h)
  needs_sent m ruling (Close r false) x within mode has h =
      subst (λ q. IsSentBefore ring m q (Close r false) x) (sym has.1) (close_sparse_needs m r x within has.0 h)
  needs_sent m ruling Over x within mode has h = absurd h

pub needed_is_sent : NeededIsSent
needed_is_sent ring m ruling spot x within small mode has h =
    needs_sent ring small m ruling spot x within mode has (has_from_contains (needs_of ring m spot) x h)
