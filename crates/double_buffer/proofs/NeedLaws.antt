-- A machine can take each message that it needs.
use Rattle.std.proofs.lemmas.Bool.{and_parts}
use Rattle.std.proofs.Common.{◌≡◌, ◌≢◌, ℕ, ◌+◌, ◌-◌, ◌<◌, ◌≤◌, true, false, cond, ◌&&◌, nat_lt, List, [], ◌∷◌, map, refl, sym, subst, arith, ⊎_elim}
use Rattle.std.specs.List.{range_with_len}
use Rattle.std.proofs.lemmas.Bool.{cases_eq}
use Rattle.std.specs.Prelude.{Some, slice_get}
use Rattle.std.proofs.lemmas.Option.{get_or_from_slice_get, slice_get_within}
use Rattle.std.proofs.Math.Nat.{mod-lt}
use Rattle.vert_base.specs.declared.message.Name.{Name}
use Rattle.circulant_plan.specs.declared.spot.Ring.{Ring}
use Rattle.circulant_plan.specs.declared.spot.Spot.{Spot}
use Rattle.circulant_plan.specs.declared.spot.Spot.TheVariants.{Tell, Judge, Begin, Scan, Close, Over}
use Rattle.circulant_plan.specs.Names.{refresh_name, dep_name, update_name, push_name, tally_name, verdict_name}
use Rattle.circulant_plan.specs.Ring.{order_of, chunk_of, before_machine}
use Rattle.circulant_plan.specs.Spots.{IsSpotOf}
use Rattle.circulant_plan.specs.Table.{others_of, name_if, needs_of}
use Rattle.circulant_plan.proofs.Members.{Has, has_from_contains, has_append_cases, has_map_cases, has_flat_map_cases, has_range_cases, has_others_cases}
use Rattle.circulant_plan.proofs.Choices.{has_name_if_cases, below_from}
use Rattle.circulant_plan.proofs.StandingLaws.{is_zero, not_zero}
use Rattle.circulant_plan.proofs.CircleLaws.{chunk_other}
use Rattle.double_buffer.specs.Laws.{IsForSpot, NeedsCanBeTaken}

module _ (ring : Ring) where
  judge_needs : (m r : ℕ) (x : Name) → m < ring.machines → Has (needs_of ring m (Judge r)) x →
      IsForSpot ring m (Judge r) x
  judge_needs m r x within h =
      ⊎_elim
      (λ (first : m ≡ 0).
      let all : Has (map (tally_name r) (others_of ring.machines 0)) x =
      subst (λ q. Has (cond q (map (tally_name r) (others_of ring.machines 0)) []) x) (is_zero m first) h in
      let c = has_map_cases (tally_name r) (others_of ring.machines 0) x all in
      let o = has_others_cases ring.machines 0 c.0 (omega arith) c.1 in
      subst (λ y. IsForSpot ring m (Judge r) y) c.2 (record {
        one = (record { from = o.0; to = omega arith; other = o.1; step = refl; half = refl }, refl);
        to = sym first;
        round = refl;
      }))
      (λ (other : m ≢ 0).
      let none : Has [] x = subst (λ q. Has (cond q (map (tally_name r) (others_of ring.machines 0)) []) x)
      (not_zero m other) h in
      absurd none)
      (cases_eq m 0)

  begin_needs : (m r : ℕ) (x : Name) → m < ring.machines → Has (needs_of ring m (Begin r)) x →
      IsForSpot ring m (Begin r) x
  begin_needs m r x within h =
      ⊎_elim
      (λ (first : m ≡ 0).
      let none : Has [] x = subst (λ q. Has (cond q [] (verdict_name r m ∷ [])) x) (is_zero m first) h in
      absurd none)
      (λ (other : m ≢ 0).
      let one : Has (verdict_name r m ∷ []) x =
      subst (λ q. Has (cond q [] (verdict_name r m ∷ [])) x) (not_zero m other) h in
      ⊎_elim
      (λ (e : verdict_name r m ≡ x).
      subst (λ y. IsForSpot ring m (Begin r) y) e (record {
        one = (
          record { from = omega arith; to = within; other = λ same. other (sym same); step = refl; half = refl },
          refl,
        );
        to = refl;
        round = refl;
      }))
      (λ never. absurd never)
      one)
      (cases_eq m 0)

  module _ (m r s h : ℕ) (x : Name) where
    scan_needs : m < ring.machines → s < ring.machines → h ≤ 1 → Has (needs_of ring m (Scan r s h)) x →
        IsForSpot ring m (Scan r s h) x
    scan_needs within step half has =
        let p = ring.machines in
        ⊎_elim
        (λ rows.
        let c = has_name_if_cases (nat_lt s (p - 1)) (refresh_name r (chunk_of m s p) m) x rows in
        let early = below_from s (p - 1) c.0 in
        subst (λ y. IsForSpot ring m (Scan r s h) y) c.1 (record {
          one = record {
            from = mod-lt (m + p - 1 - s) (omega arith);
            to = within;
            other = chunk_other m s p within early;
            step = refl;
            half = refl;
          };
          to = refl;
          round = refl;
        }))
        (λ states.
        let c = has_name_if_cases (ring.carry && nat_lt 0 s) (dep_name r (s - 1) h (before_machine m p) m) x states in
        let some = below_from 0 s (and_parts ring.carry (nat_lt 0 s) c.0).1 in
        subst (λ y. IsForSpot ring m (Scan r s h) y) c.1 (record {
          one = record { from = refl; to = within; step = omega arith; half = half };
          to = refl;
          round = refl;
        }))
        (has_append_cases (name_if (nat_lt s (p - 1)) (refresh_name r (chunk_of m s p) m))
        (name_if (ring.carry && nat_lt 0 s) (dep_name r (s - 1) h (before_machine m p) m)) x has)

  close_dense_needs : (m r : ℕ) (x : Name) → m < ring.machines → Has (needs_of ring m (Close r true)) x →
      IsForSpot ring m (Close r true) x
  close_dense_needs m r x within h =
      let p = ring.machines in
      let f : ℕ → List Name = λ s. update_name r s 0 (order_of m s p) m ∷ update_name r s 1 (order_of m s p) m ∷ [] in
      let c = has_flat_map_cases f (range_with_len 0 (p - 1)) x h in
      let s = c.0 in
      let range = has_range_cases 0 (p - 1) s c.1 in
      let early : s + 1 < p = (let high = range.1 in omega arith) in
      ⊎_elim
      (λ (e : update_name r s 0 (order_of m s p) m ≡ x).
      subst (λ y. IsForSpot ring m (Close r true) y) e
      (record {
        one = record { from = refl; to = within; step = early; half = omega arith };
        to = refl;
        round = refl;
      }))
      (λ (more : Has (update_name r s 1 (order_of m s p) m ∷ []) x).
      ⊎_elim
      (λ (e : update_name r s 1 (order_of m s p) m ≡ x).
      subst (λ y. IsForSpot ring m (Close r true) y) e
      (record {
        one = record { from = refl; to = within; step = early; half = omega arith };
        to = refl;
        round = refl;
      }))
      (λ never. absurd never)
      more)
      c.2

  close_sparse_needs : (m r : ℕ) (x : Name) → m < ring.machines → Has (needs_of ring m (Close r false)) x →
      IsForSpot ring m (Close r false) x
  close_sparse_needs m r x within h =
      let c = has_map_cases (λ k. push_name r k m) (others_of ring.machines m) x h in
      let o = has_others_cases ring.machines m c.0 within c.1 in
      subst (λ y. IsForSpot ring m (Close r false) y) c.2 (record {
        one = record { from = o.0; to = within; other = o.1; step = refl; half = refl };
        to = refl;
        round = refl;
      })

  needs : (m : ℕ) (spot : Spot) (x : Name) → m < ring.machines → IsSpotOf ring spot → Has (needs_of ring m spot) x →
      IsForSpot ring m spot x
  needs m Tell x within is h = absurd h
  needs m (Judge r) x within is h = judge_needs m r x within h
  needs m (Begin r) x within is h = begin_needs m r x within h
  needs m (Scan r s j) x within is h = scan_needs m r s j x within is.1 is.2 h
  needs m (Close r true) x within is h = close_dense_needs m r x within h
  needs m (Close r false) x within is h = close_sparse_needs m r x within h
  needs m Over x within is h = absurd h

pub needs_can_be_taken : NeedsCanBeTaken
needs_can_be_taken ring m spot x within is c = needs ring m spot x within is
    (has_from_contains (needs_of ring m spot) x c)

pub need_at : (ring : Ring) (m : ℕ) (spot : Spot) (k : ℕ) (x : Name) → m < ring.machines → IsSpotOf ring spot →
    slice_get (needs_of ring m spot) k ≡ Some x → IsForSpot ring m spot x
need_at ring m spot k x within is e =
    needs_can_be_taken ring m spot x within is (
      k,
      slice_get_within (needs_of ring m spot) k x e,
      get_or_from_slice_get (needs_of ring m spot) k x x e,
    )
