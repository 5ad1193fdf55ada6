-- What a machine sends has a proper name: one of a kind without step and half has 0 there.
use Rattle.std.proofs.Common.{◌≡◌, ℕ, ◌+◌, ◌-◌, Bool, true, false, List, [], ◌∷◌, map, refl, subst, inl, inr}
use Rattle.std.specs.Prelude.{◌==◌, if◌then◌else◌, nat_lt}
use Rattle.vert_base.specs.declared.message.Name.{Name}
use Rattle.vert_base.specs.declared.value.Ruling.{Ruling}
use Rattle.vert_base.specs.declared.value.Ruling.TheVariants.{Stop, Dense, Sparse}
use Rattle.vert_base.specs.HeaderBytes.{is_proper}
use Rattle.circulant_plan.specs.declared.spot.Ring.{Ring}
use Rattle.circulant_plan.specs.declared.spot.Spot.{Spot}
use Rattle.circulant_plan.specs.declared.spot.Spot.TheVariants.{Tell, Judge, Begin, Scan, Close, Over}
use Rattle.circulant_plan.specs.Names.{dep_name, push_name, refresh_name, tally_name, update_name, verdict_name}
use Rattle.circulant_plan.specs.Ring.{after_machine, chunk_of}
use Rattle.circulant_plan.specs.Table.{gives_of, name_if, others_of}
use Rattle.circulant_plan.proofs.Members.{Has, has_map_cases}

among : (f : ℕ → Name) → ((k : ℕ) → is_proper (f k) ≡ true) → (ks : List ℕ) (x : Name) → Has (map f ks) x →
    is_proper x ≡ true
among f all ks x h = let k = has_map_cases f ks x h in subst (λ y. is_proper y ≡ true) k.2 (all k.0)

alone : (b : Bool) (x y : Name) → is_proper y ≡ true → Has (if b then y ∷ [] else []) x → is_proper x ≡ true
alone true x y is (inl same) = subst (λ z. is_proper z ≡ true) same is
alone true x y is (inr h) = absurd h
alone false x y is h = absurd h

tally_proper : (b : Bool) (r m : ℕ) (x : Name) → Has (if b then [] else tally_name r m ∷ []) x → is_proper x ≡ true
tally_proper true r m x h = absurd h
tally_proper false r m x (inl same) = subst (λ z. is_proper z ≡ true) same refl
tally_proper false r m x (inr h) = absurd h

judge_proper : (b : Bool) (r : ℕ) (ks : List ℕ) (x : Name) → Has (if b then map (verdict_name r) ks else []) x →
    is_proper x ≡ true
judge_proper true r ks x h = among (verdict_name r) (λ k. refl) ks x h
judge_proper false r ks x h = absurd h

scan_proper : (b : Bool) (carry : Bool) (u d x : Name) → is_proper u ≡ true → is_proper d ≡ true →
    Has (if b then u ∷ name_if carry d else []) x → is_proper x ≡ true
scan_proper true carry u d x is also (inl same) = subst (λ z. is_proper z ≡ true) same is
scan_proper true carry u d x is also (inr h) = alone carry x d also h
scan_proper false carry u d x is also h = absurd h

pub gift_proper : (ring : Ring) (m : ℕ) (spot : Spot) (a : Ruling) (x : Name) → Has (gives_of ring m spot a) x →
    is_proper x ≡ true
gift_proper ring m Tell a x h = tally_proper (m == 0) 0 m x h
gift_proper ring m (Judge r) a x h = judge_proper (m == 0) (r + 1) (others_of ring.machines 0) x h
gift_proper ring m (Begin r) Stop x h = absurd h
gift_proper ring m (Begin r) Dense x h = among (refresh_name r m) (λ k. refl) (others_of ring.machines m) x h
gift_proper ring m (Begin r) Sparse x h = among (push_name r m) (λ k. refl) (others_of ring.machines m) x h
gift_proper ring m (Scan r s half) a x h =
    scan_proper (nat_lt s (ring.machines - 1)) ring.carry (update_name r s half m (chunk_of m s ring.machines))
    (dep_name r s half m (after_machine m ring.machines)) x refl refl h
gift_proper ring m (Close r dense) a x h = tally_proper (m == 0) r m x h
gift_proper ring m Over a x h = absurd h
