-- What an action sends: few messages, and none twice.
use Rattle.std.proofs.Common.{inl, inr, subst, ⊎_elim, ◌<◌, ◌≡◌, ℕ, zero, suc, ◌+◌, ◌-◌, ◌≤◌, Bool, true, false, ◌==◌, nat_lt, List, [], ◌∷◌, ◌++◌, length, map, refl, ap, sym, ◌∙◌, arith}
use Rattle.std.specs.Prelude.{if◌then◌else◌}
use Rattle.std.specs.List.{range_with_len}
use Rattle.vert_base.specs.declared.message.Name.{Name}
use Rattle.vert_base.specs.declared.message.NameKind.TheVariants.{Dep, Update}
use Rattle.vert_base.specs.declared.value.Ruling.{Ruling}
use Rattle.vert_base.specs.declared.value.Ruling.TheVariants.{Stop, Dense, Sparse}
use Rattle.vert_base.specs.Names.{kind_place}
use Rattle.circulant_plan.specs.Deliveries.{HasSpot}
use Rattle.circulant_plan.specs.declared.spot.Ring.{Ring}
use Rattle.circulant_plan.specs.declared.spot.Spot.{Spot}
use Rattle.circulant_plan.specs.declared.spot.Spot.TheVariants.{Tell, Judge, Begin, Scan, Close, Over}
use Rattle.circulant_plan.specs.Names.{refresh_name, dep_name, update_name, push_name, tally_name, verdict_name}
use Rattle.circulant_plan.specs.Ring.{chunk_of, after_machine}
use Rattle.circulant_plan.specs.Table.{others_of, name_if, gives_of}
use Rattle.circulant_plan.proofs.CountLaws.{length-map_others}
use Rattle.circulant_plan.proofs.Members.{Has, has_map_cases}
use Rattle.circulant_plan.proofs.Choices.{has_name_if_cases}
use Rattle.circulant_plan.proofs.NameLists.{Once}
use Rattle.circulant_plan.proofs.Rise.{Rise, rise_least, rise_lower}

few_if : (b : Bool) (xs ys : List Name) → length xs ≤ 64 → length ys ≤ 64 → length (if b then xs else ys) ≤ 64
few_if true xs ys e f = e
few_if false xs ys e f = f

name_if_few : (b : Bool) (x : Name) → length (name_if b x) ≤ 1
name_if_few true x = omega arith
name_if_few false x = omega arith

few_others : (f : ℕ → Name) (p m : ℕ) → m < p → p ≤ 64 → length (map f (others_of p m)) ≤ 64
few_others f p m lt few = let same = length-map_others f p m lt in omega arith

-- an action sends at most 64 messages
pub gives_few : (ring : Ring) → ring.machines ≤ 64 → (m : ℕ) → m < ring.machines →
    (ruling : Ruling) (spot : Spot) → length (gives_of ring m spot ruling) ≤ 64
gives_few ring few m within ruling Tell = few_if (m == 0) [] (tally_name 0 m ∷ []) (omega arith) (omega arith)
gives_few ring few m within ruling (Judge r) =
    few_if (m == 0) (map (verdict_name (r + 1)) (others_of ring.machines 0)) []
    (few_others (verdict_name (r + 1)) ring.machines 0 (omega arith) few) (omega arith)
gives_few ring few m within Stop (Begin r) = omega arith
gives_few ring few m within Dense (Begin r) = few_others (refresh_name r m) ring.machines m within few
gives_few ring few m within Sparse (Begin r) = few_others (push_name r m) ring.machines m within few
gives_few ring few m within ruling (Scan r s h) =
    let n = name_if_few ring.carry (dep_name r s h m (after_machine m ring.machines)) in
    few_if (nat_lt s (ring.machines - 1))
    (update_name r s h m (chunk_of m s ring.machines) ∷ name_if ring.carry
    (dep_name r s h m (after_machine m ring.machines))) []
    (omega arith) (omega arith)
gives_few ring few m within ruling (Close r dense) =
    few_if (m == 0) [] (tally_name r m ∷ []) (omega arith) (omega arith)
gives_few ring few m within ruling Over = omega arith

range_rises : (a n b : ℕ) (ys : List ℕ) → a + n ≤ b → Rise b ys → Rise a (range_with_len a n ++ ys)
range_rises a zero b ys le rise = rise_lower b a ys (omega arith) rise
range_rises a (suc n) b ys le rise = (omega arith, range_rises (a + 1) n b ys (omega arith) rise)

range_alone : (a n : ℕ) → Rise a (range_with_len a n)
range_alone a zero = tt
range_alone a (suc n) = (omega arith, range_alone (a + 1) n)

others_rise : (p m : ℕ) → Rise 0 (others_of p m)
others_rise p m =
    range_rises 0 m (m + 1) (range_with_len (m + 1) (p - 1 - m)) (omega arith) (range_alone (m + 1) (p - 1 - m))

-- names to different machines
once_to : (f : ℕ → Name) (a : ℕ) (ns : List ℕ) → ((n : ℕ) → (f n).to ≡ n) → Rise a ns → Once (map f ns)
once_to f a [] to rise = tt
once_to f a (n ∷ ns) to rise = (
  (λ again.
      let c = has_map_cases f ns (f n) again in
      let same : c.0 ≡ n = sym (to c.0) ∙ ap (λ (y : Name). y.to) c.2 ∙ to n in
      let low = rise_least (n + 1) ns c.0 rise.1 c.1 in
      absurd (omega arith)),
  once_to f (n + 1) ns to rise.1,
)

once_if : (b : Bool) (xs ys : List Name) → Once xs → Once ys → Once (if b then xs else ys)
once_if true xs ys f g = f
once_if false xs ys f g = g

once_name_if : (b : Bool) (x : Name) → Once (name_if b x)
once_name_if true x = ((λ h. h), tt)
once_name_if false x = tt

update_not_dep : (r s h k m d : ℕ) → dep_name r s h k m ≡ update_name r s h k d → ⊥
update_not_dep r s h k m d e =
    absurd (let f : kind_place Dep ≡ kind_place Update = ap (λ (y : Name). kind_place y.kind) e in omega arith)

pub once_gives : (ring : Ring) (m : ℕ) (ruling : Ruling) (spot : Spot) → Once (gives_of ring m spot ruling)
once_gives ring m ruling Tell = once_if (m == 0) [] (tally_name 0 m ∷ []) tt ((λ h. h), tt)
once_gives ring m ruling (Judge r) =
    once_if (m == 0) (map (verdict_name (r + 1)) (others_of ring.machines 0)) []
    (once_to (verdict_name (r + 1)) 0 (others_of ring.machines 0) (λ n. refl) (others_rise ring.machines 0))
    tt
once_gives ring m Stop (Begin r) = tt
once_gives ring m Dense (Begin r) =
    once_to (refresh_name r m) 0 (others_of ring.machines m) (λ n. refl) (others_rise ring.machines m)
once_gives ring m Sparse (Begin r) =
    once_to (push_name r m) 0 (others_of ring.machines m) (λ n. refl) (others_rise ring.machines m)
once_gives ring m ruling (Scan r s h) =
    let p = ring.machines in
    once_if (nat_lt s (p - 1))
    (update_name r s h m (chunk_of m s p) ∷ name_if ring.carry (dep_name r s h m (after_machine m p))) [] (
      (λ again.
          let c =
          has_name_if_cases ring.carry (dep_name r s h m (after_machine m p))
          (update_name r s h m (chunk_of m s p)) again in
          update_not_dep r s h m (after_machine m p) (chunk_of m s p) c.1),
      once_name_if ring.carry (dep_name r s h m (after_machine m p)),
    ) tt
once_gives ring m ruling (Close r dense) = once_if (m == 0) [] (tally_name r m ∷ []) tt ((λ h. h), tt)
once_gives ring m ruling Over = tt

-- the step and the half of what a spot sends
tally_small : (m r : ℕ) (x : Name) (b : Bool) → Has (if b then [] else tally_name r m ∷ []) x →
    (x.step < 64) × (x.half ≤ 1)
tally_small m r x true h = absurd h
tally_small m r x false (inl e) = subst (λ y. (y.step < 64) × (y.half ≤ 1)) e (omega arith, omega arith)
tally_small m r x false (inr h) = absurd h

map_small : (f : ℕ → Name) (ns : List ℕ) (x : Name) → ((n : ℕ) → ((f n).step < 64) × ((f n).half ≤ 1)) →
    Has (map f ns) x → (x.step < 64) × (x.half ≤ 1)
map_small f ns x each h = let c = has_map_cases f ns x h in subst (λ y. (y.step < 64) × (y.half ≤ 1)) c.2 (each c.0)

if_small : (xs : List Name) (x : Name) (b : Bool) → (Has xs x → (x.step < 64) × (x.half ≤ 1)) →
    Has (if b then xs else []) x → (x.step < 64) × (x.half ≤ 1)
if_small xs x true each h = each h
if_small xs x false each h = absurd h

module _ (ring : Ring) where
  pub gives_small : ring.machines ≤ 64 → (m : ℕ) (mode ruling : Ruling) (spot : Spot) (x : Name) →
      HasSpot ring m mode spot → Has (gives_of ring m spot ruling) x → (x.step < 64) × (x.half ≤ 1)
  gives_small few m mode ruling Tell x has h = tally_small m 0 x (m == 0) h
  gives_small few m mode ruling (Judge r) x has h =
      if_small (map (verdict_name (r + 1)) (others_of ring.machines 0)) x (m == 0)
      (map_small (verdict_name (r + 1)) (others_of ring.machines 0) x (λ n. (omega arith, omega arith))) h
  gives_small few m mode Stop (Begin r) x has h = absurd h
  gives_small few m mode Dense (Begin r) x has h =
      map_small (refresh_name r m) (others_of ring.machines m) x (λ n. (omega arith, omega arith)) h
  gives_small few m mode Sparse (Begin r) x has h =
      map_small (push_name r m) (others_of ring.machines m) x (λ n. (omega arith, omega arith)) h
  gives_small few m mode ruling (Scan r s j) x has h =
      let p = ring.machines in
      let step = has.1 in
      let half = has.2 in
      if_small
      (update_name r s j m (chunk_of m s p) ∷ name_if ring.carry (dep_name r s j m (after_machine m p))) x
      (nat_lt s (p - 1))
      (λ listed. ⊎_elim
      (λ (e : update_name r s j m (chunk_of m s p) ≡ x).
      subst (λ y. (y.step < 64) × (y.half ≤ 1)) e (omega arith, omega arith))
      (λ (more : Has (name_if ring.carry (dep_name r s j m (after_machine m p))) x).
      let c = has_name_if_cases ring.carry (dep_name r s j m (after_machine m p)) x more in
      subst (λ y. (y.step < 64) × (y.half ≤ 1)) c.1 (omega arith, omega arith))
      listed) h
  gives_small few m mode ruling (Close r dense) x has h = tally_small m r x (m == 0) h
  gives_small few m mode ruling Over x has h = absurd h
