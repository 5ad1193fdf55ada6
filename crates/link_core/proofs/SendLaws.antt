-- What a machine sends is what the table of actions gives at the spot where it stood.
use Rattle.std.proofs.Common.{◌≡◌, ℕ, ◌+◌, ◌<◌, ◌≤◌, List, [], ◌∷◌, drop, drop-cons, length, map, Some, None, refl, ap, sym, ◌∙◌, subst, zero, suc, arith, slice_get}
use Rattle.std.specs.List.{All}
use Rattle.std.proofs.lemmas.Option.{get_or_from_slice_get, slice_get_within}
use Rattle.vert_base.specs.declared.message.Name.{Name}
use Rattle.vert_base.specs.declared.value.Ruling.{Ruling}
use Rattle.vert_base.specs.declared.value.Ruling.TheVariants.{Stop, Dense, Sparse}
use Rattle.vert_tree.proofs.TypedLaws.{few_rounds}
use Rattle.circulant_plan.specs.declared.spot.Ring.{Ring}
use Rattle.circulant_plan.specs.declared.spot.Spot.{Spot}
use Rattle.circulant_plan.specs.declared.spot.Spot.TheVariants.{Tell, Judge, Begin, Scan, Close, Over}
use Rattle.circulant_plan.specs.Deliveries.{HasSpot}
use Rattle.circulant_plan.specs.Spots.{IsSpotOf}
use Rattle.circulant_plan.specs.Standing.{Standing, round_of}
use Rattle.circulant_plan.specs.Table.{gives_of, next_spot}
use Rattle.symple_face.specs.Cluster.{World}
use Rattle.symple_face.specs.Lawful.{CanRun, IsLawful, acting}
use Rattle.symple_face.specs.Parts.{PlainPart}
use Rattle.symple_face.specs.Plans.{ring_of}
use Rattle.symple_face.specs.State.{State, machine, p_of}
use Rattle.symple_face.specs.Work.{Work}
use Rattle.cluster_run.specs.Driven.{IsReached}
use Rattle.cluster_run.proofs.PartsAt.{parts_few, parts_some}
use Rattle.cluster_run.proofs.ReachedWorlds.{reached_ties}
use Rattle.cluster_run.proofs.Worlds.{it_is, it_keeps}
use Rattle.link_core.specs.Sending.{ruling_behind}
use Rattle.link_core.specs.Traffic.{Traffic, all_sent, sent}

-- ---- one message after another
pub drop_at : (xs : List Name) (k : ℕ) (x : Name) → slice_get xs k ≡ Some x → drop k xs ≡ x ∷ drop (k + 1) xs
drop_at xs k x e =
    let within : k < length xs = slice_get_within xs k x e in
    let next : suc k ≡ k + 1 = omega arith in
    drop-cons xs k x within
    ∙ ap (λ y. y ∷ drop (suc k) xs) (get_or_from_slice_get xs k x x e)
    ∙ ap (λ n. x ∷ drop n xs) next

none_left : (k : ℕ) → drop k (let none : List Name = [] in none) ≡ []
none_left zero = refl
none_left (suc k) = refl

pub drop_past : (xs : List Name) (k : ℕ) → slice_get xs k ≡ None → drop k xs ≡ []
drop_past [] k e = none_left k
drop_past (x ∷ xs) zero e = absurd (cc)
drop_past (x ∷ xs) (suc k) e = drop_past xs k e

pub sent_next : (xs : List Name) (k : ℕ) (x : Name) (t : Traffic) → slice_get xs k ≡ Some x →
    all_sent (drop k xs) t ≡ all_sent (drop (k + 1) xs) (sent x t)
sent_next xs k x t e = ap (λ ys. all_sent ys t) (drop_at xs k x e)

pub sent_all : (xs : List Name) (k : ℕ) (t : Traffic) → slice_get xs k ≡ None → all_sent (drop k xs) t ≡ t
sent_all xs k t e = ap (λ ys. all_sent ys t) (drop_past xs k e)

-- ---- the ruling matters at a begin alone, and the next spot tells it
pub gives_behind : (ring : Ring) (m : ℕ) (spot : Spot) (a : Ruling) →
    gives_of ring m spot (ruling_behind (next_spot ring m spot a)) ≡ gives_of ring m spot a
gives_behind ring m Tell a = refl
gives_behind ring m (Judge r) a = refl
gives_behind ring m (Begin r) Stop = refl
gives_behind ring m (Begin r) Dense = refl
gives_behind ring m (Begin r) Sparse = refl
gives_behind ring m (Scan r s h) a = refl
gives_behind ring m (Close r dense) a = refl
gives_behind ring m Over a = refl

pub names_behind : (work : Work) (sound : State → Type 0) (lawful : IsLawful work sound) (s t : State) →
    t ≡ work.go s →
    gives_of (ring_of t.split (p_of t)) (machine t) s.at.spot (ruling_behind t.at.spot)
    ≡ map (λ l. l.name) (work.sent s)
names_behind work sound lawful s t is =
    ap (λ (q : State). gives_of (ring_of q.split (p_of q)) (machine q) s.at.spot (ruling_behind q.at.spot)) is
    ∙ ap (λ q. gives_of (ring_of q (p_of (work.go s))) (machine (work.go s)) s.at.spot
    (ruling_behind (work.go s).at.spot)) (lawful.go_split s)
    ∙ ap (λ (part : PlainPart). gives_of (ring_of s.split part.at.machines) part.at.machine s.at.spot
    (ruling_behind (work.go s).at.spot)) (lawful.go_part s)
    ∙ ap (λ (at : Standing). gives_of (ring_of s.split (p_of s)) (machine s) s.at.spot (ruling_behind at.spot))
    (lawful.go_at s)
    ∙ gives_behind (ring_of s.split (p_of s)) (machine s) s.at.spot (acting work s)
    ∙ sym (lawful.sent_names s)

-- ---- a machine's spot is one of its ring
module _ (ring : Ring) (m : ℕ) (ruling : Ruling) where
  spot_of : (spot : Spot) (round limit : ℕ) → HasSpot ring m ruling spot → round ≡ round_of round spot →
      round ≤ limit + 1 → limit ≤ 10000 → IsSpotOf ring spot
  spot_of Tell round limit has at within few = tt
  spot_of (Judge r) round limit has at within few = omega arith
  spot_of (Begin r) round limit has at within few = omega arith
  spot_of (Scan r s h) round limit has at within few = (omega arith, has.1, has.2)
  spot_of (Close r dense) round limit has at within few = omega arith
  spot_of Over round limit has at within few = tt

module _ (work : Work) (sound : State → Type 0) (lawful : IsLawful work sound) (w : World)
    (r : IsReached work sound w) where
  few : length r.parts ≤ 64
  few = parts_few r.parts r.one_run

  rounds : r.split.program.program.limit ≤ 10000
  rounds =
      let some = parts_some r.parts r.one_run in
      elim r.parts as (λ ps. All (λ part. CanRun part r.split) ps → 1 ≤ length ps →
      r.split.program.program.limit ≤ 10000) [
        | [] ↦ λ all one. absurd (omega arith)
        | p ∷ ps ↦ λ all one.
            let can : CanRun p r.split = all 0 p (omega arith) in
            few_rounds r.split.program.program can.program.typed
      ] r.can_run some

  pub spot_there : (m : ℕ) (s : State) → slice_get w.sites m ≡ Some s →
      IsSpotOf (ring_of s.split (p_of s)) s.at.spot
  spot_there m s at =
      let t = reached_ties work sound lawful w r in
      let is = it_is work sound lawful r.split r.parts few w t.k t.alike t.reached m s at in
      let keeps = it_keeps work sound lawful r.split r.parts few w t.k t.alike t.reached m s at in
      let here : ring_of s.split (p_of s) ≡ ring_of r.split (length r.parts) =
      ap (λ q. ring_of q (p_of s)) is.split_is ∙ ap (λ n. ring_of r.split n) is.count in
      subst (λ ring. IsSpotOf ring s.at.spot) (sym here)
      (spot_of (ring_of r.split (length r.parts)) m _ s.at.spot s.at.round r.split.program.program.limit keeps.has
      keeps.round keeps.within rounds)

  pub few_there : (m : ℕ) (s : State) → slice_get w.sites m ≡ Some s → p_of s ≤ 64
  few_there m s at =
      let t = reached_ties work sound lawful w r in
      let is = it_is work sound lawful r.split r.parts few w t.k t.alike t.reached m s at in
      let count = is.count in
      let most = few in
      omega arith
