-- A machine that acted, and what it sent.
use Rattle.std.proofs.Common.{◌≡◌, ℕ, ◌≤◌, Some, refl, ap, sym, ◌∙◌, subst, slice_get}
use Rattle.std.specs.Prelude.{slice_set}
use Rattle.vert_base.specs.declared.message.Event.TheVariants as plain
use Rattle.circulant_plan.specs.declared.spot.Ring.{Ring}
use Rattle.circulant_plan.specs.declared.spot.Spot.{Spot}
use Rattle.circulant_plan.specs.Spots.{IsSpotOf}
use Rattle.circulant_plan.specs.Table.{gives_of}
use Rattle.symple_face.specs.Cluster.{World, go_at, step}
use Rattle.symple_face.specs.Lawful.{IsLawful}
use Rattle.symple_face.specs.Parts.{PlainPart}
use Rattle.symple_face.specs.Plans.{ring_of}
use Rattle.symple_face.specs.State.{State, machine, p_of}
use Rattle.symple_face.specs.Work.{Work}
use Rattle.cluster_run.specs.Driven.{IsReached}
use Rattle.cluster_run.proofs.SiteLists.{other, same, set_cases}
use Rattle.link_core.specs.declared.wire.Wire.{Wire}
use Rattle.link_core.specs.Links.{sent_by}
use Rattle.link_core.specs.Sending.{ruling_behind}
use Rattle.link_core.specs.Traffic.{Traffic, all_sent}
use Rattle.link_core.specs.Wires.{Carries}
use Rattle.link_core.proofs.SendLaws.{few_there, names_behind, spot_there}

module _ (work : Work) (sound : State → Type 0) (lawful : IsLawful work sound) (w v : World)
    (r : IsReached work sound w) (m : ℕ) (s t : State) (here : slice_get w.sites m ≡ Some s)
    (behind : v ≡ step work w (plain.Go m)) (there : slice_get v.sites m ≡ Some t) where
  gone : t ≡ work.go s
  gone =
      let at : slice_get (slice_set w.sites m (work.go s)) m ≡ Some t =
      sym (ap (λ (q : World). slice_get q.sites m) (behind ∙ ap (go_at work w m) here)) ∙ there in
      elim (set_cases w.sites m (work.go s) m t at) [
        | same e is ↦ sym is
        | other ne old ↦ absurd (ne refl)
      ]

  split_is : t.split ≡ s.split
  split_is = ap (λ (q : State). q.split) gone ∙ lawful.go_split s

  part_is : t.part ≡ s.part
  part_is = ap (λ (q : State). q.part) gone ∙ lawful.go_part s

  count_is : p_of t ≡ p_of s
  count_is = ap (λ (part : PlainPart). part.at.machines) part_is

  pub few_behind : p_of t ≤ 64
  few_behind = subst (λ n. n ≤ 64) (sym count_is) (few_there work sound lawful w r m s here)

  pub spot_behind : (spot : Spot) → spot ≡ s.at.spot → IsSpotOf (ring_of t.split (p_of t)) spot
  spot_behind spot at =
      let ring : ring_of t.split (p_of t) ≡ ring_of s.split (p_of s) =
      ap (λ q. ring_of q (p_of t)) split_is ∙ ap (ring_of s.split) count_is in
      subst (IsSpotOf (ring_of t.split (p_of t))) (sym at)
      (subst (λ (q : Ring). IsSpotOf q s.at.spot) (sym ring) (spot_there work sound lawful w r m s here))

  pub sent_behind : (wire : Wire) (traffic : Traffic) (spot : Spot) → spot ≡ s.at.spot →
      Carries wire (all_sent (gives_of (ring_of t.split (p_of t)) (machine t) spot (ruling_behind t.at.spot)) traffic) →
      Carries wire (all_sent (sent_by work (slice_get w.sites m)) traffic)
  sent_behind wire traffic spot at carries =
      subst (λ xs. Carries wire (all_sent xs traffic))
      (ap (λ q. gives_of (ring_of t.split (p_of t)) (machine t) q (ruling_behind t.at.spot)) at
      ∙ names_behind work sound lawful s t gone
      ∙ sym (ap (sent_by work) here))
      carries
