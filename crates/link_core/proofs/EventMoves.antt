-- Links behind an event that was played.
use Rattle.std.proofs.Common.{◌≡◌, false, None, Some, ap, sym, ◌∙◌, subst}
use Rattle.std.specs.Prelude.{if◌then◌else◌}
use Rattle.symple_face.specs.Cluster.{World, finished}
use Rattle.symple_face.specs.Lawful.{IsLawful}
use Rattle.symple_face.specs.State.{State}
use Rattle.symple_face.specs.Work.{Work}
use Rattle.cluster_run.specs.declared.fault.EventFault.TheVariants.{RunOver}
use Rattle.cluster_run.specs.Driven.{Driven}
use Rattle.link_core.specs.declared.event.LinkEvent.{LinkEvent}
use Rattle.link_core.specs.declared.fault.LinkFault.TheVariants.{Plain}
use Rattle.link_core.specs.declared.wire.Wire.{Wire}
use Rattle.link_core.specs.LinkFaults.{fault_within, link_fault_of}
use Rattle.link_core.specs.LinkRuns.{AreDriven, IsLinkReached, IsPlayed, linked_of}
use Rattle.link_core.specs.Links.{Linked, link_step}
use Rattle.link_core.specs.Traffic.{Traffic}
use Rattle.link_core.specs.Wires.{traffic_of}
use Rattle.link_core.proofs.LinkOrderLaws.{free}
use Rattle.link_core.proofs.LinkReached.{link_steps_on}

pub played_links : (work : Work) (before : Linked) (e : LinkEvent) (cluster : Driven) (wire : Wire) →
    IsPlayed work before e cluster wire → linked_of cluster.world wire ≡ link_step work before e
played_links work before e cluster wire played =
    ap (λ (w : World). (let l : Linked = record { world = w; traffic = traffic_of wire } in l))
    (ap (λ (d : Driven). d.world) played.world)
    ∙ ap (λ (t : Traffic). (let l : Linked = record { world = (link_step work before e).world; traffic = t } in l))
    played.traffic.traffic

pub played_free : (before : Linked) (e : LinkEvent) → finished before.world ≡ false → fault_within before e ≡ None →
    link_fault_of before e ≡ None
played_free before e on none = ap (λ b. if b then Some (Plain RunOver) else fault_within before e) on ∙ none

module _ (work : Work) (sound : State → Type 0) (lawful : IsLawful work sound) (before : Linked) (e : LinkEvent)
    (cluster : Driven) (wire : Wire) where
  pub played_driven : IsLinkReached work sound before → finished before.world ≡ false →
      IsPlayed work before e cluster wire → AreDriven work sound cluster wire
  played_driven r on played =
      let can = (free work sound lawful before r e).1 (played_free before e on played.free) in
      record {
        on = ap (λ (d : Driven). d.ended) played.world;
        settled = played.traffic.settled;
        reached =
            subst (IsLinkReached work sound) (sym (played_links work before e cluster wire played))
            (link_steps_on work sound before e r can);
      }
