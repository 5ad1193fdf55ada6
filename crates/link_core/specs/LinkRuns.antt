-- Links as their callers see them, and the states that possible events leave.
use Rattle.std.specs.Prelude.{◌≡◌, Bool, true, false, None, List, []}
use Rattle.symple_face.specs.Cluster.{World}
use Rattle.symple_face.specs.State.{State}
use Rattle.symple_face.specs.Work.{Work}
use Rattle.cluster_run.specs.Driven.{Driven, IsReached}
use Rattle.link_core.specs.declared.event.LinkEvent.{LinkEvent}
use Rattle.link_core.specs.declared.wire.Wire.{Wire}
use Rattle.link_core.specs.LinkFaults.{fault_within}
use Rattle.link_core.specs.Links.{Linked, link_after, link_step, linked_anew, links_possible}
use Rattle.link_core.specs.Wires.{Carries, IsSettled, traffic_of}

-- the machines and the links of a run, and whether want of memory has ended it
pub record DrivenLinks : Type 0 where
  pub links : Linked
  pub ended : Bool

abbrev pub linked_of : World → Wire → Linked
linked_of w wire = record { world = w; traffic = traffic_of wire }

-- a state that possible events leave, from a world of a run in which nothing is under way
pub record IsLinkReached (work : Work) (sound : State → Type 0) (l : Linked) : Type 0 where
  pub first : World
  pub reached : IsReached work sound first
  pub still : first.under_way ≡ []
  pub events : List LinkEvent
  pub were_possible : links_possible work (linked_anew first) events ≡ true
  pub here : l ≡ link_after work (linked_anew first) events

-- until want of memory ends them, links are in a state that possible events leave
pub record AreDriven (work : Work) (sound : State → Type 0) (cluster : Driven) (wire : Wire) : Type 0 where
  pub on : cluster.ended ≡ false
  pub settled : IsSettled wire
  pub reached : IsLinkReached work sound (linked_of cluster.world wire)

-- the event was played: these are the cluster and the wire behind it
pub record IsPlayed (work : Work) (before : Linked) (e : LinkEvent) (cluster : Driven) (wire : Wire) : Type 0 where
  pub free : fault_within before e ≡ None
  pub world : cluster ≡ record { world = (link_step work before e).world; ended = false }
  pub traffic : Carries wire (link_step work before e).traffic
