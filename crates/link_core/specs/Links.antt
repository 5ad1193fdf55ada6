-- A run over links that lose and repeat, as plain data, and what an event makes of it.
use Rattle.std.specs.Prelude.{◌&&◌, not, Bool, true, if◌then◌else◌, Option, Some, None, is_some, List, [], ◌∷◌, ◌++◌, map, slice_get}
use Rattle.vert_base.specs.declared.message.Name.{Name}
use Rattle.vert_base.specs.declared.message.Event.{Event}
use Rattle.vert_base.specs.declared.message.Event.TheVariants as plain
use Rattle.vert_base.specs.Letters.{found}
use Rattle.symple_face.specs.Cluster.{World, finished, possible, step}
use Rattle.symple_face.specs.State.{State}
use Rattle.symple_face.specs.Work.{Work}
use Rattle.link_core.specs.declared.event.LinkEvent.{LinkEvent}
use Rattle.link_core.specs.declared.event.LinkEvent.TheVariants.{Go, Take, Lose, Again, Ack, Drop}
use Rattle.link_core.specs.Traffic.{Traffic, acknowledged, all_sent, can_repeat, dropped, has_ack, has_copy, lost, no_traffic, repeated, taken}

-- the machines with the messages that were sent and not accepted, and the traffic on the links
pub record Linked : Type 0 where
  pub world : World
  pub traffic : Traffic

-- nothing was sent yet
abbrev pub linked_anew : World → Linked
linked_anew w = record { world = w; traffic = no_traffic }

-- whether the next take of the name would accept: it was sent, and not accepted before
abbrev pub accepts : Linked → Name → Bool
accepts l x = is_some (found x l.world.under_way)

-- the names of what a machine sends
abbrev pub sent_by : Work → Option State → List Name
sent_by work None = []
sent_by work (Some s) = map (λ l. l.name) (work.sent s)

-- the first copy that is taken goes to the machine, and no later one
abbrev pub accepted : Work → Linked → Name → World
accepted work l x = if accepts l x then step work l.world (plain.Take x) else l.world

-- what an event leaves
abbrev pub link_step : Work → Linked → LinkEvent → Linked
link_step work l (Go m) = record {
  world = step work l.world (plain.Go m);
  traffic = all_sent (sent_by work (slice_get l.world.sites m)) l.traffic;
}
link_step work l (Take x) = record { world = accepted work l x; traffic = taken x l.traffic }
link_step work l (Lose x) = record { world = l.world; traffic = lost x l.traffic }
link_step work l (Again x) = record { world = l.world; traffic = repeated x l.traffic }
link_step work l (Ack x) = record { world = l.world; traffic = acknowledged x l.traffic }
link_step work l (Drop x) = record { world = l.world; traffic = dropped x l.traffic }

-- whether an event is possible, where the run isn't finished
abbrev pub can_happen : Linked → LinkEvent → Bool
can_happen l (Go m) = possible l.world (plain.Go m)
can_happen l (Take x) = has_copy l.traffic x
can_happen l (Lose x) = has_copy l.traffic x
can_happen l (Again x) = can_repeat l.traffic x
can_happen l (Ack x) = has_ack l.traffic x
can_happen l (Drop x) = has_ack l.traffic x

-- in a finished run no event is possible, whatever is left on the wire
abbrev pub link_possible : Linked → LinkEvent → Bool
link_possible l e = not (finished l.world) && can_happen l e

-- what a list of events leaves
abbrev pub link_after : Work → Linked → List LinkEvent → Linked
link_after work l [] = l
link_after work l (e ∷ es) = link_after work (link_step work l e) es

-- whether each event is possible in turn
abbrev pub links_possible : Work → Linked → List LinkEvent → Bool
links_possible work l [] = true
links_possible work l (e ∷ es) = link_possible l e && links_possible work (link_step work l e) es

-- whether the events are a complete run from here
abbrev pub links_complete : Work → Linked → List LinkEvent → Bool
links_complete work l es = links_possible work l es && finished (link_after work l es).world

-- the plain part of an event: a go, and a take that accepts
abbrev pub plain_of : Linked → LinkEvent → List Event
plain_of l (Go m) = plain.Go m ∷ []
plain_of l (Take x) = if accepts l x then plain.Take x ∷ [] else []
plain_of l (Lose x) = []
plain_of l (Again x) = []
plain_of l (Ack x) = []
plain_of l (Drop x) = []

-- and of a list of events
abbrev pub plain_part : Work → Linked → List LinkEvent → List Event
plain_part work l [] = []
plain_part work l (e ∷ es) = plain_of l e ++ plain_part work (link_step work l e) es
