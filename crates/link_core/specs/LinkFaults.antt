-- Which event isn't played over links, and why.
use Rattle.std.specs.Prelude.{if◌then◌else◌, Option, Some, None, option_map}
use Rattle.vert_base.specs.declared.message.Event.TheVariants as plain
use Rattle.symple_face.specs.Cluster.{finished}
use Rattle.cluster_run.specs.declared.fault.EventFault.TheVariants.{NotUnderWay, RunOver}
use Rattle.cluster_run.specs.Faults.{event_fault}
use Rattle.link_core.specs.declared.event.LinkEvent.{LinkEvent}
use Rattle.link_core.specs.declared.event.LinkEvent.TheVariants.{Go, Take, Lose, Again, Ack, Drop}
use Rattle.link_core.specs.declared.fault.LinkFault.{LinkFault}
use Rattle.link_core.specs.declared.fault.LinkFault.TheVariants.{Plain, NotAgain, NoAck}
use Rattle.link_core.specs.Links.{Linked}
use Rattle.link_core.specs.Traffic.{can_repeat, has_ack, has_copy}

-- where the run isn't finished
abbrev pub fault_within : Linked → LinkEvent → Option LinkFault
fault_within l (Go m) = option_map (λ fault. Plain fault) (event_fault l.world (plain.Go m))
fault_within l (Take x) = if has_copy l.traffic x then None else Some (Plain NotUnderWay)
fault_within l (Lose x) = if has_copy l.traffic x then None else Some (Plain NotUnderWay)
fault_within l (Again x) = if can_repeat l.traffic x then None else Some NotAgain
fault_within l (Ack x) = if has_ack l.traffic x then None else Some NoAck
fault_within l (Drop x) = if has_ack l.traffic x then None else Some NoAck

-- why an event isn't played, where it isn't
abbrev pub link_fault_of : Linked → LinkEvent → Option LinkFault
link_fault_of l e = if finished l.world then Some (Plain RunOver) else fault_within l e
