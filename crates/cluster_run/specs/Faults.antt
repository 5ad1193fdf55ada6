-- Which event isn't played, and why, and what an unfinished run lacks.
use Rattle.std.specs.Prelude.{Bool, true, false, if◌then◌else◌, Option, Some, None, option_map, slice_get}
use Rattle.vert_base.specs.declared.message.Event.{Event}
use Rattle.vert_base.specs.declared.message.Event.TheVariants.{Go, Take}
use Rattle.symple_face.specs.declared.action.Action.{Action}
use Rattle.symple_face.specs.declared.action.Action.TheVariants as action
use Rattle.symple_face.specs.Cluster.{World, finished, missing_of, possible}
use Rattle.symple_face.specs.State.{State, action_of}
use Rattle.cluster_run.specs.declared.fault.EventFault.{EventFault}
use Rattle.cluster_run.specs.declared.fault.EventFault.TheVariants.{NoMachine, Waits, MachineOver, NotUnderWay, RunOver}
use Rattle.cluster_run.specs.declared.fault.Missing.{Missing}
use Rattle.cluster_run.specs.declared.fault.Missing.TheVariants.{Taken, Gone}

abbrev pub action_fault : Action → Option EventFault
action_fault action.Ready = None
action_fault (action.Waits x) = Some (Waits x)
action_fault action.Over = Some MachineOver

abbrev pub go_fault : Option State → Option EventFault
go_fault None = Some NoMachine
go_fault (Some s) = action_fault (action_of s)

abbrev pub event_fault : World → Event → Option EventFault
event_fault w (Go m) = go_fault (slice_get w.sites m)
event_fault w (Take x) = if possible w (Take x) then None else Some NotUnderWay

-- why an event isn't played, where it isn't
abbrev pub fault_of : World → Event → Option EventFault
fault_of w e = if finished w then Some RunOver else event_fault w e

abbrev pub is_take : Event → Bool
is_take (Go m) = false
is_take (Take x) = true

abbrev pub lacks : Event → Missing
lacks (Go m) = Gone m
lacks (Take x) = Taken x

abbrev pub lacking : World → Option Missing
lacking w = option_map lacks (missing_of w)
