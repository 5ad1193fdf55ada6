-- What playing one event does to a sink, whoever chose it and whatever comes then.
use Rattle.std.specs.Prelude.{Option, Some}
use Rattle.command_steps.specs.Leaves.{Leaves}
use Rattle.command_steps.specs.Notes.{Fault}
use Rattle.command_steps.specs.Orders.{NoTask, Order, Puts}
use Rattle.command_steps.specs.States.{Held, Kept, Left, Outside, outside}
use Rattle.symple_face.specs.Cluster.{World}
use Rattle.symple_face.specs.Work.{Work}
use Rattle.machine_runs.specs.Tellings.{Telling, by_worlds}
use Rattle.symple_words.specs.declared.line.Lines.{Lines}
use Rattle.vert_base.specs.declared.message.Event.{Event}

module _ {X E : Type 0} (t : Telling X E) (x : X) (e : E) where
  -- the line of an event and those of the round that it ends, and then what comes
  abbrev pub with_lines : Order → Order
  with_lines next = Puts (t.own x e) (Puts (t.ended x e) next)

  -- They were put: whatever an order leaves from behind them on, it leaves with them from before them.
  abbrev pub PutsEvent : Held → Held → Type 0
  PutsEvent old new =
      (next : Order) (shelf : Kept) (input : Left) (after : Outside) (outcome : Option Fault) →
      Leaves NoTask next (outside shelf new input) after outcome →
      Leaves NoTask (with_lines next) (outside shelf old input) after outcome

  -- They were put up to a fault, whatever would have come then.
  abbrev pub StopsAtEvent : Held → Held → Fault → Type 0
  StopsAtEvent old new fault =
      (next : Order) (shelf : Kept) (input : Left) →
      Leaves NoTask (with_lines next) (outside shelf old input) (outside shelf new input) (Some fault)

-- the lines of an event of machines
abbrev pub PutsLines : Work → Lines → World → Event → Held → Held → Type 0
PutsLines work lines w e old new = PutsEvent (by_worlds work lines) w e old new

abbrev pub StopsInLines : Work → Lines → World → Event → Held → Held → Fault → Type 0
StopsInLines work lines w e old new fault = StopsAtEvent (by_worlds work lines) w e old new fault
