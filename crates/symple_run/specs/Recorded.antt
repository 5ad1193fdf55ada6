-- The courses of recorded runs.
use Rattle.std.specs.Prelude.{◌≡◌, ℕ, List, []}
use Rattle.command_steps.specs.Orders.{Course, Play}
use Rattle.delivery_log.specs.Choosers.{IsDrawnRun, generator_of}
use Rattle.symple_face.specs.Cluster.{World}
use Rattle.symple_face.specs.Work.{Work}
use Rattle.machine_runs.specs.PlainPlays.{IsFirstWorld}
use Rattle.machine_runs.specs.Tellings.{by_worlds, recorded}
use Rattle.vert_base.specs.declared.message.Event.{Event}

-- The events are those that the seed draws, and their text is kept under this name.
pub record IsDrawnPlay (work : Work) (play : Play) (seed : ℕ) (name : List ℕ) (course : Course) : Type 0 where
  pub first : World
  pub is_first : IsFirstWorld work play.program play.graph play.machines play.draws first
  pub events : List Event
  pub drawn : IsDrawnRun work first (generator_of seed) events
  pub course_is : course ≡ recorded (by_worlds work play.lines) name play.machines [] first events
