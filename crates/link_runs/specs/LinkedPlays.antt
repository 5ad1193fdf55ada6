-- The courses of runs over links: those whose events a seed draws, and those that follow a text.
use Rattle.std.specs.Prelude.{◌≡◌, ◌<◌, ◌⊎◌, ◌++◌, ℕ, true, List, [], Option, length}
use Rattle.command_steps.specs.Leaves.{AfterRun, Leaves}
use Rattle.command_steps.specs.Notes.{Fault}
use Rattle.command_steps.specs.Orders.{Course, NoTask, Play, follows}
use Rattle.command_steps.specs.States.{Outside}
use Rattle.delivery_log.specs.Choosers.{generator_of}
use Rattle.link_core.specs.declared.event.LinkEvent.{LinkEvent}
use Rattle.link_core.specs.LinkChoosers.{AreDrawn}
use Rattle.link_core.specs.Links.{Linked, link_after, linked_anew}
use Rattle.link_core.specs.LinkTexts.{links_text}
use Rattle.link_runs.specs.LinkTellings.{by_links, listed_links}
use Rattle.machine_runs.specs.PlainPlays.{IsFirstWorld}
use Rattle.machine_runs.specs.Tellings.{followed_as, recorded_as}
use Rattle.rand_pcg.specs.Lcg.{Lcg}
use Rattle.symple_face.specs.Cluster.{World, finished}
use Rattle.symple_face.specs.Work.{Work}
use Rattle.symple_words.specs.Ranges.{AreMachines}
use Rattle.vert_base.specs.declared.limits.TheConstants.{SCHEDULE_BYTES}

-- Behind some events these are the drawn ones, up to the end of the run, or so far that a text of form 3 can't hold
-- them all: links that lose need not come to an end.
abbrev pub IsDrawnFar : Work → ℕ → List LinkEvent → Linked → Lcg → List LinkEvent → Type 0
IsDrawnFar work machines added l g events =
    AreDrawn work l g events
    × ((finished (link_after work l events).world ≡ true)
    ⊎ (SCHEDULE_BYTES < length (links_text machines (added ++ events))))

-- The events are those that the seed draws over links, and their text of form 3 is kept under this name.
pub record IsLossyPlay (work : Work) (play : Play) (seed : ℕ) (name : List ℕ) (course : Course) : Type 0 where
  pub first : World
  pub is_first : IsFirstWorld work play.program play.graph play.machines play.draws first
  pub events : List LinkEvent
  pub few : AreMachines play.machines
  pub drawn : IsDrawnFar work play.machines [] (linked_anew first) (generator_of seed) events
  pub course_is : course ≡ recorded_as (by_links work play.lines) (links_text play.machines) name []
      (linked_anew first) events

-- The events of a text of form 3 are played one by one, behind the first line, as far as they can happen.
pub record IsLinkedPlay (work : Work) (play : Play) (events : List LinkEvent) (course : Course) : Type 0 where
  pub first : World
  pub is_first : IsFirstWorld work play.program play.graph play.machines play.draws first
  pub course_is : course ≡ followed_as (by_links work play.lines) (linked_anew first) (listed_links 1 events)

-- a run goes one of these ways, as far as memory and the outside last
abbrev pub Goes : (Course → Type 0) → Outside → Outside → Option Fault → Type 0
Goes is_course w new outcome =
    AfterRun is_course w new outcome (λ course. Leaves NoTask (follows course) w new outcome)
