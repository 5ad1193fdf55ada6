-- What recording a run leaves of the outside, from a state of it on, whatever its events are.
use Rattle.std.specs.Prelude.{ℕ, List, [], Option, Some}
use Rattle.command_steps.specs.Leaves.{Leaves}
use Rattle.command_steps.specs.Notes.{Fault}
use Rattle.command_steps.specs.Orders.{NoTask, follows}
use Rattle.command_steps.specs.States.{Held, Kept, Left, Outside, outside}
use Rattle.rand_pcg.specs.Lcg.{Lcg}
use Rattle.machine_runs.specs.Tellings.{Telling, recorded_as}

-- by what the run tells, the text of its events, and which events are drawn at a state behind some
module _ {X E : Type 0} (t : Telling X E) (text : List E → List ℕ) (IsDrawn : List E → X → Lcg → List E → Type 0) where
  -- with these events added, the drawn ones from a state on leave this
  pub record RecordsOn (name : List ℕ) (added : List E) (x : X) (g : Lcg) (old new : Outside)
      (outcome : Option Fault) : Type 0 where
    pub events : List E
    pub drawn : IsDrawn added x g events
    pub leaves : Leaves NoTask (follows (recorded_as t text name added x events)) old new outcome

  -- with more events added, at another state and sink, what is left is left from before them
  abbrev pub RecordsTo : List ℕ → List E → X → Lcg → Held → List E → X → Lcg → Held → Type 0
  RecordsTo name added x g old more y h new =
      (shelf : Kept) (input : Left) (after : Outside) (outcome : Option Fault) →
      RecordsOn name more y h (outside shelf new input) after outcome →
      RecordsOn name added x g (outside shelf old input) after outcome

  -- a recorder has the events that were played up to a state
  pub record HasRecorded (Has : List E → Type 0) (x : X) (g : Lcg) (old : Held) (y : X) (h : Lcg) (new : Held) :
      Type 0 where
    pub added : List E
    pub has : Has added
    pub goes : (name : List ℕ) → RecordsTo name [] x g old added y h new

  -- recording stops with a fault
  abbrev pub StopsRecording : X → Lcg → Held → Held → Fault → Type 0
  StopsRecording x g old new fault =
      (name : List ℕ) (shelf : Kept) (input : Left) →
      RecordsOn name [] x g (outside shelf old input) (outside shelf new input) (Some fault)
