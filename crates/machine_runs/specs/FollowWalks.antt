-- What following a text leaves of the outside, from a state of the run on, whatever its events are.
use Rattle.std.specs.Prelude.{ℕ, List, Option, Some}
use Rattle.command_steps.specs.Leaves.{Leaves}
use Rattle.command_steps.specs.Notes.{Fault}
use Rattle.command_steps.specs.Orders.{Course, NoTask, follows}
use Rattle.command_steps.specs.States.{Held, Kept, Left, Outside, outside}
use Rattle.machine_runs.specs.Tellings.{Listed, Telling, followed_as, told_end, told_event, unless_lacking, unless_refused}

module _ {X E : Type 0} (t : Telling X E) where
  -- the course of an event that a line tells, and of what comes behind it
  abbrev pub event_course : X → E → ℕ → Course → Course
  event_course x e line rest = unless_refused (t.refusal x e) line (told_event t x e rest)

  -- the event was played: whatever course comes then, it leaves from before the event what it leaves from behind it
  abbrev pub PlaysListed : X → E → ℕ → Held → Held → Type 0
  PlaysListed x e line old new =
      (rest : Course) (shelf : Kept) (input : Left) (after : Outside) (outcome : Option Fault) →
      Leaves NoTask (follows rest) (outside shelf new input) after outcome →
      Leaves NoTask (follows (event_course x e line rest)) (outside shelf old input) after outcome

  -- it could not be, or was played up to a fault
  abbrev pub StopsListed : X → E → ℕ → Held → Held → Fault → Type 0
  StopsListed x e line old new fault =
      (rest : Course) (shelf : Kept) (input : Left) →
      Leaves NoTask (follows (event_course x e line rest)) (outside shelf old input) (outside shelf new input)
      (Some fault)

  -- what comes at a state with some events left, and a sink, is left from an earlier one on
  abbrev pub FollowsTo : X → List (Listed E) → Held → X → List (Listed E) → Held → Type 0
  FollowsTo x ls old y ks new =
      (shelf : Kept) (input : Left) (after : Outside) (outcome : Option Fault) →
      Leaves NoTask (follows (followed_as t y ks)) (outside shelf new input) after outcome →
      Leaves NoTask (follows (followed_as t x ls)) (outside shelf old input) after outcome

  -- following came to its end, or stopped
  abbrev pub FollowsUp : X → List (Listed E) → Held → Held → Option Fault → Type 0
  FollowsUp x ls old new outcome =
      (shelf : Kept) (input : Left) →
      Leaves NoTask (follows (followed_as t x ls)) (outside shelf old input) (outside shelf new input) outcome

  -- the end of a followed run: what it lacks, or the table
  abbrev pub EndsListed : X → Held → Held → Option Fault → Type 0
  EndsListed x old new outcome =
      (shelf : Kept) (input : Left) →
      Leaves NoTask (follows (unless_lacking (t.lacks x) (told_end t x))) (outside shelf old input)
      (outside shelf new input) outcome
