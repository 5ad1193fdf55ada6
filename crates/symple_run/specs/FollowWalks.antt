-- What following a schedule leaves of the outside, from a state of the run on.
use Rattle.std.specs.Prelude.{ℕ, List, Option, Some, option_map}
use Rattle.cluster_run.specs.Faults.{fault_of}
use Rattle.command_steps.specs.Leaves.{Leaves}
use Rattle.command_steps.specs.Notes.{Fault}
use Rattle.command_steps.specs.Orders.{Course, NoTask, follows}
use Rattle.command_steps.specs.States.{Held, Kept, Left, Outside, outside}
use Rattle.delivery_log.specs.declared.form.Form.{Form}
use Rattle.symple_face.specs.Cluster.{World}
use Rattle.symple_face.specs.Work.{Work}
use Rattle.machine_runs.specs.Tellings.{by_worlds, followed, told_event, unless_refused, why_of}
use Rattle.symple_words.specs.declared.line.Lines.{Lines}
use Rattle.vert_base.specs.declared.message.Event.{Event}

-- the course of an event that a line tells, and of what comes behind it
abbrev pub event_course : Work → Lines → World → Event → ℕ → Course → Course
event_course work lines w e line rest =
    unless_refused (option_map (why_of e) (fault_of w e)) line (told_event (by_worlds work lines) w e rest)

-- the event was played: whatever course comes then, it leaves from before the event what it leaves from behind it
abbrev pub PlaysListed : Work → Lines → World → Event → ℕ → Held → Held → Type 0
PlaysListed work lines w e line old new =
    (rest : Course) (shelf : Kept) (input : Left) (after : Outside) (outcome : Option Fault) →
    Leaves NoTask (follows rest) (outside shelf new input) after outcome →
    Leaves NoTask (follows (event_course work lines w e line rest)) (outside shelf old input) after outcome

-- it could not be, or was played up to a fault
abbrev pub StopsListed : Work → Lines → World → Event → ℕ → Held → Held → Fault → Type 0
StopsListed work lines w e line old new fault =
    (rest : Course) (shelf : Kept) (input : Left) →
    Leaves NoTask (follows (event_course work lines w e line rest)) (outside shelf old input) (outside shelf new input)
    (Some fault)

-- where a schedule is followed: the round held, the lines read, the world, and the events that are left
pub record Place : Type 0 where
  pub held : ℕ
  pub lines : ℕ
  pub world : World
  pub left : List Event

abbrev pub course_at : Work → Lines → Form → Place → Course
course_at work lines form at = followed (by_worlds work lines) form at.held at.lines at.world at.left

-- what comes at a place and a sink is left from an earlier place and sink on
abbrev pub FollowsTo : Work → Lines → Form → Place → Held → Place → Held → Type 0
FollowsTo work lines form from old to new =
    (shelf : Kept) (input : Left) (after : Outside) (outcome : Option Fault) →
    Leaves NoTask (follows (course_at work lines form to)) (outside shelf new input) after outcome →
    Leaves NoTask (follows (course_at work lines form from)) (outside shelf old input) after outcome

-- following from a place on came to its end, or stopped
abbrev pub FollowsUp : Work → Lines → Form → Place → Held → Held → Option Fault → Type 0
FollowsUp work lines form at old new outcome =
    (shelf : Kept) (input : Left) →
    Leaves NoTask (follows (course_at work lines form at)) (outside shelf old input) (outside shelf new input) outcome
