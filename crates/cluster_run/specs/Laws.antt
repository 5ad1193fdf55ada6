-- What holds of each world that possible events leave, for every kind of machine.
use Rattle.std.specs.Prelude.{◌≡◌, ◌<◌, true, false, Some, List, [], slice_get}
use Rattle.vert_base.specs.declared.message.Name.{Name}
use Rattle.vert_base.specs.declared.message.Event.{Event}
use Rattle.vert_base.specs.Letters.{Letter, found}
use Rattle.symple_face.specs.Cluster.{IsPlainRun, World, all_possible, can_act, events_left, finished, possible, step}
use Rattle.symple_face.specs.State.{IsTakeable, State}
use Rattle.symple_face.specs.Work.{Work}
use Rattle.cluster_run.specs.Choices.{AreChoices, GoesOn, IsLeast}
use Rattle.cluster_run.specs.Driven.{IsReached}
use Rattle.cluster_run.specs.Sends.{CanSend}
use Rattle.std.specs.Prelude.{ℕ}

-- the receiver of a message under way can take it: it isn't over, stands in its round, has not taken it, and the
-- body fits its form
abbrev pub EachCanBeTaken : Work → (State → Type 0) → Type 0
EachCanBeTaken work sound =
    (w : World) (x : Name) (l : Letter) → IsReached work sound w → found x w.under_way ≡ Some l →
    (s : State) × (slice_get w.sites l.name.to ≡ Some s) × IsTakeable s l

-- what a ready machine sends has new names, and room
abbrev pub EachCanBeSent : Work → (State → Type 0) → Type 0
EachCanBeSent work sound =
    (w : World) (m : ℕ) (s : State) → IsReached work sound w → slice_get w.sites m ≡ Some s →
    can_act (Some s) ≡ true → CanSend (work.sent s) w.under_way

-- a possible event leaves a reached world
abbrev pub StepsReach : Work → (State → Type 0) → Type 0
StepsReach work sound =
    (w : World) (e : Event) → IsReached work sound w → possible w e ≡ true → IsReached work sound (step work w e)

-- and lessens what is left
abbrev pub EventsComeNearer : Work → (State → Type 0) → Type 0
EventsComeNearer work sound =
    (w : World) (e : Event) → IsReached work sound w → possible w e ≡ true → events_left (step work w e) < events_left w

-- in an unfinished world some event is possible
abbrev pub SomeEventMoves : Work → (State → Type 0) → Type 0
SomeEventMoves work sound =
    (w : World) → IsReached work sound w → finished w ≡ false → (e : Event) × (possible w e ≡ true)

-- in a finished world none is, and nothing is under way
abbrev pub FinishedIsStill : Work → (State → Type 0) → Type 0
FinishedIsStill work sound =
    (w : World) → IsReached work sound w → finished w ≡ true →
    (w.under_way ≡ []) × ((e : Event) → possible w e ≡ false)

-- which events can be chosen, and what is missing
abbrev pub ChoicesArePossible : Work → (State → Type 0) → Type 0
ChoicesArePossible work sound = (w : World) → IsReached work sound w → AreChoices w

abbrev pub MissingIsLeast : Work → (State → Type 0) → Type 0
MissingIsLeast work sound = (w : World) → IsReached work sound w → IsLeast w

-- there is some choice, and something is missing, until the end
abbrev pub UnfinishedGoesOn : Work → (State → Type 0) → Type 0
UnfinishedGoesOn work sound = (w : World) → IsReached work sound w → GoesOn w

-- the plain events lead to the end
abbrev pub PlainEventsEnd : Work → (State → Type 0) → Type 0
PlainEventsEnd work sound =
    (w : World) → IsReached work sound w →
    (es : List Event) × IsPlainRun work w es × (all_possible work w es ≡ true)
