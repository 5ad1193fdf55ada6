-- What following a text leaves of the outside, event by event, whatever the events are.
use Rattle.std.proofs.Common.{◌≡◌, ℕ, List, ◌∷◌, Option, Some, None, Ok, Err, refl, sym, ap, subst}
use Rattle.command_steps.specs.declared.impossible.Impossible.{Impossible}
use Rattle.command_steps.specs.Leaves.{Gained, Leaves, NotPut, Refused, WantsAtPut, WantsAtRefusal}
use Rattle.command_steps.specs.Notes.{BadEvent, Fault, NoMemory, NoWrite}
use Rattle.command_steps.specs.Orders.{Course, NoTask, follows}
use Rattle.command_steps.specs.Walks.{HandsOn}
use Rattle.command_steps.specs.States.{Held, Outside, outside}
use Rattle.outside.specs.declared.sink.SinkFault.{SinkFault}
use Rattle.machine_runs.specs.FollowWalks.{EndsListed, FollowsTo, FollowsUp, PlaysListed, StopsListed}
use Rattle.machine_runs.specs.PlayedEvents.{PutsEvent, StopsAtEvent}
use Rattle.machine_runs.specs.Tellings.{Listed, Telling, followed_as, told_end, told_event, unless_lacking, unless_refused}

module _ {X E : Type 0} (t : Telling X E) (x : X) where
  -- ---- one event
  module _ (e : E) (line : ℕ) where
    abbrev course_by : Option Impossible → Course → Course
    course_by why rest = unless_refused why line (told_event t x e rest)

    -- a possible event was played
    pub listed_goes : t.refusal x e ≡ None → (old new : Held) → PutsEvent t x e old new →
        PlaysListed t x e line old new
    listed_goes can old new puts = λ rest shelf input after outcome leaves.
        subst (λ (o : Option Impossible). Leaves NoTask (follows (course_by o rest)) (outside shelf old input) after
        outcome) (sym can) (puts (follows rest) shelf input after outcome leaves)

    -- it was played up to a fault
    pub listed_stops : t.refusal x e ≡ None → (old new : Held) (fault : Fault) → StopsAtEvent t x e old new fault →
        StopsListed t x e line old new fault
    listed_stops can old new fault stops = λ rest shelf input.
        subst (λ (o : Option Impossible). Leaves NoTask (follows (course_by o rest)) (outside shelf old input)
        (outside shelf new input) (Some fault)) (sym can) (stops (follows rest) shelf input)

    -- an event that can't happen
    pub listed_refused : (why : Impossible) → t.refusal x e ≡ Some why → (old : Held) →
        StopsListed t x e line old old (BadEvent line why)
    listed_refused why is old = λ rest shelf input.
        subst (λ (o : Option Impossible). Leaves NoTask (follows (course_by o rest)) (outside shelf old input)
        (outside shelf old input) (Some (BadEvent line why))) (sym is)
        (Refused (record { same = refl; fault_is = refl }))

    wants_either : (o : Option Impossible) (rest : Course) (w : Outside) →
        Leaves NoTask (follows (course_by o rest)) w w (Some NoMemory)
    wants_either None rest w = WantsAtPut (record { same = refl; memory = refl })
    wants_either (Some why) rest w = WantsAtRefusal (record { same = refl; memory = refl })

    -- memory was wanting before it
    pub listed_wants : (old : Held) → StopsListed t x e line old old NoMemory
    listed_wants old = λ rest shelf input. wants_either (t.refusal x e) rest (outside shelf old input)

  -- ---- the end
  abbrev end_by : Option Fault → Course
  end_by o = unless_lacking o (told_end t x)

  -- nothing is missing, and the table was put, or could not be
  pub ends_well : t.lacks x ≡ None → (old new : Held) → HandsOn (t.table x) old new (Ok tt) →
      EndsListed t x old new None
  ends_well none old new put = λ shelf input.
      subst (λ (o : Option Fault). Leaves NoTask (follows (end_by o)) (outside shelf old input)
      (outside shelf new input) None) (sym none)
      (Gained new.spare put.spared
      (record { same = ap (λ (h : Held). outside shelf h input) put.same; fine = refl }))

  pub ends_unput : t.lacks x ≡ None → (old new : Held) (fault : SinkFault) → HandsOn (t.table x) old new (Err fault) →
      EndsListed t x old new (Some NoWrite)
  ends_unput none old new fault put = λ shelf input.
      subst (λ (o : Option Fault). Leaves NoTask (follows (end_by o)) (outside shelf old input)
      (outside shelf new input) (Some NoWrite)) (sym none) (NotPut put refl refl)

  -- something is missing
  pub ends_early : (fault : Fault) → t.lacks x ≡ Some fault → (old : Held) → EndsListed t x old old (Some fault)
  ends_early fault is old = λ shelf input.
      subst (λ (o : Option Fault). Leaves NoTask (follows (end_by o)) (outside shelf old input)
      (outside shelf old input) (Some fault)) (sym is) (Refused (record { same = refl; fault_is = refl }))

-- ---- event by event
module _ {X E : Type 0} (t : Telling X E) (first x : X) (all left ls : List (Listed E)) (l : Listed E)
    (is_left : left ≡ l ∷ ls) (old mid : Held) (to : FollowsTo t first all old x left mid) where
  here : FollowsTo t first all old x (l ∷ ls) mid
  here = subst (λ (list : List (Listed E)). FollowsTo t first all old x list mid) is_left to

  pub follow_goes : (new : Held) → PlaysListed t x l.event l.line mid new → (y : X) → y ≡ t.behind x l.event →
      FollowsTo t first all old y ls new
  follow_goes new plays y is = λ shelf input after outcome leaves.
      here shelf input after outcome
      (plays (followed_as t (t.behind x l.event) ls) shelf input after outcome
      (subst (λ (u : X). Leaves NoTask (follows (followed_as t u ls)) (outside shelf new input) after outcome) is
      leaves))

  pub follow_stops : (new : Held) (fault : Fault) → StopsListed t x l.event l.line mid new fault →
      FollowsUp t first all old new (Some fault)
  follow_stops new fault stops = λ shelf input.
      here shelf input (outside shelf new input) (Some fault)
      (stops (followed_as t (t.behind x l.event) ls) shelf input)
