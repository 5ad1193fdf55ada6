-- What holds of links in each state that possible events leave, for every kind of machine.
use Rattle.std.specs.Prelude.{◌≡◌, ◌↔◌, true, false, Option, Some, None, List, [], ◌∷◌, ◌++◌, length, map, slice_get}
use Rattle.std.specs.List.{Contains}
use Rattle.vert_base.specs.declared.message.Event.{Event}
use Rattle.vert_base.specs.declared.message.Event.TheVariants as plain
use Rattle.vert_base.specs.Letters.{Letter, found}
use Rattle.skeleton_laws.specs.Laws.{EachOnce, NamesRise}
use Rattle.symple_face.specs.Cluster.{World, after, all_possible, finished, step}
use Rattle.symple_face.specs.State.{State}
use Rattle.symple_face.specs.Work.{Work}
use Rattle.cluster_run.specs.Driven.{IsReached}
use Rattle.link_core.specs.declared.event.LinkEvent.{LinkEvent}
use Rattle.link_core.specs.LinkChoices.{link_choices, repeatable}
use Rattle.link_core.specs.LinkRuns.{IsLinkReached}
use Rattle.link_core.specs.Links.{Linked, link_after, link_possible, link_step, links_possible, plain_part}
use Rattle.link_core.specs.Piles.{names_of}
use Rattle.cluster_run.specs.Sends.{sent_with}

-- possible events leave the machines in the world of their plain part, which is possible as well
pub record IsOverPlain (work : Work) (l : Linked) (es : List LinkEvent) : Type 0 where
  pub possible : all_possible work l.world (plain_part work l es) ≡ true
  pub world : (link_after work l es).world ≡ after work l.world (plain_part work l es)

abbrev pub EventsAreOverPlain : Work → Type 0
EventsAreOverPlain work =
    (l : Linked) (es : List LinkEvent) → links_possible work l es ≡ true → IsOverPlain work l es

-- the world is one that the cluster's possible events leave
abbrev pub LinksAreReached : Work → (State → Type 0) → Type 0
LinksAreReached work sound = (l : Linked) → IsLinkReached work sound l → IsReached work sound l.world

-- a possible event leaves a reached state
abbrev pub LinkStepsReach : Work → (State → Type 0) → Type 0
LinkStepsReach work sound =
    (l : Linked) (e : LinkEvent) → IsLinkReached work sound l → link_possible l e ≡ true →
    IsLinkReached work sound (link_step work l e)

-- in an unfinished state some event is possible, in a finished one none
abbrev pub SomeLinkMoves : Work → (State → Type 0) → Type 0
SomeLinkMoves work sound =
    (l : Linked) → IsLinkReached work sound l → finished l.world ≡ false →
    (e : LinkEvent) × (link_possible l e ≡ true)

-- the choices are exactly the possible events, in their order by name, and there is one exactly where the run isn't
-- finished
pub record AreLinkChoices (l : Linked) : Type 0 where
  pub are_possible : (e : LinkEvent) → Contains (link_choices l) e → link_possible l e ≡ true
  pub listed : (e : LinkEvent) → link_possible l e ≡ true → Contains (link_choices l) e
  pub none : (length (link_choices l) ≡ 0) ↔ (finished l.world ≡ true)
  pub copies_rise : NamesRise (names_of l.traffic.copies)
  pub agains_rise : NamesRise (repeatable l.traffic)
  pub acks_rise : NamesRise (names_of l.traffic.acks)

abbrev pub LinkChoicesArePossible : Work → (State → Type 0) → Type 0
LinkChoicesArePossible work sound = (l : Linked) → IsLinkReached work sound l → AreLinkChoices l

-- the messages that the events of a cluster send, and those that they take, in order
abbrev pub taken_at : Option Letter → List Letter
taken_at None = []
taken_at (Some l) = l ∷ []

abbrev pub sent_in : Work → World → List Event → List Letter
sent_in work w [] = []
sent_in work w (plain.Go m ∷ es) = sent_with work (slice_get w.sites m) ++ sent_in work (step work w (plain.Go m)) es
sent_in work w (plain.Take x ∷ es) = sent_in work (step work w (plain.Take x)) es

abbrev pub taken_in : Work → World → List Event → List Letter
taken_in work w [] = []
taken_in work w (plain.Go m ∷ es) = taken_in work (step work w (plain.Go m)) es
taken_in work w (plain.Take x ∷ es) = taken_at (found x w.under_way) ++ taken_in work (step work w (plain.Take x)) es

-- each message is taken once at most, as it was sent; and where the events lead to the end each that was sent is taken
pub record IsDeliveredOnce (work : Work) (first last : World) (es : List Event) : Type 0 where
  pub as_sent : (l : Letter) → Contains (taken_in work first es) l → Contains (sent_in work first es) l
  pub once : EachOnce (map (λ l. l.name) (taken_in work first es))
  pub all : finished last ≡ true → (l : Letter) → Contains (sent_in work first es) l →
      Contains (taken_in work first es) l

-- so it is with the plain part of possible events over links, from a world in which nothing is under way
abbrev pub MessagesAreDeliveredOnce : Work → (State → Type 0) → Type 0
MessagesAreDeliveredOnce work sound =
    (first : Linked) (es : List LinkEvent) → IsReached work sound first.world → first.world.under_way ≡ [] →
    links_possible work first es ≡ true →
    IsDeliveredOnce work first.world (link_after work first es).world (plain_part work first es)
