-- Which of the possible events over links is played next.
use Rattle.std.specs.Prelude.{◌≡◌, ◌<◌, ◌^◌, ◌%◌, true, false, Option, Some, List, [], ◌∷◌, length, slice_get}
use Rattle.rand_pcg.specs.Lcg.{Lcg}
use Rattle.vert_base.specs.declared.message.Name.{Name}
use Rattle.symple_face.specs.Cluster.{finished}
use Rattle.symple_face.specs.State.{State}
use Rattle.symple_face.specs.Work.{Work}
use Rattle.link_core.specs.declared.event.LinkEvent.{LinkEvent}
use Rattle.link_core.specs.declared.event.LinkEvent.TheVariants.{Go, Take, Lose, Again, Ack, Drop}
use Rattle.delivery_log.specs.Choosers.{behind_word, word_of}
use Rattle.link_core.specs.LinkChoices.{link_choices}
use Rattle.link_core.specs.LinkRuns.{IsLinkReached}
use Rattle.link_core.specs.Links.{Linked, link_step, links_complete, links_possible}

-- the choice that the next word draws
abbrev pub link_drawn : Lcg → Linked → Option LinkEvent
link_drawn g l = slice_get (link_choices l) (word_of g % length (link_choices l))

-- the events are the drawn ones from here on, as far as they go
abbrev pub AreDrawn : Work → Linked → Lcg → List LinkEvent → Type 0
AreDrawn work l g [] = Unit {0}
AreDrawn work l g (e ∷ es) =
    (finished l.world ≡ false) × (link_drawn g l ≡ Some e) × AreDrawn work (link_step work l e) (behind_word g) es

-- and up to the end
abbrev pub IsLinkRun : Work → Linked → Lcg → List LinkEvent → Type 0
IsLinkRun work l g [] = finished l.world ≡ true
IsLinkRun work l g (e ∷ es) =
    (finished l.world ≡ false) × (link_drawn g l ≡ Some e) × IsLinkRun work (link_step work l e) (behind_word g) es

-- in an unfinished state an event is drawn
abbrev pub SomeLinkIsDrawn : Work → (State → Type 0) → Type 0
SomeLinkIsDrawn work sound =
    (l : Linked) (g : Lcg) → IsLinkReached work sound l → finished l.world ≡ false →
    (e : LinkEvent) × (link_drawn g l ≡ Some e)

-- the drawn events are possible in turn, however far they go
abbrev pub DrawnLinksArePossible : Work → (State → Type 0) → Type 0
DrawnLinksArePossible work sound =
    (l : Linked) (g : Lcg) (es : List LinkEvent) → IsLinkReached work sound l → AreDrawn work l g es →
    links_possible work l es ≡ true

-- where they lead to the end they are complete, and one list
abbrev pub LinkRunsAreComplete : Work → (State → Type 0) → Type 0
LinkRunsAreComplete work sound =
    (l : Linked) (g : Lcg) (es : List LinkEvent) → IsLinkReached work sound l → IsLinkRun work l g es →
    links_complete work l es ≡ true

abbrev pub LinkRunsAreOne : Work → Type 0
LinkRunsAreOne work =
    (l : Linked) (g : Lcg) (es fs : List LinkEvent) → IsLinkRun work l g es → IsLinkRun work l g fs → es ≡ fs

-- the numbers of an event have the sizes of their types
pub record NameFits (x : Name) : Type 0 where
  pub round : x.round < 2 ^ 32
  pub step : x.step < 256
  pub half : x.half < 256
  pub from : x.from < 256
  pub to : x.to < 256

abbrev pub NumbersFit : LinkEvent → Type 0
NumbersFit (Go machine) = machine < 256
NumbersFit (Take x) = NameFits x
NumbersFit (Lose x) = NameFits x
NumbersFit (Again x) = NameFits x
NumbersFit (Ack x) = NameFits x
NumbersFit (Drop x) = NameFits x
