-- What an event over links puts, and what recordings and followed texts leave as wholes.
use Rattle.std.proofs.Common.{◌≡◌, ◌↔◌, ℕ, Bool, true, false, List, [], Option, Some, None, refl, subst}
use Rattle.std.specs.Prelude.{if◌then◌else◌}
use Rattle.command_steps.specs.Leaves.{Ran}
use Rattle.command_steps.specs.Notes.{Fault}
use Rattle.command_steps.specs.Orders.{Play}
use Rattle.command_steps.specs.States.{Held, Kept, Left, Outside, outside}
use Rattle.delivery_log.specs.Choosers.{generator_of}
use Rattle.link_core.specs.declared.event.LinkEvent.{LinkEvent}
use Rattle.link_core.specs.declared.event.LinkEvent.TheVariants.{Go, Take, Lose, Again, Ack, Drop}
use Rattle.link_core.specs.Links.{Linked, link_step, linked_anew}
use Rattle.link_core.specs.LinkTexts.{links_text}
use Rattle.link_runs.specs.LinkedPlays.{Goes, IsDrawnFar, IsLinkedPlay, IsLossyPlay}
use Rattle.link_runs.specs.LinkTellings.{by_links, ends_link_round, link_round, listed_links}
use Rattle.machine_runs.proofs.PlayLaws.{round_is}
use Rattle.machine_runs.specs.FollowWalks.{FollowsUp}
use Rattle.machine_runs.specs.PlainPlays.{IsFirstWorld, first_report}
use Rattle.machine_runs.specs.RecordWalks.{RecordsOn}
use Rattle.machine_runs.specs.Tellings.{followed_as, recorded_as}
use Rattle.schedule_laws.specs.Layout.{told_in}
use Rattle.schedule_laws.specs.Texts.{told_lines}
use Rattle.symple_face.specs.Cluster.{World, finished}
use Rattle.symple_face.specs.Work.{Work}
use Rattle.symple_words.specs.declared.line.Lines.{Lines}
use Rattle.symple_words.specs.Ranges.{AreMachines}
use Rattle.vert_base.specs.declared.message.Event.TheVariants as plain

-- the lines of the round that an event ends are those that are put once it is played
pub link_round_is : (work : Work) (lines : Lines) (l : Linked) (e : LinkEvent) →
    (if ends_link_round l e then told_lines lines (told_in lines.reads work (link_step work l e).world
    (first_report work (link_step work l e).world)) else []) ≡ link_round work lines l e
link_round_is work lines l (Go m) = round_is work lines l.world (plain.Go m)
link_round_is work lines l (Take x) = refl
link_round_is work lines l (Lose x) = refl
link_round_is work lines l (Again x) = refl
link_round_is work lines l (Ack x) = refl
link_round_is work lines l (Drop x) = refl

-- where an event is drawn, the run isn't finished
pub not_over : (w : World) (e : LinkEvent) → (Some e ≡ None) ↔ (finished w ≡ true) → finished w ≡ false
not_over w e ends = by_test (finished w) refl
  where
    by_test : (b : Bool) → finished w ≡ b → finished w ≡ false
    by_test false is = is
    by_test true is = let none : Some e ≡ None = ends.1 is in cc

-- a recording from the first state of the machines of a graph's parts
module _ (work : Work) (play : Play) (seed : ℕ) (name : List ℕ) (l : Linked) where
  pub lossy_runs : AreMachines play.machines →
      IsFirstWorld work play.program play.graph play.machines play.draws l.world → l ≡ linked_anew l.world →
      (old new : Outside) (outcome : Option Fault) →
      RecordsOn (by_links work play.lines) (links_text play.machines) (IsDrawnFar work play.machines) name [] l
      (generator_of seed) old new outcome → Goes (IsLossyPlay work play seed name) old new outcome
  lossy_runs few is_first anew old new outcome on =
      let at = subst (λ (k : Linked). RecordsOn (by_links work play.lines) (links_text play.machines)
      (IsDrawnFar work play.machines) name [] k (generator_of seed) old new outcome) anew on in
      Ran (recorded_as (by_links work play.lines) (links_text play.machines) name [] (linked_anew l.world) at.events)
      (record {
        first = l.world;
        is_first = is_first;
        events = at.events;
        few = few;
        drawn = at.drawn;
        course_is =
            refl;
      })
      at.leaves

-- a followed text from there
module _ (work : Work) (play : Play) (events : List LinkEvent) (l : Linked) where
  pub linked_follows : IsFirstWorld work play.program play.graph play.machines play.draws l.world →
      l ≡ linked_anew l.world → (old new : Held) (outcome : Option Fault) →
      FollowsUp (by_links work play.lines) l (listed_links 1 events) old new outcome →
      (shelf : Kept) (input : Left) →
      Goes (IsLinkedPlay work play events) (outside shelf old input) (outside shelf new input) outcome
  linked_follows is_first anew old new outcome up shelf input =
      let at = subst (λ (k : Linked). FollowsUp (by_links work play.lines) k (listed_links 1 events) old new
      outcome) anew
      up in
      Ran (followed_as (by_links work play.lines) (linked_anew l.world) (listed_links 1 events))
      (record { first = l.world; is_first = is_first; course_is = refl }) (at shelf input)
