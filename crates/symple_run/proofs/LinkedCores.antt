-- A run that cores play over links is told by the source's run.
use Rattle.std.proofs.Common.{◌≡◌, ◌⊎◌, inl, inr, ℕ, ◌<◌, List, [], None, length, refl, sym, ap, subst, ◌∙◌, arith, true}
use Rattle.std.proofs.lemmas.Bool.{and_from}
use Rattle.cluster_run.specs.Faults.{lacking}
use Rattle.command_steps.specs.Courses.{course_end, course_text}
use Rattle.command_steps.specs.Orders.{Course, Play}
use Rattle.delivery_log.specs.Choosers.{generator_of}
use Rattle.link_core.proofs.LinkOrderLaws.{events_are_over_plain}
use Rattle.link_core.specs.declared.event.LinkEvent.{LinkEvent}
use Rattle.link_core.specs.LinkRuns.{IsLinkReached}
use Rattle.link_core.specs.Links.{Linked, link_after, linked_anew, links_possible, plain_part}
use Rattle.link_core.specs.LinkTexts.{links_text}
use Rattle.link_runs.proofs.OneLaws.{header_short}
use Rattle.link_runs.proofs.OverPlain.{ComesToEnd, followed_over_plain, recorded_over_plain}
use Rattle.link_runs.proofs.SourceLinkLaws.{links_drawn, links_followed, links_recorded}
use Rattle.link_runs.specs.LinkedPlays.{IsDrawnFar, IsLinkedPlay, IsLossyPlay}
use Rattle.link_runs.specs.LinkTellings.{by_links, listed_links}
use Rattle.machine_runs.specs.PlainPlays.{IsFirstWorld}
use Rattle.machine_runs.specs.Tellings.{followed_as, recorded_as}
use Rattle.symple_face.specs.Cluster.{World, after, all_possible, finished, first_world, is_complete, missing_of}
use Rattle.symple_face.specs.CoreWork.{core_work}
use Rattle.symple_face.specs.State.{State}
use Rattle.symple_face.specs.Work.{Work}
use Rattle.symple_run.specs.SourceSchedules.{IsSourceLinked, IsSourceLossy}
use Rattle.symple_run.proofs.CoreRuns.{ChosenWell, first_reached, none_lacks, parts_on, puts_source, reached_behind}
use Rattle.symple_run.proofs.CourseShapes.{recorded_within}
use Rattle.vert_base.specs.declared.limits.TheConstants.{SCHEDULE_BYTES}
use Rattle.vert_base.specs.declared.message.Event.{Event}

-- before the first event links are in a reached state
pub links_begin : (work : Work) (sound : State → Type 0) (play : Play) (w : World) →
    IsFirstWorld work play.program play.graph play.machines play.draws w → IsLinkReached work sound (linked_anew w)
links_begin work sound play w first = record {
  first = w;
  reached = first_reached work sound play.program play.graph play.machines play.draws w first;
  still = ap (λ (v : World). v.under_way) first.here;
  events = [];
  were_possible = refl;
  here = refl;
}

module _ (sound : State → Type 0) (laws : ChosenWell core_work sound) (play : Play) where
  module _ (w : World) (first : IsFirstWorld core_work play.program play.graph play.machines play.draws w)
      (es : List LinkEvent) (can : links_possible core_work (linked_anew w) es ≡ true) where
    abbrev part : List Event
    part = plain_part core_work (linked_anew w) es

    -- the plain part of possible events that come to an end is complete
    plain_complete : finished (link_after core_work (linked_anew w) es).world ≡ true → is_complete core_work w part
        ≡ true
    plain_complete over =
        let plain = events_are_over_plain core_work (linked_anew w) es can in
        and_from (all_possible core_work w part) (finished (after core_work w part)) plain.possible
        (ap finished (sym plain.world) ∙ over)

    -- and it comes to an end where nothing is lacking
    nothing_lacking : lacking (link_after core_work (linked_anew w) es).world ≡ None → is_complete core_work w part
        ≡ true
    nothing_lacking none =
        let plain = events_are_over_plain core_work (linked_anew w) es can in
        let reached = first_reached core_work sound play.program play.graph play.machines play.draws w first in
        let behind = reached_behind sound laws w part reached plain.possible in
        and_from (all_possible core_work w part) (finished (after core_work w part)) plain.possible
        ((laws.goes (after core_work w part) behind).missing.0
        (none_lacks (missing_of (after core_work w part)) (sym (ap lacking plain.world) ∙ none)))

  -- ---- recorded runs
  module _ (seed : ℕ) (name : List ℕ) (course : Course) (is : IsLossyPlay core_work play seed name course) where
    abbrev begun : Linked
    begun = linked_anew is.first

    abbrev there : Linked
    there = linked_anew (first_world core_work is.is_first.split is.is_first.parts)

    same : begun ≡ there
    same = ap linked_anew is.is_first.here

    possible : links_possible core_work begun is.events ≡ true
    possible = laws.linked begun (generator_of seed) is.events
        (links_begin core_work sound play is.first is.is_first) is.drawn.0

    -- a recording that comes to its end leads to the end of the run
    over_at_end : course_end course ≡ None → finished (link_after core_work begun is.events).world ≡ true
    over_at_end ends = by is.drawn.1
      where
        by : (finished (link_after core_work begun is.events).world ≡ true)
            ⊎ (SCHEDULE_BYTES < length (links_text play.machines is.events)) →
            finished (link_after core_work begun is.events).world ≡ true
        by (inl over) = over
        by (inr long) =
            let within = recorded_within (by_links core_work play.lines) (links_text play.machines) name [] begun
            is.events (header_short play.machines is.few.1) (ap course_end (sym is.course_is) ∙ ends) in
            absurd (omega (arith, within, long))

    pub lossy_source : IsSourceLossy play seed name course
    lossy_source =
        let at = is.is_first in
        let can = subst (λ (l : Linked). links_possible core_work l is.events ≡ true) same possible in
        let far = subst (λ (l : Linked). IsDrawnFar core_work play.machines [] l (generator_of seed) is.events) same
        is.drawn in
        record {
          on = parts_on play is.first at;
          few = is.few;
          events = is.events;
          drawn = links_drawn at.split at.parts at.of_graph.one at.fits play.machines (generator_of seed) is.events can
              far;
          course_is = is.course_is
              ∙ ap (λ (l : Linked). recorded_as (by_links core_work play.lines) (links_text play.machines) name [] l
              is.events) same
              ∙ links_recorded at.split at.parts at.of_graph.one at.fits play.machines (generator_of seed) is.events can
              far play.lines name (header_short play.machines is.few.1);
          text = λ ends quiet.
              puts_source sound play is.first at (part is.first at is.events possible) course
              (λ fine. plain_complete is.first at is.events possible (over_at_end fine))
              (λ fine. ap course_text is.course_is
              ∙ recorded_over_plain core_work play.lines quiet name play.machines [] begun is.events
              (ap course_end (sym is.course_is) ∙ fine)) ends quiet;
        }

  -- ---- followed texts
  pub linked_source : (events : List LinkEvent) (course : Course) → IsLinkedPlay core_work play events course →
      IsSourceLinked play events course
  linked_source events course is =
      let at = is.is_first in
      let came : course_end course ≡ None → ComesToEnd core_work play.lines (linked_anew is.first) events
      (followed_as (by_links core_work play.lines) (linked_anew is.first) (listed_links 1 events)) =
      λ ends. followed_over_plain core_work play.lines 1 (linked_anew is.first) events
      (ap course_end (sym is.course_is) ∙ ends) in
      record {
        on = parts_on play is.first at;
        course_is = is.course_is
            ∙ ap (λ (w : World). followed_as (by_links core_work play.lines) (linked_anew w) (listed_links 1 events))
            at.here
            ∙ links_followed at.split at.parts at.of_graph.one at.fits play.lines events;
        text = λ ends quiet.
            let c = came ends in
            puts_source sound play is.first at (part is.first at events c.can) course
            (λ fine. nothing_lacking is.first at events c.can c.lacks)
            (λ fine. ap course_text is.course_is ∙ c.text quiet) ends quiet;
      }
