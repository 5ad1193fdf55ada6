-- What a recorded run over links kept is replayed to the same bytes.
use Rattle.std.proofs.Common.{◌≡◌, ◌⊎◌, inl, inr, ℕ, ◌+◌, ◌<◌, ◌≤◌, Bool, true, false, List, [], ◌∷◌, ◌++◌, length, Option, Some, None, nat_lt, refl, sym, ap, subst, ◌∙◌, arith, append_assoc, append-nil}
use Rattle.std.specs.Prelude.{if◌then◌else◌, option_map}
use Rattle.std.specs.List.{AllByRecursion}
use Rattle.std.proofs.lemmas.Bool.{and_parts, ltb-false}
use Rattle.cluster_run.specs.Faults.{lacking, lacks}
use Rattle.command_steps.specs.Courses.{course_end, course_text}
use Rattle.command_steps.specs.Notes.{Fault, LongSchedule}
use Rattle.command_steps.specs.declared.impossible.Impossible.{Impossible}
use Rattle.command_steps.specs.Orders.{Course, Fails, Play}
use Rattle.delivery_log.specs.Choosers.{generator_of}
use Rattle.link_core.proofs.LinkOrderLaws.{link_steps_reach, links_are_reached}
use Rattle.link_core.specs.declared.event.LinkEvent.{LinkEvent}
use Rattle.link_core.specs.LinkRuns.{IsLinkReached}
use Rattle.link_core.specs.LinkSays.{SaysLinks}
use Rattle.link_core.specs.Links.{Linked, link_after, link_possible, link_step, linked_anew, links_possible}
use Rattle.link_core.specs.LinkTexts.{IsLinkEvent, links_text}
use Rattle.link_runs.proofs.OneLaws.{header_short, tells_one}
use Rattle.link_runs.proofs.OverPlain.{link_free}
use Rattle.link_runs.specs.LinkedPlays.{IsLinkedPlay, IsLossyPlay}
use Rattle.link_runs.specs.LinkTellings.{by_links, link_line, link_round, listed_links, why_not}
use Rattle.machine_runs.proofs.FirstLaws.{first_same}
use Rattle.machine_runs.specs.PlainPlays.{IsFirstWorld}
use Rattle.machine_runs.specs.Tellings.{followed_as, lack_of, recorded_as, told_end, told_event, unless_lacking, unless_refused}
use Rattle.symple_face.specs.Cluster.{World, finished}
use Rattle.symple_face.specs.Lawful.{IsLawful}
use Rattle.symple_face.specs.State.{State}
use Rattle.symple_face.specs.Work.{Work}
use Rattle.symple_run.specs.Followed.{ByEvents, ByLinkText, ByLinks, IsFollowed, LinksAreFaulty, TellsLinks}
use Rattle.symple_run.specs.Replays.{GainsTheSame, LinkReplaysGainTheSame, kept_bytes}
use Rattle.symple_run.proofs.CoreRuns.{ChosenWell}
use Rattle.symple_run.proofs.SpelledEvents.{links_told}
use Rattle.symple_run.proofs.FormTasks.{no_link_fault, no_other_header}
use Rattle.symple_run.proofs.LinkedCores.{links_begin}
use Rattle.symple_words.specs.declared.line.Lines.{Lines}
use Rattle.vert_base.specs.declared.limits.TheConstants.{SCHEDULE_BYTES}

-- a recording that kept bytes: they are the text of all its events, and following these events gains the same
record KeptAll (text : List ℕ) (bytes : List ℕ) (machines : ℕ) (events : List LinkEvent) (other : Course) : Type 0
  where
    bytes_are : bytes ≡ links_text machines events
    fits : length bytes ≤ SCHEDULE_BYTES
    same : course_text other ≡ text
    ends : course_end other ≡ None

same_bytes : (a b : List ℕ) → Some a ≡ Some b → b ≡ a
same_bytes a b is = cc

module _ (work : Work) (sound : State → Type 0) (laws : ChosenWell work sound) (lines : Lines) (name : List ℕ)
    (machines : ℕ) (bytes : List ℕ) where
  -- of an event in front of others, where the text with it is long or not
  module _ (added : List LinkEvent) (l : Linked) (e : LinkEvent) (es : List LinkEvent) (rest behind : Course) where
    kept_event : (long : Bool) →
        (nat_lt SCHEDULE_BYTES (length (links_text machines (added ++ e ∷ []))) ≡ false → kept_bytes rest ≡ Some
        bytes → KeptAll (course_text rest) bytes machines ((added ++ e ∷ []) ++ es) behind) →
        nat_lt SCHEDULE_BYTES (length (links_text machines (added ++ e ∷ []))) ≡ long →
        kept_bytes (if long then Fails LongSchedule else told_event (by_links work lines) l e rest) ≡ Some bytes
        →
        KeptAll (course_text (if long then Fails LongSchedule else told_event (by_links work lines) l e rest))
        bytes machines (added ++ e ∷ es) (told_event (by_links work lines) l e behind)
    kept_event true more is kept = absurd (cc)
    kept_event false more is kept =
        let all = more is kept in record {
          bytes_are = all.bytes_are ∙ ap (links_text machines) (append_assoc added (e ∷ []) es);
          fits = all.fits;
          same = ap (λ (t : List ℕ). link_line lines l e ++ (link_round work lines l e ++ t)) all.same;
          ends = all.ends;
        }

  kept_all : (added : List LinkEvent) (l : Linked) (es : List LinkEvent) (count : ℕ) → IsLinkReached work sound l →
      length (links_text machines added) ≤ SCHEDULE_BYTES →
      (links_possible work l es ≡ true) × (finished (link_after work l es).world ≡ true) →
      kept_bytes (recorded_as (by_links work lines) (links_text machines) name added l es) ≡ Some bytes →
      KeptAll (course_text (recorded_as (by_links work lines) (links_text machines) name added l es)) bytes machines
      (added ++ es) (followed_as (by_links work lines) l (listed_links count es))
  kept_all added l [] count r fits done kept =
      let none : lacking l.world ≡ None =
      ap (option_map lacks) ((laws.goes l.world (links_are_reached work sound l r)).missing.1 done.1) in
      let is : bytes ≡ links_text machines added = same_bytes _ _ kept in
      subst (λ (o : Option Fault). KeptAll
      (course_text (recorded_as (by_links work lines) (links_text machines) name added l [])) bytes machines
      (added ++ []) (unless_lacking o (told_end (by_links work lines) l)))
      (sym (ap (option_map lack_of) none))
      (record {
        bytes_are = is ∙ ap (links_text machines) (sym (append-nil added));
        fits = subst (λ (t : List ℕ). length t ≤ SCHEDULE_BYTES) (sym is) fits;
        same = refl;
        ends = refl;
      })
  kept_all added l (e ∷ es) count r fits done kept =
      let c = and_parts (link_possible l e) (links_possible work (link_step work l e) es) done.0 in
      let free = link_free l e (λ d there. ((laws.goes l.world (links_are_reached work sound l r)).played d).0 there)
      c.0 in
      subst (λ (o : Option Impossible). KeptAll
      (course_text (recorded_as (by_links work lines) (links_text machines) name added l (e ∷ es))) bytes machines
      (added ++ e ∷ es)
      (unless_refused o (count + 1) (told_event (by_links work lines) l e
      (followed_as (by_links work lines) (link_step work l e) (listed_links (count + 1) es)))))
      (sym (ap (option_map (why_not e)) free))
      (kept_event added l e es _ _ (nat_lt SCHEDULE_BYTES (length (links_text machines (added ++ e ∷ []))))
      (λ short. kept_all (added ++ e ∷ []) (link_step work l e) es (count + 1)
      (link_steps_reach work sound l e r c.0) (ltb-false _ _ short) (c.1, done.1)) refl kept)

  -- a recording that kept bytes stayed within the limit, so a text that passes it was not kept
  kept_short : (added : List LinkEvent) (l : Linked) (es : List LinkEvent) →
      length (links_text machines added) ≤ SCHEDULE_BYTES →
      kept_bytes (recorded_as (by_links work lines) (links_text machines) name added l es) ≡ Some bytes →
      length (links_text machines (added ++ es)) ≤ SCHEDULE_BYTES
  kept_short added l [] fits kept =
      subst (λ (xs : List LinkEvent). length (links_text machines xs) ≤ SCHEDULE_BYTES) (sym (append-nil added)) fits
  kept_short added l (e ∷ es) fits kept =
      by (nat_lt SCHEDULE_BYTES (length (links_text machines (added ++ e ∷ [])))) refl kept
      (kept_short (added ++ e ∷ []) (link_step work l e) es)
    where
      by : (long : Bool) → nat_lt SCHEDULE_BYTES (length (links_text machines (added ++ e ∷ []))) ≡ long →
          kept_bytes (if long then Fails LongSchedule else told_event (by_links work lines) l e
          (recorded_as (by_links work lines) (links_text machines) name (added ++ e ∷ []) (link_step work l e) es))
          ≡ Some bytes →
          (length (links_text machines (added ++ e ∷ [])) ≤ SCHEDULE_BYTES →
          kept_bytes (recorded_as (by_links work lines) (links_text machines) name (added ++ e ∷ []) (link_step work l
          e)
          es) ≡ Some bytes → length (links_text machines ((added ++ e ∷ []) ++ es)) ≤ SCHEDULE_BYTES) →
          length (links_text machines (added ++ e ∷ es)) ≤ SCHEDULE_BYTES
      by true is kept more = absurd (cc)
      by false is kept more = subst (λ (xs : List LinkEvent). length (links_text machines xs) ≤ SCHEDULE_BYTES)
          (append_assoc added (e ∷ []) es) (more (ltb-false _ _ is) kept)

-- ---- the law
module _ (work : Work) (sound : State → Type 0) (lawful : IsLawful work sound) (laws : ChosenWell work sound)
    (play : Play) (seed : ℕ) (name bytes : List ℕ) (course other : Course)
    (is : IsLossyPlay work play seed name course) (kept : kept_bytes course ≡ Some bytes) where
  abbrev begun : Linked
  begun = linked_anew is.first

  abbrev recorded : Course
  recorded = recorded_as (by_links work play.lines) (links_text play.machines) name [] begun is.events

  r : IsLinkReached work sound begun
  r = links_begin work sound play is.first is.is_first

  can : links_possible work begun is.events ≡ true
  can = laws.linked begun (generator_of seed) is.events r is.drawn.0

  each : AllByRecursion IsLinkEvent is.events
  each = links_told work sound lawful begun is.events r can

  keeps : kept_bytes recorded ≡ Some bytes
  keeps = ap kept_bytes (sym is.course_is) ∙ kept

  over : finished (link_after work begun is.events).world ≡ true
  over = by is.drawn.1
    where
      by : (finished (link_after work begun is.events).world ≡ true)
          ⊎ (SCHEDULE_BYTES < length (links_text play.machines is.events)) →
          finished (link_after work begun is.events).world ≡ true
      by (inl ends) = ends
      by (inr long) =
          let short = kept_short work sound laws play.lines name play.machines bytes [] begun is.events
          (header_short play.machines is.few.1) keeps in
          absurd (omega (arith, short, long))

  all : KeptAll (course_text recorded) bytes play.machines is.events
      (followed_as (by_links work play.lines) begun (listed_links 1 is.events))
  all = kept_all work sound laws play.lines name play.machines bytes [] begun is.events 1 r
      (header_short play.machines is.few.1) (can, over) keeps

  says : SaysLinks bytes play.machines is.events
  says = record {
    is = record { some = is.few.0; few = is.few.1; each = each };
    fits = all.fits;
    spelled = all.bytes_are;
  }

  by_links_text : ByLinkText bytes (λ machines events. IsLinkedPlay work (record play { machines = machines }) events)
      other → GainsTheSame course other
  by_links_text (LinksAreFaulty why real gives because) =
      absurd (no_link_fault bytes play.machines is.events says why real gives)
  by_links_text (TellsLinks machines events told way) =
      let pair = tells_one bytes machines play.machines events is.events told says in
      let same : other ≡ followed_as (by_links work play.lines) begun (listed_links 1 is.events) =
      way.course_is
      ∙ ap (λ (list : List LinkEvent). followed_as (by_links work play.lines) (linked_anew way.first)
      (listed_links 1 list)) pair.1
      ∙ ap (λ (w : World). followed_as (by_links work play.lines) (linked_anew w) (listed_links 1 is.events))
      (first_same work play.program play.graph play.machines play.draws way.first is.first
      (subst (λ (n : ℕ). IsFirstWorld work play.program play.graph n play.draws way.first) pair.0 way.is_first)
      is.is_first) in
      record {
        text = ap course_text same ∙ all.same ∙ ap course_text (sym is.course_is);
        ends = ap course_end same ∙ all.ends;
      }

  by_text : IsFollowed work (λ machines. record play { machines = machines }) bytes other → GainsTheSame course other
  by_text (ByEvents some way) = absurd (some (no_other_header bytes play.machines is.events says))
  by_text (ByLinks none way) = by_links_text way

pub link_replays_gain_the_same : (work : Work) (sound : State → Type 0) → IsLawful work sound →
    ChosenWell work sound → LinkReplaysGainTheSame work
link_replays_gain_the_same work sound lawful laws play seed name bytes course other is kept =
    by_text work sound lawful laws play seed name bytes course other is kept
