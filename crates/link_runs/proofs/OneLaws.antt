-- A seed draws one course; how long the text of form 3 of a run is.
use Rattle.std.proofs.Common.{◌≡◌, ◌⊎◌, inl, inr, ℕ, ◌+◌, ◌<◌, ◌≤◌, ◌^◌, Bool, true, false, List, [], ◌∷◌, ◌++◌, Option, Some, length, nat_lt, refl, ap, sym, subst, ◌∙◌, arith, append_assoc, append-nil, length-append}
use Rattle.std.specs.Prelude.{codes, decimal, flat_map, if◌then◌else◌}
use Rattle.std.proofs.lemmas.Bool.{false≢true, ltb-false}
use Rattle.std.proofs.lemmas.Fmt.{length-decimal-le}
use Rattle.std.proofs.lemmas.Option.{same_Some}
use Rattle.circulant_plan.specs.Skeleton.{is_finished}
use Rattle.command_steps.specs.Notes.{LongSchedule}
use Rattle.command_steps.specs.Orders.{Course, Fails}
use Rattle.delivery_log.specs.Choosers.{behind_word}
use Rattle.link_core.specs.declared.event.LinkEvent.{LinkEvent}
use Rattle.link_core.specs.LinkSays.{SaysLinks}
use Rattle.link_core.specs.LinkChoosers.{link_drawn}
use Rattle.link_core.specs.Links.{Linked, link_after}
use Rattle.link_core.specs.LinkTexts.{event_front, event_line, header_line, links_text}
pub use Rattle.link_core.proofs.LinkTextLaws.{bad_header, not_bad, one_bad_line, says_header, tells_one}
use Rattle.link_runs.specs.LinkedPlays.{IsDrawnFar}
use Rattle.link_runs.specs.LinkTellings.{by_links}
use Rattle.link_runs.specs.SourceLinks.{IsFarOrder, Ordered, by_source_links, next_drawn, ordered_after}
use Rattle.machine_runs.specs.Tellings.{Telling, recorded_as, told_event}
use Rattle.rand_pcg.specs.Lcg.{Lcg}
use Rattle.schedule_laws.specs.Events.{ring_in}
use Rattle.symple_face.specs.Cluster.{finished}
use Rattle.symple_face.specs.Source.{Source}
use Rattle.symple_face.specs.Work.{Work}
use Rattle.symple_words.specs.declared.line.Lines.{Lines}
use Rattle.vert_base.specs.declared.limits.TheConstants.{SCHEDULE_BYTES}

-- ---- what a seed draws
-- Of a run that is told: whether it is over, the next event that a word draws, and lists of events that are drawn far.
module _ {X : Type 0} (t : Telling X LinkEvent) (over : X → Bool) (next : Lcg → X → Option LinkEvent)
    (name : List ℕ) (machines : ℕ) where
  -- an event is drawn where the run isn't over, and what is left behind it is drawn far as well; with none left the run
  -- is over, or the text too long
  pub record IsDrawing (IsFar : List LinkEvent → X → Lcg → List LinkEvent → Type 0) : Type 0 where
    pub on : (added : List LinkEvent) (x : X) (g : Lcg) (e : LinkEvent) (es : List LinkEvent) →
        IsFar added x g (e ∷ es) → (over x ≡ false) × (next g x ≡ Some e)
    pub behind : (added : List LinkEvent) (x : X) (g : Lcg) (e : LinkEvent) (es : List LinkEvent) →
        IsFar added x g (e ∷ es) → IsFar (added ++ e ∷ []) (t.behind x e) (behind_word g) es
    pub ends : (added : List LinkEvent) (x : X) (g : Lcg) → IsFar added x g [] →
        (over x ≡ true) ⊎ (SCHEDULE_BYTES < length (links_text machines (added ++ [])))

  abbrev course_of : List LinkEvent → X → List LinkEvent → Course
  course_of added x es = recorded_as t (links_text machines) name added x es

  one_behind : (added : List LinkEvent) (x : X) (e : LinkEvent) (es fs : List LinkEvent) (long : Bool) →
      nat_lt SCHEDULE_BYTES (length (links_text machines (added ++ e ∷ []))) ≡ long →
      (length (links_text machines (added ++ e ∷ [])) ≤ SCHEDULE_BYTES →
      course_of (added ++ e ∷ []) (t.behind x e) es ≡ course_of (added ++ e ∷ []) (t.behind x e) fs) →
      (if long then Fails LongSchedule else told_event t x e (course_of (added ++ e ∷ []) (t.behind x e) es))
      ≡ (if long then Fails LongSchedule else told_event t x e (course_of (added ++ e ∷ []) (t.behind x e) fs))
  one_behind added x e es fs true is same = refl
  one_behind added x e es fs false is same = ap (told_event t x e) (same (ltb-false _ _ is))

  not_long : (added : List LinkEvent) → length (links_text machines added) ≤ SCHEDULE_BYTES →
      SCHEDULE_BYTES < length (links_text machines (added ++ [])) → ⊥
  not_long added fits long =
      let same = ap (λ (xs : List LinkEvent). length (links_text machines xs)) (append-nil added) in
      omega (arith, fits, long, same)

  no_more : (added : List LinkEvent) (x : X) → length (links_text machines added) ≤ SCHEDULE_BYTES → over x ≡ false →
      (over x ≡ true) ⊎ (SCHEDULE_BYTES < length (links_text machines (added ++ []))) → ⊥
  no_more added x fits on (inl ends) = false≢true (sym on ∙ ends)
  no_more added x fits on (inr long) = not_long added fits long

  module _ (IsFar : List LinkEvent → X → Lcg → List LinkEvent → Type 0) (laws : IsDrawing IsFar) where
    -- two lists that are drawn far are recorded alike
    pub one_far : (added : List LinkEvent) (x : X) (g : Lcg) (es fs : List LinkEvent) →
        length (links_text machines added) ≤ SCHEDULE_BYTES → IsFar added x g es → IsFar added x g fs →
        course_of added x es ≡ course_of added x fs
    one_far added x g [] [] fits a b = refl
    one_far added x g [] (f ∷ fs) fits a b =
        absurd (no_more added x fits (laws.on added x g f fs b).0 (laws.ends added x g a))
    one_far added x g (e ∷ es) [] fits a b =
        absurd (no_more added x fits (laws.on added x g e es a).0 (laws.ends added x g b))
    one_far added x g (e ∷ es) (f ∷ fs) fits a b =
        let same : e ≡ f = same_Some e f (sym (laws.on added x g e es a).1 ∙ (laws.on added x g f fs b).1) in
        let also = subst (λ (d : LinkEvent). IsFar added x g (d ∷ fs)) (sym same) b in
        one_behind added x e es fs (nat_lt SCHEDULE_BYTES (length (links_text machines (added ++ e ∷ [])))) refl
        (λ short. one_far (added ++ e ∷ []) (t.behind x e) (behind_word g) es fs short
        (laws.behind added x g e es a) (laws.behind added x g e fs also))
        ∙ ap (λ (d : LinkEvent). course_of added x (d ∷ fs)) same

long_behind : (machines : ℕ) (Ends : Type 0) (added : List LinkEvent) (e : LinkEvent) (es : List LinkEvent) →
    Ends ⊎ (SCHEDULE_BYTES < length (links_text machines (added ++ e ∷ es))) →
    Ends ⊎ (SCHEDULE_BYTES < length (links_text machines ((added ++ e ∷ []) ++ es)))
long_behind machines Ends added e es (inl ends) = inl ends
long_behind machines Ends added e es (inr long) = inr (subst (λ (xs : List LinkEvent).
    SCHEDULE_BYTES < length (links_text machines xs)) (sym (append_assoc added (e ∷ []) es)) long)

-- of machines
module _ (work : Work) (lines : Lines) (name : List ℕ) (machines : ℕ) where
  pub one_drawn : (added : List LinkEvent) (l : Linked) (g : Lcg) (es fs : List LinkEvent) →
      length (links_text machines added) ≤ SCHEDULE_BYTES → IsDrawnFar work machines added l g es →
      IsDrawnFar work machines added l g fs →
      recorded_as (by_links work lines) (links_text machines) name added l es ≡ recorded_as (by_links work
      lines) (links_text machines) name added l fs
  one_drawn =
      one_far (by_links work lines) (λ l. finished l.world) link_drawn name machines (IsDrawnFar work machines)
      (record {
        on = λ added l g e es is. (is.0.0, is.0.1);
        behind = λ added l g e es is.
            (is.0.2, long_behind machines (finished (link_after work l (e ∷ es)).world ≡ true) added e es is.1);
        ends = λ added l g is. is.1;
      })

-- of the source's run
module _ (lines : Lines) (src : Source) (name : List ℕ) (machines : ℕ) where
  pub one_in_order : (added : List LinkEvent) (s : Ordered) (g : Lcg) (es fs : List LinkEvent) →
      length (links_text machines added) ≤ SCHEDULE_BYTES → IsFarOrder src machines added s g es →
      IsFarOrder src machines added s g fs →
      recorded_as (by_source_links lines src) (links_text machines) name added s es ≡ recorded_as
      (by_source_links lines src) (links_text machines) name added s fs
  one_in_order =
      one_far (by_source_links lines src) (λ s. is_finished s.order) (next_drawn (ring_in src)) name machines
      (IsFarOrder src machines) (record {
        on = λ added s g e es is. (is.0.0, is.0.1);
        behind = λ added s g e es is.
            (is.0.2, long_behind machines (is_finished (ordered_after src s (e ∷ es)).order ≡ true) added e es is.1);
        ends = λ added s g is. is.1;
      })

-- ---- how long a text is
-- the first line alone is within the limit
pub header_short : (machines : ℕ) → machines ≤ 64 → length (links_text machines []) ≤ SCHEDULE_BYTES
header_short machines few =
    let digits = length-decimal-le 2 machines (omega (arith, few)) (omega (arith, few)) (omega (arith, few)) in
    let word = codes "schedule 3 machines " in
    let line = length-append word (decimal machines) in
    let whole = length-append (word ++ decimal machines) (10 ∷ []) in
    let none = append-nil (header_line machines) in
    let same = ap length none in
    omega (arith, digits, line, whole, same)

-- a text has a line for each event
lines_count : (es : List LinkEvent) → length es ≤ length (flat_map event_line es)
lines_count [] = omega arith
lines_count (e ∷ es) =
    let rest = lines_count es in
    let both = length-append (event_line e) (flat_map event_line es) in
    let some = length-append (event_front e) (10 ∷ []) in
    omega (arith, rest, both, some)

pub says_few : (text : List ℕ) (m : ℕ) (es : List LinkEvent) → SaysLinks text m es → 1 + length es < 2 ^ 32
says_few text m es says =
    let lines = lines_count es in
    let whole = length-append (header_line m) (flat_map event_line es) in
    let same = ap length says.spelled in
    let fits = says.fits in
    omega (arith, lines, whole, same, fits)
