-- From each state some list of events is drawn over links, up to the end or past the limit of a text.
use Rattle.std.proofs.Common.{◌≡◌, ◌⊎◌, inl, inr, ℕ, zero, suc, ◌+◌, ◌<◌, ◌≤◌, Bool, true, false, List, [], ◌∷◌, ◌++◌, length, Some, refl, sym, ap, subst, ◌∙◌, arith, append_assoc, append-nil, length-append}
use Rattle.std.specs.Prelude.{flat_map}
use Rattle.std.proofs.lemmas.Bool.{and_parts}
use Rattle.std.proofs.lemmas.Grind.{flat_map-append}
use Rattle.delivery_log.specs.Choosers.{behind_word}
use Rattle.link_core.specs.declared.event.LinkEvent.{LinkEvent}
use Rattle.link_core.specs.LinkChoosers.{DrawnLinksArePossible, SomeLinkIsDrawn, link_drawn}
use Rattle.link_core.specs.LinkOrder.{LinkStepsReach}
use Rattle.link_core.specs.LinkRecords.{RecordsLinks}
use Rattle.link_core.specs.LinkRuns.{IsLinkReached}
use Rattle.link_core.specs.Links.{Linked, link_after, link_possible, link_step}
use Rattle.link_core.specs.LinkTexts.{event_front, event_line, header_line, links_text}
use Rattle.link_runs.specs.LinkedPlays.{IsDrawnFar}
use Rattle.rand_pcg.specs.Lcg.{Lcg}
use Rattle.symple_face.specs.Cluster.{finished}
use Rattle.symple_face.specs.State.{State}
use Rattle.symple_face.specs.Work.{Work}
use Rattle.vert_base.specs.declared.limits.TheConstants.{SCHEDULE_BYTES}

-- each event makes a text longer
pub text_longer : (machines : ℕ) (added : List LinkEvent) (e : LinkEvent) →
    length (links_text machines added) < length (links_text machines (added ++ e ∷ []))
text_longer machines added e =
    let lines = flat_map event_line added in
    let last = event_line e in
    let joined : flat_map event_line (added ++ e ∷ []) ≡ lines ++ last =
    flat_map-append event_line added (e ∷ []) ∙ ap (λ t. lines ++ t) (append-nil last) in
    let whole = ap length joined in
    let both = length-append lines last in
    let old = length-append (header_line machines) lines in
    let new = length-append (header_line machines) (flat_map event_line (added ++ e ∷ [])) in
    let some = length-append (event_front e) (10 ∷ []) in
    omega (arith, whole, both, old, new, some)

-- and so does what a recorder has
pub record_longer : (text new : List ℕ) (machines : ℕ) (added : List LinkEvent) (e : LinkEvent) →
    RecordsLinks text machines added → RecordsLinks new machines (added ++ e ∷ []) → length text < length new
record_longer text new machines added e old is =
    let more = text_longer machines added e in
    let before = ap length old.spelled in
    let after = ap length is.spelled in
    omega (arith, more, before, after)

pub record_fits : (text : List ℕ) (machines : ℕ) (added : List LinkEvent) → RecordsLinks text machines added →
    length (links_text machines added) ≤ SCHEDULE_BYTES
record_fits text machines added is = subst (λ (t : List ℕ). length t ≤ SCHEDULE_BYTES) is.spelled is.fits

module _ (work : Work) (machines : ℕ) where
  far_or_ends : (added : List LinkEvent) (l : Linked) (e : LinkEvent) (es : List LinkEvent) →
      (finished (link_after work (link_step work l e) es).world ≡ true)
      ⊎ (SCHEDULE_BYTES < length (links_text machines ((added ++ e ∷ []) ++ es))) →
      (finished (link_after work l (e ∷ es)).world ≡ true)
      ⊎ (SCHEDULE_BYTES < length (links_text machines (added ++ e ∷ es)))
  far_or_ends added l e es (inl ends) = inl ends
  far_or_ends added l e es (inr long) = inr (subst (λ (xs : List LinkEvent).
      SCHEDULE_BYTES < length (links_text machines xs)) (append_assoc added (e ∷ []) es) long)

  -- a drawn event in front of drawn ones
  pub drawn_more : (added : List LinkEvent) (l : Linked) (g : Lcg) (e : LinkEvent) → finished l.world ≡ false →
      link_drawn g l ≡ Some e → (es : List LinkEvent) →
      IsDrawnFar work machines (added ++ e ∷ []) (link_step work l e) (behind_word g) es →
      IsDrawnFar work machines added l g (e ∷ es)
  drawn_more added l g e more drawn es is = ((more, drawn, is.0), far_or_ends added l e es is.1)

  module _ (sound : State → Type 0) (some : SomeLinkIsDrawn work sound) (possible : DrawnLinksArePossible work sound)
      (reach : LinkStepsReach work sound) where
    -- the state behind a drawn event is reached
    pub drawn_reached : (l : Linked) (g : Lcg) (e : LinkEvent) → IsLinkReached work sound l →
        finished l.world ≡ false → link_drawn g l ≡ Some e → IsLinkReached work sound (link_step work l e)
    drawn_reached l g e r more drawn = reach l e r
        (and_parts (link_possible l e) true (possible l g (e ∷ []) r (more, drawn, tt))).0

    far_by : (added : List LinkEvent) (l : Linked) (g : Lcg) → IsLinkReached work sound l →
        ((e : LinkEvent) → finished l.world ≡ false → link_drawn g l ≡ Some e →
        (es : List LinkEvent) × IsDrawnFar work machines (added ++ e ∷ []) (link_step work l e) (behind_word g) es) →
        (b : Bool) → finished l.world ≡ b → (es : List LinkEvent) × IsDrawnFar work machines added l g es
    far_by added l g r behind true ends = ([], (tt, inl ends))
    far_by added l g r behind false more =
        let next = some l g r more in
        let rest = behind next.0 more next.1 in
        (next.0 ∷ rest.0, drawn_more added l g next.0 more next.1 rest.0 rest.1)

    far_within : (fuel : ℕ) (added : List LinkEvent) (l : Linked) (g : Lcg) → IsLinkReached work sound l →
        SCHEDULE_BYTES < length (links_text machines added) + fuel →
        (es : List LinkEvent) × IsDrawnFar work machines added l g es
    far_within zero added l g r long = (
      [],
      (
        tt,
        inr (subst (λ (xs : List LinkEvent). SCHEDULE_BYTES < length (links_text machines xs))
            (sym (append-nil added)) (omega (arith, long))),
      ),
    )
    far_within (suc n) added l g r long =
        far_by added l g r (λ e more drawn.
        far_within n (added ++ e ∷ []) (link_step work l e) (behind_word g) (drawn_reached l g e r more drawn)
        (let longer = text_longer machines added e in omega (arith, longer, long))) (finished l.world) refl

    pub far : (added : List LinkEvent) (l : Linked) (g : Lcg) → IsLinkReached work sound l →
        (es : List LinkEvent) × IsDrawnFar work machines added l g es
    far added l g r = far_within (SCHEDULE_BYTES + 1) added l g r (omega arith)
