-- The events that are chosen lead to the end of a run.
use Rattle.std.proofs.Common.{◌≡◌, ℕ, zero, suc, ◌<◌, ◌%◌, Bool, true, false, List, [], ◌∷◌, length, Option, Some, None, refl, ap, sym, ◌∙◌, subst, arith, ⊎_elim, slice_get}
use Rattle.std.specs.Prelude.{◌||◌, if◌then◌else◌}
use Rattle.std.specs.List.{Contains}
use Rattle.std.proofs.lemmas.Bool.{and_from, and_parts, cases_Bool, false≢true}
use Rattle.std.proofs.lemmas.Option.{get_or_from_slice_get, slice_get_within}
use Rattle.rand_pcg.specs.Lcg.{Lcg}
use Rattle.vert_base.specs.declared.message.Event.{Event}
use Rattle.vert_base.specs.declared.message.Event.TheVariants.{Go, Take}
use Rattle.vert_base.specs.declared.message.Name.{Name}
use Rattle.vert_base.specs.declared.message.NameKind.{NameKind}
use Rattle.vert_base.specs.declared.message.NameKind.TheVariants.{Refresh, Dep, Update, Push, Tally, Verdict}
use Rattle.vert_base.specs.HeaderBytes.{has_steps, is_proper}
use Rattle.vert_base.specs.Letters.{Letter, found}
use Rattle.vert_base.proofs.LetterLaws.{found_name}
use Rattle.circulant_plan.specs.declared.spot.Ring.{Ring}
use Rattle.symple_face.specs.Cluster.{World, after, all_possible, choices_of, events_left, finished, is_complete, possible, step}
use Rattle.symple_face.specs.Plans.{goes_by_plan, is_whole, ring_of}
use Rattle.symple_face.specs.State.{IsTakeable, State}
use Rattle.symple_face.specs.Work.{Work}
use Rattle.cluster_run.specs.Driven.{IsReached}
use Rattle.cluster_run.specs.Laws.{ChoicesArePossible, EachCanBeTaken, EventsComeNearer, StepsReach, UnfinishedGoesOn}
use Rattle.delivery_log.specs.Choosers.{DrawnEventsAreOne, DrawnEventsEnd, DrawnRunsAreComplete, IsDrawnRun, NumbersFit, PlainRunsAreComplete, behind_word, drawn_of, word_of}
use Rattle.delivery_log.specs.ScheduleTexts.{IsEvent}
use Rattle.state_laws.proofs.Options.{some_of}

-- ---- a chosen event can be told in a text
proper_by_plan : (ring : Ring) (kind : NameKind) (x : Name) → goes_by_plan ring kind x ≡ true →
    (has_steps kind || is_whole x) ≡ true
proper_by_plan ring Refresh x planned = planned
proper_by_plan ring Dep x planned = refl
proper_by_plan ring Update x planned = refl
proper_by_plan ring Push x planned = planned
proper_by_plan ring Tally x planned = (and_parts _ _ planned).0
proper_by_plan ring Verdict x planned = (and_parts _ _ planned).0

given : {X : Type 0} (b : Bool) (x y : X) → (if b then Some x else None) ≡ Some y → b ≡ true
given true x y e = refl
given false x y e = absurd (cc)

takeable_proper : (s : State) (l : Letter) → IsTakeable s l → is_proper l.name ≡ true
takeable_proper s l can =
    let planned = given _ _ can.shape can.has in
    proper_by_plan (ring_of s.split s.part.at.machines) l.name.kind l.name
    (and_parts _ _ (and_parts _ _ planned).1).0

pub told : (work : Work) (sound : State → Type 0) → EachCanBeTaken work sound → (w : World) → IsReached work sound w →
    (e : Event) → NumbersFit e → possible w e ≡ true → IsEvent e
told work sound taken w r (Go m) fits can = fits
told work sound taken w r (Take x) fits can =
    let letter = some_of (found x w.under_way) can in
    let at = taken w x letter.0 r letter.1 in
    let proper = takeable_proper at.0 letter.0 at.2 in
    record {
      proper = ap is_proper (sym (found_name x w.under_way letter.0 letter.1)) ∙ proper;
      round = fits.round;
      step = fits.step;
      half = fits.half;
      from = fits.from;
      to = fits.to;
    }

-- ---- runs
picked : (xs : List Event) (k : ℕ) → k < length xs → (e : Event) × (slice_get xs k ≡ Some e)
picked [] k below = absurd (omega arith)
picked (x ∷ xs) zero below = (x, refl)
picked (x ∷ xs) (suc k) below = picked xs k (omega arith)

listed : (xs : List Event) (k : ℕ) (e : Event) → slice_get xs k ≡ Some e → Contains xs e
listed xs k e at = (k, slice_get_within xs k e at, get_or_from_slice_get xs k e e at)

one_event : (a b : Event) → ◌≡◌ {A = Option Event} (Some a) (Some b) → a ≡ b
one_event a b e = cc

module _ (work : Work) where
  pub drawn_is_one : DrawnEventsAreOne work
  drawn_is_one w g [] [] a b = refl
  drawn_is_one w g [] (f ∷ fs) a b = absurd (false≢true (sym b.0 ∙ a))
  drawn_is_one w g (e ∷ es) [] a b = absurd (false≢true (sym a.0 ∙ b))
  drawn_is_one w g (e ∷ es) (f ∷ fs) a b =
      let same : e ≡ f = one_event e f (sym a.1 ∙ b.1) in
      let rest = drawn_is_one (step work w f) (behind_word g) es fs
      (subst (λ q. IsDrawnRun work (step work w q) (behind_word g) es) same a.2) b.2 in
      ap (λ q. q ∷ es) same ∙ ap (λ t. f ∷ t) rest

  one_more : (w : World) (e : Event) (es : List Event) → possible w e ≡ true →
      is_complete work (step work w e) es ≡ true → is_complete work w (e ∷ es) ≡ true
  one_more w e es can rest =
      let parts = and_parts (all_possible work (step work w e) es) (finished (after work (step work w e) es)) rest in
      and_from (all_possible work w (e ∷ es)) (finished (after work (step work w e) es))
      (and_from (possible w e) (all_possible work (step work w e) es) can parts.0) parts.1

module _ (work : Work) (sound : State → Type 0) (reach : StepsReach work sound)
    (choices : ChoicesArePossible work sound) where
  pub drawn_is_complete : DrawnRunsAreComplete work sound
  drawn_is_complete w g [] r over = over
  drawn_is_complete w g (e ∷ es) r run =
      let can = (choices w r).are_possible e
      (listed (choices_of w) (word_of g % length (choices_of w)) e run.1) in
      one_more work w e es can (drawn_is_complete (step work w e) (behind_word g) es (reach w e r can) run.2)

  pub plain_is_complete : PlainRunsAreComplete work sound
  plain_is_complete w [] r over = over
  plain_is_complete w (e ∷ es) r run =
      let can = (choices w r).are_possible e (listed (choices_of w) 0 e run.1) in
      one_more work w e es can (plain_is_complete (step work w e) es (reach w e r can) run.2)

  module _ (nearer : EventsComeNearer work sound) (goes : UnfinishedGoesOn work sound) where
    drawn_there : (w : World) (g : Lcg) → IsReached work sound w → finished w ≡ false →
        (e : Event) × (drawn_of g w ≡ Some e)
    drawn_there w g r on =
        let some : length (choices_of w) ≡ 0 → ⊥ = λ none. false≢true (sym on ∙ (goes w r).chosen.0 none) in
        picked (choices_of w) (word_of g % length (choices_of w)) (omega (arith, some))

    drawn_within : (bound : ℕ) (w : World) (g : Lcg) → IsReached work sound w → events_left w < bound →
        (es : List Event) × IsDrawnRun work w g es
    drawn_within zero w g r near = absurd (omega arith)
    drawn_within (suc bound) w g r near =
        ⊎_elim
        (λ (over : finished w ≡ true). ([], over))
        (λ (on : finished w ≡ false).
        let e = drawn_there w g r on in
        let can = (choices w r).are_possible e.0
        (listed (choices_of w) (word_of g % length (choices_of w)) e.0 e.1) in
        let less = nearer w e.0 r can in
        let more = drawn_within bound (step work w e.0) (behind_word g) (reach w e.0 r can)
        (omega (arith, less, near)) in
        (e.0 ∷ more.0, (on, e.1, more.1)))
        (cases_Bool (finished w))

    pub drawn_ends : DrawnEventsEnd work sound
    drawn_ends w g r = drawn_within (suc (events_left w)) w g r (omega arith)
