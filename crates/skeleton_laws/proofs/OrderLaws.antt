-- The laws, of every reached state.
use Rattle.std.proofs.Common.{Option, Some, None, ◌≤◌, ℕ, arith, zero, suc, ⊎_elim, ◌≡◌, true, false, List, [], ◌∷◌, ◌++◌, refl, ap, sym, ◌∙◌, subst}
use Rattle.std.specs.Option.{option_map_or}
use Rattle.std.proofs.lemmas.Bool.{and_from, cases_Bool, and_parts}
use Rattle.std.proofs.lemmas.Option.{same_Some}
use Rattle.vert_base.specs.declared.message.Event.{Event}
use Rattle.vert_base.specs.declared.value.Ruling.{Ruling}
use Rattle.circulant_plan.specs.Choosing.{choices_of, plain_of, plain_events}
use Rattle.circulant_plan.specs.declared.spot.Ring.{Ring}
use Rattle.circulant_plan.specs.Runs.{judged_round, ruled, after, are_possible, IsReached}
use Rattle.circulant_plan.specs.Remaining.{events_left}
use Rattle.circulant_plan.specs.Skeleton.{Skeleton, Blocks, may_rule, is_finished, is_possible, step_of, skeleton_after, all_possible}
use Rattle.skeleton_laws.specs.Laws.{PlainEventsEnd, RunsAreBounded, FewAreUnderWay, EachIsTakeable, EachWasTaken, EachStands, RulingsStay, BeginsHaveModes, SomeEventMoves, FinishedIsEmpty, FinishedIsStill, EventsComeNearer, StepsReach, MissingIsUnfinished, PlainIsUnfinished, ChoicesArePossible}
use Rattle.skeleton_laws.proofs.FewLaws.{are_few}
use Rattle.skeleton_laws.proofs.BoundLaws.{bounded}
use Rattle.skeleton_laws.proofs.ReachedSettles.{acting_of, reached}
use Rattle.skeleton_laws.proofs.Standings.{standing_of}
use Rattle.skeleton_laws.proofs.MoveLaws.{some_moves, nothing_flies, still}
use Rattle.skeleton_laws.proofs.RoundLaws.{takeable_at, taken_at, standing_is, rulings_stay, begins}
use Rattle.skeleton_laws.proofs.NearerLaws.{nearer}
use Rattle.skeleton_laws.proofs.ChoiceLaws.{choices_are, missing_none, missing_some, plain_none, plain_some, choice_possible, first_there}

pub each_is_takeable : EachIsTakeable
each_is_takeable ring blocks k x r flew = takeable_at (reached ring blocks k r) x flew

pub each_was_taken : EachWasTaken
each_was_taken ring blocks k x r taken = taken_at (reached ring blocks k r) x taken

pub each_stands : EachStands
each_stands ring blocks k m s r stands = standing_is (reached ring blocks k r) m s stands

pub the_rulings_stay : RulingsStay
the_rulings_stay ring blocks k ruling e r can = rulings_stay (reached ring blocks k r) ruling e can

pub begins_have_modes : BeginsHaveModes
begins_have_modes ring blocks k ruling m q s r can stands at =
    let state = reached ring blocks k r in
    let same : standing_of k.standings m ≡ s =
    same_Some (standing_of k.standings m) s (sym (acting_of state ruling m can).stands ∙ stands) in
    begins state ruling m q can (ap (λ t. t.spot) same ∙ at)

pub some_event_moves : SomeEventMoves
some_event_moves ring blocks k r unfinished = some_moves (reached ring blocks k r) unfinished

pub finished_is_empty : FinishedIsEmpty
finished_is_empty ring blocks k r finished = nothing_flies (reached ring blocks k r) finished

pub finished_is_still : FinishedIsStill
finished_is_still ring blocks k r finished = still (reached ring blocks k r) finished

pub events_come_nearer : EventsComeNearer
events_come_nearer ring blocks k ruling e r can = nearer (reached ring blocks k r) ruling e can

pub missing_is_unfinished : MissingIsUnfinished
missing_is_unfinished ring blocks k r =
    (missing_none (reached ring blocks k r), missing_some (reached ring blocks k r))

pub plain_is_unfinished : PlainIsUnfinished
plain_is_unfinished ring blocks k ruling r = record {
  none = plain_none (reached ring blocks k r) ruling;
  some = plain_some (reached ring blocks k r) ruling;
  possible = λ e first. choice_possible ring blocks ruling k e (first_there (choices_of ring blocks ruling k) e first);
}

pub choices_are_possible : ChoicesArePossible
choices_are_possible ring blocks ruling k = choices_are ring blocks ruling k

-- one more event
more_possible : (ring : Ring) (blocks : Blocks) (es : List (Event × Ruling)) (k : Skeleton)
    (e : Event × Ruling) →
    all_possible ring blocks es k ≡ true → is_possible ring blocks e.1 e.0 (skeleton_after ring es k) ≡ true →
    all_possible ring blocks (es ++ e ∷ []) k ≡ true
more_possible ring blocks [] k e all can = and_from (is_possible ring blocks e.1 e.0 k) true can refl
more_possible ring blocks (d ∷ es) k e all can =
    let parts =
    and_parts (is_possible ring blocks d.1 d.0 k)
    (all_possible ring blocks es (step_of ring d.1 d.0 k)) all in
    and_from (is_possible ring blocks d.1 d.0 k)
    (all_possible ring blocks (es ++ e ∷ []) (step_of ring d.1 d.0 k)) parts.0
    (more_possible ring blocks es (step_of ring d.1 d.0 k) e parts.1 can)

more_after : (ring : Ring) (es : List (Event × Ruling)) (k : Skeleton) (e : Event × Ruling) →
    skeleton_after ring (es ++ e ∷ []) k ≡ step_of ring e.1 e.0 (skeleton_after ring es k)
more_after ring [] k e = refl
more_after ring (d ∷ es) k e = more_after ring es (step_of ring d.1 d.0 k) e

pub steps_reach : StepsReach
steps_reach ring blocks k ruling e r can = record {
  some = r.some;
  few = r.few;
  first = r.first;
  is_first = r.is_first;
  events = r.events ++ (e, ruling) ∷ [];
  were_possible =
      more_possible ring blocks r.events r.first (e, ruling) r.were_possible
      (subst (λ q. is_possible ring blocks ruling e q ≡ true) r.here can);
  here = ap (step_of ring ruling e) r.here ∙ sym (more_after ring r.events r.first (e, ruling));
}

module _ (ring : Ring) (blocks : Blocks) (ruling : ℕ → Ruling)
    (may : (r : ℕ) → may_rule blocks r (ruling r) ≡ true) where
  -- these events are possible in turn and end the run
  abbrev Ends : List Event → Skeleton → Type 0
  Ends es k = (are_possible ring blocks ruling es k ≡ true) × (is_finished (after ring ruling es k) ≡ true)

  -- by the plain event of the state, if there is one
  plain_step : (bound : ℕ) (k : Skeleton) → IsReached ring blocks k → (o : Option Event) →
      plain_of ring blocks (ruled ruling k) k ≡ o →
      ((e : Event) → is_possible ring blocks (ruled ruling k) e k ≡ true →
      Ends (plain_events ring blocks ruling bound (step_of ring (ruled ruling k) e k))
      (step_of ring (ruled ruling k) e k)) →
      Ends (option_map_or (λ e. e ∷ plain_events ring blocks ruling bound (step_of ring (ruled ruling k) e k)) o []) k
  plain_step bound k r None e rest = (
    refl,
    ⊎_elim
        (λ (finished : is_finished k ≡ true). finished)
        (λ (unfinished : is_finished k ≡ false).
        absurd ((plain_is_unfinished ring blocks k (ruled ruling k) r).some unfinished (may (judged_round k)) e))
        (cases_Bool (is_finished k)),
  )
  plain_step bound k r (Some d) e rest =
      let can = (plain_is_unfinished ring blocks k (ruled ruling k) r).possible d e in
      let next = step_of ring (ruled ruling k) d k in
      let more = rest d can in (
        and_from (is_possible ring blocks (ruled ruling k) d k)
            (are_possible ring blocks ruling (plain_events ring blocks ruling bound next) next) can more.0,
        more.1,
      )

  plain_within : (bound : ℕ) (k : Skeleton) → IsReached ring blocks k → events_left blocks k ≤ bound →
      Ends (plain_events ring blocks ruling bound k) k
  plain_within zero k r left = (
    refl,
    ⊎_elim
        (λ (finished : is_finished k ≡ true). finished)
        (λ (unfinished : is_finished k ≡ false).
        let one = some_event_moves ring blocks k r unfinished in
        let near =
        events_come_nearer ring blocks k (ruled ruling k) one.0 r
        (one.1 (ruled ruling k) (may (judged_round k))) in
        absurd (omega arith))
        (cases_Bool (is_finished k)),
  )
  plain_within (suc bound) k r left =
      plain_step bound k r (plain_of ring blocks (ruled ruling k) k) refl
      (λ e can.
      let near = events_come_nearer ring blocks k (ruled ruling k) e r can in
      plain_within bound (step_of ring (ruled ruling k) e k)
      (steps_reach ring blocks k (ruled ruling k) e r can) (omega arith))

pub plain_events_end : PlainEventsEnd
plain_events_end ring blocks ruling bound k r may left = plain_within ring blocks ruling may bound k r left

pub runs_are_bounded : RunsAreBounded
runs_are_bounded ring blocks k es r all = bounded es (reached ring blocks k r) all

pub few_are_under_way : FewAreUnderWay
few_are_under_way ring blocks k r = are_few (reached ring blocks k r)
