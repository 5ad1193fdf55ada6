-- What can be chosen in each world that possible events leave.
use Rattle.std.proofs.Common.{◌≡◌, ℕ, zero, suc, ◌<◌, ◌≤◌, Bool, true, false, List, [], ◌∷◌, ◌++◌, length, Option, Some, None, refl, ap, sym, ◌∙◌, subst, arith, ⊎_elim, slice_get}
use Rattle.std.specs.Prelude.{◌↔◌, IfSome, if◌then◌else◌, option_map}
use Rattle.std.specs.List.{Contains}
use Rattle.std.proofs.lemmas.Bool.{and_from, cases_Bool, false≢true}
use Rattle.std.proofs.lemmas.List.{length-append}
use Rattle.std.proofs.lemmas.Option.{get_or_from_slice_get, slice_get_past, slice_get_within}
use Rattle.vert_base.specs.declared.message.Event.{Event}
use Rattle.vert_base.specs.declared.message.Event.TheVariants.{Go, Take}
use Rattle.vert_base.specs.Letters.{Letter}
use Rattle.symple_face.specs.declared.action.Action.{Action}
use Rattle.symple_face.specs.declared.action.Action.TheVariants.{Over, Ready, Waits}
use Rattle.symple_face.specs.Cluster.{IsPlainRun, World, all_possible, can_act, choices_of, events_left, finished, goes, is_ready, missing_of, plain_of, possible, step, takes}
use Rattle.symple_face.specs.Lawful.{IsLawful}
use Rattle.symple_face.specs.State.{State, action_of}
use Rattle.symple_face.specs.Work.{Work}
use Rattle.cluster_run.specs.declared.fault.EventFault.{EventFault}
use Rattle.cluster_run.specs.declared.fault.EventFault.TheVariants.{NotUnderWay, RunOver}
use Rattle.cluster_run.specs.Choices.{AreChoices, GoesOn, IsLeast}
use Rattle.cluster_run.specs.Driven.{Driven, IsDriven, IsReached, world_of}
use Rattle.cluster_run.specs.declared.fault.Missing.{Missing}
use Rattle.cluster_run.specs.Faults.{action_fault, event_fault, fault_of, go_fault, lacking, lacks}
use Rattle.cluster_run.proofs.ChoicesAlike.{are_choices, least_is_missing}
use Rattle.cluster_run.proofs.ReachedWorlds.{reached_ties}
use Rattle.cluster_run.proofs.ReachedWorldLaws.{reached_moves, reached_nearer, reached_still, steps_on}

-- ---- the first of a list
none_there : (es : List Event) → ((e : Event) → Contains es e → ⊥) → length es ≡ 0
none_there [] none = refl
none_there (e ∷ es) none = absurd (none e (0, omega arith, refl))

first_none : {X : Type 0} → (xs : List X) → slice_get xs 0 ≡ None → length xs ≡ 0
first_none [] e = refl
first_none (x ∷ xs) e = cc

-- ---- what is possible is played
acts_played : (a : Action) → is_ready a ≡ true → action_fault a ≡ None
acts_played Ready can = refl
acts_played (Waits x) can = absurd (false≢true can)
acts_played Over can = absurd (false≢true can)

played_acts : (a : Action) → action_fault a ≡ None → is_ready a ≡ true
played_acts Ready none = refl
played_acts (Waits x) none = cc
played_acts Over none = cc

goes_played : (o : Option State) → can_act o ≡ true → go_fault o ≡ None
goes_played None can = absurd (false≢true can)
goes_played (Some s) can = acts_played (action_of s) can

played_goes : (o : Option State) → go_fault o ≡ None → can_act o ≡ true
played_goes None none = cc
played_goes (Some s) none = played_acts (action_of s) none

played_takes : (b : Bool) → (if b then None else Some NotUnderWay) ≡ None → b ≡ true
played_takes true none = refl
played_takes false none = cc

event_played : (w : World) (e : Event) → possible w e ≡ true → event_fault w e ≡ None
event_played w (Go m) can = goes_played (slice_get w.sites m) can
event_played w (Take x) can = ap (λ b. if b then None else Some NotUnderWay) can

played_possible : (w : World) (e : Event) → event_fault w e ≡ None → possible w e ≡ true
played_possible w (Go m) none = played_goes (slice_get w.sites m) none
played_possible w (Take x) none = played_takes (possible w (Take x)) none

not_over : (b : Bool) (o : Option EventFault) → (if b then Some RunOver else o) ≡ None → o ≡ None
not_over true o none = cc
not_over false o none = none

-- an event that isn't refused is possible
pub not_refused : (w : World) (e : Event) → fault_of w e ≡ None → possible w e ≡ true
not_refused w e none = played_possible w e (not_over (finished w) (event_fault w e) none)

module _ (work : Work) (sound : State → Type 0) (lawful : IsLawful work sound) (w : World)
    (r : IsReached work sound w) where
  pub choices_there : AreChoices w
  choices_there =
      are_choices work sound lawful r.split r.parts r.one_run w (reached_ties work sound lawful w r)

  pub missing_there : IsLeast w
  missing_there =
      least_is_missing work sound lawful r.split r.parts r.one_run w (reached_ties work sound lawful w r)

  -- who can be played is in a run that isn't finished
  going : (e : Event) → possible w e ≡ true → finished w ≡ false
  going e can =
      ⊎_elim
      (λ (over : finished w ≡ true).
      absurd (false≢true (sym (reached_still work sound lawful w r e over) ∙ can)))
      (λ (on : finished w ≡ false). on)
      (cases_Bool (finished w))

  no_choice : finished w ≡ true → length (choices_of w) ≡ 0
  no_choice over =
      none_there (choices_of w)
      (λ e there. false≢true (sym (reached_still work sound lawful w r e over) ∙ choices_there.are_possible e there))

  pub some_choice : finished w ≡ false → 1 ≤ length (choices_of w)
  some_choice on =
      let e = reached_moves work sound lawful w r on in
      let there = choices_there.listed e.0 e.1 in
      let within = there.1 in
      omega arith

  over_by_count : length (choices_of w) ≡ 0 → finished w ≡ true
  over_by_count none =
      ⊎_elim
      (λ (over : finished w ≡ true). over)
      (λ (on : finished w ≡ false). let some = some_choice on in absurd (omega arith))
      (cases_Bool (finished w))

  turned : length (takes w ++ goes w) ≡ length (choices_of w)
  turned =
      let one = length-append (takes w) (goes w) in
      let other = length-append (goes w) (takes w) in
      omega arith

  pub goes_on : GoesOn w
  goes_on = record {
    played = λ e. (
      (λ can. ap (λ b. if b then Some RunOver else event_fault w e) (going e can) ∙ event_played w e can),
      (λ none. played_possible w e (not_over (finished w) (event_fault w e) none)),
    );
    chosen = (over_by_count, no_choice);
    plain = (
      (λ none. over_by_count (first_none (choices_of w) none)),
      (λ over. slice_get_past (choices_of w) 0 (let none = no_choice over in omega arith)),
    );
    missing = (
      (λ none. over_by_count (sym turned ∙ first_none (takes w ++ goes w) none)),
      (λ over.
          slice_get_past (takes w ++ goes w) 0 (let none = no_choice over in let same = turned in omega arith)),
    );
  }

  -- each choice is played
  pub nth_played : (k : ℕ) (o : Option Event) → o ≡ slice_get (choices_of w) k →
      IfSome o (λ e. fault_of w e ≡ None)
  nth_played k None is = tt
  nth_played k (Some e) is =
      let at : slice_get (choices_of w) k ≡ Some e = sym is in
      (goes_on.played e).0
      (choices_there.are_possible e
      (k, slice_get_within (choices_of w) k e at, get_or_from_slice_get (choices_of w) k e e at))

  pub first_choice : (k : ℕ) (o : Option Event) → o ≡ slice_get (choices_of w) k → k ≡ 0 →
      (o ≡ None) ↔ (finished w ≡ true)
  first_choice k o is first =
      let here : o ≡ plain_of w = is ∙ ap (slice_get (choices_of w)) first in
      ((λ none. goes_on.plain.0 (sym here ∙ none)), (λ over. here ∙ goes_on.plain.1 over))

  pub nothing_lacks : (o : Option Missing) → o ≡ lacking w → (o ≡ None) ↔ (finished w ≡ true)
  nothing_lacks o is = (
    (λ none. goes_on.missing.0 (nothing (missing_of w) (sym is ∙ none))),
    (λ over. is ∙ ap (option_map lacks) (goes_on.missing.1 over)),
  )
    where
      nothing : (e : Option Event) → option_map lacks e ≡ None → e ≡ None
      nothing None none = refl
      nothing (Some e) none = cc

-- ---- a cluster as its callers see it
pub reached_in : (work : Work) (sound : State → Type 0) (inside d : Driven) → inside ≡ d → IsDriven work sound inside →
    d.ended ≡ false → IsReached work sound d.world
reached_in work sound inside d same driven =
    subst (λ (q : Driven). q.ended ≡ false → IsReached work sound q.world) same driven.reached

module _ {X R : Type 0} (state : X → State) (f : World → R) (xs ys : List X) (flight : List Letter) (b : Bool)
    (d : Driven) (r : R) where
  pub seen : xs ≡ ys →
      (let inside : Driven = record { world = world_of state ys flight; ended = b } in inside) ≡ d →
      r ≡ f (world_of state xs flight) → r ≡ f d.world
  seen same view is =
      is ∙ ap (λ zs. f (world_of state zs flight)) same ∙ ap (λ (q : Driven). f q.world) view

-- the plain event
first_of : {X : Type 0} → (xs : List X) → 1 ≤ length xs → (x : X) × (slice_get xs 0 ≡ Some x) × Contains xs x
first_of [] some = absurd (omega arith)
first_of (x ∷ xs) some = (x, refl, (0, omega arith, refl))

module _ (work : Work) (sound : State → Type 0) (lawful : IsLawful work sound) where
  -- the plain events end within the bound of what is left
  abbrev EndsPlainly : World → Type 0
  EndsPlainly w = (es : List Event) × IsPlainRun work w es × (all_possible work w es ≡ true)

  plain_on : (w : World) → IsReached work sound w → finished w ≡ false →
      ((v : World) → IsReached work sound v → events_left v < events_left w → EndsPlainly v) → EndsPlainly w
  plain_on w r on nearer =
      let e = first_of (choices_of w) (some_choice work sound lawful w r on) in
      let can = (choices_there work sound lawful w r).are_possible e.0 e.2 in
      let more = nearer (step work w e.0) (steps_on work sound w e.0 r can)
      (reached_nearer work sound lawful w r e.0 can) in (
        e.0 ∷ more.0,
        (on, e.1, more.1),
        and_from (possible w e.0) (all_possible work (step work w e.0) more.0) can more.2,
      )

  plain_from : (w : World) → IsReached work sound w →
      ((v : World) → IsReached work sound v → events_left v < events_left w → EndsPlainly v) → EndsPlainly w
  plain_from w r nearer =
      ⊎_elim
      (λ (over : finished w ≡ true). ([], over, refl))
      (λ (on : finished w ≡ false). plain_on w r on nearer)
      (cases_Bool (finished w))

  plain_within : (bound : ℕ) (w : World) → IsReached work sound w → events_left w ≤ bound → EndsPlainly w
  plain_within zero w r most = plain_from w r (λ v s near. absurd (omega arith))
  plain_within (suc bound) w r most = plain_from w r (λ v s near. plain_within bound v s (omega arith))

  pub plain_ends : (w : World) → IsReached work sound w → EndsPlainly w
  plain_ends w r = plain_within (events_left w) w r (omega arith)
