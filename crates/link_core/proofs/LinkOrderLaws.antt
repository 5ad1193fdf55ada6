-- What holds of links in each reached state.
use Rattle.std.proofs.Common.{◌≡◌, ℕ, zero, suc, ◌<◌, ◌≤◌, ◌%◌, true, false, not, List, [], ◌∷◌, length, Option, Some, None, refl, ap, sym, ◌∙◌, subst, arith, ⊎_elim, slice_get}
use Rattle.std.specs.Prelude.{◌↔◌, IfSome}
use Rattle.std.specs.List.{Contains}
use Rattle.std.proofs.lemmas.Bool.{and_from, and_parts, cases_Bool, false≢true}
use Rattle.std.proofs.lemmas.Option.{get_or_from_slice_get, slice_get_past, slice_get_within}
use Rattle.rand_pcg.specs.Lcg.{Lcg}
use Rattle.symple_face.specs.Cluster.{World, finished}
use Rattle.symple_face.specs.Lawful.{IsLawful}
use Rattle.symple_face.specs.State.{State}
use Rattle.symple_face.specs.Work.{Work}
use Rattle.cluster_run.proofs.WorldChoices.{choices_there, goes_on}
use Rattle.cluster_run.proofs.ReachedWorlds.{reached_ties}
use Rattle.link_core.specs.declared.event.LinkEvent.{LinkEvent}
use Rattle.link_core.specs.LinkChoices.{link_choices}
use Rattle.link_core.specs.LinkChoosers.{DrawnLinksArePossible, IsLinkRun, LinkRunsAreComplete, LinkRunsAreOne, SomeLinkIsDrawn, link_drawn}
use Rattle.delivery_log.specs.Choosers.{behind_word, word_of}
use Rattle.link_core.specs.LinkFaults.{link_fault_of}
use Rattle.link_core.specs.LinkOrder.{AreLinkChoices, EventsAreOverPlain, IsDeliveredOnce, LinkChoicesArePossible, LinksAreReached, LinkStepsReach, MessagesAreDeliveredOnce, SomeLinkMoves}
use Rattle.link_core.specs.LinkRuns.{IsLinkReached}
use Rattle.link_core.specs.Links.{Linked, can_happen, link_after, link_possible, link_step, links_possible, plain_part}
use Rattle.link_core.specs.Piles.{names_of}
use Rattle.link_core.specs.Traffic.{can_repeat}
use Rattle.link_core.proofs.DeliveredLaws.{delivered_once}
use Rattle.link_core.proofs.LinkChoiceLaws.{kept_rise, link_chosen, link_listed, piles_rise, possible_free}
use Rattle.link_core.proofs.LinkReached.{in_order, link_steps_on, links_move, plain_runs, world_reached}

pub events_are_over_plain : (work : Work) → EventsAreOverPlain work
events_are_over_plain work l es can =
    let runs = plain_runs work l es can in record { possible = runs.1; world = sym runs.0 }

pub links_are_reached : (work : Work) (sound : State → Type 0) → LinksAreReached work sound
links_are_reached work sound l r = world_reached work sound l r

pub link_steps_reach : (work : Work) (sound : State → Type 0) → LinkStepsReach work sound
link_steps_reach work sound l e r can = link_steps_on work sound l e r can

none_there : (es : List LinkEvent) → ((e : LinkEvent) → Contains es e → ⊥) → length es ≡ 0
none_there [] none = refl
none_there (e ∷ es) none = absurd (none e (0, omega arith, refl))

picked : (xs : List LinkEvent) (k : ℕ) → k < length xs → (e : LinkEvent) × (slice_get xs k ≡ Some e)
picked [] k below = absurd (omega arith)
picked (x ∷ xs) zero below = (x, refl)
picked (x ∷ xs) (suc k) below = picked xs k (omega arith)

listed_at : (xs : List LinkEvent) (k : ℕ) (e : LinkEvent) → slice_get xs k ≡ Some e → Contains xs e
listed_at xs k e at = (k, slice_get_within xs k e at, get_or_from_slice_get xs k e e at)

one_event : (a b : LinkEvent) → ◌≡◌ {A = Option LinkEvent} (Some a) (Some b) → a ≡ b
one_event a b e = cc

pub links_are_one : (work : Work) → LinkRunsAreOne work
links_are_one work l g [] [] a b = refl
links_are_one work l g [] (f ∷ fs) a b = absurd (false≢true (sym b.0 ∙ a))
links_are_one work l g (e ∷ es) [] a b = absurd (false≢true (sym a.0 ∙ b))
links_are_one work l g (e ∷ es) (f ∷ fs) a b =
    let same : e ≡ f = one_event e f (sym a.1 ∙ b.1) in
    let rest = links_are_one work (link_step work l f) (behind_word g) es fs
    (subst (λ q. IsLinkRun work (link_step work l q) (behind_word g) es) same a.2) b.2 in
    ap (λ q. q ∷ es) same ∙ ap (λ t. f ∷ t) rest

module _ (work : Work) (sound : State → Type 0) (lawful : IsLawful work sound) where
  pub some_link_moves : SomeLinkMoves work sound
  some_link_moves l r on = links_move work sound lawful l r on

  pub delivered : MessagesAreDeliveredOnce work sound
  delivered l es r still can =
      let runs = plain_runs work l es can in
      subst (λ (last : World). IsDeliveredOnce work l.world last (plain_part work l es)) runs.0
      (delivered_once work sound lawful r.split r.parts r.one_run l.world
      (reached_ties work sound lawful l.world r) (plain_part work l es) still runs.1)

module _ (work : Work) (sound : State → Type 0) (lawful : IsLawful work sound) (l : Linked)
    (r : IsLinkReached work sound l) where
  chosen : (e : LinkEvent) → Contains (link_choices l) e → link_possible l e ≡ true
  chosen = link_chosen l (in_order work sound lawful l r).holds.traffic
      (choices_there work sound lawful l.world (world_reached work sound l r))

  can_choose : (e : LinkEvent) → link_possible l e ≡ true → Contains (link_choices l) e
  can_choose = link_listed l (in_order work sound lawful l r).holds.traffic
      (choices_there work sound lawful l.world (world_reached work sound l r))

  over_by_count : length (link_choices l) ≡ 0 → finished l.world ≡ true
  over_by_count none =
      ⊎_elim
      (λ (over : finished l.world ≡ true). over)
      (λ (on : finished l.world ≡ false).
      let moves = links_move work sound lawful l r on in
      let there = can_choose moves.0 moves.1 in
      let within = there.1 in
      absurd (omega arith))
      (cases_Bool (finished l.world))

  none_over : finished l.world ≡ true → length (link_choices l) ≡ 0
  none_over over =
      none_there (link_choices l)
      (λ e there. false≢true
      (sym (ap not over) ∙ (and_parts (not (finished l.world)) (can_happen l e) (chosen e there)).0))

  pub counted : (length (link_choices l) ≡ 0) ↔ (finished l.world ≡ true)
  counted = (over_by_count, none_over)

  pub free : (e : LinkEvent) → (link_possible l e ≡ true) ↔ (link_fault_of l e ≡ None)
  free = possible_free l (goes_on work sound lawful l.world (world_reached work sound l r))

  pub are_link_choices : AreLinkChoices l
  are_link_choices =
      let is = (in_order work sound lawful l r).holds.traffic in
      record {
        are_possible = chosen;
        listed = can_choose;
        none = counted;
        copies_rise = piles_rise l.traffic.copies is.copies.ascend;
        agains_rise = kept_rise (can_repeat l.traffic) (names_of l.traffic.kept)
            (piles_rise l.traffic.kept is.kept.ascend);
        acks_rise = piles_rise l.traffic.acks is.acks.ascend;
      }

  pub nth_free : (k : ℕ) (o : Option LinkEvent) → o ≡ slice_get (link_choices l) k →
      IfSome o (λ e. link_fault_of l e ≡ None)
  nth_free k None is = tt
  nth_free k (Some e) is = (free e).0 (chosen e (listed_at (link_choices l) k e (sym is)))

  some_drawn : (g : Lcg) → finished l.world ≡ false → (e : LinkEvent) × (link_drawn g l ≡ Some e)
  some_drawn g on =
      let some : length (link_choices l) ≡ 0 → ⊥ = λ none. false≢true (sym on ∙ over_by_count none) in
      picked (link_choices l) (word_of g % length (link_choices l)) (omega (arith, some))

  drawn_can : (g : Lcg) (e : LinkEvent) → link_drawn g l ≡ Some e → link_possible l e ≡ true
  drawn_can g e at = chosen e (listed_at (link_choices l) (word_of g % length (link_choices l)) e at)

-- where nothing is left behind a place
pub none_past : (xs : List LinkEvent) (k : ℕ) (o : Option LinkEvent) → o ≡ slice_get xs k →
    (o ≡ None) ↔ (length xs ≤ k)
none_past xs k o is = (
  (λ none. past xs k (sym is ∙ none)),
  (λ le. is ∙ slice_get_past xs k le),
)
  where
    past : (ys : List LinkEvent) (j : ℕ) → slice_get ys j ≡ None → length ys ≤ j
    past [] j e = omega arith
    past (y ∷ ys) zero e = absurd (cc)
    past (y ∷ ys) (suc j) e = let rest = past ys j e in omega arith

module _ (work : Work) (sound : State → Type 0) (lawful : IsLawful work sound) where
  pub link_choices_are_possible : LinkChoicesArePossible work sound
  link_choices_are_possible l r = are_link_choices work sound lawful l r

  pub some_link_is_drawn : SomeLinkIsDrawn work sound
  some_link_is_drawn l g r on = some_drawn work sound lawful l r g on

  pub drawn_links_are_possible : DrawnLinksArePossible work sound
  drawn_links_are_possible l g [] r run = refl
  drawn_links_are_possible l g (e ∷ es) r run =
      let can = drawn_can work sound lawful l r g e run.1 in
      and_from (link_possible l e) (links_possible work (link_step work l e) es) can
      (drawn_links_are_possible (link_step work l e) (behind_word g) es (link_steps_on work sound l e r can) run.2)

  pub link_runs_are_complete : LinkRunsAreComplete work sound
  link_runs_are_complete l g [] r run = run
  link_runs_are_complete l g (e ∷ es) r run =
      let can = drawn_can work sound lawful l r g e run.1 in
      let rest = link_runs_are_complete (link_step work l e) (behind_word g) es (link_steps_on work sound l e r can)
      run.2 in
      let both = and_parts (links_possible work (link_step work l e) es)
      (finished (link_after work (link_step work l e) es).world) rest in
      and_from (links_possible work l (e ∷ es)) (finished (link_after work (link_step work l e) es).world)
      (and_from (link_possible l e) (links_possible work (link_step work l e) es) can both.0) both.1
