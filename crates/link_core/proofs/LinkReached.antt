-- Each state that possible events leave is over the world of its plain part, and in order.
use Rattle.std.proofs.Common.{◌≡◌, ℕ, Bool, true, false, ◌&&◌, not, List, [], ◌∷◌, ◌++◌, refl, ap, sym, ◌∙◌, subst, arith, ⊎_elim}
use Rattle.std.specs.Prelude.{if◌then◌else◌, nat_le, nat_lt}
use Rattle.std.proofs.lemmas.Bool.{and_from, and_parts, cases_Bool, false≢true}
use Rattle.std.proofs.lemmas.Bool.Decides.{nat_tests}
use Rattle.vert_base.specs.declared.message.Name.{Name}
use Rattle.vert_base.specs.declared.message.Event.{Event}
use Rattle.vert_base.specs.declared.message.Event.TheVariants as plain
use Rattle.vert_base.specs.HeaderBytes.{is_proper}
use Rattle.vert_base.specs.NameTexts.{IsName}
use Rattle.symple_face.specs.Cluster.{World, after, all_possible, finished, possible, step}
use Rattle.symple_face.specs.Lawful.{IsLawful}
use Rattle.symple_face.specs.State.{State}
use Rattle.symple_face.specs.Work.{Work}
use Rattle.cluster_run.specs.Driven.{IsReached}
use Rattle.cluster_run.proofs.LetterLists.{has_letter}
use Rattle.cluster_run.proofs.ReachedWorlds.{reached_ties}
use Rattle.cluster_run.proofs.ReachedWorldLaws.{reached_moves, steps_on}
use Rattle.link_core.specs.declared.event.LinkEvent.{LinkEvent}
use Rattle.link_core.specs.declared.event.LinkEvent.TheVariants.{Go, Take, Lose, Again, Ack, Drop}
use Rattle.link_core.specs.LinkChoosers.{NameFits, NumbersFit}
use Rattle.link_core.specs.LinkRuns.{IsLinkReached}
use Rattle.link_core.specs.LinkTexts.{IsLinkEvent}
use Rattle.link_core.specs.Links.{Linked, accepts, can_happen, link_after, link_possible, link_step, linked_anew, links_possible, plain_of, plain_part}
use Rattle.link_core.specs.Piles.{count_of}
use Rattle.link_core.specs.Traffic.{no_traffic}
use Rattle.link_core.proofs.LinkHolds.{HoldsAt, IsUnknown, after_holds}

-- ---- the plain part of a list of events
plain_take : (work : Work) (w : World) (x : Name) (b : Bool) (rest : List Event) → has_letter x w.under_way ≡ b →
    (after work w ((if b then plain.Take x ∷ [] else []) ++ rest)
    ≡ after work (if b then step work w (plain.Take x) else w) rest)
    × (all_possible work w ((if b then plain.Take x ∷ [] else []) ++ rest)
    ≡ all_possible work (if b then step work w (plain.Take x) else w) rest)
plain_take work w x true rest there = (
  refl,
  ap (λ b. b && all_possible work (step work w (plain.Take x)) rest) there,
)
plain_take work w x false rest there = (refl, refl)

plain_step : (work : Work) (l : Linked) (e : LinkEvent) (rest : List Event) → can_happen l e ≡ true →
    (after work l.world (plain_of l e ++ rest) ≡ after work (link_step work l e).world rest)
    × (all_possible work l.world (plain_of l e ++ rest) ≡ all_possible work (link_step work l e).world rest)
plain_step work l (Go m) rest can = (
  refl,
  ap (λ b. b && all_possible work (step work l.world (plain.Go m)) rest) can,
)
plain_step work l (Take x) rest can = plain_take work l.world x (accepts l x) rest refl
plain_step work l (Lose x) rest can = (refl, refl)
plain_step work l (Again x) rest can = (refl, refl)
plain_step work l (Ack x) rest can = (refl, refl)
plain_step work l (Drop x) rest can = (refl, refl)

pub plain_runs : (work : Work) (l : Linked) (es : List LinkEvent) → links_possible work l es ≡ true →
    (after work l.world (plain_part work l es) ≡ (link_after work l es).world)
    × (all_possible work l.world (plain_part work l es) ≡ true)
plain_runs work l [] can = (refl, refl)
plain_runs work l (e ∷ es) can =
    let both = and_parts (link_possible l e) (links_possible work (link_step work l e) es) can in
    let here = plain_step work l e (plain_part work (link_step work l e) es)
    (and_parts (not (finished l.world)) (can_happen l e) both.0).1 in
    let rest = plain_runs work (link_step work l e) es both.1 in
    (here.0 ∙ rest.0, here.1 ∙ rest.1)

-- ---- the world is one that plain events leave
pub after_reached : (work : Work) (sound : State → Type 0) (w : World) (es : List Event) → IsReached work sound w →
    all_possible work w es ≡ true → IsReached work sound (after work w es)
after_reached work sound w [] r can = r
after_reached work sound w (e ∷ es) r can =
    let both = and_parts (possible w e) (all_possible work (step work w e) es) can in
    after_reached work sound (step work w e) es (steps_on work sound w e r both.0) both.1

pub world_reached : (work : Work) (sound : State → Type 0) (l : Linked) → IsLinkReached work sound l →
    IsReached work sound l.world
world_reached work sound l r =
    let runs = plain_runs work (linked_anew r.first) r.events r.were_possible in
    subst (λ (q : Linked). IsReached work sound q.world) (sym r.here)
    (subst (IsReached work sound) runs.0
    (after_reached work sound r.first (plain_part work (linked_anew r.first) r.events) r.reached runs.1))

-- ---- one event more
after_more : (work : Work) (l : Linked) (es : List LinkEvent) (e : LinkEvent) →
    link_after work l (es ++ e ∷ []) ≡ link_step work (link_after work l es) e
after_more work l [] e = refl
after_more work l (d ∷ es) e = after_more work (link_step work l d) es e

more_possible : (work : Work) (l : Linked) (es : List LinkEvent) (e : LinkEvent) → links_possible work l es ≡ true →
    link_possible (link_after work l es) e ≡ true → links_possible work l (es ++ e ∷ []) ≡ true
more_possible work l [] e all can = and_from (link_possible l e) true can refl
more_possible work l (d ∷ es) e all can =
    let both = and_parts (link_possible l d) (links_possible work (link_step work l d) es) all in
    and_from (link_possible l d) (links_possible work (link_step work l d) (es ++ e ∷ [])) both.0
    (more_possible work (link_step work l d) es e both.1 can)

pub link_steps_on : (work : Work) (sound : State → Type 0) (l : Linked) (e : LinkEvent) → IsLinkReached work sound l →
    link_possible l e ≡ true → IsLinkReached work sound (link_step work l e)
link_steps_on work sound l e r can = record {
  first = r.first;
  reached = r.reached;
  still = r.still;
  events = r.events ++ e ∷ [];
  were_possible =
      more_possible work (linked_anew r.first) r.events e r.were_possible
      (subst (λ q. link_possible q e ≡ true) r.here can);
  here =
      ap (λ q. link_step work q e) r.here
      ∙ sym (after_more work (linked_anew r.first) r.events e);
}

-- ---- the state is in order
module _ (work : Work) (sound : State → Type 0) (lawful : IsLawful work sound) (l : Linked)
    (r : IsLinkReached work sound l) where
  first_at : HoldsAt work sound lawful r.reached.split r.reached.parts r.reached.one_run r.first no_traffic
  first_at =
      let tied = reached_ties work sound lawful r.first r.reached in
      record {
        tied = tied;
        holds = record {
          traffic = record {
            copies = record { ascend = tt; each = tt };
            acks = record { ascend = tt; each = tt };
            kept = record { ascend = tt; each = tt };
          };
          proper = λ x odd. record { copies = refl; acks = refl; kept = refl };
          fresh = λ x new. record { copies = refl; acks = refl; kept = refl };
          waits = λ x flies.
              absurd (false≢true (sym (ap (has_letter x) r.still) ∙ tied.alike.flies x ∙ flies));
        };
      }

  pub in_order : HoldsAt work sound lawful r.reached.split r.reached.parts r.reached.one_run l.world l.traffic
  in_order =
      subst
      (λ (q : Linked).
      HoldsAt work sound lawful r.reached.split r.reached.parts r.reached.one_run q.world q.traffic)
      (sym r.here)
      (after_holds work sound lawful r.reached.split r.reached.parts r.reached.one_run (linked_anew r.first) r.events
      first_at r.were_possible)

  some_copy : (n : ℕ) → nat_lt n 255 ≡ false → nat_le 1 n ≡ true
  some_copy n e = grind (arith, nat_tests)

  waiting_moves : (x : Name) → has_letter x l.world.under_way ≡ true → (e : LinkEvent) × (can_happen l e ≡ true)
  waiting_moves x there =
      let waits = in_order.holds.waits x (sym (in_order.tied.alike.flies x) ∙ there) in
      ⊎_elim
      (λ (room : nat_lt (count_of x l.traffic.copies) 255 ≡ true). (
        Again x,
        and_from (nat_le 1 (count_of x l.traffic.kept)) (nat_lt (count_of x l.traffic.copies) 255)
            (ap (nat_le 1) waits.kept) room,
      ))
      (λ (full : nat_lt (count_of x l.traffic.copies) 255 ≡ false).
      (Take x, some_copy (count_of x l.traffic.copies) full))
      (cases_Bool (nat_lt (count_of x l.traffic.copies) 255))

  some_moves : (e : Event) → possible l.world e ≡ true → (d : LinkEvent) × (can_happen l d ≡ true)
  some_moves (plain.Go m) can = (Go m, can)
  some_moves (plain.Take x) can = waiting_moves x can

  -- in an unfinished state some event is possible
  pub links_move : finished l.world ≡ false → (e : LinkEvent) × (link_possible l e ≡ true)
  links_move on =
      let moves = reached_moves work sound lawful l.world (world_reached work sound l r) on in
      let it = some_moves moves.0 moves.1 in
      (it.0, and_from (not (finished l.world)) (can_happen l it.0) (ap not on) it.1)

  -- ---- what is on the wire or kept has a proper name
  proper_if : (x : Name) → (IsUnknown l.traffic x → ⊥) → is_proper x ≡ true
  proper_if x there =
      ⊎_elim
      (λ (is : is_proper x ≡ true). is)
      (λ (odd : is_proper x ≡ false). absurd (there (in_order.holds.proper x odd)))
      (cases_Bool (is_proper x))

  no_count : (n : ℕ) → nat_le 1 n ≡ true → n ≡ 0 → ⊥
  no_count n e zero = false≢true (sym (ap (nat_le 1) zero) ∙ e)

  name_told : (x : Name) → NameFits x → (IsUnknown l.traffic x → ⊥) → IsName x
  name_told x fits there = record {
    proper = proper_if x there;
    round = fits.round;
    step = fits.step;
    half = fits.half;
    from = fits.from;
    to = fits.to;
  }

  can_told : (e : LinkEvent) → NumbersFit e → can_happen l e ≡ true → IsLinkEvent e
  can_told (Go m) fits can = fits
  can_told (Take x) fits can = name_told x fits (λ none. no_count (count_of x l.traffic.copies) can none.copies)
  can_told (Lose x) fits can = name_told x fits (λ none. no_count (count_of x l.traffic.copies) can none.copies)
  can_told (Again x) fits can =
      let kept = (and_parts (nat_le 1 (count_of x l.traffic.kept)) (nat_lt (count_of x l.traffic.copies) 255) can).0 in
      name_told x fits (λ none. no_count (count_of x l.traffic.kept) kept none.kept)
  can_told (Ack x) fits can = name_told x fits (λ none. no_count (count_of x l.traffic.acks) can none.acks)
  can_told (Drop x) fits can = name_told x fits (λ none. no_count (count_of x l.traffic.acks) can none.acks)

  -- so a text can tell each event that is possible
  pub possible_told : (e : LinkEvent) → NumbersFit e → link_possible l e ≡ true → IsLinkEvent e
  possible_told e fits can = can_told e fits (and_parts (not (finished l.world)) (can_happen l e) can).1
