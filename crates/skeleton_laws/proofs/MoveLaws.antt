-- Progress, the end of a run, and what is left of it.
use Rattle.std.proofs.Common.{◌≡◌, ◌⊎◌, ℕ, ◌+◌, ◌<◌, true, false, ◌&&◌, not, List, [], ◌∷◌, length, refl, ap, sym, ◌∙◌, subst, inl, inr, arith, ⊎_elim}
use Rattle.std.specs.List.{list_all}
use Rattle.std.proofs.lemmas.Bool.{false≢true, and_from, not_from_false, cases_Bool}
use Rattle.vert_base.specs.declared.message.Name.{Name}
use Rattle.vert_base.specs.declared.message.Event.{Event}
use Rattle.vert_base.specs.declared.message.Event.TheVariants.{Go, Take}
use Rattle.vert_base.specs.declared.value.Ruling.{Ruling}
use Rattle.circulant_plan.specs.declared.spot.Spot.{Spot}
use Rattle.circulant_plan.specs.declared.spot.Spot.TheVariants.{Tell, Judge, Begin, Scan, Close, Over}
use Rattle.circulant_plan.specs.Table.{needs_of}
use Rattle.circulant_plan.specs.Standing.{standing_at, round_of, place_of, offset_of}
use Rattle.circulant_plan.specs.Deliveries.{HasSpot, place_at}
use Rattle.circulant_plan.specs.Skeleton.{Blocks, has_name, may_rule, is_over, rules_rightly, is_ready, can_go, is_possible, is_finished}
use Rattle.circulant_plan.specs.Runs.{round_at, judged_round}
use Rattle.circulant_plan.proofs.Members.{Has}
use Rattle.circulant_plan.proofs.NameLists.{name_from_has}
use Rattle.circulant_plan.proofs.NameLaws.{IsName, offset_small, IsNeed, need_is_name}
use Rattle.skeleton_laws.proofs.Settled.{SettledState, course_in, names_are_planned, view_of, FitsBy, mode_in, modes_in, agrees_in, is_standing_at}
use Rattle.skeleton_laws.proofs.Kept.{Lacks, Possible, goes, takes, progress}
use Rattle.skeleton_laws.proofs.Standings.{standing_of, got, all_over_at, one_going}
use Rattle.skeleton_laws.proofs.ReachedSettles.{acting_of}

-- a list of names that aren't all taken has one that isn't
one_lacking : (taken xs : List Name) → list_all (λ x. has_name x taken) xs ≡ false →
    (x : Name) × Has xs x × (has_name x taken ≡ false)
one_lacking taken [] none = absurd (false≢true (sym none))
one_lacking taken (x ∷ xs) none =
    ⊎_elim
    (λ (e : has_name x taken ≡ true).
    let more =
    one_lacking taken xs (subst (λ b. (b && list_all (λ y. has_name y taken) xs) ≡ false) e none) in
    (more.0, inr more.1, more.2))
    (λ (e : has_name x taken ≡ false). (x, inl refl, e))
    (cases_Bool (has_name x taken))

rightly_if : (blocks : Blocks) (ruling : Ruling) (spot : Spot) →
    ((r : ℕ) → spot ≡ Judge r → may_rule blocks (r + 1) ruling ≡ true) → rules_rightly blocks ruling spot ≡ true
rightly_if blocks ruling Tell may = refl
rightly_if blocks ruling (Judge r) may = may r refl
rightly_if blocks ruling (Begin r) may = refl
rightly_if blocks ruling (Scan r s h) may = refl
rightly_if blocks ruling (Close r dense) may = refl
rightly_if blocks ruling Over may = refl

module _ (state : SettledState) where
  open state use {ring, few, some, blocks, k, settled}

  fit : FitsBy (course_in state) k
  fit = settled.by (mode_in k) (modes_in k) (agrees_in k)

  abbrev Named : Name → Type 0
  Named = IsName (course_in state)

  all_in : (m : ℕ) → m < ring.machines → m < length k.standings
  all_in m lt = let e = settled.rules.all_there in omega arith

  abbrev pub Ready : ℕ → Type 0
  Ready m = is_ready ring m (standing_of k.standings m) k.taken ≡ true

  waits : (m : ℕ) → m < ring.machines → is_over (standing_of k.standings m).spot ≡ false →
      Ready m ⊎ Lacks ring.machines Named (view_of k) m
  waits m lt going =
      let s = standing_of k.standings m in
      ⊎_elim
      (λ (ready : is_ready ring m s k.taken ≡ true). inl ready)
      (λ (waiting : is_ready ring m s k.taken ≡ false).
      let one = one_lacking k.taken (needs_of ring m s.spot) waiting in
      let at : s ≡ standing_at 0 s.spot = is_standing_at s (settled.rules.rounds m lt) going in
      let place : place_of s ≡ place_at s.spot = ap place_of at in
      let round : s.round ≡ round_of 0 s.spot = ap (λ q. q.round) at in
      let has : HasSpot ring m (mode_in k (round_of 0 s.spot)) s.spot =
      subst (λ r. HasSpot ring m (mode_in k r) s.spot) round (fit.has m lt) in
      let n : IsNeed (course_in state) m s.spot one.0 = need_is_name (course_in state) m s.spot one.0 lt has one.1 in
      let off : offset_of s.spot < 256 = offset_small (course_in state) m (mode_in k s.round) s.spot (fit.has m lt) in
      let sooner = n.sooner in
      let same = n.round in
      inr
      (record {
        name = one.0;
        named = n.named;
        here = n.to;
        sooner = omega arith;
        within = omega arith;
        not_taken = one.2;
      }))
      (cases_Bool (is_ready ring m s k.taken))

  pub moving : (m : ℕ) → m < ring.machines → is_over (standing_of k.standings m).spot ≡ false →
      Possible ring.machines Ready (view_of k)
  moving m lt going =
      progress ring.machines Named Ready (names_are_planned (course_in state))
      (view_of k) fit.fits waits m lt going

  judged_is : judged_round k ≡ (standing_of k.standings 0).round + 1
  judged_is = ap (λ o. round_at o + 1) (got k.standings 0 (all_in 0 (omega arith)))

  pub may_go : (m : ℕ) → m < ring.machines → is_over (standing_of k.standings m).spot ≡ false → Ready m →
      (ruling : Ruling) → may_rule blocks (judged_round k) ruling ≡ true →
      is_possible ring blocks ruling (Go m) k ≡ true
  may_go m lt going ready ruling may =
      let s = standing_of k.standings m in
      let at : s ≡ standing_at 0 s.spot = is_standing_at s (settled.rules.rounds m lt) going in
      let rightly : rules_rightly blocks ruling s.spot ≡ true = rightly_if blocks ruling s.spot (λ r e.
      let has : HasSpot ring m (mode_in k s.round) (Judge r) =
      subst (λ q. HasSpot ring m (mode_in k s.round) q) e (fit.has m lt) in
      let round : s.round ≡ r = ap (λ q. q.round) at ∙ ap (round_of 0) e in
      let zero : (standing_of k.standings 0).round ≡ r = subst (λ j. (standing_of k.standings j).round ≡ r) has round in
      let judged = judged_is in
      let here : judged_round k ≡ r + 1 = omega arith in
      subst (λ q. may_rule blocks q ruling ≡ true) here may) in
      subst (λ o. can_go ring blocks ruling m o k.taken ≡ true) (sym (got k.standings m (all_in m lt)))
      (and_from (not (is_over s.spot))
      (is_ready ring m s k.taken && rules_rightly blocks ruling s.spot)
      (not_from_false (is_over s.spot) going)
      (and_from (is_ready ring m s k.taken) (rules_rightly blocks ruling s.spot) ready rightly))

  event_of : Possible ring.machines Ready (view_of k) →
      (e : Event) ×
      ((ruling : Ruling) → may_rule blocks (judged_round k) ruling ≡ true →
      is_possible ring blocks ruling e k ≡ true)
  event_of (goes m lt going ready) = (Go m, may_go m lt going ready)
  event_of (takes x flew) = (Take x, λ ruling may. flew)

  pub some_moves : is_finished k ≡ false →
      (e : Event) ×
      ((ruling : Ruling) → may_rule blocks (judged_round k) ruling ≡ true →
      is_possible ring blocks ruling e k ≡ true)
  some_moves unfinished =
      let one = one_going k.standings unfinished in
      let all = settled.rules.all_there in
      let lt = one.1 in
      let within : one.0 < ring.machines = omega arith in
      event_of (moving one.0 within one.2)

  none_flies : is_finished k ≡ true → (x : Name) → has_name x k.under_way ≡ true → ⊥
  none_flies finished x flew =
      let flight = fit.fits.flies x flew in
      false≢true
      (sym flight.not_over
      ∙ all_over_at k.standings x.to finished
      (all_in x.to ((names_are_planned (course_in state)).to_within x flight.named)))

  empty_of : (xs : List Name) → ((x : Name) → has_name x xs ≡ true → ⊥) → xs ≡ []
  empty_of [] none = refl
  empty_of (x ∷ xs) none = absurd (none x (name_from_has x (x ∷ xs) (inl refl)))

  pub nothing_flies : is_finished k ≡ true → k.under_way ≡ []
  nothing_flies finished = empty_of k.under_way (none_flies finished)

  none_possible : is_finished k ≡ true → (ruling : Ruling) (e : Event) → is_possible ring blocks ruling e k ≡ true → ⊥
  none_possible finished ruling (Go m) can =
      let a = acting_of state ruling m can in
      false≢true (sym a.going ∙ all_over_at k.standings m finished (all_in m a.within))
  none_possible finished ruling (Take x) can = none_flies finished x can

  pub still : is_finished k ≡ true → (ruling : Ruling) (e : Event) → is_possible ring blocks ruling e k ≡ false
  still finished ruling e =
      ⊎_elim
      (λ (can : is_possible ring blocks ruling e k ≡ true). absurd (none_possible finished ruling e can))
      (λ (not : is_possible ring blocks ruling e k ≡ false). not)
      (cases_Bool (is_possible ring blocks ruling e k))
