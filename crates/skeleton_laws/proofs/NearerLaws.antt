-- Each possible event lessens what is left of a run.
use Rattle.std.proofs.Common.{◌≡◌, ℕ, ◌+◌, ◌-◌, ◌*◌, ◌<◌, ◌≤◌, true, false, length, Some, refl, ap, sym, subst, arith, ⊎_elim}
use Rattle.std.proofs.lemmas.List.{length-append}
use Rattle.std.proofs.lemmas.Bool.{cases_Bool}
use Rattle.vert_base.specs.declared.message.Name.{Name}
use Rattle.vert_base.specs.declared.message.Event.{Event}
use Rattle.vert_base.specs.declared.message.Event.TheVariants.{Go, Take}
use Rattle.vert_base.specs.declared.value.Ruling.{Ruling}
use Rattle.circulant_plan.specs.Table.{gives_of}
use Rattle.circulant_plan.specs.Standing.{Standing, standing_at, round_of, place_of}
use Rattle.circulant_plan.specs.Deliveries.{place_at}
use Rattle.circulant_plan.specs.Skeleton.{Blocks, has_name, ruling_in, is_over, acting_ruling, go_at, is_possible, step_of}
use Rattle.circulant_plan.specs.Remaining.{way_left, events_left}
use Rattle.circulant_plan.proofs.GiftLists.{gives_few}
use Rattle.circulant_plan.proofs.NameLists.{but_one, has_from_name}
use Rattle.circulant_plan.proofs.ActionLaws.{next_of}
use Rattle.skeleton_laws.proofs.Settled.{SettledState, Rules}
use Rattle.skeleton_laws.proofs.ReachedSettles.{turn_by, taking_by, Acting, acting_of, go_is}
use Rattle.skeleton_laws.proofs.Standings.{standing_of, set_here, set_sum}
use Rattle.skeleton_laws.proofs.GoSettles.{later_next, rules_gone}
use Rattle.skeleton_laws.proofs.TakeSettles.{took, new, to_here, not_over_s, place_new, step_is}

way_over : (blocks : Blocks) (s : Standing) → is_over s.spot ≡ true → way_left blocks s ≡ 0
way_over blocks s over = rw over refl

way_going : (blocks : Blocks) (s : Standing) → is_over s.spot ≡ false →
    way_left blocks s ≡ 256 * (blocks.limit + 1) + 1 - place_of s
way_going blocks s going = rw going refl

way_less : (blocks : Blocks) (s n : Standing) → is_over s.spot ≡ false → place_of s < place_of n →
    place_of n ≤ 256 * (blocks.limit + 1) → way_left blocks n < way_left blocks s
way_less blocks s n going later low =
    let was = way_going blocks s going in
    ⊎_elim
    (λ (over : is_over n.spot ≡ true). let now = way_over blocks n over in omega arith)
    (λ (on : is_over n.spot ≡ false). let now = way_going blocks n on in omega arith)
    (cases_Bool (is_over n.spot))

way_no_more : (blocks : Blocks) (s n : Standing) → is_over s.spot ≡ false → place_of n ≡ place_of s →
    way_left blocks n ≤ way_left blocks s
way_no_more blocks s n going same =
    let was = way_going blocks s going in
    ⊎_elim
    (λ (over : is_over n.spot ≡ true). let now = way_over blocks n over in omega arith)
    (λ (on : is_over n.spot ≡ false). let now = way_going blocks n on in omega arith)
    (cases_Bool (is_over n.spot))

module _ (state : SettledState) where
  open state use {ring, few, some, blocks, k, settled}

  go_nearer : (ruling : Ruling) (m : ℕ) → Acting ring blocks ruling k m →
      events_left blocks (step_of ring ruling (Go m) k) < events_left blocks k
  go_nearer ruling m a =
      let s = standing_of k.standings m in
      let spot = s.spot in
      let acting = acting_ruling ruling (ruling_in k.rulings (round_of 0 spot)) spot in
      let next = next_of ring m acting spot in
      let all = settled.rules.all_there in
      let within = a.within in
      let here : m < length k.standings = omega arith in
      let later : place_at spot < place_of next = later_next (turn_by state ruling m a) in
      let rules : Rules ring blocks (go_at ring ruling m (Some (standing_at 0 spot)) k) =
      rules_gone (turn_by state ruling m a) in
      let low : place_of next ≤ 256 * (blocks.limit + 1) =
      subst (λ q. place_of q ≤ 256 * (blocks.limit + 1)) (set_here k.standings m next here)
      (rules.low m within) in
      let place : place_of s ≡ place_at spot = ap place_of a.at in
      let less : way_left blocks next < way_left blocks s = way_less blocks s next a.going (omega arith) low in
      let sum = set_sum blocks k.standings m next here in
      let few = gives_few ring few m within acting spot in
      let len = length-append k.under_way (gives_of ring m spot acting) in
      let nearer : events_left blocks (go_at ring ruling m (Some (standing_at 0 spot)) k) < events_left blocks
      k =
      omega arith in
      subst (λ q. events_left blocks q < events_left blocks k) (sym (go_is state ruling m a)) nearer

  take_nearer : (ruling : Ruling) (x : Name) → has_name x k.under_way ≡ true →
      events_left blocks (step_of ring ruling (Take x) k) < events_left blocks k
  take_nearer ruling x flew =
      let n = new (taking_by state x flew) in
      let same = place_new (taking_by state x flew) in
      let here = to_here (taking_by state x flew) in
      let going = not_over_s (taking_by state x flew) in
      let sum = set_sum blocks k.standings x.to n here in
      let more = way_no_more blocks (standing_of k.standings x.to) n going same in
      let less = but_one x k.under_way settled.rules.once (has_from_name x k.under_way flew) in
      let nearer : events_left blocks (took (taking_by state x flew)) < events_left blocks k = omega arith in
      subst (λ q. events_left blocks q < events_left blocks k) (sym (step_is (taking_by state x flew) ruling)) nearer

  pub nearer : (ruling : Ruling) (e : Event) → is_possible ring blocks ruling e k ≡ true →
      events_left blocks (step_of ring ruling e k) < events_left blocks k
  nearer ruling (Go m) can = go_nearer ruling m (acting_of state ruling m can)
  nearer ruling (Take x) can = take_nearer ruling x can
