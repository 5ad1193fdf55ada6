-- A complete run has as many goes and takes as the table says.
use Rattle.std.proofs.Common.{◌≡◌, ◌≢◌, ℕ, ◌+◌, ◌-◌, ◌*◌, ◌<◌, ◌≤◌, Bool, true, false, List, [], ◌∷◌, length, refl, ap, sym, ◌∙◌, subst, arith}
use Rattle.std.specs.Prelude.{if◌then◌else◌}
use Rattle.std.specs.List.{flat_map, range_with_len}
use Rattle.std.proofs.lemmas.Bool.{false≢true, and_parts}
use Rattle.std.proofs.lemmas.List.{length-append}
use Rattle.vert_base.specs.declared.message.Name.{Name}
use Rattle.vert_base.specs.declared.message.Event.{Event}
use Rattle.vert_base.specs.declared.message.Event.TheVariants.{Go, Take}
use Rattle.vert_base.specs.declared.value.Ruling.{Ruling}
use Rattle.vert_base.specs.declared.value.Ruling.TheVariants.{Stop, Dense, Sparse}
use Rattle.circulant_plan.specs.Skeleton.{has_name, Skeleton, Blocks, ruling_in, is_over, is_possible, step_of, is_finished, first_skeleton, skeleton_after, all_possible, acting_ruling}
use Rattle.circulant_plan.specs.declared.spot.Ring.{Ring}
use Rattle.circulant_plan.specs.declared.spot.Spot.{Spot}
use Rattle.circulant_plan.specs.declared.spot.Spot.TheVariants.{Tell, Judge, Begin, Scan, Close, Over}
use Rattle.circulant_plan.specs.Table.{gives_of}
use Rattle.circulant_plan.specs.Counts.{first_spots, round_spots, gifts_at, over_machines, goes_in, takes_in, HasCounts}
use Rattle.circulant_plan.specs.Standing.{first_standing, round_of}
use Rattle.circulant_plan.proofs.CountLaws.{rounds_are_counted}
use Rattle.skeleton_laws.specs.Counted.{one_go, one_take, goes_made, takes_made, over_rounds, AreRounds, events_in, IsCounted, CompleteRunsAreCounted}
use Rattle.skeleton_laws.proofs.Settled.{SettledState, zero_round, Settled, mode_in, modes_in, agrees_in, over_place}
use Rattle.skeleton_laws.proofs.ReachedSettles.{turn_by, taking_by, Acting, acting_of, go_is, events_settle}
use Rattle.skeleton_laws.proofs.GoSettles.{gone, go_settles}
use Rattle.skeleton_laws.proofs.Standings.{standing_of, all_over_at}
use Rattle.skeleton_laws.proofs.GoFacts.{ruling_here}
use Rattle.skeleton_laws.proofs.TakeSettles.{took, step_is, took_settles}
use Rattle.skeleton_laws.proofs.FirstSettles.{first_settles, all_stand, all_count}
use Rattle.skeleton_laws.proofs.MoveLaws.{nothing_flies}
use Rattle.skeleton_laws.proofs.Weights.{Made, Knows, Weighs, sum_of, first_weight, round_weight, before, before_end, done, done_at}
use Rattle.skeleton_laws.proofs.Totals.{total_range, over_all, sum_alike, sum_none}
use Rattle.skeleton_laws.proofs.CountKept.{Counting, tally, counting_gone, gone_tally}
use Rattle.skeleton_laws.proofs.CountTaken.{counting_took, took_tally, took_one}

-- each spot is one go, and as many messages as it sends
abbrev goes_weight : ℕ → Ruling → Spot → ℕ
goes_weight m a spot = 1

goes_weigh : (m : ℕ) → Weighs (goes_weight m)
goes_weigh m =
    record { tell = λ a b. refl; judge = λ a b r. refl; scan = λ a b r s h. refl; close = λ a b r dense. refl }

abbrev gifts_weight : Ring → ℕ → Ruling → Spot → ℕ
gifts_weight ring m a spot = length (gives_of ring m spot a)

gifts_weigh : (ring : Ring) (m : ℕ) → Weighs (gifts_weight ring m)
gifts_weigh ring m =
    record { tell = λ a b. refl; judge = λ a b r. refl; scan = λ a b r s h. refl; close = λ a b r dense. refl }

-- the last state of a run and what was done on the way
pub record Ran (ring : Ring) (es : List (Event × Ruling)) (k final : Skeleton) : Type 0 where
  pub counting : Counting ring final
  pub goes : goes_made es + tally ring goes_weight k ≡ tally ring goes_weight final
  pub takes : takes_made es + length final.under_way + tally ring (gifts_weight ring) k ≡ tally ring
      (gifts_weight ring) final + length k.under_way

module _ (state : SettledState) (counting : Counting state.ring state.k) where
  open state use {ring, few, some, blocks, k, settled}

  -- one event before the rest
  go_first : (ruling : Ruling) (m : ℕ) (a : Acting ring blocks ruling k m) (es : List (Event × Ruling))
      (final : Skeleton) →
      (Counting ring (gone (turn_by state ruling m a)) → Ran ring es (gone (turn_by state ruling m a)) final) →
      Ran ring ((Go m, ruling) ∷ es) k final
  go_first ruling m a es final rest =
      let turn = turn_by state ruling m a in
      let spot = (standing_of k.standings m).spot in
      let acting = acting_ruling ruling (ruling_in k.rulings (round_of 0 spot)) spot in
      let more = rest (counting_gone turn counting) in
      let goes = gone_tally turn counting goes_weight (goes_weigh m) in
      let gifts = gone_tally turn counting (gifts_weight ring) (gifts_weigh ring m) in
      let len : length (gone turn).under_way ≡ length k.under_way + length (gives_of ring m spot acting)
      = length-append k.under_way (gives_of ring m spot acting) in
      let g = more.goes in
      let t = more.takes in
      record { counting = more.counting; goes = omega arith; takes = omega arith }

  take_first : (ruling : Ruling) (x : Name) (flew : has_name x k.under_way ≡ true)
      (es : List (Event × Ruling)) (final : Skeleton) →
      (Counting ring (took (taking_by state x flew)) → Ran ring es (took (taking_by state x flew)) final) →
      Ran ring ((Take x, ruling) ∷ es) k final
  take_first ruling x flew es final rest =
      let taking = taking_by state x flew in
      let more = rest (counting_took taking counting) in
      let goes = took_tally taking counting goes_weight in
      let gifts = took_tally taking counting (gifts_weight ring) in
      let one = took_one taking counting in
      let g = more.goes in
      let t = more.takes in
      record { counting = more.counting; goes = omega arith; takes = omega arith }

  -- what the rest of a run is counted by
  abbrev Rest : List (Event × Ruling) → Type 0
  Rest es =
      (q : Skeleton) → Settled ring few blocks q → Counting ring q → all_possible ring blocks es q ≡ true →
      Ran ring es q (skeleton_after ring es q)

  run_one : (e : Event) (ruling : Ruling) (es : List (Event × Ruling)) → is_possible ring blocks ruling e k ≡ true →
      all_possible ring blocks es (step_of ring ruling e k) ≡ true → Rest es →
      Ran ring ((e, ruling) ∷ es) k (skeleton_after ring es (step_of ring ruling e k))
  run_one (Go m) ruling es can all rest =
      let a = acting_of state ruling m can in
      let turn = turn_by state ruling m a in
      let is : step_of ring ruling (Go m) k ≡ gone turn = go_is state ruling m a in
      subst (λ q. Ran ring ((Go m, ruling) ∷ es) k (skeleton_after ring es q)) (sym is)
      (go_first ruling m a es (skeleton_after ring es (gone turn))
      (λ c. rest (gone turn) (go_settles turn) c (subst (λ q. all_possible ring blocks es q ≡ true) is all)))
  run_one (Take x) ruling es can all rest =
      let taking = taking_by state x can in
      let is : step_of ring ruling (Take x) k ≡ took taking = step_is taking ruling in
      subst (λ q. Ran ring ((Take x, ruling) ∷ es) k (skeleton_after ring es q)) (sym is)
      (take_first ruling x can es (skeleton_after ring es (took taking))
      (λ c. rest (took taking) (took_settles taking) c (subst (λ q. all_possible ring blocks es q ≡ true) is all)))

module _ (ring : Ring) (few : ring.machines ≤ 64) (some : 1 ≤ ring.machines) (blocks : Blocks) where
  runs_within : (es : List (Event × Ruling)) (k : Skeleton) → Settled ring few blocks k → Counting ring k →
      all_possible ring blocks es k ≡ true → Ran ring es k (skeleton_after ring es k)
  runs_within [] k settled counting can =
      record { counting = counting; goes = omega arith; takes = omega arith }
  runs_within (e ∷ es) k settled counting can =
      let parts =
      and_parts (is_possible ring blocks e.1 e.0 k)
      (all_possible ring blocks es (step_of ring e.1 e.0 k)) can in
      let state : SettledState =
      record { ring = ring; few = few; some = some; blocks = blocks; k = k; settled = settled } in
      run_one state counting e.0 e.1 es parts.0 parts.1 (runs_within es)

-- what a run from a state has done
runs : (state : SettledState) → Counting state.ring state.k → (es : List (Event × Ruling)) →
    all_possible state.ring state.blocks es state.k ≡ true →
    Ran state.ring es state.k (skeleton_after state.ring es state.k)
runs state counting es can =
    runs_within state.ring state.few state.some state.blocks es state.k state.settled counting can

-- sums over lists of spots
ones : (spots : List Spot) → sum_of (λ s. 1) spots ≡ length spots
ones [] = refl
ones (s ∷ spots) = let more = ones spots in omega arith

gifts_sum : (ring : Ring) (m : ℕ) (a : Ruling) (spots : List Spot) →
    sum_of (λ s. length (gives_of ring m s a)) spots ≡ length (gifts_at ring m a spots)
gifts_sum ring m a [] = refl
gifts_sum ring m a (s ∷ spots) =
    let more = gifts_sum ring m a spots in
    let len = length-append (gives_of ring m s a) (flat_map (λ q. gives_of ring m q a) spots) in
    omega arith

rounds_alike : (f g : ℕ → Ruling → ℕ) (rounds : List (ℕ × Ruling)) →
    ((r : ℕ) (a : Ruling) → f r a ≡ g r a) → over_rounds f rounds ≡ over_rounds g rounds
rounds_alike f g [] all = refl
rounds_alike f g (made ∷ more) all = let one = all made.0 made.1 in let rest = rounds_alike f g more all in omega arith

one_event : (e : Event) → one_go e + one_take e ≡ 1
one_event (Go m) = refl
one_event (Take x) = refl

all_events : (es : List (Event × Ruling)) → length es ≡ goes_made es + takes_made es
all_events [] = refl
all_events (e ∷ es) = let one = one_event e.0 in let more = all_events es in omega arith

over_is : (spot : Spot) → is_over spot ≡ true → spot ≡ Over
over_is Tell over = absurd (false≢true over)
over_is (Judge r) over = absurd (false≢true over)
over_is (Begin r) over = absurd (false≢true over)
over_is (Scan r s h) over = absurd (false≢true over)
over_is (Close r dense) over = absurd (false≢true over)
over_is Over over = refl

-- the events of a round by its mode
dense_events : (ring : Ring) (r : ℕ) → HasCounts ring.machines ring r → (b : Bool) → ring.carry ≡ b →
    goes_in ring r Dense + takes_in ring r Dense ≡ events_in ring Dense
dense_events ring r counts true e =
    let p = ring.machines in
    let goes = counts.dense_goes in
    let takes = counts.carry_takes e in
    ap (λ q. q + takes_in ring r Dense) goes
    ∙ ap (λ q. p * (2 * p + 2) + 1 + q) takes
    ∙ ap (λ (b : Bool). p * (2 * p + 2) + 1 + ((if b then 5 else 3) * p * (p - 1) + 2 * (p - 1))) (sym e)
dense_events ring r counts false e =
    let p = ring.machines in
    let goes = counts.dense_goes in
    let takes = counts.plain_takes e in
    ap (λ q. q + takes_in ring r Dense) goes
    ∙ ap (λ q. p * (2 * p + 2) + 1 + q) takes
    ∙ ap (λ (b : Bool). p * (2 * p + 2) + 1 + ((if b then 5 else 3) * p * (p - 1) + 2 * (p - 1))) (sym e)

round_events : (ring : Ring) (r : ℕ) (a : Ruling) → HasCounts ring.machines ring r → a ≢ Stop →
    goes_in ring r a + takes_in ring r a ≡ events_in ring a
round_events ring r Stop counts on = absurd (on refl)
round_events ring r Dense counts on = dense_events ring r counts ring.carry refl
round_events ring r Sparse counts on =
    let p = ring.machines in
    ap (λ q. q + takes_in ring r Sparse) counts.sparse_goes ∙ ap (λ q. 2 * p + 1 + q) counts.sparse_takes

four : (a b c d e f : ℕ) → a + b ≡ c → d + e ≡ f → (a + d) + (b + e) ≡ c + f
four a b c d e f x y = omega arith

rounds_events : (ring : Ring) → 1 ≤ ring.machines → (n : ℕ) (rounds : List (ℕ × Ruling)) →
    AreRounds rounds n →
    over_rounds (goes_in ring) rounds + over_rounds (takes_in ring) rounds ≡ over_rounds
    (λ r a. events_in ring a) rounds
rounds_events ring some n [] are = refl
rounds_events ring some n (made ∷ more) are =
    let one : goes_in ring made.0 made.1 + takes_in ring made.0 made.1 ≡ events_in ring made.1 =
    round_events ring made.0 made.1 (rounds_are_counted ring made.0 some) are.2 in
    let rest = rounds_events ring some (n - 1) more are.3 in
    four (goes_in ring made.0 made.1) (takes_in ring made.0 made.1) (events_in ring made.1)
    (over_rounds (goes_in ring) more) (over_rounds (takes_in ring) more)
    (over_rounds (λ r q. events_in ring q) more) one rest

module _ (ring : Ring) (some : 1 ≤ ring.machines) where
  abbrev fresh : Skeleton
  fresh = first_skeleton ring.machines

  fresh_zero : standing_of fresh.standings 0 ≡ first_standing
  fresh_zero = all_stand ring.machines 0 first_standing (omega arith)

  counting_first : Counting ring fresh
  counting_first = record {
    made = ap (λ s. s.round) fresh_zero;
    knows =
        λ j lt.
        subst (λ s. Knows ring fresh.rulings (zero_round fresh) s.spot)
        (sym (all_stand ring.machines j first_standing lt)) tt;
    ended = λ over. absurd (false≢true (sym (ap (λ s. is_over s.spot) fresh_zero) ∙ over));
  }

  first_tally : (w : ℕ → Ruling → Spot → ℕ) → tally ring w fresh ≡ 0
  first_tally w =
      let count = all_count ring.machines first_standing in
      total_range (λ i s. done ring (w i) i fresh.rulings s) (λ m. 0) 0 fresh.standings
      (λ i lt.
      ap (λ s. done ring (w i) i fresh.rulings s) (all_stand ring.machines i first_standing (omega arith)))
      ∙ sum_none (range_with_len 0 (length fresh.standings))

-- the tally of a finished state
module _ (state : SettledState) (counting : Counting state.ring state.k) (finished : is_finished state.k ≡ true) where
  open state use {ring, few, some, blocks, k, settled}

  over_at : (j : ℕ) → j < ring.machines → is_over (standing_of k.standings j).spot ≡ true
  over_at j lt = let all = settled.rules.all_there in all_over_at k.standings j finished (omega arith)

  zero_lt : 0 < ring.machines
  zero_lt = omega arith

  over_round : (j : ℕ) → j < ring.machines → (standing_of k.standings j).round ≡ zero_round k
  over_round j lt =
      let fits = (settled.by (mode_in k) (modes_in k) (agrees_in k)).fits in
      let a = fits.over_last j 0 lt zero_lt (over_at j lt) in
      let b = fits.over_last 0 j zero_lt lt (over_at 0 zero_lt) in
      let c = over_place (standing_of k.standings j) (over_at j lt) in
      let d = over_place (standing_of k.standings 0) (over_at 0 zero_lt) in
      omega arith

  -- the rulings: a stop, and the rounds before it
  pub record Ended : Type 0 where
    pub later : 1 ≤ zero_round k
    pub rounds : List (ℕ × Ruling)
    pub rulings : k.rulings ≡ (zero_round k, Stop) ∷ rounds
    pub each : AreRounds rounds (zero_round k - 1)

  ended_of : (rulings : List (ℕ × Ruling)) → k.rulings ≡ rulings → Made rulings (zero_round k) → Ended
  ended_of [] e made = absurd (let l = counting.ended (over_at 0 zero_lt) in omega arith)
  ended_of (made ∷ more) e are =
      let found : ruling_in (made ∷ more) (zero_round k) ≡ made.1 =
      subst (λ q. ruling_in (made ∷ more) q ≡ made.1) are.0 (ruling_here more made.1 made.0) in
      let stop : made.1 ≡ Stop =
      sym found
      ∙ ap (λ q. ruling_in q (zero_round k)) (sym e)
      ∙ settled.rules.zero_over (over_at 0 zero_lt) in
      record {
        later = are.1;
        rounds = more;
        rulings = e ∙ ap (λ (q : ℕ). (q, made.1) ∷ more) are.0 ∙ ap (λ (a : Ruling). (zero_round k, a) ∷ more) stop;
        each = are.2;
      }

  pub ended : Ended
  ended = ended_of k.rulings refl counting.made

  last_tally : (w : ℕ → Ruling → Spot → ℕ) →
      tally ring w k ≡ over_machines ring.machines (λ m. first_weight ring (w m) m) + over_rounds
      (λ r a. over_machines ring.machines (λ m. round_weight ring (w m) m r a)) ended.rounds
  last_tally w =
      let z = zero_round k in
      let all = settled.rules.all_there in
      total_range (λ i s. done ring (w i) i k.rulings s)
      (λ m. first_weight ring (w m) m + over_rounds (round_weight ring (w m) m) ended.rounds) 0 k.standings
      (λ i lt.
      let s = standing_of k.standings i in
      let within : i < ring.machines = omega arith in
      ap (λ q. done_at ring (w i) i k.rulings q s.round) (over_is s.spot (over_at i within))
      ∙ ap (λ r. first_weight ring (w i) i + before (round_weight ring (w i) i) r k.rulings) (over_round i within)
      ∙ ap (λ q. first_weight ring (w i) i + before (round_weight ring (w i) i) z q) ended.rulings
      ∙ ap (λ q. first_weight ring (w i) i + q)
      (before_end (round_weight ring (w i) i) z ended.rounds ended.later ended.each)
      ∙
      (let e : i ≡ 0 + i = omega arith in
      ap (λ m. first_weight ring (w m) m + over_rounds (round_weight ring (w m) m) ended.rounds) e))
      ∙ ap
      (λ n. over_machines n
      (λ m. first_weight ring (w m) m + over_rounds (round_weight ring (w m) m) ended.rounds)) all
      ∙ over_all ring.machines (λ m. first_weight ring (w m) m) (λ m. round_weight ring (w m) m) ended.rounds

  goes_tally : tally ring goes_weight k ≡ over_machines ring.machines
      (λ m. length (first_spots m)) + over_rounds (goes_in ring) ended.rounds
  goes_tally =
      last_tally goes_weight
      ∙ ap
      (λ q.
      q + over_rounds
      (λ r a. over_machines ring.machines (λ m. round_weight ring (goes_weight m) m r a)) ended.rounds)
      (sum_alike (λ m. first_weight ring (goes_weight m) m) (λ m. length (first_spots m))
      (range_with_len 0 ring.machines) (λ m. ones (first_spots m)))
      ∙ ap (λ q. over_machines ring.machines (λ m. length (first_spots m)) + q)
      (rounds_alike (λ r a. over_machines ring.machines (λ m. round_weight ring (goes_weight m) m r a))
      (goes_in ring) ended.rounds
      (λ r a.
      sum_alike (λ m. round_weight ring (goes_weight m) m r a) (λ m. length (round_spots ring m r a))
      (range_with_len 0 ring.machines) (λ m. ones (round_spots ring m r a))))

  gifts_tally : tally ring (gifts_weight ring) k ≡ over_machines ring.machines
      (λ m. length (gifts_at ring m Stop (first_spots m))) + over_rounds (takes_in ring) ended.rounds
  gifts_tally =
      last_tally (gifts_weight ring)
      ∙ ap
      (λ q.
      q + over_rounds
      (λ r a. over_machines ring.machines (λ m. round_weight ring (gifts_weight ring m) m r a))
      ended.rounds)
      (sum_alike (λ m. first_weight ring (gifts_weight ring m) m)
      (λ m. length (gifts_at ring m Stop (first_spots m))) (range_with_len 0 ring.machines)
      (λ m. gifts_sum ring m Stop (first_spots m)))
      ∙ ap (λ q. over_machines ring.machines (λ m. length (gifts_at ring m Stop (first_spots m))) + q)
      (rounds_alike
      (λ r a. over_machines ring.machines (λ m. round_weight ring (gifts_weight ring m) m r a))
      (takes_in ring) ended.rounds
      (λ r a.
      sum_alike (λ m. round_weight ring (gifts_weight ring m) m r a)
      (λ m. length (gifts_at ring m a (round_spots ring m r a))) (range_with_len 0 ring.machines)
      (λ m. gifts_sum ring m a (round_spots ring m r a))))

  pub counted : (es : List (Event × Ruling)) → Ran ring es (fresh ring some) k → IsCounted ring blocks es k
  counted es ran =
      let counts : HasCounts ring.machines ring 0 = rounds_are_counted ring 0 some in
      let low = settled.rules.low 0 zero_lt in
      let place = over_place (standing_of k.standings 0) (over_at 0 zero_lt) in
      let later = ended.later in
      let back : zero_round k ≡ zero_round k - 1 + 1 = omega arith in
      let empty : length k.under_way ≡ 0 = ap length (nothing_flies state finished) in
      let g = ran.goes in
      let t = ran.takes in
      let g0 = first_tally ring some goes_weight in
      let t0 = first_tally ring some (gifts_weight ring) in
      let g1 = goes_tally in
      let t1 = gifts_tally in
      let first_goes = counts.first_goes in
      let first_takes = counts.first_takes Stop in
      let goes : goes_made es ≡ ring.machines + 1 + over_rounds (goes_in ring) ended.rounds = omega arith in
      let takes : takes_made es ≡ 2 * (ring.machines - 1) + over_rounds (takes_in ring) ended.rounds = omega arith in
      let both = rounds_events ring some (zero_round k - 1) ended.rounds ended.each in
      let len = all_events es in
      record {
        last = zero_round k - 1;
        rounds = ended.rounds;
        within = omega arith;
        rulings = ended.rulings ∙ ap (λ (q : ℕ). (q, Stop) ∷ ended.rounds) back;
        each = ended.each;
        goes = goes;
        takes = takes;
        events = omega arith;
      }

pub complete_runs_are_counted : CompleteRunsAreCounted
complete_runs_are_counted ring blocks es some few complete =
    let first = first_skeleton ring.machines in
    let final = skeleton_after ring es first in
    let parts = and_parts (all_possible ring blocks es first) (is_finished final) complete in
    let start : SettledState =
    record {
      ring = ring;
      few = few;
      some = some;
      blocks = blocks;
      k = first;
      settled = first_settles ring few some blocks;
    } in
    let ran = runs start (counting_first ring some) es parts.0 in
    let end : SettledState =
    record {
      ring = ring;
      few = few;
      some = some;
      blocks = blocks;
      k = final;
      settled = events_settle es start parts.0;
    } in
    counted end ran.counting parts.1 es ran
