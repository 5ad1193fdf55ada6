-- A world that goes with the source's run, and the worlds behind its events.
use Rattle.std.proofs.Common.{◌≡◌, ◌≢◌, ℕ, ◌+◌, ◌<◌, ◌≤◌, Bool, true, false, List, [], ◌∷◌, length, Some, refl, ap, sym, ◌∙◌, subst, arith, ⊎_elim, slice_get}
use Rattle.std.specs.Prelude.{if◌then◌else◌, is_some, ◌==◌, ◌-◌, nat_le, nat_lt, slice_set}
use Rattle.std.specs.List.{AllByRecursion, Contains}
use Rattle.std.proofs.lemmas.Bool.{cases_eq, cases_lt, eq-eqb, false≢true}
use Rattle.std.proofs.lemmas.Option.{slice_get_within}
use Rattle.vert_base.specs.declared.message.Name.{Name}
use Rattle.vert_base.specs.declared.message.NameKind.{NameKind}
use Rattle.vert_base.specs.declared.message.NameKind.TheVariants as kind
use Rattle.vert_base.specs.declared.message.Event.TheVariants.{Go, Take}
use Rattle.vert_base.specs.declared.value.Ruling.{Ruling}
use Rattle.vert_base.specs.declared.value.Ruling.TheVariants.{Stop, Dense, Sparse}
use Rattle.vert_base.specs.Letters.{Letter, found, placed, without}
use Rattle.vert_base.specs.Names.{same_name}
use Rattle.vert_base.proofs.LetterLaws.{found_name}
use Rattle.circulant_plan.specs.declared.spot.Ring.{Ring}
use Rattle.circulant_plan.specs.declared.spot.Spot.{Spot}
use Rattle.circulant_plan.specs.declared.spot.Spot.TheVariants.{Tell, Judge, Begin, Scan, Close, Over}
use Rattle.circulant_plan.specs.Deliveries.{HasSpot, needed_of_kind, needing_spot, place_at, sending_spot}
use Rattle.circulant_plan.specs.Names.{verdict_name}
use Rattle.circulant_plan.specs.Runs.{IsReached, judged_round, round_at, ruled}
use Rattle.circulant_plan.specs.Skeleton.{Blocks, Skeleton, acting_ruling, is_over, ruling_in, rulings_after, standing_taken, step_of}
use Rattle.circulant_plan.specs.Skeleton as plan
use Rattle.circulant_plan.specs.Standing.{Standing, next_standing, place_of, round_of, round_ruled, standing_at}
use Rattle.circulant_plan.specs.Table.{after_begin, after_judge, gives_of, needs_of, next_spot}
use Rattle.circulant_plan.proofs.Members.{has_from_contains}
use Rattle.skeleton_laws.specs.Laws.{IsTakeable}
use Rattle.skeleton_laws.proofs.OrderLaws.{the_rulings_stay}
use Rattle.symple_face.specs.Cluster.{IsOneRun, World, all_placed, can_act, possible, step}
use Rattle.symple_face.specs.Cluster as cluster
use Rattle.symple_face.specs.CoreSight.{body_of, known}
use Rattle.symple_face.specs.CoreWork.{core_go, core_sent, core_take, core_work}
use Rattle.symple_face.specs.Ideal.{ideal_body, machines_of}
use Rattle.symple_face.specs.Parts.{PlainPart}
use Rattle.symple_face.specs.Plans.{blocks_of, ring_of}
use Rattle.symple_face.specs.Source.{Source, stand}
use Rattle.symple_face.specs.State.{State, machine, p_of, ruling_read}
use Rattle.work_laws.specs.Sound.{core_sound}
use Rattle.work_laws.proofs.Whole.{core_lawful}
use Rattle.cluster_run.proofs.GoWorlds as go
use Rattle.cluster_run.proofs.GoWorlds.{ready_is}
use Rattle.cluster_run.proofs.PartsAt.{parts_count, parts_few}
use Rattle.cluster_run.proofs.SiteLists.{get_one, same, other, set_cases, set_here, set_length, set_other}
use Rattle.cluster_run.proofs.TakeWorlds as take
use Rattle.cluster_run.proofs.Worlds.{IsMachine, IsSkeletonOf, it_keeps, it_stands, ready_going}
use Rattle.round_laws.proofs.FoldCloses.{at_most}
use Rattle.round_laws.proofs.FoldScanHeld.{found_holds}
use Rattle.state_laws.proofs.Letters as held
use Rattle.schedule_laws.specs.Events.{IsInTurn, IsTrue, ring_in}
use Rattle.schedule_laws.specs.Runs.{IsSourceRun}
use Rattle.schedule_laws.proofs.Goes.{goes_on}
use Rattle.schedule_laws.proofs.Takes.{takes_on}
use Rattle.schedule_laws.specs.OutputText.{rulings_of}
use Rattle.schedule_laws.proofs.Shown.{there_at}
use Rattle.state_laws.proofs.Rulings.{judged_on, taken_round}

-- ---- where machine 0 goes
abbrev pub is_judge : Spot → Bool
is_judge Tell = false
is_judge (Judge r) = true
is_judge (Begin r) = false
is_judge (Scan r step h) = false
is_judge (Close r dense) = false
is_judge Over = false

pub judge_at : (spot : Spot) → is_judge spot ≡ true → (r : ℕ) × (spot ≡ Judge r)
judge_at Tell is = absurd (false≢true is)
judge_at (Judge r) is = (r, refl)
judge_at (Begin r) is = absurd (false≢true is)
judge_at (Scan r step h) is = absurd (false≢true is)
judge_at (Close r dense) is = absurd (false≢true is)
judge_at Over is = absurd (false≢true is)

-- the round that a spot leads to
abbrev leads : Ring → Ruling → ℕ → Spot → ℕ
leads ring a round spot = round_of (round_ruled round spot) (next_spot ring 0 spot a)

either_round : (round r : ℕ) (b : Bool) (x y : Spot) → round_of round x ≡ r → round_of round y ≡ r →
    round_of round (if b then x else y) ≡ r
either_round round r true x y e f = e
either_round round r false x y e f = f

begun_round : (r : ℕ) (a : Ruling) → round_of r (after_begin r a) ≡ r
begun_round r Stop = refl
begun_round r Dense = refl
begun_round r Sparse = refl

stays_by : (ring : Ring) (a : Ruling) (round : ℕ) (spot : Spot) → is_judge spot ≡ false →
    round ≡ round_of round spot → leads ring a round spot ≡ round
stays_by ring a round Tell is e = sym e
stays_by ring a round (Judge r) is e = absurd (false≢true (sym is))
stays_by ring a round (Begin r) is e = begun_round r a ∙ sym e
stays_by ring a round (Scan r step h) is e =
    either_round r r (h == 0) (Scan r step 1)
    (if nat_lt step (ring.machines - 1) then Scan r (step + 1) 0 else Close r true) refl
    (either_round r r (nat_lt step (ring.machines - 1)) (Scan r (step + 1) 0) (Close r true) refl refl)
    ∙ sym e
stays_by ring a round (Close r dense) is e = sym e
stays_by ring a round Over is e = refl

-- a round of machine 0 ends at its judge alone
pub round_stays : (ring : Ring) (a : Ruling) (s : Standing) → is_judge s.spot ≡ false →
    s.round ≡ round_of s.round s.spot → (next_standing ring 0 a s).round ≡ s.round
round_stays ring a s is e = stays_by ring a s.round s.spot is e

pub judge_goes : (ring : Ring) (a : Ruling) (s : Standing) (r : ℕ) → s.spot ≡ Judge r →
    next_standing ring 0 a s ≡ standing_at (r + 1) (after_judge r a)
judge_goes ring a s r is = ap (λ spot. standing_at (round_ruled s.round spot) (next_spot ring 0 spot a)) is

-- the list of machine 0 ends behind round 0
module _ (ring : Ring) (mode a : Ruling) (round : ℕ) where
  ends_late : (spot : Spot) → HasSpot ring 0 mode spot → is_over spot ≡ false → round ≡ round_of round spot →
      is_over (next_spot ring 0 spot a) ≡ true → 1 ≤ leads ring a round spot
  ends_late Tell has going e over = absurd (false≢true over)
  ends_late (Judge r) has going e over = let on = judged_on r a in omega (arith, on)
  ends_late (Begin r) has going e over = let on = begun_round r a in omega (arith, on, has)
  ends_late (Scan r step h) has going e over =
      let on = stays_by ring a round (Scan r step h) refl e in
      let some = has.0 in
      omega (arith, on, some, e)
  ends_late (Close r dense) has going e over = absurd (false≢true over)
  ends_late Over has going e over = absurd (false≢true (sym going))

taken_over : (which : NameKind) (a : Ruling) (s : Standing) → is_over s.spot ≡ false →
    is_over (standing_taken which a s).spot ≡ true → which ≡ kind.Verdict
taken_over kind.Refresh a s going over = absurd (false≢true (sym going ∙ over))
taken_over kind.Dep a s going over = absurd (false≢true (sym going ∙ over))
taken_over kind.Update a s going over = absurd (false≢true (sym going ∙ over))
taken_over kind.Push a s going over = absurd (false≢true (sym going ∙ over))
taken_over kind.Tally a s going over = absurd (false≢true (sym going ∙ over))
taken_over kind.Verdict a s going over = refl

-- machine 0 needs no verdict
no_verdict : (ring : Ring) (x : Name) → x.to ≡ 0 → x.kind ≡ kind.Verdict →
    Contains (needs_of ring x.to (needing_spot ring.machines x)) x → ⊥
no_verdict ring x first verdict needed =
    has_from_contains [] x
    (subst (λ m. Contains (needs_of ring m (Begin x.round)) x) first
    (subst (λ q. Contains (needs_of ring x.to (needed_of_kind q ring.machines x)) x) verdict needed))

-- but at a judge the ruling that is made doesn't count
acts_so : (ring : Ring) (m : ℕ) (k : Skeleton) (round : ℕ) (a b : Ruling) (spot : Spot) → is_judge spot ≡ false →
    plan.go_at ring a m (Some (record { spot = spot; round = round })) k ≡
    plan.go_at ring b m (Some (record { spot = spot; round = round })) k
acts_so ring m k round a b Tell none = refl
acts_so ring m k round a b (Judge r) none = absurd (false≢true (sym none))
acts_so ring m k round a b (Begin r) none = refl
acts_so ring m k round a b (Scan r step h) none = refl
acts_so ring m k round a b (Close r dense) none = refl
acts_so ring m k round a b Over none = refl

-- a take leaves the round
pub take_stays : (s : State) (l : Letter) → (core_take s l).at.round ≡ s.at.round
take_stays s l = ap (λ (at : Standing). at.round) (core_lawful.take_at s l) ∙ taken_round l.name.kind _ s.at

-- machine 0 knows its ruling from the first round on
pub known_zero : (s : State) → machine s ≡ 0 → 1 ≤ s.at.round → known s ≡ true
known_zero s number late =
    ap (λ n. if n == 0 then nat_le 1 s.at.round else is_some (found (verdict_name s.at.round n) s.held)) number
    ∙ at_most 1 s.at.round late

-- ---- messages under way
pub sent_all : (P : Letter → Type 0) (ls ms : List Letter) → AllByRecursion P ls → AllByRecursion P ms →
    AllByRecursion P (all_placed ls ms)
sent_all P [] ms more all = all
sent_all P (l ∷ ls) ms more all = sent_all P ls (placed l ms) more.1 (held.all_placed P l ms more.0 all)

pub rest_all : (P : Letter → Type 0) (x : Name) (ms : List Letter) → AllByRecursion P ms →
    AllByRecursion P (without x ms)
rest_all P x [] all = tt
rest_all P x (y ∷ ys) all = by (same_name y.name x) (rest_all P x ys all.1)
  where
    by : (b : Bool) → AllByRecursion P (without x ys) → AllByRecursion P (if b then ys else y ∷ without x ys)
    by true rest = all.1
    by false rest = (all.0, rest)

-- a world that goes with the source's run, and its skeleton, whose rulings are the source's
pub record Follows (src : Source) (parts : List PlainPart) (w : World) (k : Skeleton) : Type 0 where
  pub reached : IsReached (ring_of src.split (length parts)) (blocks_of src.split) k
  pub alike : IsSkeletonOf core_sound src.split parts w k
  pub machines : (m : ℕ) (s : State) → slice_get w.sites m ≡ Some s → IsTrue src m s
  pub letters : AllByRecursion (λ l. l.body ≡ ideal_body src l.name) w.under_way
  pub rulings : (r : ℕ) → src.base ≤ r → r < judged_round k → ruling_in k.rulings r ≡ (stand src r).ruling
  -- the list of machine 0 has not ended before the first round
  pub late : (s : State) → slice_get w.sites 0 ≡ Some s → is_over s.at.spot ≡ true → 1 ≤ s.at.round

module _ (src : Source) (parts : List PlainPart) (one : IsOneRun parts) (run : IsSourceRun src)
    (same_ends : src.job.graph.ends ≡ one.ends) where
  pub few : length parts ≤ 64
  few = parts_few parts one

  pub count : length parts ≡ machines_of src
  count = parts_count parts one ∙ ap length (sym same_ends)

  abbrev ring : Ring
  ring = ring_of src.split (length parts)

  abbrev blocks : Blocks
  blocks = blocks_of src.split

  module _ (w : World) (k : Skeleton) (f : Follows src parts w k) where
    -- the round of machine 0 is that before the one that is judged next
    pub judged_next : (s : State) → slice_get w.sites 0 ≡ Some s → judged_round k ≡ s.at.round + 1
    judged_next s at =
        ap (λ o. round_at o + 1)
        (it_stands core_work core_sound core_lawful src.split parts few w k f.alike f.reached 0 s at)

    is_low : (m : ℕ) (s : State) → slice_get w.sites m ≡ Some s → m < machines_of src
    is_low m s at =
        let keeps = it_keeps core_work core_sound core_lawful src.split parts few w k f.alike f.reached m s at in
        let lt = keeps.machine in
        subst (λ n. m < n) count lt

    -- ---- a go
    module _ (m : ℕ) (s : State) (at : slice_get w.sites m ≡ Some s) (ready : can_act (Some s) ≡ true) where
      is : IsMachine core_sound src.split parts m s
      is = f.alike.machines m s at

      abbrev pub gone_to : Skeleton
      gone_to = go.next core_work core_sound core_lawful src.split parts few one w k f.alike f.reached m s at ready

      abbrev pub gone : World
      gone = cluster.go_at core_work w m (Some s)

      went : IsTrue src m (core_go s) × AllByRecursion (λ l. l.body ≡ ideal_body src l.name) (core_sent s)
      went = goes_on src m s run (is_low m s at) is.is_sound (f.machines m s at) (ready_is s ready)

      gone_reached : IsReached ring blocks gone_to
      gone_reached =
          go.next_reached core_work core_sound core_lawful src.split parts few one w k f.alike f.reached m s at ready

      gone_alike : IsSkeletonOf core_sound src.split parts gone gone_to
      gone_alike =
          go.gone_tied core_work core_sound core_lawful src.split parts few one w k f.alike f.reached m s at ready

      gone_machines : (j : ℕ) (t : State) → slice_get gone.sites j ≡ Some t → IsTrue src j t
      gone_machines j t there =
          elim (set_cases w.sites m (core_go s) j t there) as (λ _. IsTrue src j t) [
            | same here now ↦ subst (λ i. IsTrue src i t) (sym here) (subst (IsTrue src m) now went.0)
            | other apart before ↦ f.machines j t before
          ]

      old_ruling : (r : ℕ) → src.base ≤ r → r < judged_round k → ruling_in gone_to.rulings r ≡ (stand src r).ruling
      old_ruling r late early =
          subst (λ q. ruling_in q.rulings r ≡ ruling_in k.rulings r)
          (go.step_is core_work core_sound core_lawful src.split parts few one w k f.alike f.reached m s at ready)
          ((the_rulings_stay ring blocks k (core_work.judge s) (Go m) f.reached
          (go.can_step core_work core_sound core_lawful src.split parts few one w k f.alike f.reached m s at
          ready)).1 r early)
          ∙ f.rulings r late early

      machine_is : machine s ≡ m
      machine_is = is.number

      -- where it stands then, by its own program
      next_at : (core_go s).at ≡
          next_standing (ring_of s.split (p_of s)) m (acting_ruling (core_work.judge s) s.ruling s.at.spot) s.at
      next_at =
          core_lawful.go_at s
          ∙ ap (λ n. next_standing (ring_of s.split (p_of s)) n
          (acting_ruling (core_work.judge s) s.ruling s.at.spot) s.at) machine_is

      module _ (first : m ≡ 0) where
        at_zero : slice_get w.sites 0 ≡ Some s
        at_zero = subst (λ i. slice_get w.sites i ≡ Some s) first at

        there_zero : slice_get gone.sites 0 ≡ Some (core_go s)
        there_zero =
            let within = slice_get_within w.sites m s at in
            subst (λ i. slice_get (slice_set w.sites m (core_go s)) i ≡ Some (core_go s)) first
            (set_here w.sites m (core_go s) within)

        zero_at : (core_go s).at ≡
            next_standing (ring_of s.split (p_of s)) 0 (acting_ruling (core_work.judge s) s.ruling s.at.spot) s.at
        zero_at =
            next_at
            ∙ ap (λ n. next_standing (ring_of s.split (p_of s)) n
            (acting_ruling (core_work.judge s) s.ruling s.at.spot) s.at) first

        -- the round stays but at a judge
        pub zero_stays : is_judge s.at.spot ≡ false → (core_go s).at.round ≡ s.at.round
        zero_stays none =
            ap (λ (t : Standing). t.round) zero_at
            ∙ round_stays (ring_of s.split (p_of s)) (acting_ruling (core_work.judge s) s.ruling s.at.spot) s.at none
            is.is_sound.round

        -- and a judge leads to the next one
        pub zero_judges : (r : ℕ) → s.at.spot ≡ Judge r →
            (core_go s).at ≡ standing_at (r + 1) (after_judge r (core_work.judge s))
        zero_judges r spot =
            zero_at
            ∙ judge_goes (ring_of s.split (p_of s)) (acting_ruling (core_work.judge s) s.ruling s.at.spot) s.at r spot
            ∙ ap (λ q. standing_at (r + 1) (after_judge r (acting_ruling (core_work.judge s) s.ruling q))) spot

        judged_there : judged_round gone_to ≡ (core_go s).at.round + 1
        judged_there =
            ap (λ o. round_at o + 1)
            (it_stands core_work core_sound core_lawful src.split parts few gone gone_to gone_alike gone_reached 0
            (core_go s) there_zero)

        -- the ruling that the judge makes is the source's
        pub judges_so : (r : ℕ) → s.at.spot ≡ Judge r → core_work.judge s ≡ (stand src (r + 1)).ruling
        judges_so r spot =
            let next : Standing = (core_go s).at in
            let round : next.round ≡ r + 1 =
            ap (λ (t : Standing). t.round) (zero_judges r spot) ∙ judged_on r (core_work.judge s) in
            let number : machine (core_go s) ≡ 0 =
            ap (λ (part : PlainPart). part.at.machine) (core_lawful.go_part s) ∙ machine_is ∙ first in
            let knows : known (core_go s) ≡ true = known_zero (core_go s) number (omega (arith, round)) in
            sym
            (core_lawful.go_ruling s ∙ ap (acting_ruling (core_work.judge s) s.ruling) spot)
            ∙ went.0.ideal.ruling knows
            ∙ ap (λ q. (stand src q).ruling) round

        judge_ruling : (r : ℕ) → s.at.spot ≡ Judge r → ruling_in gone_to.rulings (r + 1) ≡ core_work.judge s
        judge_ruling r spot =
            ap (λ q. ruling_in (rulings_after (core_work.judge s) q k.rulings) (r + 1)) spot
            ∙ ap (λ b. if b then core_work.judge s else ruling_in k.rulings (r + 1)) (eq-eqb (r + 1) (r + 1) refl)

        zero_ruling : (r : ℕ) → src.base ≤ r → r < judged_round gone_to →
            ruling_in gone_to.rulings r ≡ (stand src r).ruling
        zero_ruling r late early = by (is_judge s.at.spot) refl
          where
            by : (b : Bool) → is_judge s.at.spot ≡ b → ruling_in gone_to.rulings r ≡ (stand src r).ruling
            by false none =
                let round = zero_stays none in
                let there = judged_there in
                let here = judged_next s at_zero in
                old_ruling r late (omega arith)
            by true there_is =
                let judge = judge_at s.at.spot there_is in
                let spot : s.at.spot ≡ Judge judge.0 = judge.1 in
                let round : (core_go s).at.round ≡ judge.0 + 1 =
                ap (λ (t : Standing). t.round) (zero_judges judge.0 spot) ∙ judged_on judge.0 (core_work.judge s) in
                let before : s.at.round ≡ judge.0 = is.is_sound.round ∙ ap (round_of s.at.round) spot in
                let there = judged_there in
                let here = judged_next s at_zero in
                ⊎_elim
                (λ (old : r < judge.0 + 1). old_ruling r late (omega arith))
                (λ (new : judge.0 + 1 ≤ r).
                let this : r ≡ judge.0 + 1 = omega arith in
                ap (ruling_in gone_to.rulings) this
                ∙ judge_ruling judge.0 spot
                ∙ judges_so judge.0 spot
                ∙ ap (λ q. (stand src q).ruling) (sym this))
                (cases_lt r (judge.0 + 1))

        zero_late : (t : State) → slice_get gone.sites 0 ≡ Some t → is_over t.at.spot ≡ true → 1 ≤ t.at.round
        zero_late t there over =
            let a : Ruling = acting_ruling (core_work.judge s) s.ruling s.at.spot in
            let went_to : core_go s ≡ t = get_one (slice_get gone.sites 0) (core_go s) t there_zero there in
            let here : (core_go s).at.round ≡ leads (ring_of s.split (p_of s)) a s.at.round s.at.spot =
            ap (λ (q : Standing). q.round) zero_at in
            let ends : is_over (next_spot (ring_of s.split (p_of s)) 0 s.at.spot a) ≡ true =
            sym (ap (λ (q : Standing). is_over q.spot) zero_at)
            ∙ ap (λ (q : State). is_over q.at.spot) went_to ∙ over in
            let has : HasSpot (ring_of s.split (p_of s)) 0 (stand src s.at.round).ruling s.at.spot =
            subst (λ n. HasSpot (ring_of s.split n) 0 (stand src s.at.round).ruling s.at.spot)
            (sym (is.count ∙ count))
            (subst (λ q. HasSpot (ring_of q (machines_of src)) 0 (stand src s.at.round).ruling s.at.spot)
            (sym is.split_is)
            (subst (λ n. HasSpot (ring_of src.split (machines_of src)) n (stand src s.at.round).ruling s.at.spot) first
            (f.machines m s at).has)) in
            let late = ends_late (ring_of s.split (p_of s)) (stand src s.at.round).ruling a s.at.round s.at.spot has
            (ready_going core_work core_sound core_lawful src.split parts few w k f.alike f.reached m s at ready)
            is.is_sound.round ends in
            subst (λ (q : State). 1 ≤ q.at.round) went_to (omega (arith, here, late))

      other_ruling : m ≢ 0 → (r : ℕ) → src.base ≤ r → r < judged_round gone_to →
          ruling_in gone_to.rulings r ≡ (stand src r).ruling
      other_ruling apart r late early =
          let alike : judged_round gone_to ≡ judged_round k =
          ap (λ o. round_at o + 1) (set_other k.standings m 0 _ (λ e. apart (sym e))) in
          old_ruling r late (omega arith)

      -- the skeleton goes by the source's rulings
      abbrev by_source : Ruling
      by_source = ruled (rulings_of src) k

      judge_alike : is_judge s.at.spot ≡ true → core_work.judge s ≡ by_source
      judge_alike there_is =
          let judge = judge_at s.at.spot there_is in
          let spot : s.at.spot ≡ Judge judge.0 = judge.1 in
          let first : m ≡ 0 =
          subst (HasSpot (ring_in src) m (stand src s.at.round).ruling) spot (f.machines m s at).has in
          let round : s.at.round ≡ judge.0 = is.is_sound.round ∙ ap (round_of s.at.round) spot in
          judges_so first judge.0 spot
          ∙ ap (rulings_of src)
          (sym (judged_next s (at_zero first) ∙ ap (λ n. n + 1) round))

      same_step : plan.go_at ring (core_work.judge s) m (Some s.at) k ≡ plan.go_at ring by_source m (Some s.at) k
      same_step = by (is_judge s.at.spot) refl
        where
          by : (b : Bool) → is_judge s.at.spot ≡ b →
              plan.go_at ring (core_work.judge s) m (Some s.at) k ≡ plan.go_at ring by_source m (Some s.at) k
          by true there_is = ap (λ a. plan.go_at ring a m (Some s.at) k) (judge_alike there_is)
          by false none = acts_so ring m k s.at.round (core_work.judge s) by_source s.at.spot none

      pub gone_is : step_of (ring_in src) by_source (Go m) k ≡ gone_to
      gone_is =
          ap (λ n. step_of (ring_of src.split n) by_source (Go m) k) (sym count)
          ∙ ap (λ o. plan.go_at ring by_source m o k)
          (it_stands core_work core_sound core_lawful src.split parts few w k f.alike f.reached m s at)
          ∙ sym same_step

      pub gone_follows : Follows src parts gone gone_to
      gone_follows = record {
        reached = gone_reached;
        alike = gone_alike;
        machines = gone_machines;
        letters = sent_all (λ l. l.body ≡ ideal_body src l.name) (core_sent s) w.under_way went.1 f.letters;
        rulings =
            λ r late early.
            ⊎_elim (λ (first : m ≡ 0). zero_ruling first r late early)
            (λ (apart : m ≢ 0). other_ruling apart r late early) (cases_eq m 0);
        late =
            λ t there over.
            ⊎_elim (λ (first : m ≡ 0). zero_late first t there over)
            (λ (apart : m ≢ 0).
            f.late t (sym (set_other w.sites m 0 (core_go s) (λ e. apart (sym e))) ∙ there) over) (cases_eq m 0);
      }

    -- ---- a take
    module _ (x : Name) (l : Letter) (there : found x w.under_way ≡ Some l) where
      abbrev pub took_to : Skeleton
      took_to = take.next core_work core_sound core_lawful src.split parts few one w k f.alike f.reached x l there

      abbrev pub taker : State
      taker = take.s core_work core_sound core_lawful src.split parts few one w k f.alike f.reached x l there

      abbrev can : IsTakeable ring blocks k x
      can = take.can core_work core_sound core_lawful src.split parts few one w k f.alike f.reached x l there

      abbrev pub took : World
      took = record { sites = slice_set w.sites x.to (core_take taker l); under_way = without x w.under_way }

      pub took_is : step core_work w (Take x) ≡ took
      took_is = take.gone_is core_work core_sound core_lawful src.split parts few one w k f.alike f.reached x l there

      named : l.name ≡ x
      named = found_name x w.under_way l there

      pub taker_at : slice_get w.sites x.to ≡ Some taker
      taker_at =
          subst (λ (y : Name). slice_get w.sites y.to ≡ Some taker) named
          (take.at_receiver core_work core_sound core_lawful src.split parts few one w k f.alike f.reached x l there)

      stands : taker.at ≡ can.at
      stands =
          (take.receiver core_work core_sound core_lawful src.split parts few one w k f.alike f.reached x l there).2

      takes : IsTrue src x.to taker
      takes = f.machines x.to taker taker_at

      round : taker.at.round ≡ x.round
      round = ap (λ (t : Standing). t.round) stands ∙ can.round

      late : 1 ≤ x.round → src.base ≤ x.round
      late some =
          ⊎_elim (λ (one : src.base ≡ 1). omega arith)
          (λ (begun : src.base ≤ taker.at.round). let e = round in omega arith) takes.begun

      mode_is : 1 ≤ x.round → ruling_in k.rulings x.round ≡ (stand src x.round).ruling
      mode_is some = f.rulings x.round (late some) can.judged

      body_is : l.body ≡ ideal_body src l.name
      body_is =
          ap body_of (sym there)
          ∙ found_holds (λ l. l.body ≡ ideal_body src l.name) x w.under_way f.letters (ap is_some there)
          ∙ ap (ideal_body src) (sym named)

      in_turn : IsInTurn src taker.at l.name
      in_turn =
          subst (IsInTurn src taker.at) (sym named)
          (record {
            not_past =
                subst (λ (t : Standing). place_of t ≤ place_at (needing_spot (machines_of src) x)) (sym stands)
                (subst (λ n. place_of can.at ≤ place_at (needing_spot n x)) count can.not_past);
            sent =
                λ other some.
                let mode : Ruling = (stand src x.round).ruling in
                let sends =
                can.sent mode
                (subst (λ (q : Ruling). q ≢ Stop) (mode_is some) (can.ruled other some).0)
                (λ _ also. mode_is some) in
                subst (λ n. HasSpot (ring_of src.split n) x.from mode (sending_spot mode x)
                × Contains (gives_of (ring_of src.split n) x.from (sending_spot mode x) mode) x) count sends;
          })

      taken_true : IsTrue src x.to (core_take taker l)
      taken_true =
          takes_on src x.to taker l run (is_low x.to taker taker_at) (f.alike.machines x.to taker taker_at).is_sound
          takes
          (take.takeable core_work core_sound core_lawful src.split parts few one w k f.alike f.reached x l there)
          in_turn body_is

      took_reached : IsReached ring blocks took_to
      took_reached =
          take.next_reached core_work core_sound core_lawful src.split parts few one w k f.alike f.reached x l there

      took_alike : IsSkeletonOf core_sound src.split parts took took_to
      took_alike =
          take.gone_tied core_work core_sound core_lawful src.split parts few one w k f.alike f.reached x l there

      -- the round of each machine stays
      pub rounds_stay : (j : ℕ) (t : State) → slice_get took.sites j ≡ Some t →
          (t' : State) × (slice_get w.sites j ≡ Some t') × (t.at.round ≡ t'.at.round)
      rounds_stay j t at =
          elim (set_cases w.sites x.to (core_take taker l) j t at) as
          (λ _. (t' : State) × (slice_get w.sites j ≡ Some t') × (t.at.round ≡ t'.at.round)) [
            | same here now ↦ (
              taker,
              subst (λ i. slice_get w.sites i ≡ Some taker) (sym here) taker_at,
              sym (ap (λ (q : State). q.at.round) now) ∙ take_stays taker l,
            )
            | other apart before ↦ (t, before, refl)
          ]

      took_machines : (j : ℕ) (t : State) → slice_get took.sites j ≡ Some t → IsTrue src j t
      took_machines j t at =
          elim (set_cases w.sites x.to (core_take taker l) j t at) as (λ _. IsTrue src j t) [
            | same here now ↦ subst (λ i. IsTrue src i t) (sym here) (subst (IsTrue src x.to) now taken_true)
            | other apart before ↦ f.machines j t before
          ]

      judged_same : judged_round took_to ≡ judged_round k
      judged_same =
          let within = slice_get_within w.sites x.to taker taker_at in
          let first = there_at took.sites 0
          (let long = set_length w.sites x.to (core_take taker l) in omega arith) in
          let before = rounds_stay 0 first.0 first.1 in
          ap (λ o. round_at o + 1)
          (it_stands core_work core_sound core_lawful src.split parts few took took_to took_alike took_reached 0
          first.0 first.1)
          ∙ ap (λ n. n + 1) before.2
          ∙ sym (judged_next before.0 before.1)

      took_late : (t : State) → slice_get took.sites 0 ≡ Some t → is_over t.at.spot ≡ true → 1 ≤ t.at.round
      took_late t at over =
          elim (set_cases w.sites x.to (core_take taker l) 0 t at) as (λ _. 1 ≤ t.at.round) [
            | same here now ↦ absurd (not_zero here now)
            | other apart before ↦ f.late t before over
          ]
        where
          not_zero : 0 ≡ x.to → core_take taker l ≡ t → ⊥
          not_zero here now =
              let going : is_over taker.at.spot ≡ false =
              subst (λ (q : Standing). is_over q.spot ≡ false) (sym stands) can.going in
              no_verdict ring x (sym here)
              (ap (λ (y : Name). y.kind) (sym named)
              ∙ taken_over l.name.kind (ruling_read l.body) taker.at going
              (sym (ap (λ (q : Standing). is_over q.spot) (core_lawful.take_at taker l))
              ∙ ap (λ (q : State). is_over q.at.spot) now ∙ over))
              can.needed

      pub took_follows : Follows src parts took took_to
      took_follows = record {
        reached = took_reached;
        alike = took_alike;
        machines = took_machines;
        letters = rest_all (λ l. l.body ≡ ideal_body src l.name) x w.under_way f.letters;
        rulings = λ r late early. f.rulings r late (subst (λ n. r < n) judged_same early);
        late = took_late;
      }
