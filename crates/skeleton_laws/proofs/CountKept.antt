-- The counts of goes and of messages, kept by each event.
use Rattle.std.proofs.Common.{◌≡◌, ◌≢◌, ℕ, ◌+◌, ◌-◌, ◌<◌, ◌≤◌, true, false, List, [], ◌∷◌, refl, ap, sym, ◌∙◌, subst, arith, ⊎_elim}
use Rattle.std.proofs.lemmas.Bool.{cases_eq}
use Rattle.vert_base.specs.declared.value.Ruling.{Ruling}
use Rattle.vert_base.specs.declared.value.Ruling.TheVariants.{Stop}
use Rattle.circulant_plan.specs.declared.spot.Ring.{Ring}
use Rattle.circulant_plan.specs.declared.spot.Spot.{Spot}
use Rattle.circulant_plan.specs.declared.spot.Spot.TheVariants.{Judge}
use Rattle.circulant_plan.specs.Standing.{Standing, round_of}
use Rattle.circulant_plan.specs.Skeleton.{Skeleton, ruling_in, is_over, acting_ruling, rulings_after}
use Rattle.skeleton_laws.specs.Counted.{AreRounds}
use Rattle.skeleton_laws.proofs.Weights.{Account, Made, Knows, knows_later, knows_more, Weighs, done, done_at, done_same}
use Rattle.skeleton_laws.proofs.GoSettles.{Turn, acting, next, gone, m_here, here', other', zero', zero_same, judge_zero, zero_round_is, zero_grows, known_round, none_past, zero_judged, ends_here, acting_goes}
use Rattle.skeleton_laws.proofs.Settled.{course_in, zero_round, FitsBy, mode_in, modes_in, agrees_in}
use Rattle.skeleton_laws.proofs.Standings.{standing_of}
use Rattle.skeleton_laws.proofs.GoFacts.{IsJudge, judge, other, judges, ruling_here, same_round, acting_begin}
use Rattle.skeleton_laws.proofs.WeightSteps.{Does, does}
use Rattle.skeleton_laws.proofs.Totals.{total, total_set}

pub record Counting (ring : Ring) (k : Skeleton) : Type 0 where
  pub made : Made k.rulings (zero_round k)
  pub knows : (j : ℕ) → j < ring.machines → Knows ring k.rulings (zero_round k) (standing_of k.standings j).spot
  pub ended : is_over (standing_of k.standings 0).spot ≡ true → 1 ≤ zero_round k

-- what all machines have done
abbrev pub tally : Ring → (ℕ → Ruling → Spot → ℕ) → Skeleton → ℕ
tally ring w k = total (λ i s. done ring (w i) i k.rulings s) k.standings

same_after : (ruling known : Ruling) (spot : Spot) (made : List (ℕ × Ruling)) → IsJudge spot →
    rulings_after (acting_ruling ruling known spot) spot made ≡ rulings_after ruling spot made
same_after ruling known spot made (judge r e) =
    subst (λ q. rulings_after (acting_ruling ruling known q) q made ≡ rulings_after ruling q made) (sym e) refl
same_after ruling known spot made (other none same) =
    same (acting_ruling ruling known spot) made ∙ sym (same ruling made)

all_rounds : (rulings : List (ℕ × Ruling)) (z : ℕ) → Made rulings z → (1 ≤ z → ruling_in rulings z ≢ Stop) →
    AreRounds rulings z
all_rounds [] z are on = are
all_rounds (made ∷ more) z are on =
    let found : ruling_in (made ∷ more) z ≡ made.1 =
    subst (λ q. ruling_in (made ∷ more) q ≡ made.1) are.0 (ruling_here more made.1 made.0) in
    (are.0, are.1, (λ stop. on are.1 (found ∙ stop)), are.2)

module _ (turn : Turn) (counting : Counting turn.state.ring turn.state.k) where
  open turn use {state, m, within, ruling, spot, at, going, ready, rightly}
  open state use {ring, few, some, blocks, k, settled}

  abbrev account : (w : Ruling → Spot → ℕ) → Weighs w → Account
  account w weighs = record {
    ring = ring;
    some = some;
    m = m;
    weight = w;
    weighs = weighs;
    rulings = k.rulings;
    z = zero_round k;
    made = counting.made;
  }

  abbrev act : Ruling
  act = acting turn

  abbrev now : Skeleton
  now = gone turn

  abbrev then : Standing
  then = next turn

  fit : FitsBy (course_in state) k
  fit = settled.by (mode_in k) (modes_in k) (agrees_in k)

  after_same : rulings_after act spot k.rulings ≡ now.rulings
  after_same = same_after ruling (ruling_in k.rulings (round_of 0 spot)) spot k.rulings (judges spot)

  judge_round_is : (r : ℕ) → spot ≡ Judge r → zero_round k ≡ r
  judge_round_is r e = zero_round_is turn (judge_zero turn r e) ∙ ap (round_of 0) e

  judged_rulings : (r : ℕ) → spot ≡ Judge r → now.rulings ≡ (r + 1, ruling) ∷ k.rulings
  judged_rulings r e = ap (λ q. rulings_after ruling q k.rulings) e

  same_zero_round : ((r : ℕ) → spot ≢ Judge r) → zero_round now ≡ zero_round k
  same_zero_round none =
      ⊎_elim
      (λ (first : m ≡ 0). ap (λ s. s.round) (zero' turn first)
      ∙ same_round ring m act spot first going none
      ∙ sym (zero_round_is turn first))
      (λ (ne : m ≢ 0). ap (λ s. s.round) (zero_same turn ne))
      (cases_eq m 0)

  made_by : IsJudge spot → Made now.rulings (zero_round now)
  made_by (judge r e) =
      let on : 1 ≤ zero_round k → ruling_in k.rulings (zero_round k) ≢ Stop =
      settled.rules.zero_going
      (subst (λ j. is_over (standing_of k.standings j).spot ≡ false) (judge_zero turn r e)
      (ap (λ s. is_over s.spot) at ∙ going)) in
      let are : AreRounds k.rulings (zero_round k) = all_rounds k.rulings (zero_round k) counting.made on in
      let back : zero_round k ≡ r + 1 - 1 = (let q = judge_round_is r e in omega arith) in
      let here : Made ((r + 1, ruling) ∷ k.rulings) (r + 1) =
      (refl, omega arith, subst (λ q. AreRounds k.rulings q) back are) in
      subst (λ q. Made now.rulings q) (sym (zero_judged turn r e))
      (subst (λ q. Made q (r + 1)) (sym (judged_rulings r e)) here)
  made_by (other none same) =
      subst (λ q. Made now.rulings q) (sym (same_zero_round none))
      (subst (λ q. Made q (zero_round k)) (sym (same ruling k.rulings)) counting.made)

  knows_m : Knows ring k.rulings (zero_round k) spot
  knows_m = subst (λ s. Knows ring k.rulings (zero_round k) s.spot) at (counting.knows m within)

  does_here : (w : Ruling → Spot → ℕ) (weighs : Weighs w) → Does (account w weighs) act spot (zero_round now)
  does_here w weighs = does (account w weighs) act spot (zero_round now) going (zero_grows turn) knows_m
      (λ r e. (judge_zero turn r e, judge_round_is r e))
      (λ r e. (acting_begin ruling k.rulings spot r e, acting_goes turn r e, known_round turn r e))

  abbrev nothing : Ruling → Spot → ℕ
  nothing a s = 0

  nothing_weighs : Weighs nothing
  nothing_weighs =
      record { tell = λ a b. refl; judge = λ a b r. refl; scan = λ a b r s h. refl; close = λ a b r d. refl }

  knows_next : Knows ring now.rulings (zero_round now) then.spot
  knows_next = subst (λ q. Knows ring q (zero_round now) then.spot) after_same (does_here nothing nothing_weighs).knows

  knows_other : IsJudge spot → (j : ℕ) → j < ring.machines →
      Knows ring now.rulings (zero_round now) (standing_of k.standings j).spot
  knows_other (judge r e) j lt =
      let z = judge_round_is r e in
      let g = zero_grows turn in
      subst (λ q. Knows ring q (zero_round now) (standing_of k.standings j).spot) (sym (judged_rulings r e))
      (knows_more ring ((r + 1, ruling) ∷ k.rulings) (zero_round k) (zero_round now) (standing_of k.standings j).spot g
      (knows_later ring k.rulings (zero_round k) (r + 1, ruling) (standing_of k.standings j).spot (omega arith)
      (counting.knows j lt)))
  knows_other (other none same) j lt =
      subst (λ q. Knows ring q (zero_round now) (standing_of k.standings j).spot) (sym (same ruling k.rulings))
      (knows_more ring k.rulings (zero_round k) (zero_round now) (standing_of k.standings j).spot
      (zero_grows turn) (counting.knows j lt))

  pub counting_gone : Counting ring now
  counting_gone = record {
    made = made_by (judges spot);
    knows = λ j lt. ⊎_elim
        (λ (e : j ≡ m).
        subst (λ i. Knows ring now.rulings (zero_round now) (standing_of now.standings i).spot) (sym e)
        (subst (λ s. Knows ring now.rulings (zero_round now) s.spot) (sym (here' turn)) knows_next))
        (λ (ne : j ≢ m).
        subst (λ s. Knows ring now.rulings (zero_round now) s.spot) (sym (other' turn j ne))
        (knows_other (judges spot) j lt))
        (cases_eq j m);
    ended = λ over. ⊎_elim
        (λ (first : m ≡ 0).
        let e = ends_here turn (sym (ap (λ s. is_over s.spot) (zero' turn first)) ∙ over) in
        let z = zero_judged turn e.0 e.1 in
        omega arith)
        (λ (ne : m ≢ 0).
        let z : zero_round now ≡ zero_round k = ap (λ s. s.round) (zero_same turn ne) in
        let was = counting.ended (sym (ap (λ s. is_over s.spot) (zero_same turn ne)) ∙ over) in
        omega arith)
        (cases_eq m 0);
  }

  -- the others have done what they had
  others_same : (w : Ruling → Spot → ℕ) → IsJudge spot → (i : ℕ) → i < ring.machines →
      done ring w i now.rulings (standing_of k.standings i) ≡ done ring w i k.rulings
      (standing_of k.standings i)
  others_same w (judge r e) i lt =
      let s = standing_of k.standings i in
      let z = judge_round_is r e in
      let past = none_past turn (mode_in k) (modes_in k) (agrees_in k) r i e lt in
      ap (λ q. done ring w i q s) (judged_rulings r e)
      ∙ done_same ring w i k.rulings (r + 1, ruling) s (record {
        last = zero_round k;
        before = omega arith;
        within = omega arith;
        round = settled.rules.rounds i lt;
        knows = counting.knows i lt;
      })
  others_same w (other none same) i lt = ap (λ q. done ring w i q (standing_of k.standings i)) (same ruling k.rulings)

  pub gone_tally : (w : ℕ → Ruling → Spot → ℕ) → Weighs (w m) → tally ring w now ≡ tally ring w k + w m act spot
  gone_tally w weighs =
      let all = settled.rules.all_there in
      let sum =
      total_set (λ i s. done ring (w i) i k.rulings s)
      (λ i s. done ring (w i) i now.rulings s) k.standings m then (m_here turn)
      (λ i lt ne. others_same (w i) (judges spot) i (omega arith)) in
      let d = (does_here (w m) weighs).done in
      let one : done ring (w m) m now.rulings then ≡ done ring (w m) m (rulings_after act spot k.rulings) then =
      ap (λ q. done ring (w m) m q then) (sym after_same) in
      let was : done ring (w m) m k.rulings (standing_of k.standings m) ≡ done_at ring (w m) m k.rulings spot
      (round_of 0 spot) =
      ap (λ s. done ring (w m) m k.rulings s) at in
      omega arith
