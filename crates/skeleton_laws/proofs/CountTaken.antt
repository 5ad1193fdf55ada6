-- A message taken leaves what the machines have done.
use Rattle.std.proofs.Common.{◌≡◌, ◌≢◌, ℕ, ◌+◌, ◌*◌, length, refl, ap, sym, ◌∙◌, subst, inl, inr, arith, ⊎_elim}
use Rattle.std.proofs.lemmas.Bool.{cases_eq}
use Rattle.vert_base.specs.declared.value.Ruling.{Ruling}
use Rattle.circulant_plan.specs.declared.spot.Spot.{Spot}
use Rattle.circulant_plan.specs.declared.spot.Spot.TheVariants.{Begin, Over}
use Rattle.circulant_plan.specs.Standing.{Standing, standing_at, round_of, place_of}
use Rattle.circulant_plan.specs.Deliveries.{HasSpot, place_at}
use Rattle.circulant_plan.specs.Skeleton.{Skeleton, is_over}
use Rattle.circulant_plan.proofs.NameLists.{has_from_name, but_one}
use Rattle.circulant_plan.proofs.NameLaws.{at_begin}
use Rattle.skeleton_laws.proofs.TakeSettles.{Taking, took, new, Cases, cases, to_here, to_within, not_over_s, zero_standing, same_zero, at_verdict, here', other'}
use Rattle.skeleton_laws.proofs.Settled.{course_in, zero_round, FitsBy, mode_in, modes_in, agrees_in, is_standing_at}
use Rattle.skeleton_laws.proofs.Standings.{standing_of}
use Rattle.skeleton_laws.proofs.Weights.{Made, Knows, done, done_at}
use Rattle.skeleton_laws.proofs.Totals.{total_set}
use Rattle.skeleton_laws.proofs.CountKept.{Counting, tally}

module _ (taking : Taking) (counting : Counting taking.state.ring taking.state.k) where
  open taking use {state, x, flew}
  open state use {ring, few, some, blocks, k, settled}

  abbrev now : Skeleton
  now = took taking

  abbrev was : Standing
  was = standing_of k.standings x.to

  fit : FitsBy (course_in state) k
  fit = settled.by (mode_in k) (modes_in k) (agrees_in k)

  knows_new : Cases taking → Knows ring k.rulings (zero_round k) (new taking).spot
  knows_new (inl e) =
      subst (λ q. Knows ring k.rulings (zero_round k) q.spot) (sym e) (counting.knows x.to (to_within taking))
  knows_new (inr e) = subst (λ q. Knows ring k.rulings (zero_round k) q.spot) (sym e.2) tt

  pub counting_took : Counting ring now
  counting_took = record {
    made = subst (λ q. Made k.rulings q) (sym (same_zero taking)) counting.made;
    knows =
        λ j lt.
        subst (λ z. Knows ring k.rulings z (standing_of now.standings j).spot) (sym (same_zero taking)) (⊎_elim
        (λ (e : j ≡ x.to).
        subst (λ i. Knows ring k.rulings (zero_round k) (standing_of now.standings i).spot) (sym e)
        (subst (λ q. Knows ring k.rulings (zero_round k) q.spot) (sym (here' taking))
        (knows_new (cases taking))))
        (λ (ne : j ≢ x.to).
        subst (λ q. Knows ring k.rulings (zero_round k) q.spot) (sym (other' taking j ne))
        (counting.knows j lt))
        (cases_eq j x.to));
    ended =
        λ over.
        let z = same_zero taking in
        let e = counting.ended (sym (ap (λ q. is_over q.spot) (zero_standing taking)) ∙ over) in
        omega arith;
  }

  -- a machine that a verdict ends stood at the begin of its round
  done_new : (w : Ruling → Spot → ℕ) → Cases taking →
      done ring w x.to k.rulings (new taking) ≡ done ring w x.to k.rulings was
  done_new w (inl e) = ap (λ q. done ring w x.to k.rulings q) e
  done_new w (inr e) =
      let lt = to_within taking in
      let going = not_over_s taking in
      let at : was ≡ standing_at 0 was.spot = is_standing_at was (settled.rules.rounds x.to lt) going in
      let round : was.round ≡ round_of 0 was.spot = ap (λ q. q.round) at in
      let place : place_of was ≡ place_at was.spot = ap place_of at in
      let stands : place_of was ≡ 256 * x.round = at_verdict taking e.0 in
      let has : HasSpot ring x.to (mode_in k (round_of 0 was.spot)) was.spot =
      subst (λ r. HasSpot ring x.to (mode_in k r) was.spot) round (fit.has x.to lt) in
      let begins : was.spot ≡ Begin x.round =
      at_begin (course_in state) x.to x.round was.spot has going (omega arith) in
      let same : was.round ≡ x.round = round ∙ ap (round_of 0) begins in
      let one : done ring w x.to k.rulings (new taking) ≡ done_at ring w x.to k.rulings Over was.round =
      ap (λ q. done ring w x.to k.rulings q) e.2 in
      let two : done_at ring w x.to k.rulings Over was.round ≡ done_at ring w x.to k.rulings Over x.round =
      ap (λ r. done_at ring w x.to k.rulings Over r) same in
      let three : done ring w x.to k.rulings was ≡ done_at ring w x.to k.rulings (Begin x.round) was.round =
      ap (λ q. done_at ring w x.to k.rulings q was.round) begins in
      one ∙ two ∙ sym three

  pub took_tally : (w : ℕ → Ruling → Spot → ℕ) → tally ring w now ≡ tally ring w k
  took_tally w =
      let sum =
      total_set (λ i q. done ring (w i) i k.rulings q)
      (λ i q. done ring (w i) i k.rulings q) k.standings x.to (new taking) (to_here taking)
      (λ i lt ne. refl) in
      let same = done_new (w x.to) (cases taking) in
      omega arith

  pub took_one : length now.under_way + 1 ≡ length k.under_way
  took_one = but_one x k.under_way settled.rules.once (has_from_name x k.under_way flew)
