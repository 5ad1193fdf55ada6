-- Machines go through the rounds together.
use Rattle.std.proofs.Common.{◌≡◌, ◌≢◌, ℕ, ◌+◌, ◌-◌, ◌*◌, ◌<◌, ◌≤◌, true, false, ap, sym, ◌∙◌, subst, arith, ⊎_elim}
use Rattle.std.proofs.lemmas.Bool.{cases_lt, cases_eq, cases_Bool}
use Rattle.vert_base.specs.declared.value.Ruling.TheVariants.{Stop}
use Rattle.circulant_plan.specs.Names.{tally_name, verdict_name}
use Rattle.circulant_plan.specs.Standing.{offset_of}
use Rattle.circulant_plan.specs.Skeleton.{ruling_in}
use Rattle.circulant_plan.proofs.SendingLaws.{sent_at, tally_sent}
use Rattle.circulant_plan.proofs.NameLaws.{offset_small, verdict_named, tally_named, at_judge}
use Rattle.skeleton_laws.proofs.Kept.{View}
use Rattle.skeleton_laws.proofs.Standings.{standing_of}
use Rattle.skeleton_laws.proofs.Settled.{view_of, zero_round, FitsBy, SettledState, course_in, mode_in, modes_in, agrees_in, over_place}

module _ (state : SettledState) where
  open state use {ring, few, some, blocks, k, settled}

  pub fit : FitsBy (course_in state) k
  fit = settled.by (mode_in k) (modes_in k) (agrees_in k)

  abbrev pub v : View
  v = view_of k

  pub zero_lt : 0 < ring.machines
  zero_lt = omega arith

  pub offset_at : (j : ℕ) → j < ring.machines → offset_of (standing_of k.standings j).spot < 256
  offset_at j lt =
      let s = standing_of k.standings j in
      offset_small (course_in state) j (mode_in k s.round) s.spot (fit.has j lt)

  pub past_close : (j q : ℕ) → j < ring.machines → j ≢ 0 → 256 * q + 254 < v.place j → 256 * q + 256 ≤ v.place j
  past_close j q lt ne past =
      let s = standing_of k.standings j in
      let off = offset_at j lt in
      ⊎_elim
      (λ (early : v.place j < 256 * q + 256).
      let e : offset_of s.spot ≡ 255 = omega arith in
      absurd (ne (at_judge (course_in state) j (mode_in k s.round) s.spot (fit.has j lt) e)))
      (λ (le : 256 * q + 256 ≤ v.place j). le)
      (cases_lt (v.place j) (256 * q + 256))

  -- where machine 0 is in a round, all are
  pub together : (q j : ℕ) → 1 ≤ q → j < ring.machines → 256 * q ≤ v.place 0 → 256 * q ≤ v.place j
  together q j later lt zero_in =
      ⊎_elim
      (λ (e : j ≡ 0). subst (λ i. 256 * q ≤ v.place i) (sym e) zero_in)
      (λ (ne : j ≢ 0).
      let was : sent_at (tally_name (q - 1) j) < v.place j =
      fit.fits.needs_sent (tally_name (q - 1) j) (tally_named (course_in state) (q - 1) j lt ne)
      (omega arith) in
      let t = tally_sent (q - 1) j in
      let n = past_close j (q - 1) lt ne (omega arith) in
      omega arith)
      (cases_eq j 0)

  -- and where one is past its begin, machine 0 is in it
  pub zero_from : (q i : ℕ) → 1 ≤ q → i < ring.machines → 256 * q < v.place i → 256 * q ≤ v.place 0
  zero_from q i later lt past =
      ⊎_elim
      (λ (e : i ≡ 0). let same : v.place i ≡ v.place 0 = ap v.place e in omega arith)
      (λ (ne : i ≢ 0).
      let was : 256 * (q - 1) + 255 < v.place 0 =
      fit.fits.needs_sent (verdict_name q i) (verdict_named (course_in state) q i later lt ne)
      (omega arith) in
      omega arith)
      (cases_eq i 0)

  pub zero_reaches : (q : ℕ) → 256 * q ≤ v.place 0 → q ≤ zero_round k
  zero_reaches q le = let off = offset_at 0 zero_lt in omega arith

  -- a round that one machine has begun and another hasn't left was ruled to take place
  pub ruled_at : (q i j : ℕ) → 1 ≤ q → i < ring.machines → j < ring.machines → 256 * q < v.place i →
      v.place j < 256 * q + 256 → ruling_in k.rulings q ≢ Stop
  ruled_at q i j later lt_i lt_j past not_left stop =
      let zero_in = zero_from q i later lt_i past in
      let reached = zero_reaches q zero_in in
      ⊎_elim
      (λ (more : q < zero_round k).
      let all = together (q + 1) j (omega arith) lt_j (omega arith) in
      absurd (omega arith))
      (λ (here : zero_round k ≤ q).
      let same : q ≡ zero_round k = omega arith in
      let stop_here : ruling_in k.rulings (zero_round k) ≡ Stop = ap (ruling_in k.rulings) (sym same) ∙ stop in
      ⊎_elim
      (λ (over : v.over 0 ≡ true).
      let at = over_place (standing_of k.standings 0) over in
      let behind = fit.fits.over_last 0 i zero_lt lt_i over in
      absurd (omega arith))
      (λ (on : v.over 0 ≡ false). settled.rules.zero_going on (omega arith) stop_here)
      (cases_Bool (v.over 0)))
      (cases_lt q (zero_round k))
