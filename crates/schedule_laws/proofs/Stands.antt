-- What stands before each round of a run: words, totals of their number, and what follows of its rows.
use Rattle.std.proofs.Common.{◌≡◌, ◌⊎◌, inl, inr, ◌<◌, ◌≤◌, ◌+◌, ◌-◌, ◌^◌, ℕ, zero, suc, length, refl, sym, ap, subst, ◌∙◌, arith, ⊎_elim}
use Rattle.std.proofs.lemmas.Bool.{cases_lt}
use Rattle.std.proofs.lemmas.List.{length-map}
use Rattle.vert_tree.proofs.TypedLaws.{few_rounds}
use Rattle.word_kinds.specs.Fits.{IsFitting, StandsInWords}
use Rattle.value_laws.proofs.WholeRuns.{goes_on_in_words}
use Rattle.vert_eval.specs.SourceRun.{standing_after}
use Rattle.symple_face.specs.CoreSight.{total_count}
use Rattle.symple_face.specs.Source.{Source, stand, stand_after}
use Rattle.schedule_laws.specs.Runs.{IsSourceRun}

-- the round is one behind which the source's run says what stands
abbrev pub IsBegun : Source → ℕ → Type 0
IsBegun src round = (src.base ≡ 1) ⊎ (src.base ≤ round)

module _ (src : Source) (run : IsSourceRun src) where
  pub fitting : IsFitting src.job.program
  fitting = subst IsFitting run.program (run.can_run 0 run.ends.0).program

  pub few : src.job.program.limit ≤ 10000
  few = few_rounds src.job.program fitting.typed

  -- ---- words
  words_after : (count : ℕ) → src.base + count ≤ 2 ^ 32 → StandsInWords src.job (stand_after src count)
  words_after zero small = run.stands
  words_after (suc count) small =
      goes_on_in_words src.job (src.base + count) (stand_after src count) fitting run.graph (omega (arith, small))
      (words_after count (omega (arith, small)))

  words_from : (round : ℕ) → (count : ℕ) → count ≡ round - src.base → round ≤ 2 ^ 31 →
      StandsInWords src.job (stand_after src count)
  words_from round zero is small = run.stands
  words_from round (suc count) is small = words_after (suc count) (omega (arith, is, small))

  pub stands_in_words : (round : ℕ) → round ≤ 2 ^ 31 → StandsInWords src.job (stand src round)
  stands_in_words round small = words_from round (round - src.base) refl small

  -- ---- totals
  totals_of : (count : ℕ) → length (stand_after src count).totals ≡ length src.job.program.totals.items
  totals_of zero = run.totals
  totals_of (suc count) = length-map src.job.program.totals.items _

  pub total_length : (round : ℕ) → length (stand src round).totals ≡ total_count src.split
  total_length round =
      totals_of (round - src.base) ∙ sym (ap (λ p. length p.totals.items) run.program)

  -- ---- what follows
  later : (round count : ℕ) → count ≡ round - src.base → src.base ≤ round →
      stand_after src (suc count) ≡ standing_after src.job round (stand_after src (suc count)).rows
  later round count is begun =
      let here : src.base + count ≡ round = omega (arith, is, begun) in
      ap (λ r. standing_after src.job r (stand_after src (suc count)).rows) here

  abbrev Follows : ℕ → ℕ → Type 0
  Follows round count =
      stand_after src count ≡ standing_after src.job round (stand_after src count).rows

  -- the totals and the ruling that stand behind a round are those of its rows
  pub after_is : (round : ℕ) → IsBegun src round →
      stand src (round + 1) ≡ standing_after src.job round (stand src (round + 1)).rows
  after_is round begun =
      ⊎_elim (λ (le : src.base ≤ round). behind le)
      (λ (lt : round < src.base).
      ⊎_elim
      (λ (one : src.base ≡ 1).
      let none : 0 ≡ round + 1 - src.base = omega (arith, one, lt) in
      let first : 0 ≡ round = omega (arith, one, lt) in
      subst (Follows round) none (subst (λ r. Follows r 0) first (run.first one)))
      (λ (le : src.base ≤ round). absurd (omega (arith, le, lt))) begun)
      (le_or_lt src.base round)
    where
      behind : src.base ≤ round → Follows round (round + 1 - src.base)
      behind le =
          let next : suc (round - src.base) ≡ round + 1 - src.base = omega (arith, le) in
          subst (Follows round) next (later round (round - src.base) refl le)

      le_or_lt : (a b : ℕ) → (a ≤ b) ⊎ (b < a)
      le_or_lt a b = ⊎_elim (λ (lt : b < a). inr lt) (λ (le : a ≤ b). inl le) (cases_lt b a)
