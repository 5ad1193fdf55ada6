-- The numbers of events of some runs, from the counts.
use Rattle.std.proofs.Common.{◌*◌, ◌-◌, ◌≡◌, ℕ, ◌+◌, ◌≤◌, List, [], ◌∷◌, refl, ap, sym, ◌∙◌, arith}
use Rattle.vert_base.specs.declared.value.Ruling.TheVariants.{Stop, Dense, Sparse}
use Rattle.vert_base.specs.declared.value.Ruling.{Ruling}
use Rattle.circulant_plan.specs.Counts.{goes_in, takes_in}
use Rattle.skeleton_laws.specs.Counted.{over_rounds, RunsHave, WorkedRuns, carrying_ring}
use Rattle.skeleton_laws.proofs.RunCounts.{complete_runs_are_counted}

-- the rounds are those of the rulings but for the last
abbrev behind : List (ℕ × Ruling) → List (ℕ × Ruling)
behind [] = []
behind (made ∷ more) = more

module _ (p goes takes : ℕ) (last : ℕ × Ruling) (rounds : List (ℕ × Ruling)) where
  run_has : 1 ≤ p → p ≤ 64 → p + 1 + over_rounds (goes_in (carrying_ring p)) rounds ≡ goes →
      2 * (p - 1) + over_rounds (takes_in (carrying_ring p)) rounds ≡ takes →
      RunsHave (carrying_ring p) (last ∷ rounds) goes takes
  run_has some few goes_are takes_are blocks es complete made =
      let ring = carrying_ring p in
      let counted = complete_runs_are_counted ring blocks es some few complete in
      let same : counted.rounds ≡ rounds = ap behind (sym counted.rulings ∙ made) in (
        counted.goes ∙ ap (λ q. p + 1 + over_rounds (goes_in ring) q) same ∙ goes_are,
        counted.takes ∙ ap (λ q. 2 * (p - 1) + over_rounds (takes_in ring) q) same ∙ takes_are,
      )

pub worked_runs : WorkedRuns
worked_runs = record {
  one_machine =
      run_has 1 15 0 (4, Stop) ((3, Sparse) ∷ (2, Dense) ∷ (1, Dense) ∷ []) (omega arith)
      (omega arith) refl refl;
  two_machines =
      run_has 2 34 30 (4, Stop) ((3, Sparse) ∷ (2, Dense) ∷ (1, Dense) ∷ []) (omega arith)
      (omega arith) refl refl;
  three_machines = run_has 3 54 72 (3, Stop) ((2, Dense) ∷ (1, Dense) ∷ []) (omega arith) (omega arith) refl refl;
  one_plain = record { complete = refl; goes_are = refl; takes_are = refl };
  two_plain = record { complete = refl; goes_are = refl; takes_are = refl };
  three_plain = record { complete = refl; goes_are = refl; takes_are = refl };
}
