-- How two runs end alike, with the partials that their emissions leave.
use Rattle.std.specs.Prelude.{◌≡◌, ℕ, ℤ, List, drop}
use Rattle.slot_merge.specs.declared.partial.Partial.{Partial}
use Rattle.slot_merge.specs.Partials.{with_emissions}
use Rattle.vert_eval.specs.Runs.{Act, Ran}
use Rattle.vert_code.specs.declared.instr.Instr.{Instr}
use Rattle.vert_code.specs.Machine.{goes_on}

-- two runs end alike, each with the partials that stood when it began and the key of its words
pub record SameEnd (key : ℕ) (ps : List Partial) (r : Ran) (other_key : ℕ) (qs : List Partial) (s : Ran) : Type 0 where
  pub env : r.env ≡ s.env
  pub flow : r.flow ≡ s.flow
  pub partials : with_emissions key ps r.emitted ≡ with_emissions other_key qs s.emitted

-- what is left to run of a list from a place on, with this stack
abbrev pub rest_of : List Instr → ℕ → List ℤ → Act
rest_of list place stack env = goes_on place (drop place list) 0 stack env
