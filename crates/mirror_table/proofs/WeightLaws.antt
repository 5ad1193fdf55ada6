-- Edges have the weights that they have by target.
use Rattle.std.proofs.Common.{ℕ, List}
use Rattle.std.proofs.lemmas.List.Elements.{recursion_from_All}
use Rattle.std.proofs.lemmas.List.Sorted.{All-permutation, IsPermutation-sym}
use Rattle.std.specs.Int.{w32}
use Rattle.std.specs.Prelude.{FitsSigned, ◌<◌}
use Rattle.vert_base.specs.declared.graph.Edge.{Edge}
use Rattle.vert_base.specs.Neighbours.{AreBelow, source, target}
use Rattle.graph_table.specs.Tables.{by_target}
use Rattle.graph_table.proofs.TableLaws.{sources_below, targets_below}
use Rattle.word_kinds.specs.Fits.{HaveWeights}
use Rattle.mirror_table.proofs.MovedLaws.{two_moves}

pub weights_before : (n : ℕ) (edges : List Edge) → AreBelow n edges → HaveWeights (by_target n edges)
    → HaveWeights edges
weights_before n edges below weights =
    let targets = recursion_from_All (λ e. target e < n) edges (targets_below n edges below) in
    let sources = recursion_from_All (λ e. source e < n) edges (sources_below n edges below) in
    let moved = two_moves target source n edges targets sources in
    All-permutation (λ e. FitsSigned w32 e.weight) (by_target n edges) edges
    (IsPermutation-sym edges (by_target n edges) moved) weights
