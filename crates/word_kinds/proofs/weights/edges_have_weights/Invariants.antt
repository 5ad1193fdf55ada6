use Rattle.std.proofs.Common.{take}
use Rattle.word_kinds.specs.Fits.{HaveWeights}
use Rattle.word_kinds.proofs.weights.edges_have_weights.Given as goal

abbrev pub invariant-loop-edge : goal.invariant-loop-edge
invariant-loop-edge l = HaveWeights (take l.edge-index l.edges)
