use Rattle.std.proofs.Common.{take}
use Rattle.std.specs.List.{All}
use Rattle.symple_face.specs.Lawful.{AreCounts}
use Rattle.state_laws.proofs.running.degrees_are_counts.Given as goal

abbrev pub invariant-loop-degree : goal.invariant-loop-degree
invariant-loop-degree l = All AreCounts (take l.degree-index l.degrees)
