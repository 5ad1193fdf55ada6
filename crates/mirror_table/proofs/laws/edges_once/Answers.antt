-- The law of the edges of all parts.
use Rattle.mirror_table.proofs.EdgeLaws.{pushes_hold_each, scans_hold_each}
use Rattle.mirror_table.proofs.laws.edges_once.Goals as goal

pub returns-clause-scans : goal.returns-clause-scans
returns-clause-scans c = scans_hold_each

pub returns-clause-pushes : goal.returns-clause-pushes
returns-clause-pushes c = pushes_hold_each
