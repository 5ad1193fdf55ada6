use Rattle.round_laws.proofs.Vertices.{pushed_law, refreshed_law}
use Rattle.round_laws.proofs.parts.met_vertices.Goals as goal

pub returns-clause-refreshed : goal.returns-clause-refreshed
returns-clause-refreshed c = refreshed_law

pub returns-clause-pushed : goal.returns-clause-pushed
returns-clause-pushed c = pushed_law
