use Rattle.round_laws.proofs.Vertices.{own_law, worked_law}
use Rattle.round_laws.proofs.parts.known_degrees.Goals as goal

pub returns-clause-own : goal.returns-clause-own
returns-clause-own c = own_law

pub returns-clause-worked : goal.returns-clause-worked
returns-clause-worked c = worked_law
