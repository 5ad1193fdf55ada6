use Rattle.dep_message.proofs.BoundLaws.{bounded_law}
use Rattle.dep_message.proofs.laws.bounded_bodies.Goals as goal

pub returns : goal.returns
returns c = bounded_law
