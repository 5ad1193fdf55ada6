-- The pushes of the first machines are dropped.
use Rattle.machine_steps.proofs.DropLaws.{AreDropped}
use Rattle.machine_steps.proofs.pushes.drop_some.Given as goal

abbrev pub invariant-machines : goal.invariant-machines
invariant-machines l = AreDropped l.round l.ground.part.at.machine l.first l.initial.held l.from l.held
