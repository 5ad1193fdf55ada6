-- The pushes of the first machines are worked.
use Rattle.machine_steps.proofs.KeptLaws.{IsKept}
use Rattle.machine_steps.proofs.begin.work_all_kept.Given as goal

abbrev pub invariant-machines : goal.invariant-machines
invariant-machines l =
    IsKept l.ground l.receivers l.held.letters l.first l.initial.env l.initial.partials l.from l.env l.partials
