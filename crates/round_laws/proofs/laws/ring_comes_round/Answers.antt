use Rattle.round_laws.proofs.Steps.{begins_afresh, by_machines, grows}
use Rattle.round_laws.proofs.laws.ring_comes_round.Goals as goal

pub returns-clause-grows : goal.returns-clause-grows
returns-clause-grows c = λ p d s env h. grows s d env p h

pub returns-clause-machines : goal.returns-clause-machines
returns-clause-machines c = λ p d s env h. by_machines s d env p h

pub returns-clause-afresh : goal.returns-clause-afresh
returns-clause-afresh c = λ p d s env h free. begins_afresh s d env p h free
