use Rattle.round_laws.proofs.Sights.{own_are_seen, own_scans_seen, told_scans_seen}
use Rattle.round_laws.proofs.laws.machines_see_the_source.Goals as goal

pub returns-clause-own : goal.returns-clause-own
returns-clause-own c = own_are_seen

pub returns-clause-here : goal.returns-clause-here
returns-clause-here c = own_scans_seen

pub returns-clause-told : goal.returns-clause-told
returns-clause-told c = told_scans_seen
