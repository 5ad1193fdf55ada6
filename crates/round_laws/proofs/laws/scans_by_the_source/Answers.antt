use Rattle.round_laws.proofs.IdealScans.{fresh_scans_ideal, scans_ideal}
use Rattle.round_laws.proofs.Scans.{scans_afresh, scans_the_ring}
use Rattle.round_laws.proofs.laws.scans_by_the_source.Goals as goal

pub returns-clause-ring : goal.returns-clause-ring
returns-clause-ring c = scans_the_ring

pub returns-clause-afresh : goal.returns-clause-afresh
returns-clause-afresh c = scans_afresh

pub returns-clause-ideal : goal.returns-clause-ideal
returns-clause-ideal c = scans_ideal

pub returns-clause-fresh : goal.returns-clause-fresh
returns-clause-fresh c = fresh_scans_ideal
