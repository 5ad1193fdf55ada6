use Rattle.round_laws.proofs.FoldPushes.{takes_pushes_at_once, takes_pushes_early}
use Rattle.round_laws.proofs.FoldTakes.{takes_kept}
use Rattle.round_laws.proofs.FoldUpdates.{takes_updates}
use Rattle.round_laws.proofs.FoldVerdicts.{takes_verdicts}
use Rattle.round_laws.proofs.laws.takes_are_ideal.Goals as goal

pub returns-clause-kept : goal.returns-clause-kept
returns-clause-kept c = takes_kept

pub returns-clause-updates : goal.returns-clause-updates
returns-clause-updates c = takes_updates

pub returns-clause-verdicts : goal.returns-clause-verdicts
returns-clause-verdicts c = takes_verdicts

pub returns-clause-pushes : goal.returns-clause-pushes
returns-clause-pushes c = takes_pushes_at_once

pub returns-clause-early : goal.returns-clause-early
returns-clause-early c = takes_pushes_early
