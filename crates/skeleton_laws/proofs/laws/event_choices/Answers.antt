use Rattle.skeleton_laws.proofs.ChoiceLaws.{runs_carry}
use Rattle.skeleton_laws.proofs.LeastLaws.{missing_is_least, rising_are_one}
use Rattle.skeleton_laws.proofs.OrderLaws.{choices_are_possible, missing_is_unfinished, plain_is_unfinished, plain_events_end}
use Rattle.skeleton_laws.proofs.laws.event_choices.Goals as goal

pub returns-clause-choices : goal.returns-clause-choices
returns-clause-choices c = choices_are_possible

pub returns-clause-missing : goal.returns-clause-missing
returns-clause-missing c = missing_is_unfinished

pub returns-clause-least : goal.returns-clause-least
returns-clause-least c = missing_is_least

pub returns-clause-rising : goal.returns-clause-rising
returns-clause-rising c = rising_are_one

pub returns-clause-plain : goal.returns-clause-plain
returns-clause-plain c = plain_is_unfinished

pub returns-clause-finish : goal.returns-clause-finish
returns-clause-finish c = plain_events_end

pub returns-clause-runs : goal.returns-clause-runs
returns-clause-runs c = runs_carry
