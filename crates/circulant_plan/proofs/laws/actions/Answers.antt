use Rattle.circulant_plan.proofs.StandingLaws.{actions_lead_on}
use Rattle.circulant_plan.proofs.NeedLaws.{needed_is_sent}
use Rattle.circulant_plan.proofs.GiftLaws.{sent_is_needed}
use Rattle.circulant_plan.proofs.RoundLaws.{rounds_lead_on}
use Rattle.circulant_plan.proofs.CountLaws.{rounds_are_counted}
use Rattle.circulant_plan.proofs.laws.actions.Goals as goal

pub returns-clause-on : goal.returns-clause-on
returns-clause-on c = actions_lead_on

pub returns-clause-needed : goal.returns-clause-needed
returns-clause-needed c = needed_is_sent

pub returns-clause-sent : goal.returns-clause-sent
returns-clause-sent c = sent_is_needed

pub returns-clause-rounds : goal.returns-clause-rounds
returns-clause-rounds c = rounds_lead_on

pub returns-clause-counts : goal.returns-clause-counts
returns-clause-counts c = rounds_are_counted
