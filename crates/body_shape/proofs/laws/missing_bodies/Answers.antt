use Rattle.body_shape.proofs.MissingLaws.{push_missing, refresh_missing, tally_missing, update_missing, verdict_missing}
use Rattle.body_shape.proofs.laws.missing_bodies.Goals as goal

pub returns-clause-refresh : goal.returns-clause-refresh
returns-clause-refresh c = refresh_missing

pub returns-clause-update : goal.returns-clause-update
returns-clause-update c = update_missing

pub returns-clause-push : goal.returns-clause-push
returns-clause-push c = push_missing

pub returns-clause-tally : goal.returns-clause-tally
returns-clause-tally c = tally_missing

pub returns-clause-verdict : goal.returns-clause-verdict
returns-clause-verdict c = verdict_missing
