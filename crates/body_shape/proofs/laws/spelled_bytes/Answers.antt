use Rattle.body_shape.proofs.ByteLaws.{few_places, push_bytes, push_example, refresh_bytes, tally_bytes, update_bytes, update_example, verdict_bytes}
use Rattle.body_shape.proofs.laws.spelled_bytes.Goals as goal

pub returns-clause-refresh : goal.returns-clause-refresh
returns-clause-refresh c = refresh_bytes

pub returns-clause-update : goal.returns-clause-update
returns-clause-update c = update_bytes

pub returns-clause-push : goal.returns-clause-push
returns-clause-push c = push_bytes

pub returns-clause-tally : goal.returns-clause-tally
returns-clause-tally c = tally_bytes

pub returns-clause-verdict : goal.returns-clause-verdict
returns-clause-verdict c = verdict_bytes

pub returns-clause-few : goal.returns-clause-few
returns-clause-few c = few_places

pub returns-clause-updated : goal.returns-clause-updated
returns-clause-updated c = update_example

pub returns-clause-pushed : goal.returns-clause-pushed
returns-clause-pushed c = push_example
