use Rattle.vert_tree.proofs.TypedLaws.{stop_stands}
use Rattle.plain_run.proofs.totals.stops_after.Goals as goal

pub test_after-requires-clause-names : goal.test_after-requires-clause-names
test_after-requires-clause-names c = stop_stands c.args.job.now.program.now.program c.args.job.now.program.now.typed
    c.in-Some.test c.in-Some.is
