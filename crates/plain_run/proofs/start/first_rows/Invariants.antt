use Rattle.std.proofs.Common.{◌≡◌, map}
use Rattle.std.specs.List.{range_with_len}
use Rattle.vert_eval.specs.SourceRun.{first_row}
use Rattle.plain_run.specs.Jobs.{job_of}
use Rattle.plain_run.proofs.start.first_rows.Given as goal

abbrev pub invariant-loop-v : goal.invariant-loop-v
invariant-loop-v l = l.rows.items ≡ map (first_row (job_of l.job)) (range_with_len 0 l.v)
