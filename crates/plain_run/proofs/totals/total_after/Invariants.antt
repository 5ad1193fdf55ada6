use Rattle.std.proofs.Common.{◌≡◌, [], map, fold}
use Rattle.std.specs.List.{range_with_len}
use Rattle.slot_merge.specs.Combine.{combined_of, neutral}
use Rattle.vert_eval.specs.Rounds.{env_at}
use Rattle.vert_eval.specs.SourceRun.{scene_of}
use Rattle.vert_eval.specs.Values.{value_of}
use Rattle.plain_run.specs.Jobs.{job_of}
use Rattle.plain_run.proofs.totals.total_after.Given as goal

abbrev pub invariant-loop-v : goal.invariant-loop-v
invariant-loop-v l =
    l.word ≡ fold (combined_of l.total.op) (neutral l.total.op)
    (map (λ v. value_of l.total.value (env_at (scene_of (job_of l.job) l.fn.round l.fn.rows []) v []))
    (range_with_len 0 l.v))
