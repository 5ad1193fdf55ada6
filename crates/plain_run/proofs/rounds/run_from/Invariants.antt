use Rattle.std.proofs.Common.{◌+◌, ◌-◌, map}
use Rattle.vert_eval.specs.SourceRun.{resumed_run, rounds_from}
use Rattle.plain_run.specs.Jobs.{IsStanding, job_of, standing_of}
use Rattle.plain_run.specs.Told.{told_of}
use Rattle.plain_run.proofs.RoundsLaws.{IsLeft}
use Rattle.plain_run.proofs.rounds.run_from.Given as goal

-- the rounds that are left end as the whole run does
abbrev pub invariant-loop-number : goal.invariant-loop-number
invariant-loop-number l = record {
  left : IsLeft l.job.kept (map told_of l.rounds.items)
      (rounds_from (l.job.program.now.program.limit + 1 - l.number) (job_of l.job) l.number (standing_of l.standing))
      (resumed_run (job_of l.job) 1 (standing_of l.fn.first));
  stands : IsStanding l.job l.standing;
}
