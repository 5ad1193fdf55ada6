use Rattle.std.proofs.Common.{◌≡◌, map, length, take}
use Rattle.vert_eval.specs.SourceRun.{total_after}
use Rattle.plain_run.specs.Jobs.{job_of}
use Rattle.plain_run.proofs.totals.total_words.Given as goal

abbrev pub invariant-loop-total : goal.invariant-loop-total
invariant-loop-total l = record {
  words : l.words.items ≡ map (total_after (job_of l.job) l.round l.rows) (take l.total-index l.totals);
  len : length l.words.items ≡ l.total-index;
}
