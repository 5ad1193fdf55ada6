use Rattle.std.proofs.Common.{length, ap, ◌∙◌}
use Rattle.plain_run.proofs.StartLaws.{rows_after-length}
use Rattle.plain_run.proofs.rounds.play.Goals as goal

pub standing_after-next-requires-clause-rows : goal.standing_after-next-requires-clause-rows
standing_after-next-requires-clause-rows c = record {
  each = ap length c.in_ok-outcome.ensures.rows
      ∙ rows_after-length c.args.job.now.program.now.program c.args.standing.now.ruling _;
  wide = c.in_ok-outcome.ensures.wide;
}
