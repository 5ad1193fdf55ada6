use Rattle.std.proofs.Common.{◌∙◌, arith, rules, w64}
use Rattle.std.proofs.lemmas.Int.{to_z-of_z}
use Rattle.vert_eval.specs.SourceRun.{total_after}
use Rattle.plain_run.specs.Jobs.{job_of}
use Rattle.plain_run.proofs.StartLaws.{mapped_more}
use Rattle.plain_run.proofs.totals.total_words.Goals as goal

pub loop-total-preserved : goal.loop-total-preserved
loop-total-preserved c =
    let here = to_z-of_z w64 c.total_after.result (search rules) ∙ c.total_after.ensures in
    record {
      words = mapped_more (total_after (job_of c.args.job.now) c.args.round c.args.rows.now) c.args.totals.now
          c.loop-total.total-index c.total-item.result c.loop-total.words.items c.push.new.self.items _
          c.loop-total-test.true c.total-item.is c.loop-total.invariant.words here c.push.ensures.items;
      len = omega (arith, c.push.ensures.len, c.loop-total.invariant.len);
    }
