-- One degree decides, or the others do.
use Rattle.std.proofs.Common.{◌∙◌, sym}
use Rattle.worker_stream.specs.Degrees.{is_counted}
use Rattle.worker_stream.proofs.TestLaws.{all_fails, all_goes_on}
use Rattle.worker_stream.proofs.counts.are_counted.Goals as goal

pub returns-then-not-is_counted : goal.returns-then-not-is_counted
returns-then-not-is_counted c = λ into from in_counts out_counts.
    sym (all_fails (is_counted c.args.cuts.now c.args.machine into from) c.args.degrees.now
    c.loop-degree.degree-index _ c.loop-degree-test.true
    (sym (c.is_counted.ensures into from in_counts out_counts) ∙ c.if-not-is_counted.true))
    ∙ c.loop-degree.invariant into from in_counts out_counts

pub loop-degree-preserved : goal.loop-degree-preserved
loop-degree-preserved c = λ into from in_counts out_counts.
    all_goes_on (is_counted c.args.cuts.now c.args.machine into from) c.args.degrees.now
    c.loop-degree.degree-index _ c.loop-degree-test.true
    (sym (c.is_counted.ensures into from in_counts out_counts) ∙ c.if-not-is_counted.false)
    ∙ c.loop-degree.invariant into from in_counts out_counts
