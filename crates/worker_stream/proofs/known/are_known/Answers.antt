-- A degree for which no vertex is left.
use Rattle.std.proofs.Common.{◌∙◌, sym}
use Rattle.worker_stream.proofs.TestLaws.{none_left}
use Rattle.worker_stream.proofs.known.are_known.Goals as goal

pub returns-in-empty : goal.returns-in-empty
returns-in-empty c =
    sym (none_left c.args.degrees.now c.loop-degree.rest.now c.loop-degree.degree-index c.loop-degree-test.true
    c.in-empty.len_below) ∙ c.loop-degree.invariant
