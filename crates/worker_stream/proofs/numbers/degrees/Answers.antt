-- One more of the degrees, and then all of them.
use Rattle.std.proofs.Common.{arith, rules}
use Rattle.worker_stream.specs.PartFiles.{degree_of_unit}
use Rattle.worker_stream.proofs.UnitLaws.{units_done, units_more}
use Rattle.worker_stream.proofs.numbers.degrees.Goals as goal

pub loop-unit-preserved : goal.loop-unit-preserved
loop-unit-preserved c =
    units_more degree_of_unit 12 c.loop-unit.rest.now c.in-Some.unit.now c.in-Some.behind.now _
    c.loop-unit.list.items _ _
    (omega arith) c.in-Some.ensures.cut c.loop-unit.invariant c.degree_in.ensures c.in_ok-push.ensures.items

pub returns : goal.returns
returns c =
    units_done degree_of_unit 12 c.loop-unit.rest.now _ c.loop-unit.list.items (search rules) c.loop-unit.invariant
