use Rattle.edge_reader.proofs.UnitLaws.{units_none, units_next}
use Rattle.edge_reader.proofs.pairs.next_unit.Goals as goal

pub returns-then-bytes-size-clause-units : goal.returns-then-bytes-size-clause-units
returns-then-bytes-size-clause-units c = units_none c.args.size c.args.bytes.now c.if-bytes-size.true

pub returns-clause-units : goal.returns-clause-units
returns-clause-units c =
    rw (c.split_at.ensures.front, c.split_at.ensures.back)
    (units_next c.args.size c.args.bytes.now c.requires c.if-bytes-size.false)
