use Rattle.std.proofs.Common.{arith}
use Rattle.link_core.proofs.WireChoiceLaws.{wire_length}
use Rattle.link_core.proofs.choosing.wire_count.Goals as goal

pub returns-clause-count : goal.returns-clause-count
returns-clause-count c =
    let all = wire_length c.args.wire.now c.requires c.len-2.ensures.order c.len-kept.ensures.order in
    let copies = c.len.ensures.count in
    let repeats = c.len-2.ensures.count in
    let acks = c.len-3.ensures.count in
    omega arith
