use Rattle.std.proofs.Common.{sym}
use Rattle.link_core.proofs.WireChoiceLaws.{nth_ack, nth_again, nth_drop, nth_lose, nth_none}
use Rattle.link_core.proofs.choosing.nth_on_wire.Goals as goal

pub returns-in-Ok-nth_of : goal.returns-in-Ok-nth_of
returns-in-Ok-nth_of c =
    sym (nth_lose c.args.wire.now c.requires c.len-repeatable.ensures.order c.len-kept.ensures.order c.args.k
    c.in-Err.left c.in-Err.ensures.past c.in-Ok-nth_of.name c.in-Ok-nth_of.ensures.there)

pub returns-in-Ok-nth_of-2 : goal.returns-in-Ok-nth_of-2
returns-in-Ok-nth_of-2 c =
    sym (nth_again c.args.wire.now c.requires c.len-repeatable.ensures.order c.len-kept.ensures.order c.args.k
    c.in-Err.left c.in-Err.ensures.past c.in-Err-nth_of.left c.in-Err-nth_of.ensures.past
    c.in-Ok-nth_of-2.name c.in-Ok-nth_of-2.ensures.there)

pub returns-in-Ok-nth_of-3 : goal.returns-in-Ok-nth_of-3
returns-in-Ok-nth_of-3 c =
    sym (nth_ack c.args.wire.now c.requires c.len-repeatable.ensures.order c.len-kept.ensures.order c.args.k
    c.in-Err.left c.in-Err.ensures.past c.in-Err-nth_of.left c.in-Err-nth_of.ensures.past
    c.in-Err-nth_of-2.left c.in-Err-nth_of-2.ensures.past c.in-Ok-nth_of-3.name c.in-Ok-nth_of-3.ensures.there)

pub returns-in-Ok-nth_of-4 : goal.returns-in-Ok-nth_of-4
returns-in-Ok-nth_of-4 c =
    sym (nth_drop c.args.wire.now c.requires c.len-repeatable.ensures.order c.len-kept.ensures.order c.args.k
    c.in-Err.left c.in-Err.ensures.past c.in-Err-nth_of.left c.in-Err-nth_of.ensures.past
    c.in-Err-nth_of-2.left c.in-Err-nth_of-2.ensures.past c.in-Err-nth_of-3.left c.in-Err-nth_of-3.ensures.past
    c.in-Ok-nth_of-4.name c.in-Ok-nth_of-4.ensures.there)

pub returns-in-Err-nth_of-4 : goal.returns-in-Err-nth_of-4
returns-in-Err-nth_of-4 c =
    sym (nth_none c.args.wire.now c.requires c.len-repeatable.ensures.order c.len-kept.ensures.order c.args.k
    c.in-Err.left c.in-Err.ensures.past c.in-Err-nth_of.left c.in-Err-nth_of.ensures.past
    c.in-Err-nth_of-2.left c.in-Err-nth_of-2.ensures.past c.in-Err-nth_of-3.left c.in-Err-nth_of-3.ensures.past
    c.in-Err-nth_of-4.field-0 c.in-Err-nth_of-4.ensures.past)
