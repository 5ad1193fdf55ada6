-- One sender after another.
use Rattle.std.proofs.Common.{arith}
use Rattle.machine_parts.proofs.SpanLaws.{no_span}
use Rattle.vertex_work.proofs.OwnLaws.{own_high, own_low, sending_all, sending_more, sending_none}
use Rattle.vertex_work.proofs.own.work_own.Goals as goal

pub loop-span-init : goal.loop-span-init
loop-span-init c =
    sending_none c.args.sparse.now c.args.receivers.now c.args.senders.now c.args.env.now c.args.partials.now
    c.requires.names c.requires.can

pub work_sender-requires : goal.work_sender-requires
work_sender-requires c =
    let rs = c.args.receivers.now in
    let low = own_low c.args.sparse.now rs c.args.senders.now c.args.env.now c.args.partials.now c.requires.senders
    c.loop-span.span-index no_span c.loop-span-test.true in
    let high = own_high c.args.sparse.now rs c.args.senders.now c.args.env.now c.args.partials.now c.requires.senders
    c.loop-span.span-index no_span c.loop-span-test.true in
    record {
      span = c.requires.senders.each c.loop-span.span-index no_span c.loop-span-test.true;
      low = low;
      row = omega (arith, low, high, rs.whole);
      degree = omega (arith, low, high, rs.whole, rs.each);
      few = c.requires.few;
      names = c.loop-span.invariant.names;
      can = c.loop-span.invariant.can;
    }

pub loop-span-preserved : goal.loop-span-preserved
loop-span-preserved c =
    sending_more c.args.sparse.now c.args.receivers.now c.args.senders.now c.args.env.now c.args.partials.now
    c.requires.senders c.loop-span.span-index _ c.loop-span.env c.work_sender.new.env c.loop-span.partials
    c.work_sender.new.partials c.loop-span-test.true c.loop-span.invariant c.work_sender.ensures.added
    c.work_sender.ensures.settled c.work_sender.ensures.can

pub returns : goal.returns
returns c =
    let now = c.loop-span.invariant in
    record {
      added = sending_all c.args.sparse.now c.args.receivers.now c.args.senders.now c.args.env.now c.args.partials.now
          c.requires.senders c.loop-span.span-index c.loop-span.env c.loop-span.partials c.loop-span-test.false now;
      settled = now.kept;
      can = now.can;
    }
