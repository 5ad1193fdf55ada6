-- One sender after another is worked.
use Rattle.std.proofs.Common.{refl, sym, ◌∙◌, arith}
use Rattle.machine_parts.proofs.SpanLaws.{no_span}
use Rattle.vertex_work.proofs.ToldLaws.{can_read, few_spans, telling_all, telling_here, telling_more, telling_none, telling_same}
use Rattle.vertex_work.proofs.push.work_told.Goals as goal
use Rattle.vertex_work.proofs.push.work_told.Goals.{then-is_sender, else-is_sender}

pub senders-init : goal.senders-init
senders-init c =
    telling_none c.args.receivers.now c.args.senders.now c.args.body.now c.args.words c.args.env.now
    c.args.partials.now c.requires.can

pub is_sender-requires-clause-vertices : goal.is_sender-requires-clause-vertices
is_sender-requires-clause-vertices c =
    let few = few_spans c.args.receivers.now c.args.senders.now c.args.body.now c.args.words c.args.env.now
    c.args.partials.now c.requires.senders in
    omega (arith, few, c.args.receivers.now.few)

pub read_sends-requires : goal.read_sends-requires
read_sends-requires c =
    let few = few_spans c.args.receivers.now c.args.senders.now c.args.body.now c.args.words c.args.env.now
    c.args.partials.now c.requires.senders in
    let small = c.args.receivers.now.few in
    let low = c.senders.invariant.low in
    (omega arith, (omega arith, (omega arith, (c.requires.words, c.requires.words))))

pub work_span-requires-clause-can : goal.work_span-requires-clause-can
work_span-requires-clause-can c =
    can_read c.args.receivers.now c.args.body.now c.args.words _ c.senders.earlier _ c.senders.env c.senders.partials
    refl c.read_sends.ensures c.senders.invariant.can

pub overflow_add-earlier : goal.overflow_add-earlier
overflow_add-earlier c =
    let few = few_spans c.args.receivers.now c.args.senders.now c.args.body.now c.args.words c.args.env.now
    c.args.partials.now c.requires.senders in
    omega (arith, few, c.args.receivers.now.few, c.senders.invariant.low)

pub senders-preserved : goal.senders-preserved
senders-preserved c =
    elim c.if-is_sender.branch [
      | then-is_sender w ↦
          telling_here c.args.receivers.now c.args.senders.now c.args.body.now c.args.words c.args.env.now
          c.args.partials.now _ _ _ _ _ _ _ w.earlier-is w.env-is w.partials-is
          (telling_more c.args.receivers.now c.args.senders.now c.args.body.now c.args.words c.args.env.now
          c.args.partials.now c.requires.senders c.senders.at c.senders.earlier _ c.senders.env c.senders.partials
          c.senders-test.true c.senders.invariant (record c.senders.env { sends = w.read_sends.new.sends }) _ _ _
          (sym c.is_sender.ensures ∙ w.if-is_sender.true) refl
          w.read_sends.ensures w.work_span.ensures.added w.work_span.ensures.settled w.work_span.ensures.can refl)
      | else-is_sender w ↦
          telling_here c.args.receivers.now c.args.senders.now c.args.body.now c.args.words c.args.env.now
          c.args.partials.now _ _ _ _ _ _ _ w.earlier-is w.env-is w.partials-is
          (telling_same c.args.receivers.now c.args.senders.now c.args.body.now c.args.words c.args.env.now
          c.args.partials.now c.requires.senders c.senders.at c.senders.earlier no_span c.senders.env c.senders.partials
          c.senders-test.true c.senders.invariant (sym c.is_sender.ensures ∙ w.if-is_sender.false))
    ]

pub returns : goal.returns
returns c =
    let now = c.senders.invariant in
    record {
      added = telling_all c.args.receivers.now c.args.senders.now c.args.body.now c.args.words c.args.env.now
          c.args.partials.now c.requires.senders c.senders.at c.senders.earlier c.senders.env c.senders.partials
          c.senders-test.false now;
      settled = now.kept;
      can = now.can;
    }
