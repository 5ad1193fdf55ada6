-- One edge after another.
use Rattle.std.proofs.Common.{length, sym, subst}
use Rattle.vert_base.specs.Neighbours.{source}
use Rattle.vertex_work.specs.Pushing.{CanReceive}
use Rattle.vertex_work.specs.Received.{IsReceived}
use Rattle.vertex_work.proofs.PushLaws.{adding_all, adding_more, adding_none, span_received}
use Rattle.vertex_work.proofs.push.work_span.Goals as goal

pub loop-edge-init : goal.loop-edge-init
loop-edge-init c =
    adding_none c.args.receivers.now c.args.env.now c.args.partials.now c.edges_in-edge-items.result.now c.requires.can

pub work_edge-requires : goal.work_edge-requires
work_edge-requires c =
    let rs = c.args.receivers.now in
    record {
      received = span_received (IsReceived rs.start (length rs.degrees.now) (length rs.rows.now.rows) rs.vertices)
          c.args.span.now.vertex.0 rs.edges.now c.edges_in-edge-items.result.now c.loop-edge.edge-index _ rs.received
          (c.edges_in-edge-items.ensures source c.requires.span) c.loop-edge-test.true;
      can = subst (λ sends. CanReceive c.args.receivers.now (length sends) c.loop-edge.env c.loop-edge.partials)
          (sym c.loop-edge.invariant.same) c.loop-edge.invariant.can;
    }

pub loop-edge-preserved : goal.loop-edge-preserved
loop-edge-preserved c =
    adding_more c.args.receivers.now c.args.env.now c.args.partials.now c.edges_in-edge-items.result.now
    c.loop-edge.edge-index _ c.loop-edge.env c.work_edge.new.env c.loop-edge.partials c.work_edge.new.partials
    c.loop-edge-test.true c.work_edge.ensures.added c.work_edge.ensures.settled c.work_edge.ensures.sends
    c.work_edge.ensures.can c.loop-edge.invariant

pub returns : goal.returns
returns c =
    let now = c.loop-edge.invariant in
    record {
      added = adding_all c.args.receivers.now c.args.env.now c.args.partials.now c.edges_in-edge-items.result.now _
          c.loop-edge.edge-index c.loop-edge.env c.loop-edge.partials c.loop-edge-test.false
          (c.edges_in-edge-items.ensures source c.requires.span) now;
      settled = now.kept;
      sends = now.same;
      can = now.can;
    }
