-- The edges that are left, over the partials so far, come to the same as all over those at first.
use Rattle.std.proofs.Common.{drop}
use Rattle.vertex_work.proofs.PushLaws.{IsAdding}
use Rattle.vertex_work.proofs.push.work_span.Given as goal

abbrev pub invariant-loop-edge : goal.invariant-loop-edge
invariant-loop-edge l =
    IsAdding l.receivers l.initial.env l.initial.partials l.edge-items (drop l.edge-index l.edge-items) l.env l.partials
