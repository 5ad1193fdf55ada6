-- The edges so far are dealt out by the chunks of their ends.
use Rattle.std.proofs.Common.{length, map, take}
use Rattle.circulant_plan.specs.Ring.{lies_in}
use Rattle.graph_table.specs.Sides.{key_of}
use Rattle.mirror_table.proofs.DealLaws.{AreDealt}
use Rattle.mirror_table.proofs.edges.dealt.Given as goal

abbrev pub invariant-loop-edge : goal.invariant-loop-edge
invariant-loop-edge l = AreDealt (λ m e. lies_in l.cuts m (key_of l.side e)) (length l.cuts)
    (take l.edge-index l.edges) (map (λ list. list.items) l.lists.items)
