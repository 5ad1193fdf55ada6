-- One more empty list.
use Rattle.std.proofs.Common.{ℕ, List, []}
use Rattle.std.specs.declared.alloc.Global.{Global}
use Rattle.std.specs.declared.vec.Vec.{Vec}
use Rattle.vert_base.specs.declared.graph.Edge.{Edge}
use Rattle.mirror_table.proofs.SplitLaws.{map_push}
use Rattle.mirror_table.proofs.edges.empty_lists.Goals as goal

pub loop-machine-preserved : goal.loop-machine-preserved
loop-machine-preserved c =
    let none : ℕ → List Edge = λ _. [] in
    map_push (λ (l : Vec Edge Global). l.items) none c.loop-machine._machine c.loop-machine.lists.items
    c.push.new.self.items c.new.result c.loop-machine.invariant c.in_ok-push.ensures.items c.new.ensures.items
