-- The list that was taken is replaced by an empty one.
use Rattle.std.proofs.Common.{◌∙◌, [], ap}
use Rattle.std.specs.declared.alloc.Global.{Global}
use Rattle.std.specs.declared.vec.Vec.{Vec}
use Rattle.vert_base.specs.declared.graph.Edge.{Edge}
use Rattle.mirror_table.proofs.ShareLaws.{replaced}
use Rattle.mirror_table.proofs.edges.taken.Goals as goal

pub returns-clause-others : goal.returns-clause-others
returns-clause-others c = replaced c.args.lists.now.items c.args.m c.replace.new.dest []
    (ap (λ (l : Vec Edge Global). l.items) c.replace.ensures.after ∙ c.new.ensures.items)
