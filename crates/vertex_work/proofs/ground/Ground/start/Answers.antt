use Rattle.std.proofs.Common.{ap, ◌∙◌, arith}
use Rattle.symple_face.specs.PartViews.{plain_of}
use Rattle.vert_base.specs.Ends.{start_of}
use Rattle.vertex_work.proofs.KnownLaws.{start_few}
use Rattle.vertex_work.proofs.ground.Ground.start.Goals as goal

pub returns-clause-few : goal.returns-clause-few
returns-clause-few c =
    let can = c.args.self.now.can in
    let few = start_few (plain_of c.args.self.now.part) can.whole can.ends can.place in
    let here = c.start.ensures ∙ ap (start_of c.args.self.now.part.cuts) c.machine.ensures.number in
    omega arith
