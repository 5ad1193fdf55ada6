use Rattle.std.proofs.Common.{◌≡◌, ◌∙◌, ap, sym, subst, take, drop, length, arith}
use Rattle.std.specs.Prelude.{List}
use Rattle.std.proofs.lemmas.List.{length-drop}
use Rattle.symple_face.specs.declared.degree.Degree.{Degree}
use Rattle.symple_face.specs.PartViews.{plain_of}
use Rattle.vertex_work.specs.Known.{AreDegreesOf, known_in}
use Rattle.vertex_work.proofs.KnownLaws.{degrees_stand, enough}
use Rattle.vertex_work.proofs.ground.Ground.degrees.Goals as goal

pub split_at-requires : goal.split_at-requires
split_at-requires c =
    let can = c.args.self.now.can in
    let fits = enough (plain_of c.args.self.now.part) can.whole can.ends c.args.chunk c.requires in
    let len = ap length c.deref.ensures.value in
    omega arith

pub split_at-requires-2 : goal.split_at-requires-2
split_at-requires-2 c =
    let can = c.args.self.now.can in
    let fits = enough (plain_of c.args.self.now.part) can.whole can.ends c.args.chunk c.requires in
    let len = ap length c.deref.ensures.value in
    let back = ap length c.split_at.ensures.back in
    omega (arith, length-drop c.known_before-before.result c.deref.result.now)

pub returns : goal.returns
returns c =
    let can = c.args.self.now.can in
    let part = plain_of c.args.self.now.part in
    let same : c.split_at-2.result.0.now
    ≡ take c.known_count-count.result (drop c.known_before-before.result part.degrees) =
    c.split_at-2.ensures.front
    ∙ ap (take c.known_count-count.result) (c.split_at.ensures.back
    ∙ ap (drop c.known_before-before.result) c.deref.ensures.value) in
    subst (λ (ds : List Degree). AreDegreesOf part (known_in part c.args.chunk) ds) (sym same)
    (degrees_stand part can.whole can.ends c.args.chunk c.requires c.known_before-before.result
    c.known_count-count.result c.known_before-before.ensures c.known_count-count.ensures)
