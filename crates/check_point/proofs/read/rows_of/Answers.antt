use Rattle.std.proofs.Common.{◌≤◌, ◌++◌, ◌∷◌, [], List, ap, sym, ◌∙◌, length, map, take, arith}
use Rattle.std.proofs.lemmas.List.{length-map, take_all}
use Rattle.vert_base.specs.declared.value.Row.{Row}
use Rattle.body_shape.specs.Refresh.{rows_read}
use Rattle.symple_face.specs.CoreSight.{told_row}
use Rattle.check_point.proofs.ReadLaws.{rows_count, told_more}
use Rattle.check_point.proofs.read.rows_of.Goals as goal

pub loop-place-preserved : goal.loop-place-preserved
loop-place-preserved c =
    let i = c.loop-place.place in
    let told = map told_row (rows_read c.args.fields c.args.vertices c.args.body.now) in
    c.in_ok-push.ensures.items
    ∙ ap (λ (rows : List Row). rows ++ c.row_of.result ∷ []) c.loop-place.invariant
    ∙ ap (λ (row : Row). take i told ++ row ∷ []) c.row_of.ensures
    ∙ sym (told_more c.args.fields c.args.vertices i c.args.body.now c.loop-place-test.true)

pub returns : goal.returns
returns c =
    let rows = rows_read c.args.fields c.args.vertices c.args.body.now in
    let count = rows_count c.args.fields c.args.vertices c.args.body.now in
    let all : length (map told_row rows) ≤ c.loop-place.place =
    omega (arith, count, length-map rows told_row, c.loop-place-test.false) in
    c.loop-place.invariant ∙ take_all c.loop-place.place (map told_row rows) all
