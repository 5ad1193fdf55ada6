-- One own vertex after another.
use Rattle.std.proofs.Common.{◌+◌, ◌-◌, ◌<◌, ◌∙◌, length, map, ap, arith}
use Rattle.std.specs.Prelude.{slice_index}
use Rattle.std.specs.List.{range_with_len}
use Rattle.std.proofs.lemmas.List.FromFn.{length-range_with_len}
use Rattle.vert_base.specs.Ends.{start_of}
use Rattle.vert_eval.specs.Rounds.{empty_row}
use Rattle.symple_face.specs.CoreFirst.{first_row_of}
use Rattle.symple_face.specs.PartViews.{plain_of}
use Rattle.symple_face.specs.Parts.{chunk_vertices}
use Rattle.machine_parts.specs.Flat.{RowTable}
use Rattle.vertex_work.proofs.KnownLaws.{own_is_known}
use Rattle.vertex_work.proofs.PassLaws.{pass_done, pass_length, pass_more}
use Rattle.vertex_work.proofs.first.fill_rows.Goals as goal

pub put_first_row-requires-clause-place : goal.put_first_row-requires-clause-place
put_first_row-requires-clause-place c =
    let part = plain_of c.args.ground.now.part in
    let first : RowTable = c.args.rows.now in
    let many = pass_length (first_row_of part c.args.ground.now.part.split.value)
    (start_of part.ends part.at.machine) c.places.place first.rows c.places.rows.rows c.places.invariant.rows
    (omega (arith, c.places-test.true, c.len-place-end.ensures)) in
    omega (arith, many, c.places-test.true, c.len-place-end.ensures)

pub put_first_row-requires-clause-degree : goal.put_first_row-requires-clause-degree
put_first_row-requires-clause-degree c =
    let part = plain_of c.args.ground.now.part in
    let low : c.places.place < length (chunk_vertices part.ends part.at.machine) =
    omega (arith, c.places-test.true, c.len-place-end.ensures, c.requires.count) in
    own_is_known part c.machine.result c.degrees-degrees.result.now c.places.place c.machine.ensures.number
    c.degrees-degrees.ensures low

pub places-preserved : goal.places-preserved
places-preserved c =
    let part = plain_of c.args.ground.now.part in
    let first : RowTable = c.args.rows.now in
    let f = first_row_of part c.args.ground.now.part.split.value in
    let a = start_of part.ends part.at.machine in
    let lt : c.places.place < length first.rows = omega (arith, c.places-test.true, c.len-place-end.ensures) in
    record {
      rows = ap (λ (t : RowTable). t.rows) c.put_first_row.ensures.rows
          ∙ pass_more f a c.places.place first.rows c.places.rows.rows c.places.invariant.rows (omega arith) empty_row
          lt
          (f (a + c.places.place)) (λ j. f (a + c.places.place));
      width = ap (λ (t : RowTable). t.width) c.put_first_row.ensures.rows ∙ c.places.invariant.width;
      blank = c.put_first_row.ensures.blank;
    }

pub returns : goal.returns
returns c =
    let part = plain_of c.args.ground.now.part in
    let first : RowTable = c.args.rows.now in
    let f = first_row_of part c.args.ground.now.part.split.value in
    let a = start_of part.ends part.at.machine in
    let n = slice_index part.ends part.at.machine - a in
    let rows = pass_done f a c.places.place first.rows c.places.rows.rows c.places.invariant.rows
    (omega (arith, c.places.auto.place-end, c.len-place-end.ensures))
    (omega (arith, c.places-test.false, c.len-place-end.ensures))
    ∙ ap (λ k. map f (range_with_len a k)) (c.requires.count ∙ length-range_with_len a n) in
    λ j. record { width = c.places.invariant.width j; rows = rows j }
