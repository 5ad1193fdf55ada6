-- One own vertex after another.
use Rattle.std.proofs.Common.{◌≡◌, ◌+◌, ◌-◌, ◌<◌, ◌∙◌, length, map, ap, sym, arith}
use Rattle.std.specs.Prelude.{slice_index}
use Rattle.std.specs.List.{range_with_len}
use Rattle.std.proofs.lemmas.List.FromFn.{length-range_with_len}
use Rattle.vert_base.specs.declared.value.Row.{Row}
use Rattle.vert_base.specs.Ends.{start_of}
use Rattle.vert_eval.specs.Rounds.{empty_row, row_at}
use Rattle.symple_face.specs.PartViews.{plain_of}
use Rattle.machine_parts.specs.Flat.{RowTable}
use Rattle.vertex_work.proofs.PassLaws.{pass_done, pass_length, pass_more}
use Rattle.machine_core.proofs.StartLaws.{own_within, row_read}
use Rattle.machine_core.proofs.starting.copy_rows.Goals as goal

pub overflow_add-before : goal.overflow_add-before
overflow_add-before c =
    let within = own_within (plain_of c.args.ground.now.part) c.args.ground.now.part.split.value c.args.ground.now.can
    c.start-before.result c.places.place c.args.all.now c.start-before.ensures.start c.requires.all
    (omega (arith, c.places-test.true, c.len-place-end.ensures, c.requires.count)) in
    omega (arith, within, c.requires.all, c.args.ground.now.can.whole.within)

pub offset_bounds-all-before : goal.offset_bounds-all-before
offset_bounds-all-before c =
    let within = own_within (plain_of c.args.ground.now.part) c.args.ground.now.part.split.value c.args.ground.now.can
    c.start-before.result c.places.place c.args.all.now c.start-before.ensures.start c.requires.all
    (omega (arith, c.places-test.true, c.len-place-end.ensures, c.requires.count)) in
    omega (arith, within, c.requires.all, c.args.ground.now.can.whole.within)

pub bounds-all-before : goal.bounds-all-before
bounds-all-before c =
    own_within (plain_of c.args.ground.now.part) c.args.ground.now.part.split.value c.args.ground.now.can
    c.start-before.result c.places.place c.args.all.now c.start-before.ensures.start c.requires.all
    (omega (arith, c.places-test.true, c.len-place-end.ensures, c.requires.count))

pub write-requires-clause-place : goal.write-requires-clause-place
write-requires-clause-place c =
    let first : RowTable = c.args.rows.now in
    let a = start_of c.args.ground.now.part.cuts c.args.ground.now.part.at.machine in
    let many = pass_length (row_at c.args.all.now) a c.places.place first.rows c.places.rows.rows
    c.places.invariant.rows (omega (arith, c.places-test.true, c.len-place-end.ensures)) in
    omega (arith, many, c.places-test.true, c.len-place-end.ensures)

pub write-requires-clause-width : goal.write-requires-clause-width
write-requires-clause-width c =
    let v = c.start-before.result + c.places.place in
    let lt = own_within (plain_of c.args.ground.now.part) c.args.ground.now.part.split.value c.args.ground.now.can
    c.start-before.result c.places.place c.args.all.now c.start-before.ensures.start c.requires.all
    (omega (arith, c.places-test.true, c.len-place-end.ensures, c.requires.count)) in
    ap (λ (r : Row). length r.words.items) c.index-all-before.is ∙ c.requires.wide v c.index-all-before.result lt
    ∙ sym c.places.invariant.width

pub places-preserved : goal.places-preserved
places-preserved c =
    let first : RowTable = c.args.rows.now in
    let f = row_at c.args.all.now in
    let a = start_of c.args.ground.now.part.cuts c.args.ground.now.part.at.machine in
    let v = c.start-before.result + c.places.place in
    let low = own_within (plain_of c.args.ground.now.part) c.args.ground.now.part.split.value c.args.ground.now.can
    c.start-before.result c.places.place c.args.all.now c.start-before.ensures.start c.requires.all
    (omega (arith, c.places-test.true, c.len-place-end.ensures, c.requires.count)) in
    let lt : c.places.place < length first.rows = omega (arith, c.places-test.true, c.len-place-end.ensures) in
    let new : c.index-all-before.result ≡ f (a + c.places.place) =
    row_read c.args.all.now v c.index-all-before.result low c.index-all-before.is
    ∙ ap (λ n. f (n + c.places.place)) c.start-before.ensures.start in
    record {
      rows = ap (λ (t : RowTable). t.rows) c.write.ensures
          ∙ pass_more f a c.places.place first.rows c.places.rows.rows c.places.invariant.rows (omega arith) empty_row
          lt
          c.index-all-before.result new;
      width = ap (λ (t : RowTable). t.width) c.write.ensures ∙ c.places.invariant.width;
    }

pub returns : goal.returns
returns c =
    let first : RowTable = c.args.rows.now in
    let f = row_at c.args.all.now in
    let m = c.args.ground.now.part.at.machine in
    let a = start_of c.args.ground.now.part.cuts m in
    let n = slice_index c.args.ground.now.part.cuts m - a in
    let rows = pass_done f a c.places.place first.rows c.places.rows.rows c.places.invariant.rows
    (omega (arith, c.places.auto.place-end, c.len-place-end.ensures))
    (omega (arith, c.places-test.false, c.len-place-end.ensures))
    ∙ ap (λ k. map f (range_with_len a k)) (c.requires.count ∙ length-range_with_len a n) in
    λ j. record { width = c.places.invariant.width j; rows = rows j }
