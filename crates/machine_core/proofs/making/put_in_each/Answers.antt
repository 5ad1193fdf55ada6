-- One place after another.
use Rattle.std.proofs.Common.{◌<◌, ◌∙◌, [], length, ap, sym, arith, replicate}
use Rattle.flat_table.specs.Grids.{Rows}
use Rattle.slot_merge.specs.declared.partial.Partial.{Partial}
use Rattle.machine_steps.proofs.BlankLaws.{same_for_each}
use Rattle.vertex_work.proofs.PassLaws.{pass_done, pass_length, pass_more}
use Rattle.machine_core.proofs.making.put_in_each.Goals as goal

pub put_row-requires : goal.put_row-requires
put_row-requires c =
    let first : Rows Partial = c.args.grid.now in
    let many = pass_length (λ v. c.args.row.now) 0 c.places.place first.rows c.places.grid.rows
    c.places.invariant.rows (omega (arith, c.places-test.true, c.requires.count)) in
    record {
      place = omega (arith, many, c.places-test.true, c.requires.count);
      width = c.requires.width ∙ sym c.places.invariant.width;
    }

pub places-preserved : goal.places-preserved
places-preserved c =
    let first : Rows Partial = c.args.grid.now in
    let lt : c.places.place < length first.rows = omega (arith, c.places-test.true, c.requires.count) in
    record {
      rows = ap (λ (g : Rows Partial). g.rows) c.put_row.ensures
          ∙ pass_more (λ v. c.args.row.now) 0 c.places.place first.rows c.places.grid.rows c.places.invariant.rows
          (omega arith) [] lt c.args.row.now (λ j. c.args.row.now);
      width = ap (λ (g : Rows Partial). g.width) c.put_row.ensures ∙ c.places.invariant.width;
    }

pub returns : goal.returns
returns c =
    let first : Rows Partial = c.args.grid.now in
    let rows = pass_done (λ v. c.args.row.now) 0 c.places.place first.rows c.places.grid.rows c.places.invariant.rows
    (omega (arith, c.places.auto.place-end, c.requires.count))
    (omega (arith, c.places-test.false, c.requires.count))
    ∙ same_for_each c.args.row.now 0 (length first.rows)
    ∙ ap (λ n. replicate n c.args.row.now) (sym c.requires.count) in
    λ j. record { width = c.places.invariant.width j; rows = rows j }
