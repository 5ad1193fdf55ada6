-- The values at one vertex more.
use Rattle.std.proofs.Common.{◌<◌, length, ap, ◌∙◌, arith}
use Rattle.machine_parts.specs.Counting.{values_added}
use Rattle.machine_parts.proofs.TotalLaws.{own_here, settled_here, totals_more}
use Rattle.machine_parts.proofs.totals.own_totals.Goals as goal

pub places-preserved : goal.places-preserved
places-preserved c =
    let rows = c.args.rows.now.rows in
    let degrees = c.args.degrees.now in
    let start = c.args.start in
    let place = c.places.place in
    let first = c.args.env.now in
    let now = c.places.env in
    let read = c.read_row_of.new.env in
    let env = c.enter.new.env in
    let totals = c.args.totals.now in
    let so_far = c.places.invariant in
    let within : c.places.place < length c.args.degrees.now =
    omega (arith, c.places-test.true, c.len-place-end.ensures, c.requires.each) in
    let here = own_here rows degrees start place first now read env _ so_far.env c.read_row_of.ensures.row
    c.enter.ensures.entered within in
    record {
      env = settled_here rows degrees start place first now read env _ so_far.env c.read_row_of.ensures.row
          c.enter.ensures.entered;
      words = c.with_values-words.ensures ∙ ap (values_added env totals) (c.as_slice.ensures.value ∙ so_far.words)
          ∙ totals_more rows degrees start place first env totals here;
    }
