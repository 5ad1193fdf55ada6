-- A vertex at rest has the row that it had.
use Rattle.std.proofs.Common.{◌∙◌, sym}
use Rattle.machine_parts.specs.Flat.{state_at}
use Rattle.machine_steps.proofs.CloseLaws.{resting_row}
use Rattle.machine_steps.proofs.close.end_place.Goals as goal

pub returns-then-rests-clause-rows : goal.returns-then-rests-clause-rows
returns-then-rests-clause-rows c =
    let e = c.args.ending.now in
    resting_row e.split.now c.args.rows.now e.degrees.now e.start c.args.place e.key c.args.env.now _
    (state_at c.args.ring.now.states c.args.place) e.tail (c.requires.rests c.if-quiet.true)
    (c.requires.still c.if-quiet.true) (c.rests.ensures.still c.if-rests.true)
    (sym c.row.ensures ∙ c.rests.ensures.empty c.if-rests.true ∙ c.requires.empty)
