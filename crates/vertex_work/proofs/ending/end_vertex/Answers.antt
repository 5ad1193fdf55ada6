-- A program has at most eight slots. Where the update is passed over, the row stays.
use Rattle.std.proofs.Common.{◌≡◌, false, None, subst, arith, rules}
use Rattle.std.specs.List.{All}
use Rattle.vert_tree.proofs.TypedLaws.{few_slots}
use Rattle.vert_eval.specs.Rounds.{row_at}
use Rattle.symple_face.specs.CoreSight.{program_of}
use Rattle.vertex_work.proofs.EndingLaws.{quiet_row}
use Rattle.vertex_work.proofs.ending.end_vertex.Goals as goal

pub take_slots-requires-clause-few : goal.take_slots-requires-clause-few
take_slots-requires-clause-few c =
    let p = program_of c.args.ending.now.split.now in
    let few = few_slots p c.args.ending.now.split.now.program.typed in
    omega (arith, few, c.len.ensures)

pub returns-then-are_valueless-clause-rows : goal.returns-then-are_valueless-clause-rows
returns-then-are_valueless-clause-rows c =
    let e = c.args.ending.now in
    let still : (row_at c.args.rows.now.rows c.args.place).active ≡ false = search rules in
    quiet_row e.split.now c.args.rows.now e.degrees.now e.start c.args.place c.args.env.now
    c.end_loop.new.emits.slots.items _ (e.still c.if-ending.true)
    still (subst (All (λ p. p.value ≡ None)) c.as_slice.ensures.value (c.are_valueless.ensures c.if-are_valueless.true))
    c.end_loop.ensures.slots
