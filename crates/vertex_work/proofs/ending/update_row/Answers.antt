-- The update runs in the environment that is seen at the vertex.
use Rattle.std.proofs.Common.{◌<◌, ◌∙◌, ap, length, arith}
use Rattle.std.proofs.Math.ListN.{length-map}
use Rattle.vert_code.specs.declared.instr.Block.TheVariants.{UpdateBody}
use Rattle.vert_code.specs.Blocks.{list_of}
use Rattle.vert_code.specs.Valid.{list_names}
use Rattle.vert_eval.specs.declared.environment.Env.{Env}
use Rattle.symple_face.specs.CoreClose.{values_of}
use Rattle.symple_face.specs.CoreSight.{program_of}
use Rattle.vert_eval.specs.SourceRun.{with_row}
use Rattle.vert_eval.specs.Rounds.{row_at}
use Rattle.std.proofs.Common.{List, Option, ℤ}
use Rattle.vertex_work.specs.Closing.{own_view}
use Rattle.vertex_work.proofs.EndingLaws.{row_written, seen_counts, seen_there, update_ran, view_width}
use Rattle.vertex_work.proofs.ending.update_row.Goals as goal

pub step_block_over-requires-clause-names : goal.step_block_over-requires-clause-names
step_block_over-requires-clause-names c =
    let split = c.args.ending.now.split.now in
    let rows = c.args.rows.now.rows in
    let degrees = c.args.ending.now.degrees.now in
    let start = c.args.ending.now.start in
    let place = c.args.place in
    let env = c.args.env.now in
    let values = values_of c.args.emits.now.slots.items in
    let within : c.args.place < length c.args.ending.now.degrees.now = omega (arith, c.requires.can.each) in
    let put = λ (vs : List (Option ℤ)). let e : Env = record env { slots = record { items = vs } } in e in
    let read = c.read_row_of.ensures.row
    ∙ ap (λ vs. with_row (row_at rows place) (put vs)) (c.put_values.ensures ∙ ap values_of c.as_slice.ensures.value) in
    let seen = seen_there rows degrees start place env c.read_row_of.new.env c.enter.new.env values 0 _ within read
    c.enter.ensures.entered in
    ap (λ k. list_names k (list_of c.args.ending.now.code.now UpdateBody))
    (seen_counts split (own_view rows degrees start env) _ 0 values c.enter.new.env seen
    (view_width rows degrees start place env _ (c.read_row_of.ensures.width ∙ c.requires.can.width))
    (length-map c.args.emits.now.slots.items (λ q. q.value) ∙ c.requires.slots) c.requires.can.totals)
    ∙ c.requires.can.code.names UpdateBody

pub returns-clause-rows : goal.returns-clause-rows
returns-clause-rows c =
    let split = c.args.ending.now.split.now in
    let rows = c.args.rows.now.rows in
    let degrees = c.args.ending.now.degrees.now in
    let start = c.args.ending.now.start in
    let place = c.args.place in
    let env = c.args.env.now in
    let values = values_of c.args.emits.now.slots.items in
    let within : c.args.place < length c.args.ending.now.degrees.now = omega (arith, c.requires.can.each) in
    let put = λ (vs : List (Option ℤ)). let e : Env = record env { slots = record { items = vs } } in e in
    let read = c.read_row_of.ensures.row
    ∙ ap (λ vs. with_row (row_at rows place) (put vs)) (c.put_values.ensures ∙ ap values_of c.as_slice.ensures.value) in
    let seen = seen_there rows degrees start place env c.read_row_of.new.env c.enter.new.env values 0 _ within read
    c.enter.ensures.entered in
    row_written c.args.rows.now c.write.new.self place _ _ c.write.ensures
    (update_ran (program_of split) c.args.ending.now.code.now c.enter.new.env c.step_block_over.new.env _
    c.requires.can.code
    seen c.step_block_over.ensures.env)
