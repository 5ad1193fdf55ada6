use Rattle.std.proofs.Common.{◌∙◌, ap, arith, vec_len}
use Rattle.vert_tree.proofs.TypedLaws.{few_fields}
use Rattle.vert_tree.specs.declared.program.Program.{Program}
use Rattle.machine_core.proofs.making.first_rows.Goals as goal

pub still-requires-clause-width : goal.still-requires-clause-width
still-requires-clause-width c =
    let typed = c.args.ground.now.part.split.value.program in
    let few = few_fields typed.program typed.typed in
    let count = c.len-width.ensures ∙ ap (λ (p : Program). vec_len p.fields) c.program.ensures in
    omega (arith, count, few)
