use Rattle.std.proofs.Common.{◌∙◌, ap, arith, vec_len}
use Rattle.vert_tree.proofs.TypedLaws.{few_totals}
use Rattle.vert_tree.specs.declared.program.Program.{Program}
use Rattle.vertex_work.proofs.ground.Ground.few_totals.Goals as goal

pub returns-clause-few : goal.returns-clause-few
returns-clause-few c =
    let typed = c.args.self.now.part.split.value.program in
    let few = few_totals typed.program typed.typed in
    let count = c.len.ensures ∙ ap (λ (p : Program). vec_len p.totals) c.program.ensures in
    omega (arith, count, few)
