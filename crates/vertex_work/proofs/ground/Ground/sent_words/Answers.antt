use Rattle.std.proofs.Common.{◌∙◌, ap, arith}
use Rattle.vert_tree.proofs.TypedLaws.{few_slots}
use Rattle.vert_tree.specs.declared.program.Program.{Program}
use Rattle.std.proofs.Common.{vec_len}
use Rattle.vertex_work.proofs.ground.Ground.sent_words.Goals as goal

pub returns-clause-few : goal.returns-clause-few
returns-clause-few c =
    let typed = c.args.self.now.part.split.value.program in
    let few = few_slots typed.program typed.typed in
    let count = c.len.ensures ∙ ap (λ (p : Program). vec_len p.slots) c.program.ensures in
    omega (arith, count, few)
