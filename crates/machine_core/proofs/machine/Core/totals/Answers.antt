use Rattle.std.proofs.Common.{◌≤◌, ◌∙◌, ap, arith, lit<, vec_len}
use Rattle.vert_tree.proofs.TypedLaws.{few_totals}
use Rattle.vert_tree.specs.declared.program.Program.{Program}
use Rattle.machine_core.proofs.machine.Core.totals.Goals as goal

pub read_words-requires : goal.read_words-requires
read_words-requires c =
    let typed = c.args.self.now.ground.part.split.value.program in
    let few = few_totals typed.program typed.typed in
    let count = c.len.ensures ∙ ap (λ (p : Program). vec_len p.totals) c.program.ensures in
    let low : c.len.result ≤ 4 = omega (arith, count, few) in
    (lit< tt, low)
