-- A byte has no mark from place 8 on.
use Rattle.std.proofs.Common.{sym, ◌∙◌, arith}
use Rattle.std.proofs.lemmas.Bool.{le-ltb}
use Rattle.vertex_work.proofs.VisitLaws.{unmarked}
use Rattle.vertex_work.proofs.visit.is_marked.Goals as goal

pub returns-else-place-lt8 : goal.returns-else-place-lt8
returns-else-place-lt8 c =
    le-ltb c.args.place 8 (omega arith) ∙ sym (unmarked c.args.marks c.args.place (omega arith) (omega arith))
