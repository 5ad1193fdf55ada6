use Rattle.std.proofs.Common.{arith}
use Rattle.vert_tree.specs.declared.program.TotalDecl.{TotalDecl}
use Rattle.word_kinds.specs.Fits.{expr_fits}
use Rattle.word_kinds.proofs.FitLaws.{one_fits_more}
use Rattle.word_kinds.proofs.literals.totals_are_fit.Goals as goal

pub loop-total-preserved : goal.loop-total-preserved
loop-total-preserved c =
    one_fits_more (λ (t : TotalDecl). expr_fits t.value) c.args.totals.now c.loop-total.total-index c.total-item.result
    (omega arith)
    c.total-item.is c.loop-total.invariant c.expr_is_fit.ensures
