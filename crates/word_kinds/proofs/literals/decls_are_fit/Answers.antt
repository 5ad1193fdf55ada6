use Rattle.std.proofs.Common.{arith}
use Rattle.vert_tree.specs.declared.program.Decl.{Decl}
use Rattle.word_kinds.specs.Fits.{expr_fits}
use Rattle.word_kinds.proofs.FitLaws.{one_fits_more}
use Rattle.word_kinds.proofs.literals.decls_are_fit.Goals as goal

pub loop-decl-preserved : goal.loop-decl-preserved
loop-decl-preserved c =
    one_fits_more (λ (d : Decl). expr_fits d.value) c.args.decls.now c.loop-decl.decl-index c.decl-item.result
    (omega arith) c.decl-item.is
    c.loop-decl.invariant c.expr_is_fit.ensures
