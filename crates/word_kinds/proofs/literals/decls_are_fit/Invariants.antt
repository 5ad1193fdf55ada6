use Rattle.std.proofs.Common.{◌≡◌, true, take}
use Rattle.word_kinds.specs.Fits.{decls_fit}
use Rattle.word_kinds.proofs.literals.decls_are_fit.Given as goal

abbrev pub invariant-loop-decl : goal.invariant-loop-decl
invariant-loop-decl l = decls_fit (take l.decl-index l.decls) ≡ true
