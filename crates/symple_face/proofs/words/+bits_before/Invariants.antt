use Rattle.std.proofs.Common.{length}
use Rattle.symple_face.proofs.words.+bits_before.Given as goal

abbrev pub decreases-bits_before : goal.decreases-bits_before
decreases-bits_before l = length l.decls.now
