use Rattle.std.proofs.Common.{length}
use Rattle.symple_face.proofs.words.+bits_at.Given as goal

abbrev pub decreases-bits_at : goal.decreases-bits_at
decreases-bits_at l = length l.places.now
