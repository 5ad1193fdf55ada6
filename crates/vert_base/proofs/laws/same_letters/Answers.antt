use Rattle.vert_base.proofs.LetterLaws.{same_law}
use Rattle.vert_base.proofs.laws.same_letters.Goals as goal

pub returns : goal.returns
returns c = same_law
