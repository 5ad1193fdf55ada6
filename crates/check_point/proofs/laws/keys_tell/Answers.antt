use Rattle.check_point.proofs.KeyLaws.{keys_are}
use Rattle.check_point.proofs.laws.keys_tell.Goals as goal

pub returns : goal.returns
returns c = keys_are
