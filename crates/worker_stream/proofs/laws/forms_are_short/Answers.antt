use Rattle.worker_stream.proofs.ShortLaws.{forms_short}
use Rattle.worker_stream.proofs.laws.forms_are_short.Goals as goal

pub returns : goal.returns
returns c = forms_short
