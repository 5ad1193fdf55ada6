use Rattle.worker_stream.proofs.StateWalks.{first_walks}
use Rattle.worker_stream.proofs.WorkerLaws.{more_change_nothing}
use Rattle.worker_stream.proofs.laws.steps_are_enough.Goals as goal

pub returns : goal.returns
returns g c = λ part split bytes n can few.
    more_change_nothing g.S.Site.work g.S.Site.sound g.met.S.Site.lawful n 0 (g.S.Site.work.first part split) bytes
    (first_walks g.S.Site.work g.S.Site.sound g.met.S.Site.lawful part split can) few
