use Rattle.cluster_run.proofs.WorldChoices.{reached_in}
use Rattle.cluster_run.proofs.cluster.Cluster.tells_reached.Goals as goal

pub returns : goal.returns
returns g c = reached_in g.S.Site.work g.S.Site.sound _ c.args.self.now c.self.view_is c.self.invariant.0
