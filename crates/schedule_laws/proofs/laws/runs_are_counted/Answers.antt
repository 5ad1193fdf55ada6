use Rattle.schedule_laws.proofs.CountedRuns.{runs_are_counted}
use Rattle.schedule_laws.proofs.laws.runs_are_counted.Goals as goal

pub returns : goal.returns
returns g c = runs_are_counted g.S.Site.work g.S.Site.sound g.met.S.Site.lawful
