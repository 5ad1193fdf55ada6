use Rattle.cluster_run.proofs.WorldChoices.{choices_there, goes_on, missing_there, plain_ends}
use Rattle.cluster_run.proofs.laws.choices_are_in_order.Goals as goal

pub returns : goal.returns
returns g c = record {
  choices = λ w r. choices_there g.S.Site.work g.S.Site.sound g.met.S.Site.lawful w r;
  missing = λ w r. missing_there g.S.Site.work g.S.Site.sound g.met.S.Site.lawful w r;
  unfinished = λ w r. goes_on g.S.Site.work g.S.Site.sound g.met.S.Site.lawful w r;
  plain = λ w r. plain_ends g.S.Site.work g.S.Site.sound g.met.S.Site.lawful w r;
}
