use Rattle.worker_stream.proofs.PromptLaws.{plain_law, prompt_law}
use Rattle.worker_stream.proofs.laws.prompt_runs_are_served.Goals as goal

pub returns : goal.returns
returns g c = record {
  served = prompt_law g.S.Site.work g.S.Site.sound g.met.S.Site.lawful;
  plain = plain_law g.S.Site.work;
}
