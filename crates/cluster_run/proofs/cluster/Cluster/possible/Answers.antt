use Rattle.std.proofs.Common.{◌≡◌, ◌∙◌, sym}
use Rattle.symple_face.specs.Cluster.{possible}
use Rattle.cluster_run.proofs.WorldChoices.{goes_on, reached_in, seen}
use Rattle.cluster_run.proofs.cluster.Cluster.possible.Goals as goal

pub returns-clause-played : goal.returns-clause-played
returns-clause-played g c =
    let reached = reached_in g.S.Site.work g.S.Site.sound _ c.args.self.now c.self.view_is c.self.invariant.0
    c.requires.on in
    let is : c.can_play.result ≡ possible c.args.self.now.world c.args.event.now =
    seen g.S.Site.state (λ w. possible w c.args.event.now) c.deref.result.now c.self.inside.sites.items
    c.self.inside.flight c.self.inside.ended c.args.self.now c.can_play.result c.deref.ensures.value c.self.view_is
    c.can_play.ensures in
    let played = (goes_on g.S.Site.work g.S.Site.sound g.met.S.Site.lawful c.args.self.now.world reached).played
    c.args.event.now in
    ((λ yes. played.0 (sym is ∙ yes)), (λ none. is ∙ played.1 none))
