use Rattle.std.proofs.Common.{◌∙◌}
use Rattle.symple_face.specs.PartViews.{plain_of}
use Rattle.symple_face.specs.Work.{plain_start}
use Rattle.cluster_run.proofs.Restarted.{can_begin}
use Rattle.cluster_run.proofs.resume.make_at.Goals as goal

pub restart-requires-clause-made : goal.restart-requires-clause-made
restart-requires-clause-made g c =
    (can_begin g.S.Site.work g.S.Site.sound g.met.S.Site.lawful (plain_of c.args.part) c.args.part.split.value
    (plain_start c.args.start.now) (g.S.Site.state c.in_ok-site.site) c.in_ok-site.ensures c.requires).made

pub restart-requires-clause-start : goal.restart-requires-clause-start
restart-requires-clause-start g c =
    (can_begin g.S.Site.work g.S.Site.sound g.met.S.Site.lawful (plain_of c.args.part) c.args.part.split.value
    (plain_start c.args.start.now) (g.S.Site.state c.in_ok-site.site) c.in_ok-site.ensures c.requires).starts

pub returns : goal.returns
returns g c =
    c.restart.ensures
    ∙ (can_begin g.S.Site.work g.S.Site.sound g.met.S.Site.lawful (plain_of c.args.part) c.args.part.split.value
    (plain_start c.args.start.now) (g.S.Site.state c.in_ok-site.site) c.in_ok-site.ensures c.requires).begins
