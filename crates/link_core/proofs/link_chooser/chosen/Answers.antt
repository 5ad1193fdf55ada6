use Rattle.link_core.proofs.LinkOrderLaws.{free}
use Rattle.link_core.proofs.LinkReached.{possible_told}
use Rattle.link_core.proofs.link_chooser.chosen.Goals as goal

pub returns-in-Some-clause-spelled : goal.returns-in-Some-clause-spelled
returns-in-Some-clause-spelled g c =
    let l = c.args.links.now.links in
    let e = c.in-Some.event in
    let reached = c.tells_reached.ensures c.requires in
    possible_told g.S.Site.work g.S.Site.sound g.met.S.Site.lawful l reached e c.numbers_fit.ensures
    ((free g.S.Site.work g.S.Site.sound g.met.S.Site.lawful l reached e).1 c.in-Some.ensures.played)
