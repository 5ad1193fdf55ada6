use Rattle.delivery_log.proofs.DrawnLaws.{told}
use Rattle.delivery_log.proofs.chooser.chosen.Goals as goal

pub returns-in-Some-clause-spelled : goal.returns-in-Some-clause-spelled
returns-in-Some-clause-spelled g c =
    let w = c.args.cluster.now.world in
    let e = c.in-Some.event in
    let reached = c.tells_reached.ensures c.requires in
    told g.S.Site.work g.S.Site.sound c.worlds_are_in_order.ensures.taken w reached e c.numbers_fit.ensures
    (((c.choices_are_in_order.ensures.unfinished w reached).played e).1 c.in-Some.ensures.played)
