use Rattle.link_core.proofs.LinkOrderLaws.{delivered, events_are_over_plain, link_choices_are_possible, link_steps_reach, links_are_reached, some_link_moves}
use Rattle.link_core.proofs.laws.links_are_in_order.Goals as goal

pub returns-clause-plain : goal.returns-clause-plain
returns-clause-plain g c = events_are_over_plain g.S.Site.work

pub returns-clause-delivered : goal.returns-clause-delivered
returns-clause-delivered g c = delivered g.S.Site.work g.S.Site.sound g.met.S.Site.lawful

pub returns-clause-reached : goal.returns-clause-reached
returns-clause-reached g c = links_are_reached g.S.Site.work g.S.Site.sound

pub returns-clause-reach : goal.returns-clause-reach
returns-clause-reach g c = link_steps_reach g.S.Site.work g.S.Site.sound

pub returns-clause-moves : goal.returns-clause-moves
returns-clause-moves g c = some_link_moves g.S.Site.work g.S.Site.sound g.met.S.Site.lawful

pub returns-clause-choices : goal.returns-clause-choices
returns-clause-choices g c = link_choices_are_possible g.S.Site.work g.S.Site.sound g.met.S.Site.lawful
