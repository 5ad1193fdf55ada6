use Rattle.link_core.proofs.LinkOrderLaws.{drawn_links_are_possible, link_runs_are_complete, links_are_one, some_link_is_drawn}
use Rattle.link_core.proofs.laws.drawn_links_are_possible.Goals as goal

pub returns-clause-some : goal.returns-clause-some
returns-clause-some g c = some_link_is_drawn g.S.Site.work g.S.Site.sound g.met.S.Site.lawful

pub returns-clause-possible : goal.returns-clause-possible
returns-clause-possible g c = drawn_links_are_possible g.S.Site.work g.S.Site.sound g.met.S.Site.lawful

pub returns-clause-complete : goal.returns-clause-complete
returns-clause-complete g c = link_runs_are_complete g.S.Site.work g.S.Site.sound g.met.S.Site.lawful

pub returns-clause-one : goal.returns-clause-one
returns-clause-one g c = links_are_one g.S.Site.work
