use Rattle.delivery_log.proofs.DrawnLaws.{drawn_ends, drawn_is_complete, drawn_is_one, plain_is_complete}
use Rattle.delivery_log.proofs.laws.chosen_runs_are_complete.Goals as goal

pub returns-clause-ends : goal.returns-clause-ends
returns-clause-ends g c =
    drawn_ends g.S.Site.work g.S.Site.sound c.worlds_are_in_order.ensures.reach c.choices_are_in_order.ensures.choices
    c.worlds_are_in_order.ensures.nearer c.choices_are_in_order.ensures.unfinished

pub returns-clause-one : goal.returns-clause-one
returns-clause-one g c = drawn_is_one g.S.Site.work

pub returns-clause-drawn : goal.returns-clause-drawn
returns-clause-drawn g c =
    drawn_is_complete g.S.Site.work g.S.Site.sound c.worlds_are_in_order.ensures.reach
    c.choices_are_in_order.ensures.choices

pub returns-clause-plain : goal.returns-clause-plain
returns-clause-plain g c =
    plain_is_complete g.S.Site.work g.S.Site.sound c.worlds_are_in_order.ensures.reach
    c.choices_are_in_order.ensures.choices
