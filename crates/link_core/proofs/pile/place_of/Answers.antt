use Rattle.std.proofs.Common.{of_calls, rules}
use Rattle.std.proofs.lemmas.Fn.{always_returns_same}
use Rattle.vert_base.specs.Names.{is_before}
use Rattle.link_core.specs.declared.pile.Pile.{Pile}
use Rattle.link_core.proofs.PilePlaceLaws.{parted, point_is}
use Rattle.link_core.proofs.pile.place_of.Goals as goal

pub returns-clause-value : goal.returns-clause-value
returns-clause-value c =
    let x = c.args.name.now in
    let point = c.partition_point.ensures.partitioned (λ (p : Pile). is_before p.name x)
    (always_returns_same _ _ _ (λ a r f k. search (rules, of_calls)))
    (parted x c.args.piles.now c.requires) in
    point_is x c.args.piles.now c.partition_point.result c.partition_point.ensures.bound point
