use Rattle.std.proofs.Common.{ap, ◌∙◌}
use Rattle.link_core.specs.Piles.{count_of}
use Rattle.link_core.proofs.WireLaws.{other_more, stays_right}
use Rattle.link_core.proofs.wire.Wire.send.Goals as goal

pub settle-requires-clause-others : goal.settle-requires-clause-others
settle-requires-clause-others c = λ y other.
    stays_right c.args.self.now c.add-2.new.self c.add.new.self y (c.requires y)
    (ap (count_of y) c.in_ok-add-2.ensures.added
    ∙ other_more c.args.name.now y c.args.self.now.kept c.in_ok-add-2.ensures.was.ascend other)
    (ap (count_of y) c.in_ok-add.ensures.added
    ∙ other_more c.args.name.now y c.args.self.now.copies c.in_ok-add.ensures.was.ascend other)
