use Rattle.std.proofs.Common.{refl, ap, ◌∙◌}
use Rattle.link_core.specs.Piles.{count_of}
use Rattle.link_core.proofs.WireLaws.{other_fewer, stays_right}
use Rattle.link_core.proofs.wire.Wire.lose.Goals as goal

pub settle-requires-clause-others : goal.settle-requires-clause-others
settle-requires-clause-others c = λ y other.
    stays_right c.args.self.now c.args.self.now.kept c.remove.new.self y (c.requires y)
    refl
    (ap (count_of y) c.remove.ensures.removed
    ∙ other_fewer c.args.name.now y c.args.self.now.copies c.remove.ensures.was.ascend other)
