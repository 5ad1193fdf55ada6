use Rattle.std.proofs.Common.{◌≡◌, ◌-◌}
use Rattle.body_shape.specs.Fit.{are_updates}
use Rattle.dep_message.proofs.updates.are_updates.Given as goal

abbrev pub invariant-vertices : goal.invariant-vertices
invariant-vertices l = are_updates l.slots l.reduced (l.vertices - l.counter) l.rest
    ≡ are_updates l.slots l.reduced l.vertices l.body
