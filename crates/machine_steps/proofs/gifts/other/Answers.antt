-- The machines before this one come first.
use Rattle.std.proofs.Common.{arith, sym}
use Rattle.machine_steps.proofs.GiftLaws.{other_behind, other_below}
use Rattle.machine_steps.proofs.gifts.other.Goals as goal

pub returns-then-k-machine-clause-at : goal.returns-then-k-machine-clause-at
returns-then-k-machine-clause-at c =
    let place = c.args.ground.now.part.at in
    sym (other_below place.machines place.machine c.args.k
    (omega (arith, c.if-k-machine.true, c.machine.ensures.number)))

pub returns-else-k-machine-clause-at : goal.returns-else-k-machine-clause-at
returns-else-k-machine-clause-at c =
    let place = c.args.ground.now.part.at in
    sym (other_behind place.machines place.machine c.args.k
    (omega (arith, c.if-k-machine.false, c.machine.ensures.number)) c.requires)
