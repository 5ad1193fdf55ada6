-- The messages to the first machines were added.
use Rattle.symple_face.specs.PartViews.{plain_of}
use Rattle.machine_steps.proofs.GiftLaws.{AreAdded}
use Rattle.machine_steps.proofs.gifts.messages.Given as goal

abbrev pub invariant-messages : goal.invariant-messages
invariant-messages l =
    AreAdded (plain_of l.ground.part) l.ground.part.split.value l.totals l.rows l.dense l.round l.k l.out.items
