-- The words of the first places are added.
use Rattle.std.proofs.Common.{◌≡◌, take}
use Rattle.body_shape.specs.Update.{sent_at}
use Rattle.machine_parts.specs.Updates.{told_values}
use Rattle.machine_parts.proofs.UpdateLaws.{added}
use Rattle.machine_parts.proofs.updates.add_sent.Given as goal

abbrev pub invariant-loop-column : goal.invariant-loop-column
invariant-loop-column l =
    l.partials ≡ added l.key l.place (take l.column (told_values (sent_at l.words.slots l.words.reduced l.update)))
    l.initial.partials
