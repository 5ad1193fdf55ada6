-- The partials of the first slots are written.
use Rattle.std.proofs.Common.{◌≡◌}
use Rattle.vertex_work.proofs.StoreLaws.{stored}
use Rattle.vertex_work.proofs.push.store.Given as goal

abbrev pub invariant-loop-column : goal.invariant-loop-column
invariant-loop-column l = l.partials ≡ stored l.place l.column l.emits.slots.items l.initial.partials
