-- The words of the first places are added.
use Rattle.std.proofs.Common.{◌≡◌, ◌++◌, take}
use Rattle.machine_parts.proofs.UpdateLaws.{added}
use Rattle.vertex_work.proofs.partials.add_sent.Given as goal

abbrev pub invariant-columns : goal.invariant-columns
invariant-columns l = l.partials ≡ added l.key l.place (take l.column (l.values ++ l.operands)) l.initial.partials
