-- The bytes of the marks that are left come behind those that stand.
use Rattle.std.proofs.Common.{◌≡◌, ◌*◌, ◌++◌, drop}
use Rattle.dep_layout.specs.Spelling.{mark_bytes}
use Rattle.machine_parts.proofs.ring_marks.put_marks.Given as goal

abbrev pub invariant-bytes : goal.invariant-bytes
invariant-bytes l =
    l.body.items ++ mark_bytes (drop (4 * l.at) l.marks) ≡ l.initial.body.items ++ mark_bytes l.marks
