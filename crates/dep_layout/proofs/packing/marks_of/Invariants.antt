use Rattle.std.proofs.Common.{◌≡◌, ◌*◌, ◌++◌, map, drop}
use Rattle.dep_layout.specs.Spelling.{mark_bytes, mark_of}
use Rattle.dep_layout.specs.States.{states_of}
use Rattle.dep_layout.proofs.packing.marks_of.Given as goal

abbrev pub invariant-loop-at : goal.invariant-loop-at
invariant-loop-at g l = l.bytes.items ++ mark_bytes (drop (4 * l.at) (map mark_of (states_of l.states)))
    ≡ mark_bytes (map mark_of (states_of l.states))
