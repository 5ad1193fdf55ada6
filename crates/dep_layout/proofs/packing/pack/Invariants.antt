use Rattle.std.proofs.Common.{◌≡◌, ◌++◌, drop}
use Rattle.std.specs.List.{flat_map}
use Rattle.dep_layout.specs.Spelling.{sent_bytes, spelled}
use Rattle.dep_layout.specs.States.{states_of}
use Rattle.dep_layout.proofs.packing.pack.Given as goal

abbrev pub invariant-loop-state : goal.invariant-loop-state
invariant-loop-state g l = l.bytes.items ++ flat_map sent_bytes (drop l.state-index (states_of l.states))
    ≡ spelled (states_of l.states)
