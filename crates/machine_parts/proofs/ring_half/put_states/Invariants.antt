-- The words of the vertices that are left come behind those that stand.
use Rattle.std.proofs.Common.{◌≡◌, ◌++◌, drop}
use Rattle.std.specs.List.{flat_map}
use Rattle.dep_layout.specs.Spelling.{sent_bytes}
use Rattle.machine_parts.proofs.ring_half.put_states.Given as goal

abbrev pub invariant-states : goal.invariant-states
invariant-states l = l.body.items ++ flat_map sent_bytes (drop l.place l.half.states)
    ≡ l.initial.body.items ++ flat_map sent_bytes l.half.states
