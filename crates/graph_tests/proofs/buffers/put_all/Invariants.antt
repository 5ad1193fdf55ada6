use Rattle.std.proofs.Common.{◌≡◌}
use Rattle.double_buffer.specs.Held.{AreOfRound}
use Rattle.graph_tests.proofs.buffers.put_all.Given as goal

abbrev pub invariant-loop-at : goal.invariant-loop-at
invariant-loop-at l = record { machines : l.slots.machines ≡ l.ring.machines; held : AreOfRound 5 l.m l.slots.letters }

abbrev pub invariant-loop-k : goal.invariant-loop-k
invariant-loop-k l = record { machines : l.slots.machines ≡ l.ring.machines; held : AreOfRound 5 l.m l.slots.letters }
