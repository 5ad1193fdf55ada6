use Rattle.std.proofs.Common.{◌≡◌, ◌≤◌, ◌+◌, drop, length}
use Rattle.symple_face.specs.Cluster.{ready_from}
use Rattle.link_core.proofs.choosing.ready_count.Given as goal

abbrev pub invariant-loop-machine : goal.invariant-loop-machine
invariant-loop-machine g l = record {
  few : l.count ≤ l.machine;
  rest : l.count + length (ready_from l.machine (drop l.machine l.cluster.world.sites))
      ≡ length (ready_from 0 l.cluster.world.sites);
}
