use Rattle.std.proofs.Common.{◌≡◌, ◌+◌, drop, length, slice_get}
use Rattle.symple_face.specs.Cluster.{ready_from}
use Rattle.link_core.proofs.choosing.nth_ready.Given as goal

abbrev pub invariant-loop-machine : goal.invariant-loop-machine
invariant-loop-machine g l = record {
  rest : slice_get (ready_from l.machine (drop l.machine l.cluster.world.sites)) l.left
      ≡ slice_get (ready_from 0 l.cluster.world.sites) l.k;
  count : l.left + length (ready_from 0 l.cluster.world.sites)
      ≡ l.k + length (ready_from l.machine (drop l.machine l.cluster.world.sites));
}
