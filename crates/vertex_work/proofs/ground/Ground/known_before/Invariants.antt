use Rattle.std.proofs.Common.{◌≡◌, ◌≤◌, ◌*◌, length}
use Rattle.std.specs.List.{flat_map, range_with_len}
use Rattle.symple_face.specs.PartViews.{plain_of}
use Rattle.vertex_work.specs.Known.{known_in}
use Rattle.vertex_work.proofs.ground.Ground.known_before.Given as goal

abbrev pub invariant-chunks : goal.invariant-chunks
invariant-chunks l = record {
  so_far : l.count ≡ length (flat_map (known_in (plain_of l.self.part)) (range_with_len 0 l.k));
  few : l.count ≤ 2097152 * l.k;
}
