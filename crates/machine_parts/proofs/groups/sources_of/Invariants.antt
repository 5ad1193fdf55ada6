-- The sources so far.
use Rattle.std.proofs.Common.{◌≡◌, map, take}
use Rattle.vert_base.specs.Neighbours.{source}
use Rattle.machine_parts.proofs.groups.sources_of.Given as goal

abbrev pub invariant-loop-edge : goal.invariant-loop-edge
invariant-loop-edge l = map (λ v. v.0) l.sources.items ≡ map source (take l.edge-index l.edges)
