-- The degrees so far are those of the vertices that were counted.
use Rattle.std.proofs.Common.{◌≡◌, map}
use Rattle.std.specs.List.{range_with_len}
use Rattle.symple_face.specs.Parts.{degree_in}
use Rattle.mirror_table.proofs.degrees.degrees.Given as goal

abbrev pub invariant-loop-v : goal.invariant-loop-v
invariant-loop-v l = l.list.items ≡ map (degree_in l.table.list l.table.list) (range_with_len 0 l.v)
