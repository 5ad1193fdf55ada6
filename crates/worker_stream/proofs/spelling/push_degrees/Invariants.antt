-- The bytes so far are those of the degrees that were read.
use Rattle.std.proofs.Common.{◌≡◌, ◌++◌, take}
use Rattle.std.specs.List.{flat_map}
use Rattle.worker_stream.specs.PartFiles.{degree_bytes}
use Rattle.worker_stream.proofs.spelling.push_degrees.Given as goal

abbrev pub invariant-loop-degree : goal.invariant-loop-degree
invariant-loop-degree l = l.out.items ≡ l.fn.out.items ++ flat_map degree_bytes (take l.degree-index l.degrees)
