-- The bytes so far are those of the ends that were read.
use Rattle.std.proofs.Common.{◌≡◌, ◌++◌, take}
use Rattle.std.specs.List.{flat_map}
use Rattle.vert_base.specs.HeaderBytes.{four_bytes}
use Rattle.worker_stream.proofs.spelling.push_ends.Given as goal

abbrev pub invariant-loop-end : goal.invariant-loop-end
invariant-loop-end l = l.out.items ≡ l.fn.out.items ++ flat_map four_bytes (take l.end-index l.ends)
