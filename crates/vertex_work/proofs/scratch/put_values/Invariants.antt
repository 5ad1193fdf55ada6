-- The values so far.
use Rattle.std.proofs.Common.{◌≡◌, length, take}
use Rattle.symple_face.specs.CoreClose.{values_of}
use Rattle.vertex_work.proofs.scratch.put_values.Given as goal

abbrev pub invariant-loop-i : goal.invariant-loop-i
invariant-loop-i l = record {
  first : take l.i l.values.items ≡ values_of (take l.i l.partials);
  count : length l.values.items ≡ length l.partials;
}
