-- The words so far.
use Rattle.std.proofs.Common.{◌≡◌, length, take}
use Rattle.symple_face.specs.Ring.{operands}
use Rattle.vertex_work.proofs.visit.write_operands.Given as goal

abbrev pub invariant-loop-i : goal.invariant-loop-i
invariant-loop-i l = record {
  first : take l.i l.words.items ≡ operands (take l.i l.places) l.env;
  count : length l.words.items ≡ length l.places;
}
