use Rattle.std.proofs.Common.{◌≡◌, length, take}
use Rattle.std.specs.Prelude.{None, replicate}
use Rattle.double_buffer.proofs.places.free_all.Given as goal

abbrev pub invariant-places : goal.invariant-places
invariant-places l = record {
  size : length l.places.items ≡ length l.initial.places.items;
  free : take l.at l.places.items ≡ replicate l.at None;
}
