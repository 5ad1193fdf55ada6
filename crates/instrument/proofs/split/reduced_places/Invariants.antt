use Rattle.std.proofs.Common.{◌≡◌, ◌≤◌, ◌++◌, drop, length}
use Rattle.instrument.specs.Loops.{places_where, is_reduced}
use Rattle.instrument.proofs.split.reduced_places.Given as goal

-- the places so far and those of what is left are those of all
abbrev pub invariant-loop-i : goal.invariant-loop-i
invariant-loop-i l = record {
  all : l.places.items ++ places_where is_reduced l.i
      (drop l.i l.class-items) ≡ places_where is_reduced 0 l.class-items;
  few : length l.places.items ≤ l.i;
}
