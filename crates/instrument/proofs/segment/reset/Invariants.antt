use Rattle.std.proofs.Common.{◌≡◌, ◌++◌, drop, length, take}
use Rattle.instrument.specs.Segments.{with_neutral}
use Rattle.instrument.proofs.segment.reset.Given as goal

-- the words so far and those of what is left are those of all
abbrev pub invariant-loop-i : goal.invariant-loop-i
invariant-loop-i l = record {
  all : take l.i l.words.items ++ with_neutral (drop l.i l.classes) (drop l.i l.words.items) ≡ with_neutral
      l.classes l.initial.words.items;
  count : length l.words.items ≡ length l.initial.words.items;
}
