use Rattle.std.proofs.Common.{◌≡◌, ◌++◌, drop, length, take}
use Rattle.instrument.specs.Segments.{received_over}
use Rattle.instrument.proofs.segment.receive.Given as goal

-- the words so far and those of what is left are those of all
abbrev pub invariant-loop-i : goal.invariant-loop-i
invariant-loop-i l = record {
  all : take l.i l.words.items ++ received_over (drop l.i l.classes) l.left
      (drop l.i l.words.items) ≡ received_over l.classes l.received l.initial.words.items;
  count : length l.words.items ≡ length l.initial.words.items;
}
