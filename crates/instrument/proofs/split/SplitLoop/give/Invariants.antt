use Rattle.std.proofs.Common.{◌≡◌, ◌≤◌, ◌++◌, drop, length}
use Rattle.instrument.specs.Segments.{carried_words}
use Rattle.instrument.proofs.split.SplitLoop.give.Given as goal

-- the words so far and those of what is left are those of all
abbrev pub invariant-loop-i : goal.invariant-loop-i
invariant-loop-i l = record {
  all : l.into.items ++ carried_words (drop l.i l.class-items)
      (drop l.i l.env.locals.items) ≡ carried_words l.class-items l.env.locals.items;
  few : length l.into.items ≤ l.i;
}
