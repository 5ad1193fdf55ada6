-- The words so far and those of what is left are those of all.
use Rattle.std.proofs.Common.{◌≡◌, ◌++◌, drop, length, take}
use Rattle.symple_face.specs.CoreClose.{values_of}
use Rattle.symple_face.specs.Ring.{closing}
use Rattle.vertex_work.proofs.tail.close_words.Given as goal

abbrev pub invariant-loop-i : goal.invariant-loop-i
invariant-loop-i l = record {
  all : take l.i l.words.items ++ closing (drop l.i l.classes) (drop l.i l.words.items) l.words_left
      (values_of l.lets_left) ≡ closing l.classes l.initial.words.items l.carried (values_of l.lets);
  count : length l.words.items ≡ length l.initial.words.items;
}
