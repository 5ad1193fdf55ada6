-- The words so far stand in the row, and the bytes of those that are left. The other rows are as they were.
use Rattle.std.proofs.Common.{◌≡◌, ◌++◌, ◌-◌, [], get_or, length, set, take}
use Rattle.dep_layout.specs.Judgement.{words_in}
use Rattle.machine_parts.proofs.ring_half.lay_words.Given as goal

abbrev pub invariant-columns : goal.invariant-columns
invariant-columns l = record {
  width : l.words.width ≡ l.initial.words.width;
  rows : l.words.rows ≡ set l.initial.words.rows l.place (get_or l.words.rows l.place []);
  count : length l.words.rows ≡ length l.initial.words.rows;
  row : length (get_or l.words.rows l.place []) ≡ l.width;
  whole : take l.column (get_or l.words.rows l.place []) ++ words_in (l.width - l.column) l.rest
      ≡ words_in l.width l.bytes;
}
