use Rattle.std.proofs.Common.{◌≡◌, ◌≤◌, ◌-◌, ◌*◌, ◌++◌, length, take}
use Rattle.dep_layout.specs.Judgement.{words_in}
use Rattle.dep_layout.proofs.words.read_words.Given as goal

abbrev pub invariant-loop-i : goal.invariant-loop-i
invariant-loop-i g l = record {
  count : length l.at ≡ g.row.W;
  room : 8 * (g.row.W - l.i) ≤ length l.rest;
  whole : take l.i l.at ++ words_in (g.row.W - l.i) l.rest ≡ words_in g.row.W l.bytes;
}
