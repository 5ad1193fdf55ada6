use Rattle.std.proofs.Common.{◌≡◌, ◌≤◌, ◌-◌, ◌*◌, length}
use Rattle.std.specs.List.{list_all}
use Rattle.dep_layout.specs.Spelling.{are_typed}
use Rattle.dep_layout.specs.Judgement.{rows_in}
use Rattle.dep_layout.proofs.words.are_typed.Given as goal

abbrev pub invariant-rows : goal.invariant-rows
invariant-rows l = record {
  room : 8 * l.width * (l.rows - l.counter) ≤ length l.rest;
  whole : list_all (are_typed l.bools) (rows_in l.width (l.rows - l.counter) l.rest)
      ≡ list_all (are_typed l.bools) (rows_in l.width l.rows l.words);
}
