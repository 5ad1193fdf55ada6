use Rattle.std.proofs.Common.{◌≡◌, ◌-◌, ◌≤◌, map, vec_len}
use Rattle.vert_grammar.specs.Reading.{is_total, total_at, up_to}
use Rattle.vert_tree.specs.Views.{view_total}
use Rattle.tree_reader.specs.Signs.{plain}
use Rattle.tree_reader.proofs.Loops.{with_front}
use Rattle.tree_reader.proofs.reader.Reader.totals.Given as goal

abbrev pub invariant-totals : goal.invariant-totals
invariant-totals l = record {
  few : vec_len l.totals ≤ 4;
  read :
      with_front (map (view_total l.self.names.items) l.totals.items)
      (up_to (is_total l.version) (total_at 64) (4 - vec_len l.totals) (plain l.self.names.items l.tokens))
      ≡ up_to (is_total l.version) (total_at 64) 4 (plain l.self.names.items l.fn.tokens);
}

abbrev pub decreases-totals : goal.decreases-totals
decreases-totals l = 4 - vec_len l.totals
