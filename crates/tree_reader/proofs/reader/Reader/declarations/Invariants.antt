use Rattle.std.proofs.Common.{◌≡◌, ◌-◌, ◌≤◌, map, vec_len}
use Rattle.vert_grammar.specs.Reading.{declaration_at, up_to}
use Rattle.vert_grammar.specs.Signs.{is_word}
use Rattle.vert_tree.specs.Views.{view_declaration}
use Rattle.tree_reader.specs.Signs.{plain}
use Rattle.tree_reader.proofs.Loops.{with_front}
use Rattle.tree_reader.proofs.reader.Reader.declarations.Given as goal

abbrev pub invariant-declarations : goal.invariant-declarations
invariant-declarations l = record {
  few : vec_len l.declarations ≤ l.limit;
  read :
      with_front (map (view_declaration l.self.names.items) l.declarations.items)
      (up_to (is_word l.keyword) (declaration_at l.keyword 64) (l.limit - vec_len l.declarations)
      (plain l.self.names.items l.tokens))
      ≡ up_to (is_word l.keyword) (declaration_at l.keyword 64) l.limit (plain l.self.names.items l.fn.tokens);
}

abbrev pub decreases-declarations : goal.decreases-declarations
decreases-declarations l = l.limit - vec_len l.declarations
