use Rattle.std.proofs.Common.{◌≡◌, ◌-◌, ◌≤◌, map, vec_len}
use Rattle.vert_grammar.specs.Reading.{slot_at, up_to}
use Rattle.vert_grammar.specs.Signs.{is_word}
use Rattle.vert_lex.specs.declared.words.TheConstants.{SLOT}
use Rattle.vert_tree.specs.Views.{view_slot}
use Rattle.tree_reader.specs.Signs.{plain}
use Rattle.tree_reader.proofs.Loops.{with_front}
use Rattle.tree_reader.proofs.reader.Reader.slots.Given as goal

abbrev pub invariant-slots : goal.invariant-slots
invariant-slots l = record {
  few : vec_len l.slots ≤ 8;
  read :
      with_front (map (view_slot l.self.names.items) l.slots.items)
      (up_to (is_word SLOT) slot_at (8 - vec_len l.slots) (plain l.self.names.items l.tokens))
      ≡ up_to (is_word SLOT) slot_at 8 (plain l.self.names.items l.fn.tokens);
}

abbrev pub decreases-slots : goal.decreases-slots
decreases-slots l = 8 - vec_len l.slots
