use Rattle.std.proofs.Common.{◌≡◌, ◌+◌, ◌-◌, ◌∷◌, [], ◌++◌, map, vec_len, sym, ◌∙◌, arith}
use Rattle.std.proofs.lemmas.Result.{err_from_is_err_and}
use Rattle.std.proofs.lemmas.List.{map_push}
use Rattle.vert_grammar.specs.Reading.{slot_at}
use Rattle.vert_grammar.specs.Signs.{is_word}
use Rattle.vert_lex.specs.declared.words.TheConstants.{SLOT}
use Rattle.vert_tree.specs.Views.{view_slot}
use Rattle.tree_reader.specs.Signs.{plain}
use Rattle.tree_reader.proofs.Loops.{goes_on, fails, is_full, is_over}
use Rattle.tree_reader.proofs.reader.Reader.slots.Goals as goal

pub returns-then-len-eq-SLOTS : goal.returns-then-len-eq-SLOTS
returns-then-len-eq-SLOTS c =
    is_full (is_word SLOT) slot_at (map (view_slot c.args.self.now.names.items) c.slots.slots.items) _
    (plain c.args.self.now.names.items c.slots.tokens.now) _ (omega arith) (sym c.begins_word.ensures
    ∙ c.slots-test.true) c.slots.invariant.read

pub returns-in_err-slot : goal.returns-in_err-slot
returns-in_err-slot c =
    let names = c.args.self.now.names.items in
    let p = err_from_is_err_and c.from_residual.result c.from_residual.ensures.1 in
    rw (p.1, p.2)
    (fails (is_word SLOT) slot_at (map (view_slot names) c.slots.slots.items) _ (plain names c.slots.tokens.now) names
    _ (8 - (vec_len c.slots.slots + 1)) c.in_err-slot.field-0.0 (let g = c.slots.invariant.few in omega arith)
    (sym c.begins_word.ensures ∙ c.slots-test.true) c.in_err-slot.ensures c.slots.invariant.read)

pub slots-preserved : goal.slots-preserved
slots-preserved c =
    let names = c.args.self.now.names.items in
    let e : map (view_slot names) c.push.new.self.items ≡ map (view_slot names) c.slots.slots.items
    ++ view_slot names c.in_ok-slot.slot
    ∷ [] = rw c.in_ok-push.ensures.items (map_push _ c.slots.slots.items c.in_ok-slot.slot) in
    record {
      few = (let g = c.slots.invariant.few in omega (arith, c.in_ok-push.ensures.len));
      read = rw e (goes_on (is_word SLOT) slot_at (map (view_slot names) c.slots.slots.items) _
          (plain names c.slots.tokens.now) _ (8 - vec_len c.push.new.self) _ _ (let g = c.slots.invariant.few in
          omega (arith, c.in_ok-push.ensures.len)) (sym c.begins_word.ensures ∙ c.slots-test.true)
          c.in_ok-slot.ensures c.slots.invariant.read);
    }

pub returns : goal.returns
returns c =
    is_over (is_word SLOT) slot_at (map (view_slot c.args.self.now.names.items) c.slots.slots.items) _
    (plain c.args.self.now.names.items c.slots.tokens.now) _ (sym c.begins_word.ensures ∙ c.slots-test.false)
    c.slots.invariant.read
