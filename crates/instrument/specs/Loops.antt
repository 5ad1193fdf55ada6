-- How a dense loop is split over machines.
use Rattle.std.specs.Prelude.{◌==◌, ℕ, ◌+◌, Bool, true, false, ◌||◌, List, [], ◌∷◌, filter, if◌then◌else◌}
use Rattle.std.specs.List.{list_any, range_with_len}
use Rattle.vert_tree.specs.declared.name.What.{What}
use Rattle.vert_tree.specs.declared.name.What.TheVariants as what
use Rattle.vert_tree.specs.declared.statement.Stmt.{Stmt}
use Rattle.vert_tree.specs.declared.statement.Stmt.TheOpen.{Stmt-F, Assign, SetActive, If, Emit, Break}
use Rattle.vert_tree.specs.declared.statement.Stmt.TheFolds.{fold-Stmt}
use Rattle.vert_tree.specs.declared.program.Dense.{Dense}
use Rattle.vert_tree.specs.Places.{tests_of}
use Rattle.carry_analysis.specs.declared.classes.Class.{Class}
use Rattle.carry_analysis.specs.declared.classes.Class.TheVariants.{Reduced}
use Rattle.carry_analysis.specs.declared.classes.Classes.{Classes}
use Rattle.carry_analysis.specs.Classes.{body_marks, has_break, let_classes, is_carried, carry_in}
use Rattle.instrument.specs.declared.split.SplitLoop.{SplitLoop}

abbrev pub is_reduced : Class → Bool
is_reduced (Reduced op) = true
is_reduced _ = false

-- the places of the classes that pass a test, the first of which has this place
abbrev pub places_where : (Class → Bool) → ℕ → List Class → List ℕ
places_where test i [] = []
places_where test i (c ∷ cs) = if test c then i ∷ places_where test (i + 1) cs else places_where test (i + 1) cs

-- whether a name is this slot
abbrev pub is_slot_at : ℕ → What → Bool
is_slot_at slot (what.Slot i) = i == slot
is_slot_at slot _ = false

abbrev pub any_true : List Bool → Bool
any_true tests = list_any (λ b. b) tests

-- whether a statement emits to a slot, its inner statements told by their tests
abbrev pub level_emits : ℕ → Stmt-F Bool → Bool
level_emits slot (Assign target op e) = false
level_emits slot (SetActive _ e) = false
level_emits slot (If _ test held otherwise) = any_true held.items || any_true (tests_of otherwise)
level_emits slot (Emit _ name e) = is_slot_at slot name.what
level_emits slot (Break _) = false

abbrev pub stmt_emits : ℕ → Stmt → Bool
stmt_emits slot = fold-Stmt Bool (level_emits slot)

abbrev pub body_emits : ℕ → List Stmt → Bool
body_emits slot body = list_any (stmt_emits slot) body

-- the slots to which a body emits, ascending; a program has at most eight
abbrev pub emitted_slots : List Stmt → List ℕ
emitted_slots body = filter (λ slot. body_emits slot body) (range_with_len 0 8)

-- the classes of the lets of a dense block
abbrev pub classes_in : Dense → Classes
classes_in d = record {
  locals = record { items = let_classes 0 d.lets.items (body_marks d.body.items) };
  breaks = has_break (body_marks d.body.items);
}

-- the split of a loop whose lets have these classes and whose body emits to these slots
abbrev pub loop_with : Classes → List ℕ → SplitLoop
loop_with classes slots = record {
  classes = classes;
  carry = carry_in classes.breaks classes.locals.items;
  carried = record { items = places_where is_carried 0 classes.locals.items };
  reduced = record { items = places_where is_reduced 0 classes.locals.items };
  emitted = record { items = slots };
}

-- the split of the loop of a dense block
abbrev pub loop_split : Dense → SplitLoop
loop_split d = loop_with (classes_in d) (emitted_slots d.body.items)
