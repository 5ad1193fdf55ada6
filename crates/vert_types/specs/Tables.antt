-- The declarations of a program in memory, and what the names stand for after them.
use Rattle.std.specs.Prelude.{ℕ, ◌+◌, ◌≤◌, IsTrue, length, List, [], ◌∷◌, ◌++◌, map, Option, None, Some, is_some, if◌then◌else◌, slice_set}
use Rattle.std.proofs.Common.{slice_index_or}
use Rattle.vert_base.specs.declared.value.ValueType.{ValueType}
use Rattle.vert_base.specs.declared.value.ValueType.TheVariants as kind
use Rattle.vert_tree.specs.declared.name.Ident.{Ident}
use Rattle.vert_tree.specs.declared.name.What.{What}
use Rattle.vert_tree.specs.declared.name.What.TheVariants as what
use Rattle.vert_tree.specs.declared.program.Decl.{Decl}
use Rattle.vert_tree.specs.declared.program.Dense.{Dense}
use Rattle.vert_tree.specs.declared.program.Program.{Program}
use Rattle.vert_tree.specs.declared.program.SlotDecl.{SlotDecl}
use Rattle.vert_tree.specs.declared.program.Sparse.{Sparse}
use Rattle.vert_tree.specs.declared.program.TotalDecl.{TotalDecl}
use Rattle.vert_tree.specs.Places.{lets_in, sends_in}
use Rattle.vert_types.specs.declared.declare.Sort.{Sort}
use Rattle.vert_types.specs.declared.declare.Sort.TheVariants.{Fields, Slots, Totals, Locals, Sends}
use Rattle.vert_types.specs.declared.fault.Finding.{Finding}
use Rattle.vert_types.specs.declared.scope.Meaning.{Meaning}
use Rattle.std.specs.List.{list_all}
use Rattle.vert_types.specs.Findings.{declared_before, fault}
use Rattle.vert_types.specs.Parsed.{name_known}

-- a declared name with its type
pub record Typed : Type 0 where
  pub name : Ident
  pub kind : ValueType

-- a declared name with what it stands for
pub record Item : Type 0 where
  pub name : Ident
  pub meaning : Meaning

abbrev pub sort_of : Sort → ℕ → What
sort_of Fields = what.Field
sort_of Slots = what.Slot
sort_of Totals = what.Total
sort_of Locals = what.Local
sort_of Sends = what.Send

-- the names of one sort, from this place on
abbrev pub items_from : (ℕ → What) → ℕ → List Typed → List Item
items_from sort i [] = []
items_from sort i (e ∷ es) = record { name = e.name; meaning = record { what = sort i; kind = e.kind } }
    ∷ items_from sort (i + 1) es

abbrev pub typed_decl : Decl → Typed
typed_decl d = record { name = d.name; kind = d.kind }

abbrev pub typed_slot : SlotDecl → Typed
typed_slot d = record { name = d.name; kind = kind.Int }

abbrev pub typed_total : TotalDecl → Typed
typed_total d = record { name = d.name; kind = kind.Int }

-- all declared names in the order of the text
abbrev pub all_items : Program → List Item
all_items p =
    items_from what.Field 0 (map typed_decl p.fields.items)
    ++ (items_from what.Slot 0 (map typed_slot p.slots.items)
    ++ (items_from what.Total 0 (map typed_total p.totals.items)
    ++ (items_from what.Local 0 (map typed_decl (lets_in p.dense))
    ++ items_from what.Send 0 (map typed_decl (sends_in p.sparse)))))

abbrev pub known_at : List (Option Meaning) → ℕ → Option Meaning
known_at table number = slice_index_or table number None

-- the first declaration of a name counts
abbrev pub with_item : List (Option Meaning) → Item → List (Option Meaning)
with_item table e = if is_some (known_at table e.name.name) then table else slice_set table e.name.name (Some e.meaning)

abbrev pub table_after : List (Option Meaning) → List Item → List (Option Meaning)
table_after table [] = table
table_after table (e ∷ es) = table_after (with_item table e) es

-- each name that was declared before
abbrev pub again_in : List (Option Meaning) → Item → List Finding
again_in table e = if is_some (known_at table e.name.name) then fault declared_before e.name.span else []

abbrev pub twice_in : List (Option Meaning) → List Item → List Finding
twice_in table [] = []
twice_in table (e ∷ es) = again_in table e ++ twice_in (with_item table e) es

-- each declared name is one of the program's names, and there are few of each sort
pub record AreDeclared (p : Program) : Type 0 where
  pub fields : IsTrue (list_all (λ d. name_known (length p.names.items) d.name) p.fields.items)
  pub slots : IsTrue (list_all (λ d. name_known (length p.names.items) d.name) p.slots.items)
  pub totals : IsTrue (list_all (λ d. name_known (length p.names.items) d.name) p.totals.items)
  pub lets : IsTrue (list_all (λ d. name_known (length p.names.items) d.name) (lets_in p.dense))
  pub sends : IsTrue (list_all (λ d. name_known (length p.names.items) d.name) (sends_in p.sparse))
  pub few_fields : length p.fields.items ≤ 16
  pub few_slots : length p.slots.items ≤ 8
  pub few_totals : length p.totals.items ≤ 4
  pub few_lets : length (lets_in p.dense) ≤ 8
  pub few_sends : length (sends_in p.sparse) ≤ 8
