-- The slots of kind `first` to which a neighbour may emit.
use Rattle.std.specs.Prelude.{ℕ, ◌+◌, Bool, true, false, ◌&&◌, ◌||◌, List, [], ◌∷◌, Option, Some, None, if◌then◌else◌}
use Rattle.vert_base.specs.declared.value.Combine.{Combine}
use Rattle.vert_base.specs.declared.value.Combine.TheVariants.{First}
use Rattle.vert_tree.specs.declared.program.Dense.{Dense}
use Rattle.vert_tree.specs.declared.program.Program.{Program}
use Rattle.vert_tree.specs.declared.program.SlotDecl.{SlotDecl}
use Rattle.vert_tree.specs.declared.program.Sparse.{Sparse}
use Rattle.instrument.specs.Loops.{body_emits}
use Rattle.slot_merge.specs.Combine.{is_first}

abbrev pub dense_emits : ℕ → Option Dense → Bool
dense_emits slot None = false
dense_emits slot (Some d) = body_emits slot d.body.items

abbrev pub sparse_emits : ℕ → Option Sparse → Bool
sparse_emits slot None = false
sparse_emits slot (Some s) = body_emits slot s.body.items

-- an `emit` of the loop body or of the sparse body names the slot
abbrev pub neighbour_emits : Program → ℕ → Bool
neighbour_emits p slot = dense_emits slot p.dense || sparse_emits slot p.sparse

-- the least slot of kind `first` that passes a test, among slots of which the first has this place
abbrev pub least_first : (ℕ → Bool) → ℕ → List SlotDecl → Option ℕ
least_first test at [] = None
least_first test at (d ∷ ds) = if is_first d.op && test at then Some at else least_first test (at + 1) ds

-- the least slot of kind `first` to which a neighbour may emit
abbrev pub first_slot : Program → Option ℕ
first_slot p = least_first (neighbour_emits p) 0 p.slots.items
