-- What a step of the machine needs.
use Rattle.std.specs.Prelude.{◌≡◌, ℕ, ◌+◌, ◌-◌, ◌<◌, ◌≤◌, true, List, slice_index}
use Rattle.vert_code.specs.declared.instr.Instr.{Instr}
use Rattle.vert_code.specs.Valid.{Way, Onward, Leap, Fork, heights, is_level}

-- an instruction finds its operands and room for its value, and jumps ahead
abbrev pub CanStep : Way → ℕ → ℕ → Type 0
CanStep (Onward takes gives) place height = (takes ≤ height) × (height ≤ 64) × (height - takes + gives ≤ 64)
CanStep (Leap target) place height = place < target
CanStep (Fork target) place height = (1 ≤ height) × (place < target)

-- a list that is entered at a place with this height, and is level from there on
pub record IsEntered (place height : ℕ) (list : List Instr) : Type 0 where
  pub entry : slice_index (heights place list) 0 ≡ height
  pub level : is_level place list ≡ true
