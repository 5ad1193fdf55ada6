-- When lists of instructions are code.
use Rattle.std.specs.Prelude.{◌==◌, ℕ, ◌+◌, ◌-◌, Bool, true, false, ◌&&◌, List, [], ◌∷◌, length, nat_le, nat_lt, slice_index}
use Rattle.std.specs.List.{list_all}
use Rattle.vert_tree.specs.Places.{Counts}
use Rattle.vert_code.specs.declared.instr.Instr.{Instr}
use Rattle.vert_code.specs.declared.instr.Instr.TheVariants.{Field, Local, Sent, Total, Got, Value, OtherField, Neg, Not, Op, Least, Greatest, ToLocal, ToField, ToActive, Emit, Jump, JumpUnless, Break}
use Rattle.vert_code.specs.Machine.{passed}

-- where an instruction leads: to the next place, taking and giving so many values; to a target; or,
-- with one value taken, to the next place or to a target. A break leaves the stack as it is
pub data Way : Type 0 where
  Onward : (takes gives : ℕ) → Way
  Leap : (target : ℕ) → Way
  Fork : (target : ℕ) → Way

abbrev pub way_of : Instr → Way
way_of Neg = Onward 1 1
way_of Not = Onward 1 1
way_of (Op op) = Onward 2 1
way_of Least = Onward 2 1
way_of Greatest = Onward 2 1
way_of (ToLocal op i) = Onward 1 0
way_of (ToField op i) = Onward 1 0
way_of ToActive = Onward 1 0
way_of (Emit i) = Onward 1 0
way_of (Jump target) = Leap target
way_of (JumpUnless target) = Fork target
way_of Break = Onward 0 0
way_of _ = Onward 0 1

-- the height of the stack before an instruction, given the heights at the places behind it
abbrev pub height_before : Way → ℕ → List ℕ → ℕ
height_before (Onward takes gives) place behind = slice_index behind 0 + takes - gives
height_before (Leap target) place behind = slice_index behind (passed place target)
height_before (Fork target) place behind = slice_index behind 0 + 1

-- the height of the stack at each place of a list that begins at a place; it is 0 at the end
abbrev pub heights : ℕ → List Instr → List ℕ
heights place [] = 0 ∷ []
heights place (i ∷ rest) = height_before (way_of i) place (heights (place + 1) rest) ∷ heights (place + 1) rest

-- a target lies above the place of its jump and at most at the end, where the stack has this height
abbrev pub is_target : ℕ → ℕ → List ℕ → ℕ → Bool
is_target place target behind height =
    nat_lt place target && (nat_lt (passed place target) (length behind)
    && (slice_index behind (passed place target) == height))

-- an instruction finds its operands, and each way from it has the height there
abbrev pub leads_well : Way → ℕ → ℕ → List ℕ → Bool
leads_well (Onward takes gives) place height behind = nat_le takes height
    && (slice_index behind 0 == height - takes + gives)
leads_well (Leap target) place height behind = is_target place target behind height
leads_well (Fork target) place height behind =
    nat_le 1 height && ((slice_index behind 0 == height - 1) && is_target place target behind (height - 1))

-- each instruction of a list that begins at a place leads well, and no stack is higher than 64
abbrev pub is_level : ℕ → List Instr → Bool
is_level place [] = true
is_level place (i ∷ rest) =
    let height = slice_index (heights place (i ∷ rest)) 0 in
    nat_le height 64 && (leads_well (way_of i) place height (heights (place + 1) rest) && is_level (place + 1) rest)

-- an instruction names only what is there
abbrev pub has_names : Counts → Instr → Bool
has_names c (Field i) = nat_lt i c.fields
has_names c (Local i) = nat_lt i c.locals
has_names c (Sent i) = nat_lt i c.sends
has_names c (Total i) = nat_lt i c.totals
has_names c (Got i) = nat_lt i c.slots
has_names c (Value i) = nat_lt i c.slots
has_names c (OtherField i) = nat_lt i c.other_fields
has_names c (ToLocal op i) = nat_lt i c.locals
has_names c (ToField op i) = nat_lt i c.fields
has_names c (Emit i) = nat_lt i c.slots
has_names c _ = true

-- a list names only what is there
abbrev pub list_names : Counts → List Instr → Bool
list_names c list = list_all (has_names c) list

-- an instruction breaks only where it may
abbrev pub breaks_where : Bool → Instr → Bool
breaks_where may Break = may
breaks_where may _ = true

-- the most names of each kind
abbrev pub most : Counts
most = record { fields = 16; locals = 8; sends = 8; slots = 8; totals = 4; other_fields = 16 }

-- a list that begins with an empty stack
abbrev pub is_list : Bool → List Instr → Bool
is_list may list =
    (slice_index (heights 0 list) 0 == 0) &&
    (is_level 0 list && (list_names most list && list_all (breaks_where may) list))

-- the four lists of a code, of which the first alone breaks
abbrev pub is_valid : List (List Instr) → Bool
is_valid (body ∷ tail ∷ sparse ∷ update ∷ []) = is_list true body
    && (is_list false tail && (is_list false sparse && is_list false update))
is_valid _ = false
