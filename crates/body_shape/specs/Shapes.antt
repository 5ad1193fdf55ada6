-- How long the bodies of messages are, and which of their words are Bools.
use Rattle.std.specs.Prelude.{ℕ, ◌+◌, ◌*◌, min, List, [], ◌∷◌}
use Rattle.std.specs.Int.{div_ceil}
use Rattle.vert_base.specs.declared.value.ValueType.{ValueType}
use Rattle.vert_base.specs.declared.value.ValueType.TheVariants.{Int, Bool}
use Rattle.body_shape.specs.declared.shape.BodyShape.{BodyShape}
use Rattle.body_shape.specs.declared.shape.BodyShape.TheVariants.{Refresh, Dep, Update, Push, Tally, Verdict}

-- the greatest length of a body of this form, in bytes: a word has 8, a mark 2 bits, a bit 1, a mask of at most
-- 8 slots and 8 lets 2 bytes
abbrev pub longest_of : BodyShape → ℕ
longest_of (Refresh vertices words bools) = 8 * words * vertices
longest_of (Dep vertices words bools) = div_ceil vertices 4 + 8 * words * vertices
longest_of (Update vertices slots reduced) = (2 + 8 * min slots 8 + 8 * min reduced 8) * vertices
longest_of (Push vertices words bools) = div_ceil vertices 8 + 8 * words * vertices
longest_of (Tally totals) = 24 + 8 * totals
longest_of (Verdict dense sparse totals) = 1 + 8 * totals

-- bit i is set where type i is a Bool
abbrev pub bool_bits : List ValueType → ℕ
bool_bits [] = 0
bool_bits (Int ∷ types) = 2 * bool_bits types
bool_bits (Bool ∷ types) = 1 + 2 * bool_bits types
