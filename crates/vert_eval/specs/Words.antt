-- The words of a program: 64-bit two's complement numbers, a truth value being 1 or 0.
use Rattle.std.specs.Prelude.{ℤ, zero, suc, pos, negsuc, ◌+ℤ◌, ◌-ℤ◌, ◌*ℤ◌, Bool, true, false, not, ◌&&◌, ◌||◌, int_lt, int_le, int_div, int_rem, if◌then◌else◌}
use Rattle.std.specs.Int.{w64, int_wrap, int_min, int_max}
use Rattle.std.specs.Ordering.{int_eq}
use Rattle.vert_tree.specs.declared.expression.BinOp.{BinOp}
use Rattle.vert_tree.specs.declared.expression.BinOp.TheVariants.{Add, Sub, Mul, Div, Rem, Eq, Ne, Lt, Le, Gt, Ge, And, Or}
use Rattle.vert_tree.specs.declared.statement.AssignOp.{AssignOp}
use Rattle.vert_tree.specs.declared.statement.AssignOp.TheVariants as assign
pub use Rattle.vert_base.specs.Truth.{is_set, word_of_bool as word_of}

-- the number that is left in 64 bits
abbrev pub wrapped : ℤ → ℤ
wrapped z = int_wrap w64 z

-- rounded toward zero, and 0 where the divisor is 0
abbrev pub quotient : ℤ → ℤ → ℤ
quotient x y = if is_set y then wrapped (int_div x y) else pos 0

-- with the dividend's sign, and 0 where the divisor is 0
abbrev pub remainder : ℤ → ℤ → ℤ
remainder x y = if is_set y then int_rem x y else pos 0

-- both sides have a value, so `&&` and `||` have no order
abbrev pub binary : BinOp → ℤ → ℤ → ℤ
binary Add x y = wrapped (x +ℤ y)
binary Sub x y = wrapped (x -ℤ y)
binary Mul x y = wrapped (x *ℤ y)
binary Div x y = quotient x y
binary Rem x y = remainder x y
binary Eq x y = word_of (int_eq x y)
binary Ne x y = word_of (not (int_eq x y))
binary Lt x y = word_of (int_lt x y)
binary Le x y = word_of (int_le x y)
binary Gt x y = word_of (int_lt y x)
binary Ge x y = word_of (int_le y x)
binary And x y = word_of (is_set x && is_set y)
binary Or x y = word_of (is_set x || is_set y)

-- what `x op= y` leaves in x
abbrev pub assigned : AssignOp → ℤ → ℤ → ℤ
assigned assign.Set x y = y
assigned assign.Add x y = wrapped (x +ℤ y)
assigned assign.Least x y = int_min x y
assigned assign.Greatest x y = int_max x y
