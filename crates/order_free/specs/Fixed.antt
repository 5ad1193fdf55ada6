-- What an expression of a loop body reads.
use Rattle.std.specs.Prelude.{◌==◌, ℕ, Bool, true, false, ◌&&◌, ◌||◌, List, Option, Some, None, slice_get}
use Rattle.std.specs.List.{list_all}
use Rattle.vert_tree.specs.declared.expression.Node.{Node}
use Rattle.vert_tree.specs.Readable.{in_tests, node_read}
use Rattle.carry_analysis.specs.declared.classes.Class.{Class}
use Rattle.carry_analysis.specs.declared.classes.Class.TheVariants.{Constant}
use Rattle.carry_analysis.specs.Classes.{Mark, Uses, Breaks, node_marks}

abbrev pub is_constant : Option Class → Bool
is_constant (Some Constant) = true
is_constant _ = false

-- the let of this place is one that the loop body never assigns, by the classes of the lets
abbrev pub is_unassigned : List Class → ℕ → Bool
is_unassigned classes i = is_constant (slice_get classes i)

-- the let of this place is the counter, where there is one
abbrev pub is_counter : Option ℕ → ℕ → Bool
is_counter None i = false
is_counter (Some c) i = i == c

-- the let of this place may be read where a loop ends
abbrev pub is_known : List Class → Option ℕ → ℕ → Bool
is_known classes counter i = is_counter counter i || is_unassigned classes i

-- a use is of a let that passes a test
abbrev pub uses_held : (ℕ → Bool) → Mark → Bool
uses_held held (Uses i u) = held i
uses_held held Breaks = true

-- reads no let that the loop body assigns, but for the counter
abbrev pub reads_known : List Class → Option ℕ → Node → Bool
reads_known classes counter e = list_all (uses_held (is_known classes counter)) (node_marks e)

-- fixed: it reads what a test may read, so no `u.` and no `w`, and no let that the loop body assigns
-- but for the counter
abbrev pub is_fixed : List Class → Option ℕ → Node → Bool
is_fixed classes counter e = node_read in_tests e && reads_known classes counter e
