-- Two forms of loop body in which the members read before a break count by their number alone.
use Rattle.std.specs.Prelude.{◌≡◌, ℕ, Bool, true, false, not, ◌&&◌, IsTrue, List, [], ◌∷◌, Option, Some, None, if◌then◌else◌}
use Rattle.vert_tree.specs.declared.name.What.{What}
use Rattle.vert_tree.specs.declared.name.What.TheVariants as what
use Rattle.vert_tree.specs.declared.expression.BinOp.TheVariants.{Ge}
use Rattle.vert_tree.specs.declared.expression.Node.{Node}
use Rattle.vert_tree.specs.declared.expression.Node.TheVariants.{Name, Binary'}
use Rattle.vert_tree.specs.declared.statement.AssignOp.TheVariants as assign
use Rattle.vert_tree.specs.declared.statement.Stmt.{Stmt, Stmt-F}
use Rattle.vert_tree.specs.declared.statement.Stmt.TheOpen.{Assign, If, Emit, Break}
use Rattle.vert_tree.specs.declared.statement.Stmt.TheViews.{out-Stmt}
use Rattle.carry_analysis.specs.declared.classes.Class.{Class}
use Rattle.carry_analysis.specs.Classes.{body_marks, has_break}
use Rattle.order_free.specs.Fixed.{is_counter, is_fixed, reads_known}

-- a name stands for the counter
abbrev pub names_counter : Option ℕ → What → Bool
names_counter counter (what.Local i) = is_counter counter i
names_counter counter _ = false

-- `emit SLOT F;` or `NAME = F;`, F fixed and NAME not the counter
abbrev pub is_last_step : List Class → Option ℕ → Stmt-F Stmt → Bool
is_last_step classes counter (Assign target assign.Set e) =
    not (names_counter counter target.what) && is_fixed classes counter e.node
is_last_step classes counter (Emit _ slot e) = is_fixed classes counter e.node
is_last_step classes counter _ = false

abbrev pub is_break : Stmt-F Stmt → Bool
is_break (Break _) = true
is_break _ = false

-- `X break;`: any number of such statements, and a break
abbrev pub ends_loop : List Class → Option ℕ → List Stmt → Bool
ends_loop classes counter [] = false
ends_loop classes counter (s ∷ []) = is_break (out-Stmt s)
ends_loop classes counter (s ∷ more) = is_last_step classes counter (out-Stmt s) && ends_loop classes counter more

-- `if E { X break; }`
abbrev pub finds_one : List Class → Stmt-F Stmt → Bool
finds_one classes (If _ test held None) = reads_known classes None test.node && ends_loop classes None held.items
finds_one classes _ = false

abbrev pub is_found_one : List Class → List Stmt → Bool
is_found_one classes (s ∷ []) = finds_one classes (out-Stmt s)
is_found_one classes _ = false

-- the let with this name
abbrev pub is_let : ℕ → Node → Bool
is_let c (Name name) = names_counter (Some c) name.what
is_let c _ = false

-- `c >= B`, B fixed
abbrev pub is_bound : List Class → ℕ → Node → Bool
is_bound classes c (Binary' Ge _ _ left _ _ bound) = is_let c left && is_fixed classes None bound
is_bound classes c _ = false

-- `if c >= B { X break; }`
abbrev pub stops_at_bound : List Class → ℕ → Stmt-F Stmt → Bool
stops_at_bound classes c (If _ test held None) = is_bound classes c test.node && ends_loop classes (Some c) held.items
stops_at_bound classes c _ = false

-- the let that `c += K;` counts in, K fixed
abbrev pub counts_in : List Class → What → Node → Option ℕ
counts_in classes (what.Local c) step = if is_fixed classes None step then Some c else None
counts_in classes _ step = None

abbrev pub counter_of : List Class → Stmt-F Stmt → Option ℕ
counter_of classes (Assign target assign.Add step) = counts_in classes target.what step.node
counter_of classes _ = None

abbrev pub stops_counter : List Class → Option ℕ → Stmt-F Stmt → Bool
stops_counter classes None second = false
stops_counter classes (Some c) second = stops_at_bound classes c second

-- `c += K; if c >= B { X break; }`
abbrev pub counts_up : List Class → List Stmt → Bool
counts_up classes (first ∷ second ∷ []) = stops_counter classes (counter_of classes (out-Stmt first)) (out-Stmt second)
counts_up classes _ = false

-- `if E { c += K; if c >= B { X break; } }`
abbrev pub counts_members : List Class → Stmt-F Stmt → Bool
counts_members classes (If _ test held None) = reads_known classes None test.node && counts_up classes held.items
counts_members classes _ = false

abbrev pub is_reach_a_count : List Class → List Stmt → Bool
is_reach_a_count classes (s ∷ []) = counts_members classes (out-Stmt s)
is_reach_a_count classes _ = false

-- the two forms don't overlap, and a loop body of either may break
pub record FormsApart (classes : List Class) (body : List Stmt) : Type 0 where
  pub found : IsTrue (is_found_one classes body) → IsTrue (has_break (body_marks body))
  pub reached : IsTrue (is_reach_a_count classes body) → IsTrue (has_break (body_marks body))
  pub apart : IsTrue (is_found_one classes body) → is_reach_a_count classes body ≡ false
