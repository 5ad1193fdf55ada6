-- The class of each let of a dense block, and the carry of its loop.
use Rattle.std.specs.Prelude.{◌==◌, ℕ, ◌+◌, Bool, true, false, ◌||◌, List, [], ◌∷◌, ◌++◌, Option, None, Some, length, filter, nat_lt, if◌then◌else◌}
use Rattle.std.specs.List.{list_all}
use Rattle.vert_base.specs.declared.value.Combine.TheVariants as combine
use Rattle.vert_tree.specs.declared.name.What.{What}
use Rattle.vert_tree.specs.declared.name.What.TheVariants as what
use Rattle.vert_tree.specs.declared.expression.Expr.{Expr}
use Rattle.vert_tree.specs.declared.expression.Node.{Node}
use Rattle.vert_tree.specs.declared.expression.Node.TheVariants as nodes
use Rattle.vert_tree.specs.declared.statement.AssignOp.TheVariants as assign
use Rattle.vert_tree.specs.declared.statement.Stmt.{Stmt, Row_of-Stmt, end_of-Stmt, more_of-Stmt, Held-Stmt-If-3, None', Some'}
use Rattle.vert_tree.specs.declared.statement.Stmt as statements
use Rattle.vert_tree.specs.declared.program.Decl.{Decl}
use Rattle.carry_analysis.specs.declared.seen.Use.{Use}
use Rattle.carry_analysis.specs.declared.seen.Use.TheVariants.{Read, Assigned}
use Rattle.carry_analysis.specs.declared.classes.Class.{Class}
use Rattle.carry_analysis.specs.declared.classes.Class.TheVariants.{Constant, Reduced, Carried}
use Rattle.carry_analysis.specs.declared.carry.Carry.{Carry}

-- what stands at one place of a loop body: a use of the let of this place, or a break
pub data Mark : Type 0 where
  Uses : ℕ → Use → Mark
  Breaks : Mark

-- a name counts where it is a let
abbrev pub marks_of : What → Use → List Mark
marks_of (what.Local i) u = Uses i u ∷ []
marks_of _ u = []

-- the reads of an expression
abbrev pub node_marks : Node → List Mark
node_marks (nodes.Int value) = []
node_marks (nodes.Bool value) = []
node_marks (nodes.Word word) = []
node_marks (nodes.Name name) = marks_of name.what Read
node_marks (nodes.Got slot) = []
node_marks (nodes.Value slot) = []
node_marks (nodes.OtherField field) = []
node_marks (nodes.OtherWord word) = []
node_marks (nodes.Draw at number) = []
node_marks (nodes.Neg' _ _ a) = node_marks a
node_marks (nodes.Not' _ _ a) = node_marks a
node_marks (nodes.Binary' op _ _ a _ _ b) = node_marks a ++ node_marks b
node_marks (nodes.Cond' _ _ test _ _ a _ _ b) = node_marks test ++ (node_marks a ++ node_marks b)
node_marks (nodes.Least' _ _ a _ _ b) = node_marks a ++ node_marks b
node_marks (nodes.Greatest' _ _ a _ _ b) = node_marks a ++ node_marks b
node_marks (nodes.Group' _ _ a) = node_marks a

abbrev pub expr_marks : Expr → List Mark
expr_marks e = node_marks e.node

-- all that stands in a statement, its inner blocks included
abbrev mutual
  pub statement_marks : Stmt → List Mark
  statement_marks (statements.Assign target op value) = expr_marks value ++ marks_of target.what (Assigned op)
  statement_marks (statements.SetActive _ value) = expr_marks value
  statement_marks (statements.If' _ test _ held otherwise) = expr_marks test ++ (row_marks held ++ held_marks otherwise)
  statement_marks (statements.Emit _ slot value) = expr_marks value
  statement_marks (statements.Break _) = Breaks ∷ []

  pub held_marks : Held-Stmt-If-3 → List Mark
  held_marks None' = []
  held_marks (Some' _ row) = row_marks row

  pub row_marks : {m : _} → Row_of-Stmt m → List Mark
  row_marks end_of-Stmt = []
  row_marks (more_of-Stmt first others) = statement_marks first ++ row_marks others

-- all that stands in a block
abbrev pub body_marks : List Stmt → List Mark
body_marks [] = []
body_marks (first ∷ others) = statement_marks first ++ body_marks others

-- the uses of one let
abbrev pub uses_of : ℕ → List Mark → List Use
uses_of i [] = []
uses_of i (Uses j u ∷ ms) = if i == j then u ∷ uses_of i ms else uses_of i ms
uses_of i (Breaks ∷ ms) = uses_of i ms

abbrev pub has_break : List Mark → Bool
has_break [] = false
has_break (Uses i u ∷ ms) = has_break ms
has_break (Breaks ∷ ms) = true

abbrev pub is_read : Use → Bool
is_read Read = true
is_read (Assigned op) = false

-- the target of `+=`
abbrev pub is_added : Use → Bool
is_added (Assigned assign.Add) = true
is_added _ = false

-- the target of `min=`
abbrev pub is_lowered : Use → Bool
is_lowered (Assigned assign.Least) = true
is_lowered _ = false

-- the target of `max=`
abbrev pub is_raised : Use → Bool
is_raised (Assigned assign.Greatest) = true
is_raised _ = false

-- constant where it is never assigned, reduced where it is only the target of one operator, else carried
abbrev pub class_of : List Use → Class
class_of uses =
    if list_all is_read uses then Constant
    else if list_all is_added uses then Reduced combine.Sum
    else if list_all is_lowered uses then Reduced combine.Min
    else if list_all is_raised uses then Reduced combine.Max
    else Carried

-- the classes of lets, the first of which has this place
abbrev pub let_classes : ℕ → List Decl → List Mark → List Class
let_classes i [] ms = []
let_classes i (d ∷ ds) ms = class_of (uses_of i ms) ∷ let_classes (i + 1) ds ms

abbrev pub is_carried : Class → Bool
is_carried Carried = true
is_carried _ = false

abbrev pub carried_in : List Class → ℕ
carried_in classes = length (filter is_carried classes)

-- a loop with a break or a carried let hands its carried lets on
abbrev pub carry_in : Bool → List Class → Option Carry
carry_in breaks classes = if breaks || nat_lt 0 (carried_in classes) then Some (record { words = carried_in classes })
    else None
