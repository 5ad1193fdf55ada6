-- The statements of an `if`, as lists.
use Rattle.std.proofs.Common.{◌≡◌, ℕ, List, [], ◌∷◌, Option, Some, None, refl, ap, ◌∙◌}
use mathlib.Core.Former.{Count}
use Rattle.std.specs.Global.{Vec}
use Rattle.std.specs.declared.alloc.Global.{Global}
use Rattle.std.specs.declared.string.String.{String}
use Rattle.vert_base.specs.declared.text.Span.{Span}
use Rattle.vert_tree.specs.declared.expression.Expr.{Expr}
use Rattle.vert_tree.specs.declared.statement.Stmt.{Stmt, Row_of-Stmt, end_of-Stmt, more_of-Stmt, If', Some', items-the_row-Stmt, items_hidden-the_row-Stmt-0}
use Rattle.vert_tree.specs.declared.statement.Stmt as statements
use Rattle.vert_tree.specs.Trees.{Statement, If, IfElse, Statements, End, More}
use Rattle.vert_tree.specs.Views.{view, view_statement, view_row, view_block}

pub row_view : (names : List (String Global)) (n : _) (row : Row_of-Stmt n) →
    view_row names row ≡ view_block names (items-the_row-Stmt n row)
row_view names n end_of-Stmt = refl
row_view names n (more_of-Stmt s rest) = ap (More (view_statement names s)) (row_view names _ rest)

-- the rows of an `if`
abbrev pub held_of : Stmt → (n : Count) × Row_of-Stmt n
held_of (If' s test m held otherwise) = (_, held)
held_of _ = (_, end_of-Stmt)

abbrev pub otherwise_of : Stmt → (n : Count) × Row_of-Stmt n
otherwise_of (If' s test m held (Some' k row)) = (_, row)
otherwise_of _ = (_, end_of-Stmt)

pub view-If : (names : List (String Global)) (s : Span) (test : Expr) (held : Vec Stmt) →
    view_statement names (statements.If s test held None) ≡ If s (view names test) (view_block names held.items)
view-If names s test held =
    let b = held_of (statements.If s test held None) in
    ap (If s (view names test)) (row_view names b.0 b.1 ∙ ap (view_block names) (items_hidden-the_row-Stmt-0 held))

pub view-If_else : (names : List (String Global)) (s : Span) (test : Expr) (held otherwise : Vec Stmt)
    → view_statement names (statements.If s test held (Some otherwise))
    ≡ IfElse s (view names test) (view_block names held.items) (view_block names otherwise.items)
view-If_else names s test held otherwise =
    let b = held_of (statements.If s test held (Some otherwise)) in
    let o = otherwise_of (statements.If s test held (Some otherwise)) in
    ap (λ t. IfElse s (view names test) t (view_row names o.1)) (row_view names b.0 b.1
    ∙ ap (view_block names) (items_hidden-the_row-Stmt-0 held))
    ∙ ap (IfElse s (view names test) (view_block names held.items)) (row_view names o.0 o.1
    ∙ ap (view_block names) (items_hidden-the_row-Stmt-0 otherwise))
