-- The marks of statements: those of an `if`, and the uses of a let in two parts.
use Rattle.std.proofs.Common.{◌≡◌, ◌==◌, ℕ, Bool, true, false, List, [], ◌∷◌, ◌++◌, None, Some, refl, ap, ◌∙◌}
use Rattle.std.specs.Prelude.{if◌then◌else◌}
use Rattle.std.specs.Global.{Vec}
use Rattle.vert_base.specs.declared.text.Span.{Span}
use Rattle.vert_tree.specs.declared.expression.Expr.{Expr}
use Rattle.vert_tree.specs.declared.statement.Stmt.{Stmt, Row_of-Stmt, end_of-Stmt, more_of-Stmt, items-the_row-Stmt, items_hidden-the_row-Stmt-0}
use Rattle.vert_tree.specs.declared.statement.Stmt as statements
use Rattle.vert_tree.proofs.Rows.{held_of, otherwise_of}
use Rattle.carry_analysis.specs.declared.seen.Use.{Use}
use Rattle.carry_analysis.specs.Classes.{Mark, Uses, Breaks, body_marks, expr_marks, row_marks, statement_marks, uses_of}

-- ---- the marks of an `if`
marks_of_row : (n : _) (row : Row_of-Stmt n) → row_marks row ≡ body_marks (items-the_row-Stmt n row)
marks_of_row n end_of-Stmt = refl
marks_of_row n (more_of-Stmt s rest) = ap (λ l. statement_marks s ++ l) (marks_of_row _ rest)

pub marks-if : (s : Span) (test : Expr) (held : Vec Stmt) →
    statement_marks (statements.If s test held None) ≡ expr_marks test ++ (body_marks held.items ++ [])
marks-if s test held =
    let b = held_of (statements.If s test held None) in
    ap (λ l. expr_marks test ++ (l ++ [])) (marks_of_row b.0 b.1 ∙ ap body_marks (items_hidden-the_row-Stmt-0 held))

pub marks-if_else : (s : Span) (test : Expr) (held otherwise : Vec Stmt) →
    statement_marks (statements.If s test held (Some otherwise)) ≡ expr_marks test ++
    (body_marks held.items ++ body_marks otherwise.items)
marks-if_else s test held otherwise =
    let b = held_of (statements.If s test held (Some otherwise)) in
    let o = otherwise_of (statements.If s test held (Some otherwise)) in
    ap (λ l. expr_marks test ++ (l ++ row_marks o.1))
    (marks_of_row b.0 b.1 ∙ ap body_marks (items_hidden-the_row-Stmt-0 held))
    ∙ ap (λ l. expr_marks test ++ (body_marks held.items ++ l))
    (marks_of_row o.0 o.1 ∙ ap body_marks (items_hidden-the_row-Stmt-0 otherwise))

-- ---- the uses of a let
with-append : (t : Bool) (u : Use) (all us vs : List Use) → all ≡ us ++ vs →
    (if t then u ∷ all else all) ≡ (if t then u ∷ us else us) ++ vs
with-append true u all us vs e = ap (λ l. u ∷ l) e
with-append false u all us vs e = e

pub uses-append : (i : ℕ) (a b : List Mark) → uses_of i (a ++ b) ≡ uses_of i a ++ uses_of i b
uses-append i [] b = refl
uses-append i (Uses j u ∷ a) b =
    with-append (i == j) u (uses_of i (a ++ b)) (uses_of i a) (uses_of i b) (uses-append i a b)
uses-append i (Breaks ∷ a) b = uses-append i a b
