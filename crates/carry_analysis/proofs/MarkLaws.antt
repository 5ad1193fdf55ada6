-- What a walk over a statement and a block has seen, from what it saw of the parts.
use Rattle.std.proofs.Common.{◌≡◌, ◌<◌, ◌+◌, ℕ, suc, List, ◌∷◌, ◌++◌, drop, length, get_or, Option, None, Some, sym, ap, ◌∙◌, add-one, append-nil, drop-cons}
use Rattle.std.specs.Global.{Vec}
use Rattle.vert_base.specs.declared.text.Span.{Span}
use Rattle.vert_tree.specs.declared.expression.Expr.{Expr}
use Rattle.vert_tree.specs.declared.statement.Stmt.{Stmt}
use Rattle.vert_tree.specs.declared.statement.Stmt as statements
use Rattle.carry_analysis.specs.Classes.{body_marks, expr_marks, statement_marks}
use Rattle.carry_analysis.specs.Walks.{Sight, walk_after}
use Rattle.carry_analysis.proofs.SightLaws.{after-append}
use Rattle.carry_analysis.proofs.StatementMarks.{marks-if, marks-if_else}

pub if_walked :
    (s : Span) (test : Expr) (held : Vec Stmt) (otherwise : Option (Vec Stmt)) (stmt : Stmt) (body : List Stmt)
    (o a b : Sight) →
    stmt ≡ statements.If s test held otherwise → otherwise ≡ None → body ≡ held.items →
    a ≡ walk_after o (expr_marks test) → b ≡ walk_after a (body_marks body) →
    b ≡ walk_after o (statement_marks stmt)
if_walked s test held otherwise stmt body o a b is none same first second =
    second
    ∙ ap (λ x. walk_after x (body_marks body)) first
    ∙ ap (λ l. walk_after (walk_after o (expr_marks test)) (body_marks l)) same
    ∙ sym (after-append o (expr_marks test) (body_marks held.items))
    ∙ ap (λ l. walk_after o (expr_marks test ++ l)) (sym (append-nil (body_marks held.items)))
    ∙ sym (ap (walk_after o) (marks-if s test held))
    ∙ ap (λ x. walk_after o (statement_marks (statements.If s test held x))) (sym none)
    ∙ ap (λ x. walk_after o (statement_marks x)) (sym is)

pub if_else_walked :
    (s : Span) (test : Expr) (held : Vec Stmt) (otherwise : Option (Vec Stmt)) (other : Vec Stmt) (stmt : Stmt)
    (body rest : List Stmt) (o a b e : Sight) →
    stmt ≡ statements.If s test held otherwise → otherwise ≡ Some other → body ≡ held.items → rest ≡ other.items →
    a ≡ walk_after o (expr_marks test) → b ≡ walk_after a (body_marks body) → e ≡ walk_after b (body_marks rest) →
    e ≡ walk_after o (statement_marks stmt)
if_else_walked s test held otherwise other stmt body rest o a b e is some same same_rest first second third =
    let one = body_marks held.items in
    let two = body_marks other.items in
    third
    ∙ ap (λ l. walk_after b (body_marks l)) same_rest
    ∙ ap (λ x. walk_after x two) (second ∙ ap (λ l. walk_after a (body_marks l)) same)
    ∙ ap (λ x. walk_after (walk_after x one) two) first
    ∙ sym (after-append (walk_after o (expr_marks test)) one two)
    ∙ sym (after-append o (expr_marks test) (one ++ two))
    ∙ sym (ap (walk_after o) (marks-if_else s test held other))
    ∙ ap (λ x. walk_after o (statement_marks (statements.If s test held x))) (sym some)
    ∙ ap (λ x. walk_after o (statement_marks x)) (sym is)

pub block_turn :
    (body : List Stmt) (i : ℕ) (x : Stmt) → i < length body → x ≡ get_or body i x → (o a : Sight) →
    a ≡ walk_after o (statement_marks x) →
    walk_after a (body_marks (drop (i + 1) body)) ≡ walk_after o (body_marks (drop i body))
block_turn body i x lt is o a first =
    let rest = drop (i + 1) body in
    let head : drop i body ≡ x ∷ rest =
    drop-cons body i x lt ∙ ap (λ (y : Stmt). y ∷ drop (suc i) body) (sym is)
    ∙ ap (λ (n : ℕ). x ∷ drop n body) (sym (add-one i)) in
    ap (λ y. walk_after y (body_marks rest)) first
    ∙ sym (after-append o (statement_marks x) (body_marks rest))
    ∙ ap (λ l. walk_after o (body_marks l)) (sym head)
