use Rattle.std.proofs.Common.{◌++◌, length, sym, ap, ◌∙◌, List, Option}
use Rattle.std.specs.Global.{Vec}
use Rattle.vert_tree.specs.declared.statement.Stmt.{Stmt}
use Rattle.vert_tree.specs.declared.statement.Stmt as statements
use Rattle.vert_code.specs.Listing.{Piece, body_code, choice, expr_code, only_if, stmt_code}
use Rattle.vert_code.proofs.Patch.{patch_choice, patch_only_if, stmt_code-if, stmt_code-if_else}
use Rattle.vert_code.proofs.statement.+statement.Goals as goal

pub write_stmt-returns-in_ok-end_of-in-If-3 : goal.write_stmt-returns-in_ok-end_of-in-If-3
write_stmt-returns-in_ok-end_of-in-If-3 t c =
    let base = c.args.list.now.items in
    let test = expr_code c.in-If.test in
    c.write-in_default.ensures
    ∙ patch_only_if base test (body_code c.deref.result.now) _ _ _ _ _ _ c.in_ok-write_expr-in-If.ensures
    (c.len-fork.ensures ∙ c.write_expr-in-If.new.list.ok.0) c.in_ok-put-in-If.ensures
    c.in_ok-write_body-in-If.ensures c.in_ok-end_of-in-If-3.ensures
    ∙ ap (λ (b : List Stmt). base ++ only_if test (body_code b) (length base)) c.deref.ensures.value
    ∙ ap (λ (p : Piece). base ++ p (length base)) (sym (stmt_code-if c.in-If.field-0 c.in-If.test c.in-If.held))
    ∙ ap (λ (o : Option (Vec Stmt)). base ++ stmt_code (statements.If c.in-If.field-0 c.in-If.test c.in-If.held o)
    (length base)) (sym c.in_default.is)
    ∙ ap (λ (s : Stmt). base ++ stmt_code s (length base)) (sym c.in-If.is)

pub write_stmt-returns-in_ok-end_of-in-If-2 : goal.write_stmt-returns-in_ok-end_of-in-If-2
write_stmt-returns-in_ok-end_of-in-If-2 t c =
    let base = c.args.list.now.items in
    let test = expr_code c.in-If.test in
    let held = body_code c.in-If.held.items in
    c.write-in-Some.ensures
    ∙ patch_choice base test (body_code c.deref.result.now) (body_code c.deref-in-Some.result.now) _ _ _ _ _ _ _ _ _ _
    _ _ c.in_ok-write_expr-in-If.ensures (c.len-fork.ensures ∙ c.write_expr-in-If.new.list.ok.0)
    c.in_ok-put-in-If.ensures c.in_ok-write_body-in-If.ensures (c.len-leap.ensures ∙ c.write_body.new.list.ok.0)
    c.in_ok-put-in-If-2.ensures c.in_ok-end_of-in-If.ensures c.write.ensures c.in_ok-write_body-in-If-2.ensures
    c.in_ok-end_of-in-If-2.ensures
    ∙ ap (λ (b : List Stmt). base ++ choice test (body_code b) (body_code c.deref-in-Some.result.now) (length base))
    c.deref.ensures.value
    ∙ ap (λ (b : List Stmt). base ++ choice test held (body_code b) (length base)) c.deref-in-Some.ensures.value
    ∙ ap (λ (p : Piece). base ++ p (length base))
    (sym (stmt_code-if_else c.in-If.field-0 c.in-If.test c.in-If.held c.in-Some.body))
    ∙ ap (λ (o : Option (Vec Stmt)). base ++ stmt_code (statements.If c.in-If.field-0 c.in-If.test c.in-If.held o)
    (length base)) (sym c.in-Some.is)
    ∙ ap (λ (s : Stmt). base ++ stmt_code s (length base)) (sym c.in-If.is)
