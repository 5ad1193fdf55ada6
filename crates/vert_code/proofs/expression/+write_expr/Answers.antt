use Rattle.std.proofs.Common.{◌++◌, length, sym, ap, ◌∙◌}
use Rattle.vert_tree.specs.declared.expression.Expr.{Expr}
use Rattle.vert_tree.specs.declared.expression.Node.{Node}
use Rattle.vert_code.specs.Listing.{choice, expr_code, node_code}
use Rattle.vert_code.proofs.Patch.{patch_choice}
use Rattle.vert_code.proofs.expression.+write_expr.Goals as goal

pub returns-in_ok-end_of-in-Cond-2 : goal.returns-in_ok-end_of-in-Cond-2
returns-in_ok-end_of-in-Cond-2 t c =
    let base = c.args.list.now.items in
    let test = c.in-Cond.test.value in
    let held = c.in-Cond.a.value in
    c.write-in-Cond.ensures
    ∙ patch_choice base (expr_code c.deref-in-Cond.result.now) (expr_code c.deref-in-Cond-2.result.now)
    (expr_code c.deref-in-Cond-3.result.now) _ _ _ _ _ _ _ _ _ _ _ _ c.in_ok-write_expr-in-Cond.ensures
    (c.len-fork.ensures ∙ c.write_expr-in-Cond.new.list.ok.0) c.in_ok-put-in-Cond.ensures
    c.in_ok-write_expr-in-Cond-2.ensures (c.len-leap.ensures ∙ c.write_expr-in-Cond-2.new.list.ok.0)
    c.in_ok-put-in-Cond-2.ensures c.in_ok-end_of-in-Cond.ensures c.write.ensures
    c.in_ok-write_expr-in-Cond-3.ensures c.in_ok-end_of-in-Cond-2.ensures
    ∙ ap (λ (e : Expr). base ++ choice (expr_code e) (expr_code c.deref-in-Cond-2.result.now)
    (expr_code c.deref-in-Cond-3.result.now) (length base)) c.deref-in-Cond.ensures
    ∙ ap (λ (e : Expr). base ++ choice (expr_code test) (expr_code e) (expr_code c.deref-in-Cond-3.result.now)
    (length base)) c.deref-in-Cond-2.ensures
    ∙ ap (λ (e : Expr). base ++ choice (expr_code test) (expr_code held) (expr_code e) (length base))
    c.deref-in-Cond-3.ensures
    ∙ ap (λ (n : Node). base ++ node_code n (length base)) (sym c.in-Cond.is)
