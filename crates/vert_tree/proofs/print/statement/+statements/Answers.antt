use Rattle.std.proofs.Common.{◌≡◌, ◌+◌, ◌∷◌, [], ◌++◌, take, sym, ap, ◌∙◌, arith}
use Rattle.std.proofs.lemmas.Grind.{common_steps}
use Rattle.std.proofs.lemmas.List.{take_more, take_all}
use Rattle.std.specs.String.{string_bytes}
use Rattle.vert_tree.specs.Printed.{printed_block}
use Rattle.vert_tree.specs.Views.{view_block}
use Rattle.vert_tree.proofs.Printing.{one_more, if_text, if_else_text}
use Rattle.vert_tree.proofs.print.statement.+statements.Goals as goal

pub print_block-lines-preserved : goal.print_block-lines-preserved
print_block-lines-preserved t c =
    let more : take (c.lines.statement-index + 1) c.args.statements.now
    ≡ take c.lines.statement-index c.args.statements.now ++ c.statement-item.result
    ∷ [] = take_more c.args.statements.now c.lines.statement-index c.statement-item.result c.lines-test.true
    ∙ ap (λ s. take c.lines.statement-index c.args.statements.now ++ s ∷ []) (sym c.statement-item.is) in
    one_more _ _ _ _ _ _ _ more c.lines.invariant c.in_ok-print_statement.ensures

pub print_block-returns : goal.print_block-returns
print_block-returns t c = c.lines.invariant
    ∙ ap (λ l. string_bytes c.args.out.now ++ printed_block (view_block c.args.names.now l))
    (take_all _ _ c.lines-test.false)

pub print_statement-returns-in-None : goal.print_statement-returns-in-None
print_statement-returns-in-None t c =
    let e = if_text c.args.names.now c.args.statement.now c.in-If.field-0 c.in-If.test c.in-If.held c.in-If.otherwise
    c.in-If.is c.in-None.is in
    grind (arith, common_steps, e)

pub print_statement-returns-in_ok-print_block-in-Some : goal.print_statement-returns-in_ok-print_block-in-Some
print_statement-returns-in_ok-print_block-in-Some t c =
    let e = if_else_text c.args.names.now c.args.statement.now c.in-If.field-0 c.in-If.test c.in-If.held
    c.in-If.otherwise c.in-Some.others c.in-If.is c.in-Some.is in
    grind (arith, common_steps, e)
