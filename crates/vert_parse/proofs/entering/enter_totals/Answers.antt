use Rattle.std.proofs.Common.{ap, ◌∙◌, arith}
use Rattle.vert_tree.specs.Views.{text_of, view, view_total}
use Rattle.vert_parse.specs.Entered.{enter_all, texts_in}
use Rattle.vert_parse.specs.Names.{total_names, tree_names}
use Rattle.vert_parse.proofs.Turns.{list_end, list_turn, named_turn, through_map}
use Rattle.vert_parse.proofs.entering.enter_totals.Goals as goal

pub totals-preserved : goal.totals-preserved
totals-preserved c =
    let names = c.args.names.now in
    let one = named_turn (texts_in c.totals.used.keys) (texts_in c.enter.new.used.keys)
    (texts_in c.enter_expr.new.used.keys) (text_of names c.total-item.result.name.name)
    (tree_names (view names c.total-item.result.value)) c.in_ok-enter.ensures.entered
    c.in_ok-enter_expr.ensures.entered in
    list_turn (λ d. total_names (view_total names d)) c.args.totals.now c.totals.total-index c.total-item.result
    (omega arith) c.total-item.is (texts_in c.totals.used.keys) (texts_in c.enter_expr.new.used.keys) one
    ∙ c.totals.invariant

pub returns-clause-entered : goal.returns-clause-entered
returns-clause-entered c =
    let names = c.args.names.now in
    list_end (λ d. total_names (view_total names d)) c.args.totals.now c.totals.total-index (omega arith)
    (texts_in c.args.used.now.keys) (texts_in c.totals.used.keys) c.totals.invariant
    ∙ ap (enter_all (texts_in c.args.used.now.keys)) (through_map total_names (view_total names) c.args.totals.now)
