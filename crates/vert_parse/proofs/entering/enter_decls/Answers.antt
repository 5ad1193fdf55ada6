use Rattle.std.proofs.Common.{ap, ◌∙◌, arith}
use Rattle.vert_tree.specs.Views.{text_of, view, view_declaration}
use Rattle.vert_parse.specs.Entered.{enter_all, texts_in}
use Rattle.vert_parse.specs.Names.{declaration_names, tree_names}
use Rattle.vert_parse.proofs.Turns.{list_end, list_turn, named_turn, through_map}
use Rattle.vert_parse.proofs.entering.enter_decls.Goals as goal

pub decls-preserved : goal.decls-preserved
decls-preserved c =
    let names = c.args.names.now in
    let one = named_turn (texts_in c.decls.used.keys) (texts_in c.enter.new.used.keys)
    (texts_in c.enter_expr.new.used.keys) (text_of names c.decl-item.result.name.name)
    (tree_names (view names c.decl-item.result.value)) c.in_ok-enter.ensures.entered
    c.in_ok-enter_expr.ensures.entered in
    list_turn (λ d. declaration_names (view_declaration names d)) c.args.decls.now c.decls.decl-index
    c.decl-item.result (omega arith) c.decl-item.is (texts_in c.decls.used.keys)
    (texts_in c.enter_expr.new.used.keys) one
    ∙ c.decls.invariant

pub returns-clause-entered : goal.returns-clause-entered
returns-clause-entered c =
    let names = c.args.names.now in
    list_end (λ d. declaration_names (view_declaration names d)) c.args.decls.now c.decls.decl-index (omega arith)
    (texts_in c.args.used.now.keys) (texts_in c.decls.used.keys) c.decls.invariant
    ∙ ap (enter_all (texts_in c.args.used.now.keys))
    (through_map declaration_names (view_declaration names) c.args.decls.now)
