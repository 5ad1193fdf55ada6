use Rattle.std.proofs.Common.{◌≡◌, ◌∷◌, [], ◌++◌, map, sym, ◌∙◌, arith}
use Rattle.std.proofs.lemmas.List.{map_push, length-map}
use Rattle.std.proofs.lemmas.Result.{err_from_is_err_and}
use Rattle.vert_grammar.specs.Reading.{goes_on, statement_at}
use Rattle.vert_tree.specs.Views.{view_statement}
use Rattle.tree_reader.specs.Signs.{plain, plain_rights, plain_sign}
use Rattle.tree_reader.proofs.Loops.{many_fails, many_goes_on, many_over, many_starts}
use Rattle.tree_reader.proofs.Shrinks.{statement_shrinks}
use Rattle.tree_reader.proofs.reader.Reader.+statements.Goals as goal

pub statements-returns-in_err-statement : goal.statements-returns-in_err-statement
statements-returns-in_err-statement t c =
    let names = c.args.self.now.names.items in
    let p = err_from_is_err_and c.from_residual.result c.from_residual.ensures.1 in
    rw (p.1, p.2) (many_fails goes_on (statement_at (plain_rights c.args.rights) c.args.depth) names _ _
    (plain names c.args.tokens.now) c.in_err-statement.field-0.0 c.statements.invariant (sym c.goes_on.ensures
    ∙ c.statements-test.true) c.in_err-statement.ensures)

pub statements-statements-smaller : goal.statements-statements-smaller
statements-statements-smaller t c =
    let names = c.args.self.now.names.items in
    let less = statement_shrinks (plain_rights c.args.rights) c.args.depth _ _ _ c.in_ok-statement.ensures in
    omega (
      arith,
      less,
      length-map c.in_ok-statement.after.now (plain_sign names),
      length-map c.statements.tokens.now (plain_sign names),
    )

pub statements-statements-init : goal.statements-statements-init
statements-statements-init t c = rw c.new-statements.ensures.items
    (many_starts goes_on (statement_at (plain_rights c.args.rights) c.args.depth)
    (plain c.args.self.now.names.items c.args.tokens.now))

pub statements-statements-preserved : goal.statements-statements-preserved
statements-statements-preserved t c =
    let names = c.args.self.now.names.items in
    let less = statement_shrinks (plain_rights c.args.rights) c.args.depth _ _ _ c.in_ok-statement.ensures in
    let e : map (view_statement names) c.push.new.self.items
    ≡ map (view_statement names) c.statements.statements.items ++ view_statement names c.in_ok-statement.statement
    ∷ [] = rw c.in_ok-push.ensures.items (map_push _ c.statements.statements.items c.in_ok-statement.statement) in
    rw e (many_goes_on goes_on (statement_at (plain_rights c.args.rights) c.args.depth) _ _
    (plain names c.args.tokens.now) _ _ c.statements.invariant (sym c.goes_on.ensures ∙ c.statements-test.true)
    c.in_ok-statement.ensures less)

pub statements-returns : goal.statements-returns
statements-returns t c =
    many_over goes_on (statement_at (plain_rights c.args.rights) c.args.depth) _ _
    (plain c.args.self.now.names.items c.args.tokens.now) c.statements.invariant (sym c.goes_on.ensures
    ∙ c.statements-test.false)
