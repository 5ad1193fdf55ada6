use Rattle.std.proofs.Common.{◌≡◌, ◌+◌, ◌-◌, ◌∷◌, [], ◌++◌, map, vec_len, sym, ◌∙◌, arith}
use Rattle.std.proofs.lemmas.Result.{err_from_is_err_and}
use Rattle.std.proofs.lemmas.List.{map_push}
use Rattle.vert_grammar.specs.Reading.{declaration_at}
use Rattle.vert_grammar.specs.Signs.{is_word}
use Rattle.vert_tree.specs.Views.{view_declaration}
use Rattle.tree_reader.specs.Signs.{plain}
use Rattle.tree_reader.proofs.Loops.{goes_on, fails, is_full, is_over}
use Rattle.tree_reader.proofs.reader.Reader.declarations.Goals as goal

pub returns-then-len-limit : goal.returns-then-len-limit
returns-then-len-limit c =
    is_full (is_word c.args.keyword) (declaration_at c.args.keyword 64)
    (map (view_declaration c.args.self.now.names.items) c.declarations.declarations.items) _
    (plain c.args.self.now.names.items c.declarations.tokens.now) _ (omega arith) (sym c.begins_word.ensures
    ∙ c.declarations-test.true) c.declarations.invariant.read

pub returns-in_err-declaration : goal.returns-in_err-declaration
returns-in_err-declaration c =
    let names = c.args.self.now.names.items in
    let p = err_from_is_err_and c.from_residual.result c.from_residual.ensures.1 in
    rw (p.1, p.2)
    (fails (is_word c.args.keyword) (declaration_at c.args.keyword 64)
    (map (view_declaration names) c.declarations.declarations.items) _ (plain names c.declarations.tokens.now)
    names _ (c.args.limit - (vec_len c.declarations.declarations + 1)) c.in_err-declaration.field-0.0
    (let g = c.declarations.invariant.few in omega arith) (sym c.begins_word.ensures ∙ c.declarations-test.true)
    c.in_err-declaration.ensures c.declarations.invariant.read)

pub declarations-preserved : goal.declarations-preserved
declarations-preserved c =
    let names = c.args.self.now.names.items in
    let e : map (view_declaration names) c.push.new.self.items
    ≡ map (view_declaration names) c.declarations.declarations.items
    ++ view_declaration names c.in_ok-declaration.declaration
    ∷ [] = rw c.in_ok-push.ensures.items
    (map_push _ c.declarations.declarations.items c.in_ok-declaration.declaration) in
    record {
      few = (let g = c.declarations.invariant.few in omega (arith, c.in_ok-push.ensures.len));
      read = rw e (goes_on (is_word c.args.keyword) (declaration_at c.args.keyword 64)
          (map (view_declaration names) c.declarations.declarations.items) _ (plain names c.declarations.tokens.now) _
          (c.args.limit - vec_len c.push.new.self) _ _ (let g = c.declarations.invariant.few in
          omega (arith, c.in_ok-push.ensures.len)) (sym c.begins_word.ensures ∙ c.declarations-test.true)
          c.in_ok-declaration.ensures c.declarations.invariant.read);
    }

pub returns : goal.returns
returns c =
    is_over (is_word c.args.keyword) (declaration_at c.args.keyword 64)
    (map (view_declaration c.args.self.now.names.items) c.declarations.declarations.items) _
    (plain c.args.self.now.names.items c.declarations.tokens.now) _ (sym c.begins_word.ensures
    ∙ c.declarations-test.false) c.declarations.invariant.read
