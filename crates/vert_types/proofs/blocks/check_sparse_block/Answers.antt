use Rattle.std.proofs.Common.{◌≡◌, map, length, sym, ap, ◌∙◌}
use Rattle.std.proofs.lemmas.List.{length-map}
use Rattle.vert_base.specs.declared.value.ValueType.TheVariants as kind
use Rattle.vert_tree.specs.Places.{sparse_rights}
use Rattle.vert_tree.specs.Views.{view, view_block, view_declaration, view_program}
use Rattle.vert_types.specs.Findings.{first_from}
use Rattle.vert_types.specs.Scopes.{dictionary_in, names_in, view_place}
use Rattle.vert_types.specs.Typing.{at_sparse, at_test, block_faults, declaration_faults, faults_as}
use Rattle.vert_types.proofs.StatementLaws.{Finds, then_finds}
use Rattle.vert_types.proofs.blocks.check_sparse_block.Goals as goal

pub returns : goal.returns
returns c =
    let scope = c.args.scope.now in
    let d = dictionary_in scope in
    let names = names_in scope in
    let t = view_program scope.program.now in
    let b = c.args.block.now in
    let o = c.args.found.now.first in
    let x = c.check_as.new.found.first in
    let y = c.check_decls.new.found.first in
    let sends = map (view_declaration names) b.sends.items in
    let many : c.len.result ≡ length sends = c.len.ensures ∙ b.sends.ok.0
    ∙ sym (length-map b.sends.items (view_declaration names)) in
    let test : Finds o (faults_as d (at_test t) kind.Bool (view names b.when_test)) x = record {
      is = c.check_as.ensures ∙ ap (λ p. first_from o (faults_as d p kind.Bool (view names b.when_test)))
          c.at_test-test.ensures;
    } in
    let sent : Finds x (declaration_faults d (at_test t) sends) y = record {
      is = c.check_decls.ensures ∙ ap (λ l.
          first_from x (declaration_faults d (view_place c.at_test-test.result) (map (view_declaration names) l)))
          c.deref.ensures.value ∙ ap (λ p. first_from x (declaration_faults d p sends)) c.at_test-test.ensures;
    } in
    let body : Finds y (block_faults d sparse_rights (at_sparse (length sends) t) (view_block names b.body.items))
    c.check_body.new.found.first = record {
      is = c.check_body.ensures ∙ ap (λ l.
          first_from y (block_faults d sparse_rights (view_place c.at_sparse.result) (view_block names l)))
          c.deref-2.ensures.value ∙ ap (λ p.
          first_from y (block_faults d sparse_rights p (view_block names b.body.items))) (c.at_sparse.ensures
          ∙ ap (λ n. at_sparse n t) many);
    } in
    (then_finds test (then_finds sent body)).is
