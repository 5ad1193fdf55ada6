use Rattle.std.proofs.Common.{◌≡◌, map, length, sym, ap, ◌∙◌}
use Rattle.std.proofs.lemmas.List.{length-map}
use Rattle.vert_base.specs.declared.value.ValueType.TheVariants as kind
use Rattle.vert_tree.specs.Places.{loop_rights, tail_rights}
use Rattle.vert_tree.specs.Views.{view, view_block, view_declaration, view_program}
use Rattle.vert_types.specs.Findings.{first_from}
use Rattle.vert_types.specs.Scopes.{dictionary_in, names_in, view_place}
use Rattle.vert_types.specs.Typing.{at_loop, at_test, block_faults, faults_as, let_faults, with_lets}
use Rattle.vert_types.proofs.StatementLaws.{Finds, then_finds}
use Rattle.vert_types.proofs.blocks.check_dense_block.Goals as goal

pub returns : goal.returns
returns c =
    let scope = c.args.scope.now in
    let d = dictionary_in scope in
    let names = names_in scope in
    let t = view_program scope.program.now in
    let b = c.args.block.now in
    let o = c.args.found.now.first in
    let x = c.check_as.new.found.first in
    let y = c.check_lets.new.found.first in
    let z = c.check_body.new.found.first in
    let lets = map (view_declaration names) b.lets.items in
    let many : c.len-lets.result ≡ length lets = c.len-lets.ensures ∙ b.lets.ok.0
    ∙ sym (length-map b.lets.items (view_declaration names)) in
    let test : Finds o (faults_as d (at_test t) kind.Bool (view names b.when_test)) x = record {
      is = c.check_as.ensures ∙ ap (λ p. first_from o (faults_as d p kind.Bool (view names b.when_test)))
          c.at_test-test.ensures;
    } in
    let before : Finds x (let_faults d (at_test t) 0 lets) y = record {
      is = c.check_lets.ensures ∙ ap (λ l.
          first_from x (let_faults d (view_place c.at_test-test.result) 0 (map (view_declaration names) l)))
          c.deref.ensures.value ∙ ap (λ p. first_from x (let_faults d p 0 lets)) c.at_test-test.ensures;
    } in
    let body : Finds y (block_faults d loop_rights (at_loop (length lets) t) (view_block names b.body.items)) z =
    record {
      is = c.check_body.ensures ∙ ap (λ l.
          first_from y (block_faults d loop_rights (view_place c.at_loop.result) (view_block names l)))
          c.deref-2.ensures.value ∙ ap (λ p.
          first_from y (block_faults d loop_rights p (view_block names b.body.items)))
          (c.at_loop.ensures ∙ ap (λ n. at_loop n t) many);
    } in
    let tail : Finds z (block_faults d tail_rights (with_lets (length lets) (at_test t))
    (view_block names b.tail.items)) c.check_body-2.new.found.first = record {
      is = c.check_body-2.ensures ∙ ap (λ l.
          first_from z (block_faults d tail_rights (view_place c.with_lets.result) (view_block names l)))
          c.deref-3.ensures.value ∙ ap (λ p.
          first_from z (block_faults d tail_rights p (view_block names b.tail.items))) (c.with_lets.ensures
          ∙ ap (with_lets c.len-lets.result) c.at_test-test.ensures ∙ ap (λ n. with_lets n (at_test t)) many);
    } in
    (then_finds test (then_finds before (then_finds body tail))).is
