use Rattle.std.proofs.Common.{Option, map, ap, ◌∙◌}
use Rattle.std.specs.Prelude.{option_map}
use Rattle.vert_base.specs.declared.value.ValueType.TheVariants as kind
use Rattle.vert_tree.specs.Places.{update_rights}
use Rattle.vert_tree.specs.Views.{view, view_block, view_declaration, view_dense, view_program, view_sparse, view_total}
use Rattle.vert_types.specs.declared.fault.Finding.{Finding}
use Rattle.vert_types.specs.Findings.{first_from}
use Rattle.vert_types.specs.Scopes.{dictionary_in, names_in, view_place}
use Rattle.vert_types.specs.Typing.{at_field, at_start, at_total, at_update, block_faults, declaration_faults, dense_faults, faults_as, sparse_faults, stop_faults, total_faults}
use Rattle.vert_types.proofs.StatementLaws.{Finds, then_finds}
use Rattle.vert_types.proofs.blocks.check_bodies.Goals as goal

pub returns : goal.returns
returns c =
    let scope = c.args.scope.now in
    let d = dictionary_in scope in
    let names = names_in scope in
    let p = scope.program.now in
    let t = view_program p in
    let o : Option Finding = c.args.found.now.first in
    let x : Option Finding = c.check_decls.new.found.first in
    let y : Option Finding = c.check_totals.new.found.first in
    let z : Option Finding = c.check_as.new.found.first in
    let u : Option Finding = c.check_dense.new.found.first in
    let v : Option Finding = c.check_sparse.new.found.first in
    let w : Option Finding = c.check_body.new.found.first in
    let fields : Finds o (declaration_faults d at_field (map (view_declaration names) p.fields.items)) x = record {
      is = c.check_decls.ensures ∙ ap (λ l.
          first_from o (declaration_faults d (view_place c.at_field.result) (map (view_declaration names) l)))
          c.deref.ensures.value ∙ ap (λ at.
          first_from o (declaration_faults d at (map (view_declaration names) p.fields.items))) c.at_field.ensures;
    } in
    let totals : Finds x (total_faults d (at_total t) (map (view_total names) p.totals.items)) y = record {
      is = c.check_totals.ensures ∙ ap (λ l.
          first_from x (total_faults d (view_place c.at_total.result) (map (view_total names) l)))
          c.deref-2.ensures.value ∙ ap (λ at.
          first_from x (total_faults d at (map (view_total names) p.totals.items))) c.at_total.ensures;
    } in
    let start : Finds y (faults_as d (at_start t) kind.Bool (view names p.start)) z = record {
      is = c.check_as.ensures ∙ ap (λ at. first_from y (faults_as d at kind.Bool (view names p.start)))
          c.at_start.ensures;
    } in
    let dense : Finds z (dense_faults d t (option_map (view_dense names) p.dense)) u =
    record { is = c.check_dense.ensures } in
    let sparse : Finds u (sparse_faults d t (option_map (view_sparse names) p.sparse)) v =
    record { is = c.check_sparse.ensures } in
    let update : Finds v (block_faults d update_rights (at_update t) (view_block names p.update.items)) w = record {
      is = c.check_body.ensures ∙ ap (λ l.
          first_from v (block_faults d update_rights (view_place c.at_update.result) (view_block names l)))
          c.deref-3.ensures.value ∙ ap (λ at.
          first_from v (block_faults d update_rights at (view_block names p.update.items))) c.at_update.ensures;
    } in
    let stop : Finds w (stop_faults d t (option_map (view names) p.stop)) c.check_stop.new.found.first =
    record { is = c.check_stop.ensures } in
    (then_finds fields (then_finds totals (then_finds start
    (then_finds dense (then_finds sparse (then_finds update stop)))))).is
