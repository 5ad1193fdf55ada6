use Rattle.std.proofs.Common.{ℕ, List, map, refl, ◌∙◌, arith}
use Rattle.vert_tree.specs.declared.program.Decl.{Decl}
use Rattle.vert_tree.specs.Views.{view, view_declaration}
use Rattle.vert_types.specs.Scopes.{dictionary_in, names_in, view_place}
use Rattle.vert_types.specs.Typing.{declaration_faults, faults_as}
use Rattle.vert_types.proofs.StatementLaws.{turn}
use Rattle.vert_types.proofs.blocks.check_decls.Goals as goal

pub loop-decl-preserved : goal.loop-decl-preserved
loop-decl-preserved c =
    let d = dictionary_in c.args.scope.now in
    let p = view_place c.args.place.now in
    let names = names_in c.args.scope.now in
    turn (λ (i : ℕ) (l : List Decl). declaration_faults d p (map (view_declaration names) l)) (λ (i : ℕ) (e : Decl).
    faults_as d p e.kind (view names e.value)) (λ i x xs. refl) c.args.decls.now c.loop-decl.decl-index
    c.decl-item.result (omega arith) c.decl-item.is c.loop-decl.found.first c.check_as.new.found.first
    c.check_as.ensures
    ∙ c.loop-decl.invariant
