use Rattle.std.proofs.Common.{ℕ, List, map, refl, ap, ◌∙◌, arith}
use Rattle.vert_tree.specs.declared.program.Decl.{Decl}
use Rattle.vert_tree.specs.Views.{view, view_declaration}
use Rattle.vert_types.specs.Findings.{first_from}
use Rattle.vert_types.specs.Scopes.{dictionary_in, names_in, view_place}
use Rattle.vert_types.specs.Typing.{faults_as, let_faults, with_lets}
use Rattle.vert_types.proofs.StatementLaws.{turn}
use Rattle.vert_types.proofs.blocks.check_lets.Goals as goal

pub loop-i-preserved : goal.loop-i-preserved
loop-i-preserved c =
    let d = dictionary_in c.args.scope.now in
    let p = view_place c.args.place.now in
    let names = names_in c.args.scope.now in
    let x = c.index-lets-i.result in
    turn (λ (i : ℕ) (l : List Decl). let_faults d p i (map (view_declaration names) l)) (λ (i : ℕ) (e : Decl).
    faults_as d (with_lets i p) e.kind (view names e.value)) (λ i x xs. refl) c.args.lets.now c.loop-i.i x
    (omega arith) c.index-lets-i.is c.loop-i.found.first c.check_as.new.found.first
    (c.check_as.ensures ∙ ap (λ here. first_from c.loop-i.found.first (faults_as d here x.kind (view names x.value)))
    c.with_lets.ensures)
    ∙ c.loop-i.invariant
