use Rattle.std.proofs.Common.{ℕ, List, map, refl, ◌∙◌, arith}
use Rattle.vert_base.specs.declared.value.ValueType.TheVariants as kind
use Rattle.vert_tree.specs.declared.program.TotalDecl.{TotalDecl}
use Rattle.vert_tree.specs.Views.{view, view_total}
use Rattle.vert_types.specs.Scopes.{dictionary_in, names_in, view_place}
use Rattle.vert_types.specs.Typing.{total_faults, faults_as}
use Rattle.vert_types.proofs.StatementLaws.{turn}
use Rattle.vert_types.proofs.blocks.check_totals.Goals as goal

pub loop-total-preserved : goal.loop-total-preserved
loop-total-preserved c =
    let d = dictionary_in c.args.scope.now in
    let p = view_place c.args.place.now in
    let names = names_in c.args.scope.now in
    turn (λ (i : ℕ) (l : List TotalDecl). total_faults d p (map (view_total names) l)) (λ (i : ℕ) (e : TotalDecl).
    faults_as d p kind.Int (view names e.value)) (λ i x xs. refl) c.args.totals.now c.loop-total.total-index
    c.total-item.result (omega arith) c.total-item.is c.loop-total.found.first c.check_as.new.found.first
    c.check_as.ensures
    ∙ c.loop-total.invariant
