use Rattle.std.proofs.Common.{◌<◌, ◌∙◌, ◌&&◌, length, ap, arith}
use Rattle.vert_tree.specs.declared.program.TotalDecl.{TotalDecl}
use Rattle.vert_tree.specs.Trees.{TotalDeclaration}
use Rattle.vert_tree.specs.Views.{view, view_name, view_total}
use Rattle.vert_types.specs.Filled.{expr_filled, name_filled}
use Rattle.vert_types.specs.Scopes.{what_at}
use Rattle.vert_types.proofs.FillLaws.{all_with, map_set, unvisited_after}
use Rattle.std.proofs.lemmas.Bool.{and_from}
use Rattle.vert_types.proofs.fill.fill_totals.Goals as goal

pub loop-i-preserved : goal.loop-i-preserved
loop-i-preserved c =
    let l = c.loop-i in
    let items = l.totals.items in
    let lt : l.i < length items = omega arith in
    let d = c.index_mut-total.result.now in
    let w = what_at c.args.meanings.now in
    let x : TotalDecl = record { name = c.fill_name.new.name; op = d.op; value = c.fill_expr.new.e } in
    record {
      unvisited = unvisited_after items c.args.totals.now.items l.i x l.invariant.unvisited;
      same = λ names.
          let named = ap (λ n. let e : TotalDeclaration = record {
            name = n;
            op = d.op;
            value = view names c.fill_expr.new.e;
          } in e) (c.fill_name.ensures.same names) in
          let valued = ap (λ v. let e : TotalDeclaration = record {
            name = view_name names d.name;
            op = d.op;
            value = v;
          } in e) (c.fill_expr.ensures.same names) in
          map_set (view_total names) items l.i x d lt
          (named ∙ valued ∙ ap (view_total names) c.index_mut-total.ensures.value) ∙ l.invariant.same names;
      filled = all_with (λ (t : TotalDecl). name_filled w t.name && expr_filled w t.value) items l.i x lt
          l.invariant.filled (and_from _ _ c.fill_name.ensures.filled c.fill_expr.ensures.filled);
    }
