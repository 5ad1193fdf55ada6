use Rattle.std.proofs.Common.{◌<◌, ◌∙◌, length, ap, arith}
use Rattle.vert_tree.specs.declared.program.Decl.{Decl}
use Rattle.vert_tree.specs.Trees.{Declaration}
use Rattle.vert_tree.specs.Views.{view, view_declaration, view_name}
use Rattle.vert_types.specs.Filled.{decl_filled}
use Rattle.vert_types.specs.Scopes.{what_at}
use Rattle.vert_types.proofs.FillLaws.{all_with, map_set, unvisited_after}
use Rattle.std.proofs.lemmas.Bool.{and_from}
use Rattle.vert_types.proofs.fill.fill_decls.Goals as goal

pub loop-i-preserved : goal.loop-i-preserved
loop-i-preserved c =
    let l = c.loop-i in
    let items = l.decls.items in
    let lt : l.i < length items = omega arith in
    let d = c.index_mut-decl.result.now in
    let x : Decl = record { name = c.fill_name.new.name; kind = d.kind; value = c.fill_expr.new.e } in
    record {
      unvisited = unvisited_after items c.args.decls.now.items l.i x l.invariant.unvisited;
      same = λ names.
          let named = ap (λ n. let e : Declaration = record {
            name = n;
            kind = d.kind;
            value = view names c.fill_expr.new.e;
          } in e) (c.fill_name.ensures.same names) in
          let valued = ap (λ v. let e : Declaration = record {
            name = view_name names d.name;
            kind = d.kind;
            value = v;
          } in e) (c.fill_expr.ensures.same names) in
          map_set (view_declaration names) items l.i x d lt
          (named ∙ valued ∙ ap (view_declaration names) c.index_mut-decl.ensures.value) ∙ l.invariant.same names;
      filled = all_with (decl_filled (what_at c.args.meanings.now)) items l.i x lt l.invariant.filled
          (and_from _ _ c.fill_name.ensures.filled c.fill_expr.ensures.filled);
    }
