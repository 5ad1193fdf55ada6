use Rattle.std.proofs.Common.{◌<◌, length, ◌≡◌, get_or, ◌∙◌, arith, ap}
use Rattle.vert_tree.specs.Views.{view_declaration}
use Rattle.vert_parse.specs.Entered.{has_place}
use Rattle.vert_parse.specs.Idents.{decl_all}
use Rattle.vert_parse.specs.Parsing.{is_fresh}
use Rattle.vert_parse.proofs.Renames.{all_at, all_whole, all_with, same_whole, same_with, unvisited_after}
use Rattle.vert_parse.proofs.renaming.rename_decls.Goals as goal

pub rename_decl-requires-clause-places : goal.rename_decl-requires-clause-places
rename_decl-requires-clause-places c =
    let l = c.loop-i in
    let old = c.args.decls.now.items in
    let d = c.index_mut.result.now in
    let p = decl_all (has_place c.args.names.now c.args.used.now.keys) in
    let lt : l.i < length old = omega arith in
    let is : d ≡ get_or old l.i d = c.index_mut.ensures.value ∙ l.invariant.unvisited.1 l.i d (omega arith) in
    ap p is ∙ all_at p old l.i d lt c.requires.places

pub loop-i-preserved : goal.loop-i-preserved
loop-i-preserved c =
    let l = c.loop-i in
    let items = l.decls.items in
    let old = c.args.decls.now.items in
    let d = c.index_mut.result.now in
    let lt : l.i < length items = omega arith in
    let lo : l.i < length old = omega arith in
    let is : d ≡ get_or old l.i d = c.index_mut.ensures.value ∙ l.invariant.unvisited.1 l.i d (omega arith) in
    record {
      unvisited = unvisited_after items old l.i c.rename_decl.new.decl l.invariant.unvisited;
      same = same_with (view_declaration c.args.used.now.keys) (view_declaration c.args.names.now) items old l.i
          c.rename_decl.new.decl d lt lo l.invariant.same (c.rename_decl.ensures.same
          ∙ ap (view_declaration c.args.names.now) is);
      fresh = all_with (decl_all (is_fresh (length c.args.used.now.keys))) items l.i c.rename_decl.new.decl lt
          l.invariant.fresh c.rename_decl.ensures.fresh;
    }

pub returns-clause-same : goal.returns-clause-same
returns-clause-same c =
    let l = c.loop-i in
    let e = l.invariant.unvisited.0 in
    same_whole (view_declaration c.args.used.now.keys) (view_declaration c.args.names.now) l.decls.items
    c.args.decls.now.items l.i (omega arith) (omega arith) l.invariant.same

pub returns-clause-fresh : goal.returns-clause-fresh
returns-clause-fresh c =
    let e = c.loop-i.invariant.unvisited.0 in
    all_whole (decl_all (is_fresh (length c.args.used.now.keys))) c.loop-i.decls.items c.loop-i.i (omega arith)
    c.loop-i.invariant.fresh
