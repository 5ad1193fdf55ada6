use Rattle.std.proofs.Common.{◌<◌, ◌∙◌, length, ap, arith}
use Rattle.vert_tree.specs.declared.program.SlotDecl.{SlotDecl}
use Rattle.vert_tree.specs.Trees.{SlotDeclaration}
use Rattle.vert_tree.specs.Views.{view_slot}
use Rattle.vert_types.specs.Filled.{name_filled}
use Rattle.vert_types.specs.Scopes.{what_at}
use Rattle.vert_types.proofs.FillLaws.{all_with, map_set, unvisited_after}
use Rattle.vert_types.proofs.fill.fill_slots.Goals as goal

pub loop-i-preserved : goal.loop-i-preserved
loop-i-preserved c =
    let l = c.loop-i in
    let items = l.slots.items in
    let lt : l.i < length items = omega arith in
    let d = c.index_mut-slot.result.now in
    let x : SlotDecl = record { name = c.fill_name.new.name; op = d.op } in
    record {
      unvisited = unvisited_after items c.args.slots.now.items l.i x l.invariant.unvisited;
      same = λ names.
          let named = ap (λ n. let e : SlotDeclaration = record { name = n; op = d.op } in e)
          (c.fill_name.ensures.same names) in
          map_set (view_slot names) items l.i x d lt (named ∙ ap (view_slot names) c.index_mut-slot.ensures.value)
          ∙ l.invariant.same names;
      filled = all_with (λ (s : SlotDecl). name_filled (what_at c.args.meanings.now) s.name) items l.i x lt
          l.invariant.filled c.fill_name.ensures.filled;
    }
