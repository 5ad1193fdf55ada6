use Rattle.std.proofs.Common.{◌-◌, ◌∙◌, ap, sym, length, replicate}
use Rattle.std.specs.Prelude.{slice_index}
use Rattle.std.proofs.lemmas.List.FromFn.{length-range_with_len}
use Rattle.flat_table.specs.Grids.{Rows}
use Rattle.slot_merge.specs.declared.partial.Partial.{Partial}
use Rattle.symple_face.specs.CoreTakes.{empty_partials}
use Rattle.vert_base.specs.Ends.{start_of}
use Rattle.machine_steps.proofs.BlankLaws.{count_empty, same_for_each}
use Rattle.machine_core.proofs.making.blank_partials.Goals as goal

pub returns : goal.returns
returns c =
    let split = c.args.ground.now.part.split.value in
    let ends = c.args.ground.now.part.cuts in
    let m = c.args.ground.now.part.at.machine in
    let a = start_of ends m in
    let n = slice_index ends m - a in
    let empty = c.empty_row-empty.ensures ∙ ap empty_partials c.split.ensures in
    let width = ap (λ (g : Rows Partial). g.width) c.put_in_each.ensures
    ∙ ap (λ (g : Rows Partial). g.width) c.in_ok-partials.ensures
    ∙ c.len.ensures.value ∙ ap length empty ∙ count_empty split in
    let rows = ap (λ (g : Rows Partial). g.rows) c.put_in_each.ensures
    ∙ ap (λ k. replicate k c.as_slice.result.now) (c.own_count-count.ensures.count ∙ length-range_with_len a n)
    ∙ ap (replicate n) (c.as_slice.ensures.value ∙ empty)
    ∙ sym (same_for_each (empty_partials split) a n) in
    λ j. record { width = width j; rows = rows j }
