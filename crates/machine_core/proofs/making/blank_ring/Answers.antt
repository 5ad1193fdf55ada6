use Rattle.std.proofs.Common.{◌-◌, ◌∙◌, ap, sym, replicate}
use Rattle.std.specs.Prelude.{slice_index}
use Rattle.std.proofs.lemmas.List.FromFn.{length-range_with_len}
use Rattle.instrument.specs.declared.split.Split.{Split}
use Rattle.symple_face.specs.CoreScan.{fresh}
use Rattle.symple_face.specs.Plans.{loop_carry}
use Rattle.symple_face.specs.Shapes.{words_in}
use Rattle.vert_base.specs.Ends.{start_of}
use Rattle.machine_parts.specs.Flat.{StateTable, fresh_state}
use Rattle.machine_steps.proofs.BlankLaws.{same_for_each}
use Rattle.machine_core.proofs.making.blank_ring.Goals as goal

pub returns : goal.returns
returns c =
    let split = c.args.ground.now.part.split.value in
    let ends = c.args.ground.now.part.cuts in
    let m = c.args.ground.now.part.at.machine in
    let a = start_of ends m in
    let n = slice_index ends m - a in
    let wide = c.ring_width.ensures.width ∙ ap (λ (q : Split). words_in (loop_carry q.dense)) c.split.ensures in
    let width = ap (λ (t : StateTable). t.width) c.in_ok-ring.ensures ∙ wide in
    let states = ap (λ (t : StateTable). t.states) c.in_ok-ring.ensures
    ∙ ap (λ k. replicate k (fresh_state c.ring_width.result)) (c.own_count.ensures.count ∙ length-range_with_len a n)
    ∙ ap (λ w. replicate n (fresh_state w)) wide
    ∙ sym (same_for_each (fresh split) a n) in
    λ j. record { width = width j; states = states j }
