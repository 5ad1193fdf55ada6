-- One word after another is added.
use Rattle.std.proofs.Common.{◌++◌, ap, ◌∙◌, arith, length-append}
use Rattle.std.proofs.lemmas.List.{take_all}
use Rattle.machine_parts.proofs.UpdateLaws.{added, added_more, added_none, place_now, wide_now, width_now}
use Rattle.vertex_work.proofs.partials.add_sent.Goals as goal

pub columns-init : goal.columns-init
columns-init c =
    added_none c.args.key c.args.place (c.args.values.now ++ c.args.operands.now) c.args.partials.now

pub add_word-requires-clause-place : goal.add_word-requires-clause-place
add_word-requires-clause-place c =
    place_now c.args.key c.args.place c.columns.column (c.args.values.now ++ c.args.operands.now) c.args.partials.now
    c.columns.partials c.requires.place c.requires.row c.columns.invariant

pub add_word-requires-clause-column : goal.add_word-requires-clause-column
add_word-requires-clause-column c =
    omega (
      arith,
      c.requires.width,
      width_now c.args.key c.args.place c.columns.column (c.args.values.now ++ c.args.operands.now) c.args.partials.now
          c.columns.partials c.requires.place c.requires.row c.columns.invariant,
    )

pub add_word-requires-clause-row : goal.add_word-requires-clause-row
add_word-requires-clause-row c =
    wide_now c.args.key c.args.place c.columns.column (c.args.values.now ++ c.args.operands.now) c.args.partials.now
    c.columns.partials c.requires.place c.requires.row c.columns.invariant

pub columns-preserved : goal.columns-preserved
columns-preserved c =
    let all = length-append c.args.values.now c.args.operands.now in
    added_more c.args.key c.args.place c.columns.column (c.args.values.now ++ c.args.operands.now)
    c.args.partials.now c.columns.partials c.requires.place c.requires.row c.columns.invariant c.told-word.result
    c.add_word.new.partials (omega (arith, all)) (omega (arith, c.requires.width)) c.told-word.ensures
    c.add_word.ensures

pub returns : goal.returns
returns c =
    let all = length-append c.args.values.now c.args.operands.now in
    c.columns.invariant
    ∙ ap (λ ts. added c.args.key c.args.place ts c.args.partials.now)
    (take_all c.columns.column (c.args.values.now ++ c.args.operands.now) (omega (arith, all)))
