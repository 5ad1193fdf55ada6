-- One word after another is added.
use Rattle.std.proofs.Common.{◌+◌, ◌<◌, ◌≤◌, ap, ◌∙◌, arith}
use Rattle.std.proofs.lemmas.List.{take_all}
use Rattle.body_shape.specs.Update.{sent_at}
use Rattle.machine_parts.specs.Updates.{told_values}
use Rattle.machine_parts.proofs.UpdateLaws.{added, added_more, added_none, place_now, told_count, wide_now, width_now}
use Rattle.machine_parts.proofs.updates.add_sent.Goals as goal

pub loop-column-init : goal.loop-column-init
loop-column-init c =
    let w = c.args.words.now in
    added_none c.args.key c.args.place (told_values (sent_at w.slots w.reduced c.args.update.now)) c.args.partials.now

pub add_word-requires-clause-place : goal.add_word-requires-clause-place
add_word-requires-clause-place c =
    let w = c.args.words.now in
    place_now c.args.key c.args.place c.loop-column.column (told_values (sent_at w.slots w.reduced c.args.update.now))
    c.args.partials.now c.loop-column.partials c.requires.place c.requires.row c.loop-column.invariant

pub add_word-requires-clause-column : goal.add_word-requires-clause-column
add_word-requires-clause-column c =
    let w = c.args.words.now in
    omega (
      arith,
      c.requires.width,
      width_now c.args.key c.args.place c.loop-column.column
          (told_values (sent_at w.slots w.reduced c.args.update.now)) c.args.partials.now c.loop-column.partials
          c.requires.place c.requires.row c.loop-column.invariant,
    )

pub add_word-requires-clause-row : goal.add_word-requires-clause-row
add_word-requires-clause-row c =
    let w = c.args.words.now in
    wide_now c.args.key c.args.place c.loop-column.column (told_values (sent_at w.slots w.reduced c.args.update.now))
    c.args.partials.now c.loop-column.partials c.requires.place c.requires.row c.loop-column.invariant

pub loop-column-preserved : goal.loop-column-preserved
loop-column-preserved c =
    let w = c.args.words.now in
    let column : c.loop-column.column < c.args.words.now.slots + c.args.words.now.reduced = omega arith in
    added_more c.args.key c.args.place c.loop-column.column (told_values (sent_at w.slots w.reduced c.args.update.now))
    c.args.partials.now c.loop-column.partials c.requires.place c.requires.row c.loop-column.invariant
    c.told-word.result c.add_word.new.partials (omega (arith, told_count w.slots w.reduced c.args.update.now))
    (omega (arith, c.requires.width)) c.told-word.ensures c.add_word.ensures

pub returns : goal.returns
returns c =
    let w = c.args.words.now in
    let told = told_values (sent_at w.slots w.reduced c.args.update.now) in
    let done : c.args.words.now.slots + c.args.words.now.reduced ≤ c.loop-column.column = omega arith in
    c.loop-column.invariant
    ∙ ap (λ ts. added c.args.key c.args.place ts c.args.partials.now)
    (take_all c.loop-column.column told (omega (arith, told_count w.slots w.reduced c.args.update.now)))
