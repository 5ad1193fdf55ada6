-- The partial of one slot after another is written.
use Rattle.std.proofs.Common.{arith}
use Rattle.vertex_work.proofs.StoreLaws.{place_now, stored_all, stored_more, stored_none, width_now}
use Rattle.vertex_work.proofs.push.store.Goals as goal

pub loop-column-init : goal.loop-column-init
loop-column-init c = stored_none c.args.place c.args.emits.now.slots.items c.args.partials.now

pub put-requires-clause-place : goal.put-requires-clause-place
put-requires-clause-place c =
    place_now c.args.place c.loop-column.column c.args.emits.now.slots.items c.args.partials.now c.loop-column.partials
    c.requires.place c.requires.row c.loop-column.invariant

pub put-requires-clause-column : goal.put-requires-clause-column
put-requires-clause-column c =
    omega (
      arith,
      width_now c.args.place c.loop-column.column c.args.emits.now.slots.items c.args.partials.now
          c.loop-column.partials c.requires.place c.requires.row c.loop-column.invariant,
    )

pub loop-column-preserved : goal.loop-column-preserved
loop-column-preserved c =
    stored_more c.args.place c.loop-column.column c.args.emits.now.slots.items c.args.partials.now
    c.loop-column.partials c.requires.place c.requires.row c.loop-column.invariant _ _ c.put.new.self c.deref.ensures.0
    (omega arith) c.requires.width c.put.ensures

pub returns : goal.returns
returns c =
    stored_all c.args.place c.loop-column.column c.args.emits.now.slots.items c.args.partials.now
    c.loop-column.partials (omega arith) c.loop-column.invariant
