-- The mark and the words are put into the place of the state.
use Rattle.std.proofs.Common.{arith}
use Rattle.machine_parts.proofs.FlatLaws.{put_laid, put_still, state_put, states_count}
use Rattle.machine_parts.proofs.ring_half.RingHalf.put.Goals as goal

pub index_mut-requires : goal.index_mut-requires
index_mut-requires c =
    let r = c.self.inside in
    omega (
      arith,
      states_count c.args.self.now r.width r.marks.items r.words c.self.view_is c.self.invariant.0,
      c.self.inside.marks.ok.0,
      c.requires.place,
    )

pub put_row-requires-clause-place : goal.put_row-requires-clause-place
put_row-requires-clause-place c =
    let r = c.self.inside in
    omega (
      arith,
      states_count c.args.self.now r.width r.marks.items r.words c.self.view_is c.self.invariant.0,
      c.self.invariant.0.size,
      c.requires.place,
    )

pub invariant_of-self : goal.invariant_of-self
invariant_of-self c =
    let r = c.self.inside in
    let t = c.args.self.now in (
      put_laid t r.width r.marks.items r.words c.self.view_is c.self.invariant.0 c.args.place c.args.mark
          c.args.words.now c.put_row.new.self c.put_row.ensures c.requires.width,
      put_still t r.width r.marks.items r.words c.self.view_is c.self.invariant.0 c.args.place c.args.mark
          c.args.words.now c.put_row.new.self c.put_row.ensures c.self.invariant.1 c.requires.still,
    )

pub returns : goal.returns
returns c =
    let r = c.self.inside in
    state_put c.args.self.now r.width r.marks.items r.words c.self.view_is c.self.invariant.0 c.args.place c.args.mark
    c.args.words.now c.put_row.new.self c.put_row.ensures
