-- The words of a state stand in their place.
use Rattle.std.proofs.Common.{length, sym, ap, ◌∙◌, arith}
use Rattle.machine_parts.proofs.FlatLaws.{at_state, state_wide, states_count}
use Rattle.machine_parts.proofs.ring_half.RingHalf.words.Goals as goal

pub row-requires : goal.row-requires
row-requires c =
    let r = c.self.inside in
    omega (
      arith,
      states_count c.args.self.now r.width r.marks.items r.words c.self.view_is c.self.invariant.0,
      c.self.invariant.0.size,
      c.requires,
    )

pub returns-clause-words : goal.returns-clause-words
returns-clause-words c =
    let r = c.self.inside in
    c.row.ensures ∙ sym (ap (λ s. s.words) (at_state c.args.self.now r.width r.marks.items r.words c.self.view_is
    c.self.invariant.0 c.args.place c.requires))

pub returns-clause-width : goal.returns-clause-width
returns-clause-width c =
    let r = c.self.inside in
    ap length c.row.ensures ∙ state_wide c.args.self.now r.width r.marks.items r.words c.self.view_is c.self.invariant.0
    c.args.place c.requires
