-- The mark of a state stands in its place.
use Rattle.std.proofs.Common.{◌≡◌, ◌<◌, length, sym, ap, ◌∙◌, arith}
use Rattle.std.proofs.lemmas.List.{get_or_read}
use Rattle.dep_layout.specs.declared.state.Mark.TheVariants.{Fresh}
use Rattle.machine_parts.specs.Flat.{state_at}
use Rattle.machine_parts.proofs.FlatLaws.{at_state, state_still, states_count}
use Rattle.machine_parts.proofs.ring_half.RingHalf.mark.Goals as goal

pub index-requires : goal.index-requires
index-requires c =
    let r = c.self.inside in
    omega (
      arith,
      states_count c.args.self.now r.width r.marks.items r.words c.self.view_is c.self.invariant.0,
      c.self.inside.marks.ok.0,
      c.requires,
    )

pub returns-clause-mark : goal.returns-clause-mark
returns-clause-mark c =
    let r = c.self.inside in
    let within : c.args.place < length c.self.inside.marks.items =
    omega (
      arith,
      states_count c.args.self.now r.width r.marks.items r.words c.self.view_is c.self.invariant.0,
      c.requires,
    ) in
    get_or_read r.marks.items c.args.place _ within c.index.ensures Fresh
    ∙ sym (ap (λ s. s.mark) (at_state c.args.self.now r.width r.marks.items r.words c.self.view_is c.self.invariant.0
    c.args.place c.requires))

pub returns-clause-still : goal.returns-clause-still
returns-clause-still c =
    let r = c.self.inside in
    let within : c.args.place < length c.self.inside.marks.items =
    omega (
      arith,
      states_count c.args.self.now r.width r.marks.items r.words c.self.view_is c.self.invariant.0,
      c.requires,
    ) in
    let here : c.index.result.now ≡ (state_at c.args.self.now.states c.args.place).mark =
    get_or_read r.marks.items c.args.place _ within c.index.ensures Fresh
    ∙ sym (ap (λ s. s.mark) (at_state c.args.self.now r.width r.marks.items r.words c.self.view_is c.self.invariant.0
    c.args.place c.requires)) in
    λ fresh. state_still c.args.self.now r.width r.marks.items r.words c.self.view_is c.self.invariant.0
    c.self.invariant.1 c.args.place c.requires (sym here ∙ fresh)
