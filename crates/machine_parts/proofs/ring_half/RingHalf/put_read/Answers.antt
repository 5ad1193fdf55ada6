-- The mark and the words that stand in the bytes are put into the place of the state.
use Rattle.std.proofs.Common.{◌<◌, [], length, set, ap, ◌∙◌, arith}
use Rattle.dep_layout.proofs.WordLaws.{length-words_in}
use Rattle.dep_layout.specs.Judgement.{words_in}
use Rattle.dep_layout.proofs.LoopLaws.{state_made}
use Rattle.machine_parts.specs.Flat.{StateTable}
use Rattle.machine_parts.proofs.FlatLaws.{put_laid, put_still, state_put, states_count}
use Rattle.machine_parts.proofs.ring_half.RingHalf.put_read.Goals as goal

pub index_mut-requires : goal.index_mut-requires
index_mut-requires c =
    let r = c.self.inside in
    omega (
      arith,
      states_count c.args.self.now r.width r.marks.items r.words c.self.view_is c.self.invariant.0,
      c.self.inside.marks.ok.0,
      c.requires.place,
    )

pub lay_words-requires-clause-place : goal.lay_words-requires-clause-place
lay_words-requires-clause-place c =
    let r = c.self.inside in
    omega (
      arith,
      states_count c.args.self.now r.width r.marks.items r.words c.self.view_is c.self.invariant.0,
      c.self.invariant.0.size,
      c.requires.place,
    )

pub lay_words-requires-clause-row : goal.lay_words-requires-clause-row
lay_words-requires-clause-row c =
    let r = c.self.inside in
    let within : c.args.place < length c.self.inside.words.rows =
    omega (
      arith,
      states_count c.args.self.now r.width r.marks.items r.words c.self.view_is c.self.invariant.0,
      c.self.invariant.0.size,
      c.requires.place,
    ) in
    c.self.invariant.0.each c.args.place [] within

pub invariant_of-self : goal.invariant_of-self
invariant_of-self c =
    let r = c.self.inside in
    let t = c.args.self.now in
    let words = words_in r.width c.args.bytes.now in (
      put_laid t r.width r.marks.items r.words c.self.view_is c.self.invariant.0 c.args.place c.args.mark words
          c.lay_words.new.words c.lay_words.ensures
          (length-words_in r.width c.args.bytes.now ∙ ap (λ (t : StateTable). t.width) c.self.view_is),
      put_still t r.width r.marks.items r.words c.self.view_is c.self.invariant.0 c.args.place c.args.mark words
          c.lay_words.new.words c.lay_words.ensures c.self.invariant.1 (λ fresh. absurd (c.requires.started fresh)),
    )

pub returns : goal.returns
returns c =
    let r = c.self.inside in
    let t = c.args.self.now in
    let words = words_in r.width c.args.bytes.now in
    state_put t r.width r.marks.items r.words c.self.view_is c.self.invariant.0 c.args.place c.args.mark words
    c.lay_words.new.words c.lay_words.ensures
    ∙ ap (λ w. let u : StateTable = record t {
      states = set t.states c.args.place (state_made c.args.mark (words_in w c.args.bytes.now));
    } in u) (ap (λ (u : StateTable). u.width) c.self.view_is)
