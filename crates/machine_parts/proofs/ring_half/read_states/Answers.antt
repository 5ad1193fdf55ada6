-- One state more is read.
use Rattle.std.proofs.Common.{◌<◌, length, get_or, set, take, refl, sym, ap, ◌∙◌, arith}
use Rattle.std.proofs.lemmas.List.{get_or-replicate, get_or-set_other, get_or-take, length-set}
use Rattle.dep_layout.specs.Judgement.{pairs_in}
use Rattle.dep_layout.specs.Reading.{mark_with, state_with, words_behind}
use Rattle.dep_layout.proofs.LoopLaws.{length-front}
use Rattle.machine_parts.specs.Flat.{StateTable, fresh_state}
use Rattle.machine_parts.proofs.RingLaws.{read_more}
use Rattle.machine_parts.proofs.ring_half.read_states.Goals as goal

pub read_state-rest-requires-clause-fresh : goal.read_state-rest-requires-clause-fresh
read_state-rest-requires-clause-fresh c =
    let i = c.states.place in
    let below : c.states.place < length c.args.half.now.states =
    omega (arith, c.states-test.true, c.len-place-end.ensures) in
    c.states.invariant.fresh i (omega arith) below ∙ ap fresh_state (sym c.states.invariant.width)

pub states-init : goal.states-init
states-init c = record {
  width = refl;
  count = refl;
  fresh = λ k low high. ap (λ ss. get_or ss k (fresh_state 0)) c.requires.fresh
      ∙ get_or-replicate (length c.args.half.now.states) k (fresh_state c.args.half.now.width) (fresh_state 0) high;
  whole = refl;
}

pub states-preserved : goal.states-preserved
states-preserved c =
    let first = c.args.half.now in
    let now = c.states.half in
    let i = c.states.place in
    let n = length c.args.half.now.states in
    let rest = c.states.rest.now in
    let so_far = c.states.invariant in
    let mark = c.mark_at-mark.result in
    let all = pairs_in c.args.marks.now in
    let below : c.states.place < length c.args.half.now.states =
    omega (arith, c.states-test.true, c.len-place-end.ensures) in
    let within : c.states.place < length (take (length c.args.half.now.states) (pairs_in c.args.marks.now)) =
    omega (arith, below, length-front n c.args.marks.now c.requires.marked) in
    let inside : c.states.place < length c.states.half.states = omega (arith, below, so_far.count) in
    let here = c.mark_at-mark.ensures ∙ ap mark_with (sym (get_or-take n all i 0 below)) in
    let put = ap (λ (t : StateTable). t.states) c.read_state-rest.ensures.half
    ∙ ap (λ w. set now.states i (state_with w mark rest)) so_far.width in
    let behind = c.read_state-rest.ensures.rest ∙ ap (λ w. words_behind w mark rest) so_far.width in
    record {
      width = ap (λ (t : StateTable). t.width) c.read_state-rest.ensures.half ∙ so_far.width;
      count = ap (λ (t : StateTable). length t.states) c.read_state-rest.ensures.half
          ∙ length-set now.states i _ ∙ so_far.count;
      fresh = λ k low high. ap (λ ss. get_or ss k (fresh_state 0)) put
          ∙ get_or-set_other now.states i k _ (fresh_state 0) (λ same. omega (arith, low, same))
          ∙ so_far.fresh k (omega (arith, low)) high;
      whole = read_more first.width (take n all) i now.states _ mark rest _ _ within inside here put behind
          so_far.whole;
    }
