-- The words of one vertex more.
use Rattle.std.proofs.Common.{◌<◌, length, arith}
use Rattle.machine_parts.proofs.RingLaws.{sent_more}
use Rattle.machine_parts.proofs.ring_half.put_states.Goals as goal

pub states-preserved : goal.states-preserved
states-preserved c =
    let states = c.args.half.now.states in
    let i = c.states.place in
    let within : c.states.place < length c.args.half.now.states =
    omega (arith, c.states-test.true, c.len-place-end.ensures) in
    sent_more c.states.body.items _ states i (record { mark = c.mark.result; words = c.words.result.now }) _ within
    (λ j. record { mark = c.mark.ensures.mark j; words = c.words.ensures.words j }) c.in_ok-put_state.ensures
    c.states.invariant
