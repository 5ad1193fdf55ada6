use Rattle.std.proofs.Common.{◌<◌, length, arith, sym, ap, ◌∙◌}
use Rattle.std.proofs.lemmas.List.{get_or-map, length-map}
use Rattle.dep_layout.specs.States.{state_of, states_of}
use Rattle.dep_layout.proofs.LoopLaws.{sent_step}
use Rattle.dep_layout.proofs.packing.pack.Goals as goal

pub loop-state-preserved : goal.loop-state-preserved
loop-state-preserved g c =
    let states = c.args.states.now in
    let i = c.loop-state.state-index in
    let state = c.state-item.result in
    let within : c.loop-state.state-index < length (states_of c.args.states.now) =
    omega (arith, length-map states (state_of {W = g.row.W})) in
    sent_step c.loop-state.bytes.items c.push_sent.new.bytes.items (states_of states) i (state_of state) _ within
    (ap state_of c.state-item.is ∙ sym (get_or-map state_of states i state (state_of state) c.loop-state-test.true))
    c.in_ok-push_sent.ensures c.loop-state.invariant
