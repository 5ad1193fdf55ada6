use Rattle.std.proofs.Common.{◌∙◌}
use Rattle.dep_layout.specs.States.{state_of}
use Rattle.dep_layout.proofs.LoopLaws.{bits_read}
use Rattle.dep_layout.proofs.marks.bits_at.Goals as goal

pub returns-in-Some-clause-value : goal.returns-in-Some-clause-value
returns-in-Some-clause-value g c =
    let found = c.in-Some.ensures.lookup in
    c.bits_of.ensures.value ∙ bits_read state_of c.args.states.now c.args.vertex c.in-Some.state.now found.3.0 found.1
