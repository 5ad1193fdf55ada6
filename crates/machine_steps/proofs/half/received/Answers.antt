-- The states that a body spells are received.
use Rattle.std.proofs.Common.{◌<◌, ap, length, sym, arith}
use Rattle.std.proofs.lemmas.Bool.{eqb-false}
use Rattle.std.proofs.lemmas.Result.{IfOk-weaker}
use Rattle.machine_steps.proofs.HalfLaws.{received_states}
use Rattle.machine_steps.proofs.half.received.Goals as goal

pub returns-else-is_empty-clause-states : goal.returns-else-is_empty-clause-states
returns-else-is_empty-clause-states c =
    let apart = eqb-false (length c.args.dep.now) 0 (sym c.if-is_empty.ensures) in
    let some : 0 < length c.args.dep.now = omega (arith, apart) in
    IfOk-weaker c.read.result _ _
    (λ half is. received_states c.args.body.now.split.now c.args.size c.carried_words-width.result 0 c.args.dep.now
    half.states c.carried_words-width.ensures.words (c.requires.fits some) (ap (λ t. t.states) is))
    c.read.ensures
