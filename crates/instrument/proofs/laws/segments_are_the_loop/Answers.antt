use Rattle.std.proofs.Common.{sym, ◌∙◌}
use Rattle.carry_analysis.specs.Classes.{body_marks, let_classes}
use Rattle.instrument.proofs.TypedLaws.{length-let_classes}
use Rattle.instrument.proofs.SplitLaws.{begins, ends, goes_on, left, neutrals, together}
use Rattle.instrument.proofs.WordLaws.{carried_same, length-carried_words}
use Rattle.instrument.proofs.laws.segments_are_the_loop.Goals as goal

pub returns-clause-goes_on : goal.returns-clause-goes_on
returns-clause-goes_on c = λ p d s env h. goes_on d env p h s

pub returns-clause-ends : goal.returns-clause-ends
returns-clause-ends c = λ d s env. ends d env s

pub returns-clause-begins : goal.returns-clause-begins
returns-clause-begins c = λ d env. begins d env

pub returns-clause-gives : goal.returns-clause-gives
returns-clause-gives c =
    λ d before part. carried_same
    (let_classes 0 d.lets.items (body_marks d.body.items)) before.env.locals.items part.env.locals.items

pub returns-clause-neutral : goal.returns-clause-neutral
returns-clause-neutral c = λ d s env. neutrals d env s

pub returns-clause-together : goal.returns-clause-together
returns-clause-together c = λ p d s env h. together d env p h s

pub returns-clause-words : goal.returns-clause-words
returns-clause-words c = λ d env e.
    let cs = let_classes 0 d.lets.items (body_marks d.body.items) in
    length-carried_words cs env.locals.items (e ∙ sym (length-let_classes 0 d.lets.items (body_marks d.body.items)))

pub returns-clause-stays : goal.returns-clause-stays
returns-clause-stays c = λ p d s env h. left d env p h s
