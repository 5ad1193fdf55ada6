use Rattle.std.proofs.Common.{[], ◌∷◌, ◌∙◌, append_assoc}
use Rattle.std.proofs.lemmas.Option.{same_Some}
use Rattle.link_core.specs.LinkTexts.{event_front}
use Rattle.link_core.proofs.PlainLines.{event_plain}
use Rattle.link_core.proofs.line.event_at.Goals as goal

pub returns-in_err-line-clause-found : goal.returns-in_err-line-clause-found
returns-in_err-line-clause-found c = λ e rest is same.
    absurd (c.in_err-line.ensures.found (event_front e) rest (event_plain e is)
    (same ∙ append_assoc (event_front e) (10 ∷ []) rest))

pub returns-in_err-event_in-clause-found : goal.returns-in_err-event_in-clause-found
returns-in_err-event_in-clause-found c = λ e rest is same.
    let at = c.in_ok-line.ensures.found (event_front e) rest (event_plain e is)
    (same ∙ append_assoc (event_front e) (10 ∷ []) rest) in
    let none = c.in_err-event_in.ensures.found e is at.0 in
    absurd (cc)

pub returns-clause-found : goal.returns-clause-found
returns-clause-found c = λ e rest is same.
    let at = c.in_ok-line.ensures.found (event_front e) rest (event_plain e is)
    (same ∙ append_assoc (event_front e) (10 ∷ []) rest) in
    (same_Some c.in_ok-event_in.field-0 e (c.in_ok-event_in.ensures.found e is at.0), at.1)
