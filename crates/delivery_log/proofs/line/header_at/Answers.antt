use Rattle.std.proofs.Common.{◌∙◌, ◌++◌, ◌∷◌, ap}
use Rattle.delivery_log.specs.LineReading.{IsHeader}
use Rattle.delivery_log.specs.ScheduleTexts.{header_line}
use Rattle.delivery_log.proofs.PlainLaws.{header_is_line}
use Rattle.delivery_log.proofs.line.header_at.Goals as goal

pub returns-in_err-line-clause-found : goal.returns-in_err-line-clause-found
returns-in_err-line-clause-found c = λ form machines rest some few e.
    absurd (c.in_err-line.ensures.found (header_line form machines) rest (header_is_line form machines few) e)

pub returns-in_err-form-clause-found : goal.returns-in_err-form-clause-found
returns-in_err-form-clause-found c = λ form machines rest some few e.
    let at = c.in_ok-line.ensures.found (header_line form machines) rest (header_is_line form machines few) e in
    let is : IsHeader form machines c.in_ok-line.line.now = record { some = some; few = few; spelled = at.0 } in
    absurd (c.in_err-form.ensures.found form machines is)

pub returns-clause-spelled : goal.returns-clause-spelled
returns-clause-spelled c = c.in_ok-line.ensures.spelled
    ∙ ap (λ l. l ++ 10 ∷ c.in_ok-line.rest.now) c.in_ok-form.ensures.spelled.spelled

pub returns-clause-found : goal.returns-clause-found
returns-clause-found c = λ form machines rest some few e.
    let at = c.in_ok-line.ensures.found (header_line form machines) rest (header_is_line form machines few) e in
    let is : IsHeader form machines c.in_ok-line.line.now = record { some = some; few = few; spelled = at.0 } in
    let read = c.in_ok-form.ensures.found form machines is in
    (read.0, read.1, at.1)
