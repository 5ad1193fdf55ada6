use Rattle.std.proofs.Common.{◌∙◌, ◌++◌, ◌∷◌, [], ap, sym}
use Rattle.vert_base.specs.declared.message.Event.TheVariants.{Go, Take}
use Rattle.delivery_log.specs.ScheduleTexts.{go_line}
use Rattle.delivery_log.proofs.ReadLaws.{left_small}
use Rattle.delivery_log.proofs.TakeLaws.{event_has_line, first_line, go_found, no_event}
use Rattle.delivery_log.proofs.line.event_at.Goals as goal

pub returns-in_err-line-clause-found : goal.returns-in_err-line-clause-found
returns-in_err-line-clause-found c = λ event rest is e.
    let first = event_has_line c.args.form c.args.held event rest c.args.text.now is e in
    absurd (c.in_err-line.ensures.found first.line first.left first.plain first.spelled)

pub returns-in-Some-clause-found : goal.returns-in-Some-clause-found
returns-in-Some-clause-found c = λ event rest is e.
    go_found c.args.form c.args.held c.in-Some.machine event c.in_ok-line.line.now c.in_ok-line.behind.now rest
    c.args.text.now is c.in_ok-line.ensures.line c.in-Some.ensures.spelled c.in_ok-line.ensures.spelled
    c.in-Some.ensures.found e

pub returns-in-Some-clause-shorter : goal.returns-in-Some-clause-shorter
returns-in-Some-clause-shorter c =
    (left_small c.args.form c.args.held (Go c.in-Some.machine) c.args.text.now c.in_ok-line.behind.now
    (c.in_ok-line.ensures.spelled ∙ (ap (λ l. l ++ 10 ∷ c.in_ok-line.behind.now) c.in-Some.ensures.spelled
    ∙ sym (first_line (go_line c.in-Some.machine) [] c.in_ok-line.behind.now)))).0

pub returns-in_err-name-clause-found : goal.returns-in_err-name-clause-found
returns-in_err-name-clause-found c = λ event rest is e.
    absurd
    (no_event c.args.form c.args.held event c.in_ok-line.line.now c.in_ok-line.behind.now rest c.args.text.now
    c.machine_in.result is c.in_ok-line.ensures.line c.in_ok-line.ensures.spelled c.machine_in.ensures.found
    c.in_default.is c.in_err-name.ensures.found e)

pub returns-clause-shorter : goal.returns-clause-shorter
returns-clause-shorter c =
    (left_small c.args.form c.args.held (Take c.in_ok-name.name) c.args.text.now c.in_ok-name.behind.now
    (c.in_ok-line.ensures.spelled ∙ c.in_ok-name.ensures.spelled)).0
