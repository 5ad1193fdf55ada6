use Rattle.delivery_log.specs.ScheduleTexts.{take_line}
use Rattle.delivery_log.proofs.PlainLaws.{take_is_line}
use Rattle.delivery_log.proofs.TakeLaws.{held_found, some_name, told_found}
use Rattle.delivery_log.proofs.line.take_at.Goals as goal

pub returns-in_err-name_in-in-None-clause-found : goal.returns-in_err-name_in-in-None-clause-found
returns-in_err-name_in-in-None-clause-found c = λ x rest is e.
    let so = held_found c.args.form c.args.held x c.args.line.now c.args.behind.now rest c.round_in.result is
    c.requires c.round_in.ensures.found c.in-None.is e in
    let none = c.in_err-name_in-in-None.ensures.found x is so.for so.spelled in
    absurd (cc)

pub returns-in_ok-name_in-in-None-clause-found : goal.returns-in_ok-name_in-in-None-clause-found
returns-in_ok-name_in-in-None-clause-found c = λ x rest is e.
    let so = held_found c.args.form c.args.held x c.args.line.now c.args.behind.now rest c.round_in.result is
    c.requires c.round_in.ensures.found c.in-None.is e in (
      some_name c.in_ok-name_in-in-None.field-0 x (c.in_ok-name_in-in-None.ensures.found x is so.for so.spelled),
      so.left,
    )

pub returns-in_err-line-in-Some-clause-found : goal.returns-in_err-line-in-Some-clause-found
returns-in_err-line-in-Some-clause-found c = λ x rest is e.
    let so = told_found c.args.form c.args.held c.in-Some.round x c.args.line.now c.args.behind.now rest
    c.round_in.result is c.requires c.in-Some.ensures.spelled c.round_in.ensures.found c.in-Some.is e in
    absurd (c.in_err-line-in-Some.ensures.found (take_line c.args.form x) rest (take_is_line c.args.form x is) so.1)

pub returns-in_err-name_in-in-Some-clause-found : goal.returns-in_err-name_in-in-Some-clause-found
returns-in_err-name_in-in-Some-clause-found c = λ x rest is e.
    let so = told_found c.args.form c.args.held c.in-Some.round x c.args.line.now c.args.behind.now rest
    c.round_in.result is c.requires c.in-Some.ensures.spelled c.round_in.ensures.found c.in-Some.is e in
    let at = c.in_ok-line-in-Some.ensures.found (take_line c.args.form x) rest (take_is_line c.args.form x is) so.1 in
    let none = c.in_err-name_in-in-Some.ensures.found x is so.0 at.0 in
    absurd (cc)

pub returns-in_ok-name_in-in-Some-clause-found : goal.returns-in_ok-name_in-in-Some-clause-found
returns-in_ok-name_in-in-Some-clause-found c = λ x rest is e.
    let so = told_found c.args.form c.args.held c.in-Some.round x c.args.line.now c.args.behind.now rest
    c.round_in.result is c.requires c.in-Some.ensures.spelled c.round_in.ensures.found c.in-Some.is e in
    let at = c.in_ok-line-in-Some.ensures.found (take_line c.args.form x) rest (take_is_line c.args.form x is) so.1 in
    (some_name c.in_ok-name_in-in-Some.field-0 x (c.in_ok-name_in-in-Some.ensures.found x is so.0 at.0), at.1)
