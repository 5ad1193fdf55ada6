use Rattle.std.proofs.Common.{◌≡◌, ◌<◌, ◌++◌, List, ℕ, ◌∙◌, refl, ap, subst, length}
use Rattle.vert_base.specs.declared.limits.TheConstants.{SCHEDULE_BYTES}
use Rattle.delivery_log.specs.declared.fault.RecordFault.TheVariants.{TooLong}
use Rattle.delivery_log.specs.declared.form.Form.TheVariants.{Roundless}
use Rattle.delivery_log.specs.ScheduleTexts.{event_lines, text_of}
use Rattle.delivery_log.proofs.RecordLaws.{record_added, same_fault, text_added}
use Rattle.delivery_log.proofs.recorder.Recorder.add.Goals as goal

pub returns-in_err-append-clause-long : goal.returns-in_err-append-clause-long
returns-in_err-append-clause-long c = λ machines events is fault.
    let e = c.args.event.now in
    let before = c.self.inside.text.items in
    let lines = c.as_slice.result.now in
    let line : lines ≡ text_of (event_lines Roundless c.self.inside.held e) =
    c.as_slice.ensures.value ∙ c.in_ok-push_event.ensures
    ∙ ap (λ (t : List ℕ). t ++ text_of (event_lines Roundless c.self.inside.held e)) c.clear.ensures.items in
    let whole = text_added c.args.self.now machines events e before lines (before ++ lines) c.self.inside.held is
    c.self.view_is line refl in
    let came = same_fault c.from_residual-in_err-append.result c.in_err-append.field-0.0 TooLong
    c.from_residual-in_err-append.ensures.1 fault in
    subst (λ (t : List ℕ). SCHEDULE_BYTES < length t) whole (c.in_err-append.ensures.long came)

pub returns-clause-added : goal.returns-clause-added
returns-clause-added c = λ machines events is.
    let e = c.args.event.now in
    let lines = c.as_slice.result.now in
    let line : lines ≡ text_of (event_lines Roundless c.self.inside.held e) =
    c.as_slice.ensures.value ∙ c.in_ok-push_event.ensures
    ∙ ap (λ (t : List ℕ). t ++ text_of (event_lines Roundless c.self.inside.held e)) c.clear.ensures.items in
    record_added c.args.self.now machines events e c.self.inside.text.items lines c.append.new.text.items
    c.self.inside.held c.round_after-self-inside.result is c.self.view_is line c.in_ok-append.ensures.added
    c.in_ok-append.ensures.fits c.round_after-self-inside.ensures
