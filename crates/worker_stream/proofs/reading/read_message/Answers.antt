-- The header decides, and then the body.
use Rattle.std.proofs.Common.{◌∙◌, ◌++◌, Some, None, ap, length, refl, sym}
use Rattle.body_shape.specs.Fit.{is_fit}
use Rattle.dep_message.specs.Messages.{forms_of}
use Rattle.worker_stream.specs.Fronts.{told}
use Rattle.worker_stream.proofs.FrontLaws.{body_fails, body_unfit, header_fails, led_on, message_fits, wrong_header}
use Rattle.worker_stream.proofs.reading.read_message.Goals as goal

pub returns-in-Err-clause-answer : goal.returns-in-Err-clause-answer
returns-in-Err-clause-answer g c =
    let head = c.in-Err.ensures.answer in
    (head.0, head.1, header_fails (forms_of c.args.part.now) head.0 _ c.in-Err.fault head.2)

pub returns-in-None-clause-answer : goal.returns-in-None-clause-answer
returns-in-None-clause-answer g c =
    let head = c.in-Ok.ensures.answer in (
      head.0,
      head.1,
      wrong_header (forms_of c.args.part.now) head.0 head.2.0 None c.in-Ok.header.size 2 _
          (sym (ap (λ q. q.name) head.2.1) ∙ c.in-None.is) (sym (ap (λ q. q.size) head.2.1)) refl refl,
    )

pub returns-in-Err-form_of-clause-answer : goal.returns-in-Err-form_of-clause-answer
returns-in-Err-form_of-clause-answer g c =
    let head = c.in-Ok.ensures.answer in
    let rest = told (g.I.Source.left c.read_header.new.input) in (
      head.0,
      head.1,
      wrong_header (forms_of c.args.part.now) head.0 head.2.0 (Some c.in-Some.name) c.in-Ok.header.size
          c.in-Err-form_of.code rest (sym (ap (λ q. q.name) head.2.1) ∙ c.in-Some.is)
          (sym (ap (λ q. q.size) head.2.1)) (c.in-Err-form_of.ensures.fault rest)
          (c.in-Err-form_of.ensures.unread (length rest)),
    )

pub returns-in-Err-read_body-clause-answer : goal.returns-in-Err-read_body-clause-answer
returns-in-Err-read_body-clause-answer g c =
    let head = c.in-Ok.ensures.answer in
    let body = c.in-Err-read_body.ensures.answer in (
      head.0 ++ body.0,
      led_on head.0 body.0 _ _ _ head.1 body.1,
      body_fails (forms_of c.args.part.now) head.0 head.2.0 c.in-Some.name c.in-Ok-form_of.shape c.in-Ok.header.size
          (sym (ap (λ q. q.name) head.2.1) ∙ c.in-Some.is) (sym (ap (λ q. q.size) head.2.1))
          c.in-Ok-form_of.ensures.form c.in-Ok-form_of.ensures.read body.0 _ c.in-Err-read_body.fault body.2,
    )

pub returns-then-fits-clause-answer : goal.returns-then-fits-clause-answer
returns-then-fits-clause-answer g c =
    let head = c.in-Ok.ensures.answer in
    let body = c.in-Ok-read_body.ensures.answer in (
      head.0 ++ body.0,
      led_on head.0 body.0 _ _ _ head.1 body.1,
      message_fits (forms_of c.args.part.now) head.0 head.2.0 c.in-Some.name c.in-Ok-form_of.shape
          c.in-Ok.header.size (sym (ap (λ q. q.name) head.2.1) ∙ c.in-Some.is) (sym (ap (λ q. q.size) head.2.1))
          c.in-Ok-form_of.ensures.form c.in-Ok-form_of.ensures.read body.0 c.in-Ok-read_body.body.items body.2.0
          c.in-Ok-read_body.ensures.small body.2.1 (ap (is_fit c.in-Ok-form_of.shape) (sym c.deref.ensures.value)
          ∙ (sym c.fits.ensures ∙ c.if-fits.true)),
    )

pub returns-else-fits-clause-answer : goal.returns-else-fits-clause-answer
returns-else-fits-clause-answer g c =
    let head = c.in-Ok.ensures.answer in
    let body = c.in-Ok-read_body.ensures.answer in (
      head.0 ++ body.0,
      led_on head.0 body.0 _ _ _ head.1 body.1,
      body_unfit (forms_of c.args.part.now) head.0 head.2.0 c.in-Some.name c.in-Ok-form_of.shape
          c.in-Ok.header.size (sym (ap (λ q. q.name) head.2.1) ∙ c.in-Some.is) (sym (ap (λ q. q.size) head.2.1))
          c.in-Ok-form_of.ensures.form c.in-Ok-form_of.ensures.read body.0 _ body.2.0
          (ap (is_fit c.in-Ok-form_of.shape) (sym body.2.1 ∙ sym c.deref.ensures.value)
          ∙ (sym c.fits.ensures ∙ c.if-fits.false)),
    )
