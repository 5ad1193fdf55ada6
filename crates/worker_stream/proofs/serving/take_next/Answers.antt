-- The message that was read is taken where it is due.
use Rattle.std.proofs.Common.{◌≡◌, ◌∙◌, inr, refl, sym, true, arith, lit<}
use Rattle.vert_base.specs.Letters.{letter_of}
use Rattle.worker_stream.specs.declared.reading.ReadFault.TheVariants.{Source, Faulty}
use Rattle.std.proofs.Common.{Ok, Err}
use Rattle.worker_stream.specs.Fronts.{told}
use Rattle.worker_stream.specs.Worker.{is_due}
use Rattle.worker_stream.proofs.ServeLaws.{err_moves, next_fails, ok_no_err, other_fault, reads_at, whole_takeable}
use Rattle.worker_stream.proofs.StandLaws.{can_mark, fresh, mark_together}
use Rattle.worker_stream.proofs.serving.take_next.Goals as goal

pub returns-in-Err-clause-answer : goal.returns-in-Err-clause-answer
returns-in-Err-clause-answer g c =
    let s = g.S.Site.state c.args.site.now in
    let given = c.in-Err.ensures.answer in
    let rest = told (g.I.Source.left c.read_message.new.input) in (
      given.0,
      given.1,
      next_fails g.S.Site.work s c.args.names.now given.0 rest s c.args.names.now c.in-Err.fault
          (reads_at c.part.result.now s c.part.ensures.part c.part.ensures.split given.0 rest (Err c.in-Err.fault)
          given.2),
    )

pub returns-in-Err-clause-counted : goal.returns-in-Err-clause-counted
returns-in-Err-clause-counted g c = λ ne. c.in-Err.ensures.counted (λ e. ne (err_moves c.in-Err.fault Source e))

pub returns-in-Err-clause-failed : goal.returns-in-Err-clause-failed
returns-in-Err-clause-failed g c = λ e. c.in-Err.ensures.failed (err_moves c.in-Err.fault Source e)

pub mark-requires : goal.mark-requires
mark-requires g c =
    let s = g.S.Site.state c.args.site.now in
    let given = c.in-Ok.ensures.answer in
    let rest = told (g.I.Source.left c.read_message.new.input) in
    let whole = reads_at c.part.result.now s c.part.ensures.part c.part.ensures.split given.0 rest
    (Ok c.in-Ok.message) given.2 in
    let due : is_due s c.in-Ok.message.name ≡ true = sym c.is_due.ensures ∙ c.if-is_due.true in
    let l = letter_of c.in-Ok.message in
    let can = whole_takeable s given.0 l whole c.requires.going due in (
      lit< tt,
      (
        can_mark g.S.Site.work g.S.Site.sound g.met.S.Site.lawful s c.args.names.now c.requires.stands l can,
        (
          fresh g.S.Site.work g.S.Site.sound g.met.S.Site.lawful s c.args.names.now c.requires.stands l can,
          mark_together g.S.Site.work g.S.Site.sound g.met.S.Site.lawful s c.args.names.now c.requires.stands l can,
        ),
      ),
    )

pub take-requires : goal.take-requires
take-requires g c =
    let s = g.S.Site.state c.args.site.now in
    let given = c.in-Ok.ensures.answer in
    let rest = told (g.I.Source.left c.read_message.new.input) in
    let whole = reads_at c.part.result.now s c.part.ensures.part c.part.ensures.split given.0 rest
    (Ok c.in-Ok.message) given.2 in
    let due : is_due s c.in-Ok.message.name ≡ true = sym c.is_due.ensures ∙ c.if-is_due.true in
    whole_takeable s given.0 (letter_of c.in-Ok.message) whole c.requires.going due

pub returns-then-is_due-clause-answer : goal.returns-then-is_due-clause-answer
returns-then-is_due-clause-answer g c =
    let s = g.S.Site.state c.args.site.now in
    let given = c.in-Ok.ensures.answer in
    let rest = told (g.I.Source.left c.read_message.new.input) in
    let whole = reads_at c.part.result.now s c.part.ensures.part c.part.ensures.split given.0 rest
    (Ok c.in-Ok.message) given.2 in
    let due : is_due s c.in-Ok.message.name ≡ true = sym c.is_due.ensures ∙ c.if-is_due.true in
    let l = letter_of c.in-Ok.message in
    let long = whole.long in
    let small = whole.small in
    let count = c.len.ensures in (
      given.0,
      given.1,
      (
        omega arith,
        omega arith,
        record {
          letter = l;
          takeable = whole_takeable s given.0 l whole c.requires.going due;
          state = c.take.ensures;
          names_are = c.mark.ensures;
          due = due;
          read = whole.read;
        },
      ),
    )

pub returns-then-is_due-clause-counted : goal.returns-then-is_due-clause-counted
returns-then-is_due-clause-counted g c = λ ne. c.in-Ok.ensures.counted (λ e. ok_no_err c.in-Ok.message Source e)

pub returns-then-is_due-clause-failed : goal.returns-then-is_due-clause-failed
returns-then-is_due-clause-failed g c = λ e. absurd (ok_no_err _ Source e)

pub returns-else-is_due-clause-answer : goal.returns-else-is_due-clause-answer
returns-else-is_due-clause-answer g c =
    let s = g.S.Site.state c.args.site.now in
    let given = c.in-Ok.ensures.answer in
    let rest = told (g.I.Source.left c.read_message.new.input) in
    let whole = reads_at c.part.result.now s c.part.ensures.part c.part.ensures.split given.0 rest
    (Ok c.in-Ok.message) given.2 in (
      given.0,
      given.1,
      inr (record {
        is = refl;
        letter = letter_of c.in-Ok.message;
        read = whole.read rest;
        undue = sym c.is_due.ensures ∙ c.if-is_due.false;
      }),
    )

pub returns-else-is_due-clause-counted : goal.returns-else-is_due-clause-counted
returns-else-is_due-clause-counted g c = λ ne. c.in-Ok.ensures.counted (λ e. ok_no_err c.in-Ok.message Source e)

pub returns-else-is_due-clause-failed : goal.returns-else-is_due-clause-failed
returns-else-is_due-clause-failed g c = λ e. absurd (other_fault (Faulty 5) Source (λ f. cc) e)
