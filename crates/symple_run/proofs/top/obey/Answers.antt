use Rattle.std.proofs.Common.{◌≡◌, Result, false, inr, refl, subst, true}
use Rattle.std.proofs.lemmas.Result.{err_from_is_err_and}
use Rattle.command_steps.specs.Commands.{is_worker_if}
use Rattle.symple_run.specs.Played.{IsPlayed}
use Rattle.symple_run.specs.RecordLines.{is_record_if}
use Rattle.command_steps.proofs.WalkLaws.{line_obeyed, words_refused}
use Rattle.symple_words.specs.Lines.{LineFault, PlainLine}
use Rattle.symple_words.specs.Views.{line_view, words_of}
use Rattle.symple_run.proofs.top.obey.Goals as goal

pub returns-in_err-line-clause-order : goal.returns-in_err-line-clause-order
returns-in_err-line-clause-order g c =
    let p = err_from_is_err_and c.from_residual.result c.from_residual.ensures.1 in
    rw p.1 (words_refused (IsPlayed g.S.Site.work) (words_of c.args.words.now) _ c.in_err-line.field-0.0
    c.in_err-line.ensures.refused p.0 p.2)

pub returns-clause-order : goal.returns-clause-order
returns-clause-order g c = line_obeyed (IsPlayed g.S.Site.work) (words_of c.args.words.now)
    (line_view c.in_ok-line.line)
    _ _ _ c.in_ok-line.ensures.read c.perform.ensures.order

pub returns-clause-input : goal.returns-clause-input
returns-clause-input g c = λ calm. c.perform.ensures.input
    (subst (λ (line : Result PlainLine LineFault). is_worker_if line ≡ false) c.in_ok-line.ensures.read calm)

pub returns-in_err-line-clause-written : goal.returns-in_err-line-clause-written
returns-in_err-line-clause-written g c =
    let p = err_from_is_err_and c.from_residual.result c.from_residual.ensures.1 in
    rw p.1 (λ asks. inr refl)

pub returns-clause-written : goal.returns-clause-written
returns-clause-written g c = λ asks. c.perform.ensures.written
    (subst (λ (line : Result PlainLine LineFault). is_record_if line ≡ true) c.in_ok-line.ensures.read asks)
