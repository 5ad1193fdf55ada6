use Rattle.std.proofs.Common.{List, ℕ, Ok, Err, refl, subst, ◌∙◌}
use Rattle.std.proofs.lemmas.Result.{err_from_is_err_and}
use Rattle.command_steps.specs.States.{sink_state}
use Rattle.command_steps.specs.Walks.{HandsOn}
use Rattle.command_steps.proofs.show.put_shown.Goals as goal

pub returns-in_err-text : goal.returns-in_err-text
returns-in_err-text g c = let p = err_from_is_err_and c.from_residual.result c.from_residual.ensures.1 in
    rw (p.1, p.2) refl

pub returns-in_err-put_text : goal.returns-in_err-put_text
returns-in_err-put_text g c =
    let old = sink_state g.O.Sink.held g.O.Sink.faults g.O.Sink.spare c.args.out.now in
    let new = sink_state g.O.Sink.held g.O.Sink.faults g.O.Sink.spare c.put_text.new.out in
    let P : List ℕ → Type 0 = λ text. HandsOn text old new (Err c.in_err-put_text.field-0.0) in
    let p = err_from_is_err_and c.from_residual-in_err-put_text.result c.from_residual-in_err-put_text.ensures.1 in
    rw (p.1, p.2) (subst P (c.as_bytes.ensures.value ∙ c.in_ok-text.ensures) c.in_err-put_text.ensures)

pub returns : goal.returns
returns g c =
    let old = sink_state g.O.Sink.held g.O.Sink.faults g.O.Sink.spare c.args.out.now in
    let new = sink_state g.O.Sink.held g.O.Sink.faults g.O.Sink.spare c.put_text.new.out in
    let P : List ℕ → Type 0 = λ text. HandsOn text old new (Ok tt) in
    subst P (c.as_bytes.ensures.value ∙ c.in_ok-text.ensures) c.in_ok-put_text.ensures
