use Rattle.std.proofs.Common.{List, subst, sym, take}
use Rattle.std.proofs.lemmas.List.{take_all, take_more}
use Rattle.std.proofs.lemmas.Result.{err_from_is_err_and}
use Rattle.delivery_log.specs.Records.{Records}
use Rattle.symple_run.proofs.RenewLaws.{long_whole}
use Rattle.symple_run.proofs.recording.add_all.Goals as goal
use Rattle.vert_base.specs.declared.message.Event.{Event}
use Rattle.vert_base.specs.declared.message.Event.TheVariants.{Go}

pub events-init : goal.events-init
events-init c = λ machines records. records

pub events-preserved : goal.events-preserved
events-preserved c =
    let es = c.args.events.now in
    let i = c.events.event-index in
    λ machines records. subst (λ (list : List Event). Records c.add.new.recorder machines list)
    (sym (take_more es i (Go 0) c.events-test.true))
    (c.in_ok-add.ensures.ok machines (take i es) (c.events.invariant machines records))

pub returns-in_err-add-clause-err : goal.returns-in_err-add-clause-err
returns-in_err-add-clause-err c =
    let es = c.args.events.now in
    let i = c.events.event-index in
    let p = err_from_is_err_and c.from_residual.result c.from_residual.ensures.1 in
    rw (p.1, p.2) (λ machines records.
    long_whole machines i es (Go 0) c.events-test.true _
    (c.in_err-add.ensures.err machines (take i es) (c.events.invariant machines records)))

pub returns-clause-ok : goal.returns-clause-ok
returns-clause-ok c = λ machines records.
    subst (λ (list : List Event). Records c.events.recorder machines list) (take_all _ _ c.events-test.false)
    (c.events.invariant machines records)
