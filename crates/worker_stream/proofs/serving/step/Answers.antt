-- A step is an action or a message.
use Rattle.std.proofs.Common.{◌∙◌, Err, [], ◌++◌, ap, refl, sym, subst}
use Rattle.worker_stream.specs.declared.fault.ServeFault.{ServeFault}
use Rattle.worker_stream.specs.declared.reading.ReadFault.TheVariants.{Source}
use Rattle.worker_stream.specs.Fronts.{told}
use Rattle.worker_stream.specs.Serving.{Streams, streams}
use Rattle.worker_stream.specs.Steps.{StepFails}
use Rattle.worker_stream.specs.Worker.{served_from}
use Rattle.std.proofs.lemmas.Bool.{false≢true}
use Rattle.worker_stream.proofs.ServeLaws.{acted, ok_no_err, other_fault, over_end, took, unread_so, unsent_so}
use Rattle.worker_stream.proofs.serving.step.Goals as goal

pub act-requires-clause-ready : goal.act-requires-clause-ready
act-requires-clause-ready g c = sym c.in-Ready.ensures

pub returns-in-Ok : goal.returns-in-Ok
returns-in-Ok g c =
    let s = g.S.Site.state c.args.site.now in
    let given = c.in-Ok.ensures.answer in
    took g.S.Site.work g.S.Site.sound g.met.S.Site.lawful c.args.at s c.args.names.now c.requires.stands _ _
    c.in-Waits.waited (sym c.in-Waits.ensures) refl refl refl given.0 (g.S.Site.state c.take_next.new.site)
    c.take_next.new.names c.in-Ok.size given.1 (c.in-Ok.ensures.counted (λ e. ok_no_err c.in-Ok.size Source e))
    given.2.0 given.2.1 given.2.2

pub returns-in-Err : goal.returns-in-Err
returns-in-Err g c =
    let s = g.S.Site.state c.args.site.now in
    let given = c.in-Err.ensures.answer in
    let old : Streams = streams g.I.Source.left g.I.Source.faults g.O.Sink.held g.O.Sink.faults g.O.Sink.spare
    c.args.input.now c.args.out.now in
    let new : Streams = streams g.I.Source.left g.I.Source.faults g.O.Sink.held g.O.Sink.faults g.O.Sink.spare
    c.take_next.new.input c.args.out.now in (
      given.0,
      subst (λ (f : ServeFault). StepFails c.args.at given.0
          (served_from g.S.Site.work c.args.at s (given.0 ++ told new.left)) old new f) (sym c.unread.ensures)
          (unread_so g.S.Site.work g.S.Site.sound g.met.S.Site.lawful c.args.at s c.args.names.now c.requires.stands
          old new c.in-Waits.waited (sym c.in-Waits.ensures) refl refl refl given.0
          (g.S.Site.state c.take_next.new.site) c.take_next.new.names c.in-Err.fault given.1 given.2
          (λ ne. c.in-Err.ensures.counted (λ e. other_fault c.in-Err.fault Source ne e))
          (λ e. c.in-Err.ensures.failed (ap Err e))),
    )

pub returns-in-Ok-act : goal.returns-in-Ok-act
returns-in-Ok-act g c =
    let s = g.S.Site.state c.args.site.now in
    acted g.S.Site.work g.S.Site.sound g.met.S.Site.lawful c.args.at s c.args.names.now c.requires.stands _ _
    (sym c.in-Ready.ensures) refl refl (g.S.Site.state c.act.new.site) c.act.new.names c.in-Ok-act.ensures.state
    c.in-Ok-act.ensures.names c.in-Ok-act.ensures.sends.whole c.in-Ok-act.ensures.sends.counted
    c.in-Ok-act.ensures.sends.spared

pub returns-in-Err-act : goal.returns-in-Err-act
returns-in-Err-act g c =
    let s = g.S.Site.state c.args.site.now in
    let sends = c.in-Err-act.ensures.sends in
    let old : Streams = streams g.I.Source.left g.I.Source.faults g.O.Sink.held g.O.Sink.faults g.O.Sink.spare
    c.args.input.now c.args.out.now in
    let new : Streams = streams g.I.Source.left g.I.Source.faults g.O.Sink.held g.O.Sink.faults g.O.Sink.spare
    c.args.input.now c.act.new.out in (
      [],
      subst (λ (f : ServeFault). StepFails c.args.at [] (served_from g.S.Site.work c.args.at s ([] ++ told new.left))
          old new f) (sym c.unsent.ensures)
          (unsent_so g.S.Site.work g.S.Site.sound g.met.S.Site.lawful c.args.at s c.args.names.now c.requires.stands
          old new (sym c.in-Ready.ensures) refl refl c.in-Err-act.fault sends.part (λ e. sends.want (ap Err e))
          (λ e. sends.failed (ap Err e))),
    )

pub returns-in-Over : goal.returns-in-Over
returns-in-Over g c =
    absurd (false≢true (sym c.requires.going ∙ over_end (g.S.Site.state c.args.site.now) (sym c.in-Over.ensures)))
