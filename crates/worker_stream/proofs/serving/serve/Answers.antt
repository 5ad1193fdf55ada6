-- The steps make up the whole.
use Rattle.std.proofs.Common.{◌≡◌, ◌∙◌, [], ap, refl, sym, arith}
use Rattle.double_buffer.specs.Held.{Held}
use Rattle.symple_face.specs.PartViews.{plain_of}
use Rattle.worker_stream.specs.Serving.{streams}
use Rattle.worker_stream.proofs.ServeLaws.{along_ends, along_fails, along_goes, begins_along, fails_left, going_is, over_is, wants_at_once}
use Rattle.worker_stream.proofs.StandLaws.{at_fits, first_stands}
use Rattle.worker_stream.proofs.serving.serve.Goals as goal

pub returns-in-Err : goal.returns-in-Err
returns-in-Err g c =
    wants_at_once g.S.Site.state g.S.Site.work (plain_of c.args.part) c.args.part.split.value
    (streams g.I.Source.left g.I.Source.faults g.O.Sink.held g.O.Sink.faults g.O.Sink.spare c.args.input.now
    c.args.out.now)

pub returns-in-Err-make : goal.returns-in-Err-make
returns-in-Err-make g c =
    wants_at_once g.S.Site.state g.S.Site.work (plain_of c.args.part) c.args.part.split.value
    (streams g.I.Source.left g.I.Source.faults g.O.Sink.held g.O.Sink.faults g.O.Sink.spare c.args.input.now
    c.args.out.now)

pub steps-init : goal.steps-init
steps-init g c =
    let part = plain_of c.args.part in
    let split = c.args.part.split.value in
    let is : c.in-Ok.names ≡ record { machines = part.at.machines; letters = [] } =
    c.in-Ok.ensures ∙ ap (λ n. (let held : Held = record { machines = n; letters = [] } in held))
    c.count-machines.ensures.count in
    begins_along g.S.Site.work g.S.Site.sound part split
    (streams g.I.Source.left g.I.Source.faults g.O.Sink.held g.O.Sink.faults g.O.Sink.spare c.args.input.now
    c.args.out.now)
    (g.S.Site.state c.in-Ok-make.machine) c.in-Ok.names c.in-Ok-make.ensures
    (first_stands g.S.Site.work g.S.Site.sound g.met.S.Site.lawful part split c.in-Ok.names c.tells_can_run.ensures is)

pub step-requires-clause-stands : goal.step-requires-clause-stands
step-requires-clause-stands g c = c.steps.invariant.stands

pub step-requires-clause-going : goal.step-requires-clause-going
step-requires-clause-going g c = going_is _ (sym c.is_going.ensures ∙ c.steps-test.true)

pub overflow_add-at : goal.overflow_add-at
overflow_add-at g c =
    let fits = at_fits g.S.Site.work g.S.Site.sound g.met.S.Site.lawful (g.S.Site.state c.steps.site) c.steps.names
    c.steps.invariant.stands c.steps.at c.in-Ok-step.size
    (going_is _ (sym c.is_going.ensures ∙ c.steps-test.true)) c.steps.invariant.low c.in-Ok-step.ensures.small in
    omega arith

pub steps-smaller : goal.steps-smaller
steps-smaller g c = c.in-Ok-step.ensures.less

pub steps-preserved : goal.steps-preserved
steps-preserved g c =
    along_goes g.S.Site.work g.S.Site.sound g.met.S.Site.lawful (plain_of c.args.part) c.args.part.split.value _ _
    c.steps.at (g.S.Site.state c.steps.site) c.steps.names c.steps.invariant _ _ _ c.in-Ok-step.size _ refl
    c.in-Ok-step.ensures

pub returns-in-Err-step : goal.returns-in-Err-step
returns-in-Err-step g c =
    let fails = c.in-Err-step.ensures in
    along_fails g.S.Site.work g.S.Site.sound g.met.S.Site.lawful (plain_of c.args.part) c.args.part.split.value _ _
    c.steps.at (g.S.Site.state c.steps.site) c.steps.names c.steps.invariant _ fails.0
    (fails_left c.steps.at fails.0 _ _ _ c.in-Err-step.fault fails.1) g.S.Site.state
    c.in-Err-step.fault fails.1

pub returns : goal.returns
returns g c =
    along_ends g.S.Site.work g.S.Site.sound g.met.S.Site.lawful (plain_of c.args.part) c.args.part.split.value _ _
    c.steps.at (g.S.Site.state c.steps.site) c.steps.names c.steps.invariant g.S.Site.state c.steps.site refl
    (over_is _ (sym c.is_going.ensures ∙ c.steps-test.false))
