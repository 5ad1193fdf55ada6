use Rattle.std.proofs.Common.{◌≡◌, ◌+◌, ℕ, List, ◌∷◌, ap, arith, drop, get_or, length, refl, subst, ◌∙◌}
use Rattle.std.proofs.lemmas.List.{drop_all, drop_more}
use Rattle.std.proofs.lemmas.Result.{err_from_is_err_and}
use Rattle.command_steps.specs.States.{sink_state}
use Rattle.delivery_log.specs.ScheduleTexts.{events_lines}
use Rattle.symple_run.specs.FollowWalks.{FollowsTo, Place}
use Rattle.symple_run.proofs.FollowLaws.{follow_goes, follow_stops, lines_left}
use Rattle.symple_run.proofs.following.follow_events.Goals as goal
use Rattle.vert_base.specs.declared.message.Event.{Event}
use Rattle.vert_base.specs.declared.message.Event.TheVariants.{Go}

pub events-init : goal.events-init
events-init g c = (c.requires.on, λ shelf input after outcome leaves. leaves, refl)

pub overflow_add-line : goal.overflow_add-line
overflow_add-line g c =
    let es = c.args.events.now in
    let i = c.events.event-index in
    let e = get_or es i (Go 0) in
    let left : drop i es ≡ e ∷ drop (i + 1) es =
    drop_more es i (Go 0) c.events-test.true in
    let count = ap (λ (list : List Event). length (events_lines c.args.form c.events.held list)) left
    ∙ lines_left c.args.form c.events.held e (drop (i + 1) es) in
    omega (arith, count, c.events.invariant.2, c.requires.few, c.lines_of-told.ensures.count)

pub follow_event-requires : goal.follow_event-requires
follow_event-requires g c = record { on = c.events.invariant.0 }

pub events-preserved : goal.events-preserved
events-preserved g c =
    let es = c.args.events.now in
    let i = c.events.event-index in
    let e = get_or es i (Go 0) in
    let from : Place = record { held = 0; lines = 1; world = c.args.cluster.now.world; left = es } in
    let old = sink_state g.O.Sink.held g.O.Sink.faults g.O.Sink.spare c.args.out.now in
    let mid = sink_state g.O.Sink.held g.O.Sink.faults g.O.Sink.spare c.events.out in
    let form = c.args.form in
    let left : drop i es ≡ e ∷ drop (i + 1) es =
    drop_more es i (Go 0) c.events-test.true in
    let count = ap (λ (list : List Event). length (events_lines form c.events.held list)) left
    ∙ lines_left form c.events.held e (drop (i + 1) es) in
    let next = ap (λ (n : ℕ). length (events_lines form n (drop (i + 1) es))) c.round_after-held.ensures in (
      c.in_ok-follow_event.ensures.on,
      follow_goes g.S.Site.work c.args.lines.now form from old c.events.held c.events.line _ c.events.cluster.world e
          (drop (i + 1) es) (drop i es) left (ap (λ (n : ℕ). c.events.line + n) c.lines_of-told.ensures.count) mid
          c.events.invariant.1 _ c.in_ok-follow_event.ensures.ok _ c.round_after-held.ensures _
          c.in_ok-follow_event.ensures.world,
      omega (arith, count, next, c.events.invariant.2, c.lines_of-told.ensures.count),
    )

pub returns-in_err-follow_event-clause-err : goal.returns-in_err-follow_event-clause-err
returns-in_err-follow_event-clause-err g c =
    let es = c.args.events.now in
    let i = c.events.event-index in
    let e = get_or es i (Go 0) in
    let left : drop i es ≡ e ∷ drop (i + 1) es =
    drop_more es i (Go 0) c.events-test.true in
    let from : Place = record { held = 0; lines = 1; world = c.args.cluster.now.world; left = es } in
    let old = sink_state g.O.Sink.held g.O.Sink.faults g.O.Sink.spare c.args.out.now in
    let mid = sink_state g.O.Sink.held g.O.Sink.faults g.O.Sink.spare c.events.out in
    let p = err_from_is_err_and c.from_residual.result c.from_residual.ensures.1 in
    rw (p.1, p.2)
    (follow_stops g.S.Site.work c.args.lines.now c.args.form from old c.events.held c.events.line _
    c.events.cluster.world e
    (drop (i + 1) es) (drop i es) left (ap (λ (n : ℕ). c.events.line + n) c.lines_of-told.ensures.count) mid
    c.events.invariant.1 _ _ c.in_err-follow_event.ensures.err)

pub returns-clause-on : goal.returns-clause-on
returns-clause-on g c = c.events.invariant.0

pub returns-clause-ok : goal.returns-clause-ok
returns-clause-ok g c =
    subst (λ (list : List Event). FollowsTo g.S.Site.work c.args.lines.now c.args.form
    (record { held = 0; lines = 1; world = c.args.cluster.now.world; left = c.args.events.now })
    (sink_state g.O.Sink.held g.O.Sink.faults g.O.Sink.spare c.args.out.now)
    (record { held = c.events.held; lines = c.events.line; world = c.events.cluster.world; left = list })
    (sink_state g.O.Sink.held g.O.Sink.faults g.O.Sink.spare c.events.out))
    (drop_all _ _ c.events-test.false) c.events.invariant.1
