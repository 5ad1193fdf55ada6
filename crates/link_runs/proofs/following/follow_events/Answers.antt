use Rattle.std.proofs.Common.{◌≡◌, ◌+◌, List, ◌∷◌, ap, arith, drop, get_or, refl, subst}
use Rattle.std.proofs.lemmas.List.{drop_all, drop_more}
use Rattle.std.proofs.lemmas.Result.{err_from_is_err_and}
use Rattle.command_steps.specs.States.{sink_state}
use Rattle.link_core.specs.declared.event.LinkEvent.{LinkEvent}
use Rattle.link_core.specs.declared.event.LinkEvent.TheVariants.{Go}
use Rattle.link_runs.specs.LinkTellings.{by_links, listed_links}
use Rattle.machine_runs.specs.FollowWalks.{FollowsTo}
use Rattle.machine_runs.proofs.FollowLaws.{follow_goes, follow_stops}
use Rattle.link_runs.proofs.following.follow_events.Goals as goal

pub events-init : goal.events-init
events-init g c = (c.requires.on, λ shelf input after outcome leaves. leaves, refl)

pub overflow_add-line : goal.overflow_add-line
overflow_add-line g c = omega (arith, c.events.invariant.2, c.requires.short, c.events-test.true)

pub events-preserved : goal.events-preserved
events-preserved g c =
    let es = c.args.events.now in
    let i = c.events.event-index in
    let e = get_or es i (Go 0) in
    let t = by_links g.S.Site.work c.args.lines.now in
    let old = sink_state g.O.Sink.held g.O.Sink.faults g.O.Sink.spare c.args.out.now in
    let mid = sink_state g.O.Sink.held g.O.Sink.faults g.O.Sink.spare c.events.out in
    let left : drop i es ≡ e ∷ drop (i + 1) es = drop_more es i (Go 0) c.events-test.true in
    let line = c.events.line + 1 in (
      c.in_ok-follow_event.ensures.on,
      follow_goes t c.args.links.now.links c.events.links.links (listed_links 1 es)
          (listed_links c.events.line (drop i es)) (listed_links line (drop (i + 1) es))
          (record { line = line; event = e }) (ap (listed_links c.events.line) left) old mid c.events.invariant.1 _
          c.in_ok-follow_event.ensures.ok _ c.in_ok-follow_event.ensures.state,
      omega (arith, c.events.invariant.2),
    )

pub returns-in_err-follow_event-clause-err : goal.returns-in_err-follow_event-clause-err
returns-in_err-follow_event-clause-err g c =
    let es = c.args.events.now in
    let i = c.events.event-index in
    let e = get_or es i (Go 0) in
    let t = by_links g.S.Site.work c.args.lines.now in
    let old = sink_state g.O.Sink.held g.O.Sink.faults g.O.Sink.spare c.args.out.now in
    let mid = sink_state g.O.Sink.held g.O.Sink.faults g.O.Sink.spare c.events.out in
    let left : drop i es ≡ e ∷ drop (i + 1) es = drop_more es i (Go 0) c.events-test.true in
    let line = c.events.line + 1 in
    let p = err_from_is_err_and c.from_residual.result c.from_residual.ensures.1 in
    rw (p.1, p.2)
    (follow_stops t c.args.links.now.links c.events.links.links (listed_links 1 es)
    (listed_links c.events.line (drop i es)) (listed_links line (drop (i + 1) es))
    (record { line = line; event = e }) (ap (listed_links c.events.line) left) old mid c.events.invariant.1 _ _
    c.in_err-follow_event.ensures.err)

pub returns-clause-on : goal.returns-clause-on
returns-clause-on g c = c.events.invariant.0

pub returns-clause-ok : goal.returns-clause-ok
returns-clause-ok g c =
    subst (λ (list : List LinkEvent). FollowsTo (by_links g.S.Site.work c.args.lines.now) c.args.links.now.links
    (listed_links 1 c.args.events.now)
    (sink_state g.O.Sink.held g.O.Sink.faults g.O.Sink.spare c.args.out.now) c.events.links.links
    (listed_links c.events.line list)
    (sink_state g.O.Sink.held g.O.Sink.faults g.O.Sink.spare c.events.out))
    (drop_all _ _ c.events-test.false) c.events.invariant.1
