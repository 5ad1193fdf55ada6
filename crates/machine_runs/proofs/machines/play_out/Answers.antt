use Rattle.std.proofs.Common.{arith, rules, sym}
use Rattle.std.proofs.lemmas.Result.{err_from_is_err_and}
use Rattle.machine_runs.proofs.PlayLaws.{event_goes, event_stops, not_finished}
use Rattle.machine_runs.proofs.machines.play_out.Goals as goal

pub events-init : goal.events-init
events-init g c = (c.requires.on, λ after outcome goes. goes)

pub plain-requires : goal.plain-requires
plain-requires g c = (omega arith, c.events.invariant.0)

pub play_event-requires-clause-on : goal.play_event-requires-clause-on
play_event-requires-clause-on g c = c.events.invariant.0

pub events-smaller : goal.events-smaller
events-smaller g c = c.in_ok-play_event.ensures.nearer

pub events-preserved : goal.events-preserved
events-preserved g c = (
  c.in_ok-play_event.ensures.on,
  λ after outcome goes.
      c.events.invariant.1 after outcome
      (event_goes g.S.Site.work c.args.lines.now c.events.cluster.world c.in-Some.event
      (not_finished c.events.cluster.world c.in-Some.event c.in-Some.ensures.none) (sym c.in-Some.ensures.is) _ _
      after outcome _
      c.in_ok-play_event.ensures.world c.in_ok-play_event.ensures.ok goes),
)

pub returns-in_err-play_event-clause-err : goal.returns-in_err-play_event-clause-err
returns-in_err-play_event-clause-err g c =
    let w = c.events.cluster.world in
    let p = err_from_is_err_and c.from_residual.result c.from_residual.ensures.1 in
    rw (p.1, p.2) (c.events.invariant.1 _ _
    (event_stops g.S.Site.work c.args.lines.now w c.in-Some.event
    (not_finished w c.in-Some.event c.in-Some.ensures.none) (sym c.in-Some.ensures.is) _ _ _
    c.in_err-play_event.ensures.err
    (c.choices_are_in_order.ensures.plain w (c.tells_reached.ensures c.events.invariant.0))))

pub returns-clause-on : goal.returns-clause-on
returns-clause-on g c = c.events.invariant.0

pub returns-clause-finished : goal.returns-clause-finished
returns-clause-finished g c = c.plain.ensures.none.0 (search rules)

pub returns-clause-ok : goal.returns-clause-ok
returns-clause-ok g c = c.events.invariant.1
