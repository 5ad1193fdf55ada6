use Rattle.std.proofs.Common.{[], ◌∷◌, ◌++◌, arith, rules, subst, sym}
use Rattle.std.proofs.lemmas.Result.{err_from_is_err_and}
use Rattle.command_steps.specs.States.{outside, sink_state}
use Rattle.delivery_log.specs.Choosers.{generator_of}
use Rattle.link_core.specs.LinkTexts.{links_text}
use Rattle.link_runs.specs.LinkedPlays.{IsDrawnFar}
use Rattle.link_runs.specs.LinkTellings.{by_links}
use Rattle.link_runs.proofs.FarLaws.{drawn_more, drawn_reached, far, record_fits, record_longer}
use Rattle.link_runs.proofs.LinkedLaws.{not_over}
use Rattle.link_runs.proofs.WantLaws.{record_wants}
use Rattle.machine_runs.proofs.RecordLaws.{add_stops, record_goes, record_stops}
use Rattle.machine_runs.specs.RecordWalks.{RecordsOn}
use Rattle.rand_pcg.specs.Lcg.{Lcg}
use Rattle.link_runs.proofs.recording.record_events.Goals as goal

pub returns-in_err-recorder-clause-err : goal.returns-in_err-recorder-clause-err
returns-in_err-recorder-clause-err g c =
    let work = g.S.Site.work in
    let m = c.args.machines in
    let l = c.args.links.now.links in
    let p = err_from_is_err_and c.from_residual.result c.from_residual.ensures.1 in
    rw (p.1, p.2) (λ name shelf input.
    record_wants (by_links work c.args.lines.now) (links_text m) (IsDrawnFar work m) name [] l
    (generator_of c.args.seed)
    (far work m g.S.Site.sound c.drawn_links_are_possible.ensures.some c.drawn_links_are_possible.ensures.possible
    c.links_are_in_order.ensures.reach [] l (generator_of c.args.seed) (c.tells_reached.ensures c.requires.on))
    (outside shelf (sink_state g.O.Sink.held g.O.Sink.faults g.O.Sink.spare c.args.out.now) input))

pub events-init : goal.events-init
events-init g c = (
  c.requires.on,
  record {
    added = [];
    has = c.in_ok-recorder.ensures;
    goes = λ name shelf input after outcome on. subst (λ (h : Lcg).
        RecordsOn (by_links g.S.Site.work c.args.lines.now) (links_text c.args.machines)
        (IsDrawnFar g.S.Site.work c.args.machines) name [] c.args.links.now.links h
        (outside shelf (sink_state g.O.Sink.held g.O.Sink.faults g.O.Sink.spare c.args.out.now) input) after outcome)
        c.new-chooser.ensures on;
  },
)

pub events-smaller : goal.events-smaller
events-smaller g c =
    let has = c.events.invariant.1 in
    let now = c.in_ok-add.ensures.ok c.args.machines has.added has.has in
    let longer = record_longer c.events.recorder c.add.new.recorder c.args.machines has.added c.in-Some.event has.has
    now in
    let fits = now.fits in
    omega (arith, longer, fits)

pub events-preserved : goal.events-preserved
events-preserved g c =
    let l = c.events.links.links in
    let e = c.in-Some.event in
    let h = c.events.chooser in
    let m = c.args.machines in
    let work = g.S.Site.work in
    let t = by_links work c.args.lines.now in
    let more = not_over l.world e c.in-Some.ensures.none in
    let has = c.events.invariant.1 in
    let now = c.in_ok-add.ensures.ok m has.added has.has in (
      c.in_ok-play_link_event.ensures.on,
      record {
        added = has.added ++ e ∷ [];
        has = now;
        goes = λ name shelf input after outcome on.
            has.goes name shelf input after outcome
            (record_goes t (links_text m) (IsDrawnFar work m) name has.added l h _ e
            (drawn_more work m has.added l h e more (sym c.in-Some.ensures.is))
            (record_fits c.add.new.recorder m (has.added ++ e ∷ []) now) _ _ c.in_ok-play_link_event.ensures.ok _
            c.in_ok-play_link_event.ensures.state shelf input after outcome
            (subst (λ (k : Lcg). RecordsOn t (links_text m) (IsDrawnFar work m) name (has.added ++ e ∷ [])
            c.play_link_event.new.links.links k
            (outside shelf (sink_state g.O.Sink.held g.O.Sink.faults g.O.Sink.spare c.play_link_event.new.out) input)
            after outcome) c.in-Some.ensures.drawn on));
      },
    )

pub returns-in_err-add-clause-err : goal.returns-in_err-add-clause-err
returns-in_err-add-clause-err g c =
    let l = c.events.links.links in
    let e = c.in-Some.event in
    let h = c.events.chooser in
    let m = c.args.machines in
    let work = g.S.Site.work in
    let t = by_links work c.args.lines.now in
    let some = c.drawn_links_are_possible.ensures.some in
    let possible = c.drawn_links_are_possible.ensures.possible in
    let reach = c.links_are_in_order.ensures.reach in
    let more = not_over l.world e c.in-Some.ensures.none in
    let has = c.events.invariant.1 in
    let r = c.tells_reached-in-Some.ensures c.events.invariant.0 in
    let next = drawn_reached work m g.S.Site.sound some possible reach l h e r more (sym c.in-Some.ensures.is) in
    let p = err_from_is_err_and c.from_residual-in_err-add.result c.from_residual-in_err-add.ensures.1 in
    rw (p.1, p.2) (λ name shelf input.
    has.goes name shelf input _ _
    (add_stops t (links_text m) (IsDrawnFar work m) name has.added l h _ e
    (drawn_more work m has.added l h e more (sym c.in-Some.ensures.is))
    (far work m g.S.Site.sound some possible reach (has.added ++ e ∷ []) _ _ next) _
    (c.in_err-add.ensures.err m has.added has.has)
    (outside shelf (sink_state g.O.Sink.held g.O.Sink.faults g.O.Sink.spare c.events.out) input)))

pub returns-in_err-play_link_event-clause-err : goal.returns-in_err-play_link_event-clause-err
returns-in_err-play_link_event-clause-err g c =
    let l = c.events.links.links in
    let e = c.in-Some.event in
    let h = c.events.chooser in
    let m = c.args.machines in
    let work = g.S.Site.work in
    let t = by_links work c.args.lines.now in
    let some = c.drawn_links_are_possible.ensures.some in
    let possible = c.drawn_links_are_possible.ensures.possible in
    let reach = c.links_are_in_order.ensures.reach in
    let more = not_over l.world e c.in-Some.ensures.none in
    let has = c.events.invariant.1 in
    let now = c.in_ok-add.ensures.ok m has.added has.has in
    let r = c.tells_reached-in-Some.ensures c.events.invariant.0 in
    let next = drawn_reached work m g.S.Site.sound some possible reach l h e r more (sym c.in-Some.ensures.is) in
    let p = err_from_is_err_and c.from_residual-in_err-play_link_event.result
    c.from_residual-in_err-play_link_event.ensures.1 in
    rw (p.1, p.2) (λ name shelf input.
    has.goes name shelf input _ _
    (record_stops t (links_text m) (IsDrawnFar work m) name has.added l h _ e
    (drawn_more work m has.added l h e more (sym c.in-Some.ensures.is))
    (far work m g.S.Site.sound some possible reach (has.added ++ e ∷ []) _ _ next)
    (record_fits c.add.new.recorder m (has.added ++ e ∷ []) now) _ _ _ c.in_err-play_link_event.ensures.err shelf
    input))

pub returns-clause-on : goal.returns-clause-on
returns-clause-on g c = c.events.invariant.0

pub returns-clause-finished : goal.returns-clause-finished
returns-clause-finished g c = c.next.ensures.none.0 (search rules)

pub returns-clause-ok : goal.returns-clause-ok
returns-clause-ok g c = (c.events.chooser, c.events.invariant.1)
