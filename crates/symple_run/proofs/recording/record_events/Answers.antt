use Rattle.std.proofs.Common.{[], ◌∷◌, ◌++◌, rules, subst, sym}
use Rattle.std.proofs.lemmas.Result.{err_from_is_err_and}
use Rattle.command_steps.specs.States.{outside, sink_state}
use Rattle.rand_pcg.specs.Lcg.{Lcg}
use Rattle.symple_run.specs.RecordWalks.{Recordings, RecordsOn}
use Rattle.machine_runs.proofs.PlayLaws.{not_finished}
use Rattle.symple_run.proofs.RecordLaws.{add_stops, drawn_behind, record_goes, record_stops, text_fits}
use Rattle.symple_run.proofs.recording.record_events.Goals as goal

pub events-init : goal.events-init
events-init g c = (
  c.requires.on,
  λ machines records. record {
    added = [];
    records = records;
    goes = λ name shelf input after outcome on. subst (λ (h : Lcg).
        RecordsOn (record { work = g.S.Site.work; lines = c.args.lines.now; name = name; machines = machines }) []
        c.args.cluster.now.world h
        (outside shelf (sink_state g.O.Sink.held g.O.Sink.faults g.O.Sink.spare c.args.out.now) input) after outcome)
        c.new-chooser.ensures on;
  },
)

pub events-smaller : goal.events-smaller
events-smaller g c = c.in_ok-play_event.ensures.nearer

pub events-preserved : goal.events-preserved
events-preserved g c =
    let w = c.events.cluster.world in
    let e = c.in-Some.event in
    let work = g.S.Site.work in
    let lines = c.args.lines.now in
    let more = not_finished w e c.in-Some.ensures.none in (
      c.in_ok-play_event.ensures.on,
      λ machines records.
          let has = c.events.invariant.1 machines records in
          let now = c.in_ok-add.ensures.ok machines has.added has.records in
          record {
            added = has.added ++ e ∷ [];
            records = now;
            goes = λ name shelf input after outcome on.
                let run : Recordings = record { work = work; lines = lines; name = name; machines = machines } in
                has.goes name shelf input after outcome
                (record_goes run has.added w c.events.chooser e more (sym c.in-Some.ensures.is)
                (text_fits c.add.new.recorder machines (has.added ++ e ∷ []) now) _ _ c.in_ok-play_event.ensures.ok _
                c.in_ok-play_event.ensures.world shelf input after outcome
                (subst (λ (h : Lcg). RecordsOn run (has.added ++ e ∷ []) c.play_event.new.cluster.world h
                (outside shelf (sink_state g.O.Sink.held g.O.Sink.faults g.O.Sink.spare c.play_event.new.out) input)
                after outcome) c.in-Some.ensures.drawn on));
          },
    )

pub returns-in_err-add-clause-err : goal.returns-in_err-add-clause-err
returns-in_err-add-clause-err g c =
    let w = c.events.cluster.world in
    let e = c.in-Some.event in
    let work = g.S.Site.work in
    let lines = c.args.lines.now in
    let h = c.events.chooser in
    let more = not_finished w e c.in-Some.ensures.none in
    let behind = drawn_behind work w h e more (sym c.in-Some.ensures.is)
    (c.chosen_runs_are_complete.ensures.ends w h (c.tells_reached.ensures c.events.invariant.0)) in
    let p = err_from_is_err_and c.from_residual.result c.from_residual.ensures.1 in
    rw (p.1, p.2) (λ machines records name shelf input.
    let has = c.events.invariant.1 machines records in
    let run : Recordings = record { work = work; lines = lines; name = name; machines = machines } in
    has.goes name shelf input _ _
    (add_stops run has.added w h e more (sym c.in-Some.ensures.is) behind _
    (c.in_err-add.ensures.err machines has.added has.records)
    (outside shelf (sink_state g.O.Sink.held g.O.Sink.faults g.O.Sink.spare c.events.out) input)))

pub returns-in_err-play_event-clause-err : goal.returns-in_err-play_event-clause-err
returns-in_err-play_event-clause-err g c =
    let w = c.events.cluster.world in
    let e = c.in-Some.event in
    let work = g.S.Site.work in
    let lines = c.args.lines.now in
    let h = c.events.chooser in
    let more = not_finished w e c.in-Some.ensures.none in
    let behind = drawn_behind work w h e more (sym c.in-Some.ensures.is)
    (c.chosen_runs_are_complete.ensures.ends w h (c.tells_reached.ensures c.events.invariant.0)) in
    let p = err_from_is_err_and c.from_residual-in_err-play_event.result
    c.from_residual-in_err-play_event.ensures.1 in
    rw (p.1, p.2) (λ machines records name shelf input.
    let has = c.events.invariant.1 machines records in
    let now = c.in_ok-add.ensures.ok machines has.added has.records in
    let run : Recordings = record { work = work; lines = lines; name = name; machines = machines } in
    has.goes name shelf input _ _
    (record_stops run has.added w h e more (sym c.in-Some.ensures.is) behind
    (text_fits c.add.new.recorder machines (has.added ++ e ∷ []) now) _ _ _ c.in_err-play_event.ensures.err shelf
    input))

pub returns-clause-on : goal.returns-clause-on
returns-clause-on g c = c.events.invariant.0

pub returns-clause-finished : goal.returns-clause-finished
returns-clause-finished g c = c.next.ensures.none.0 (search rules)

pub returns-clause-ok : goal.returns-clause-ok
returns-clause-ok g c = λ machines records. (c.events.chooser, c.events.invariant.1 machines records)
