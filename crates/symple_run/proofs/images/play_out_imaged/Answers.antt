use Rattle.std.proofs.Common.{◌∙◌, Option, Ok, Err, refl, rules, arith, sym, subst}
use Rattle.std.proofs.lemmas.Result.{err_from_is_err_and}
use Rattle.command_steps.specs.States.{shelf_state}
use Rattle.schedule_laws.specs.Starts.{start_told}
use Rattle.symple_face.specs.Cluster.{World}
use Rattle.symple_face.specs.Work.{PlainStart}
use Rattle.symple_run.specs.KeptImages.{CanBeKept, KeepsImage}
use Rattle.symple_run.proofs.ImageLaws.{behind_is, imaged_fails, imaged_goes, imaged_stops, judged_can}
use Rattle.machine_runs.proofs.PlayLaws.{not_finished}
use Rattle.symple_run.proofs.images.play_out_imaged.Goals as goal

pub events-init : goal.events-init
events-init g c = record { on = c.requires.on; leads = λ shelf after outcome goes. goes; loads = refl }

pub plain-requires : goal.plain-requires
plain-requires g c = (omega arith, c.events.invariant.on)

pub play_event-requires-clause-on : goal.play_event-requires-clause-on
play_event-requires-clause-on g c = c.events.invariant.on

pub keep_image_if-requires-clause-on : goal.keep_image_if-requires-clause-on
keep_image_if-requires-clause-on g c = c.in_ok-play_event.ensures.on

pub keep_image_if-requires-clause-told : goal.keep_image_if-requires-clause-told
keep_image_if-requires-clause-told g c = λ judged.
    subst (λ (v : World). CanBeKept (start_told g.S.Site.work v)) (sym c.in_ok-play_event.ensures.world)
    (judged_can g.S.Site.work g.S.Site.sound g.met.S.Site.lawful g.met.S.Restart.restart_lawful
    c.events.cluster.world c.in-Some.event (sym c.ends_round-judged.ensures ∙ judged))

pub events-smaller : goal.events-smaller
events-smaller g c = c.in_ok-play_event.ensures.nearer

pub events-preserved : goal.events-preserved
events-preserved g c =
    let work = g.S.Site.work in
    let w = c.events.cluster.world in
    let old = shelf_state g.H.Shelf.files g.H.Shelf.loads g.H.Shelf.stores c.events.shelf in
    let new = shelf_state g.H.Shelf.files g.H.Shelf.loads g.H.Shelf.stores c.keep_image_if.new.shelf in
    let key = c.args.key.now in
    let image = c.args.image.now in
    let told = behind_is work w c.play_event.new.cluster.world c.in-Some.event c.ends_round-judged.result
    c.ends_round-judged.ensures c.in_ok-play_event.ensures.world in
    let P : Option PlainStart → Type 0 = λ o. KeepsImage key image o old new (Ok tt) in
    record {
      on = c.in_ok-play_event.ensures.on;
      leads = λ shelf after outcome goes. c.events.invariant.leads shelf after outcome
          (imaged_goes work c.args.lines.now key image w c.in-Some.event
          (not_finished w c.in-Some.event c.in-Some.ensures.none) (sym c.in-Some.ensures.is) old new shelf _ _ after
          outcome _
          c.in_ok-play_event.ensures.world c.in_ok-play_event.ensures.ok
          (subst P told c.in_ok-keep_image_if.ensures.kept) goes);
      loads = c.in_ok-keep_image_if.ensures.loads ∙ c.events.invariant.loads;
    }

pub returns-in_err-play_event-clause-err : goal.returns-in_err-play_event-clause-err
returns-in_err-play_event-clause-err g c =
    let w = c.events.cluster.world in
    let old = shelf_state g.H.Shelf.files g.H.Shelf.loads g.H.Shelf.stores c.events.shelf in
    let p = err_from_is_err_and c.from_residual.result c.from_residual.ensures.1 in
    rw (p.1, p.2) (c.events.invariant.leads _ _ _
    (imaged_stops g.S.Site.work c.args.lines.now c.args.key.now c.args.image.now w c.in-Some.event
    (not_finished w c.in-Some.event c.in-Some.ensures.none) (sym c.in-Some.ensures.is)
    (c.choices_are_in_order.ensures.plain w (c.tells_reached.ensures c.events.invariant.on)) old _ _ _
    c.in_err-play_event.ensures.err))

pub returns-in_err-keep_image_if-clause-err : goal.returns-in_err-keep_image_if-clause-err
returns-in_err-keep_image_if-clause-err g c =
    let work = g.S.Site.work in
    let w = c.events.cluster.world in
    let old = shelf_state g.H.Shelf.files g.H.Shelf.loads g.H.Shelf.stores c.events.shelf in
    let new = shelf_state g.H.Shelf.files g.H.Shelf.loads g.H.Shelf.stores c.keep_image_if.new.shelf in
    let key = c.args.key.now in
    let image = c.args.image.now in
    let why = c.in_err-keep_image_if.field-0.0 in
    let told = behind_is work w c.play_event.new.cluster.world c.in-Some.event c.ends_round-judged.result
    c.ends_round-judged.ensures c.in_ok-play_event.ensures.world in
    let P : Option PlainStart → Type 0 = λ o. KeepsImage key image o old new (Err why) in
    let p = err_from_is_err_and c.from_residual-in_err-keep_image_if.result
    c.from_residual-in_err-keep_image_if.ensures.1 in
    rw (p.1, p.2) (c.events.invariant.leads _ _ _
    (imaged_fails work c.args.lines.now key image w c.in-Some.event
    (not_finished w c.in-Some.event c.in-Some.ensures.none) (sym c.in-Some.ensures.is)
    (c.choices_are_in_order.ensures.plain w (c.tells_reached.ensures c.events.invariant.on)) old new _ _ why
    c.in_ok-play_event.ensures.ok (subst P told c.in_err-keep_image_if.ensures.kept)))

pub returns-clause-on : goal.returns-clause-on
returns-clause-on g c = c.events.invariant.on

pub returns-clause-finished : goal.returns-clause-finished
returns-clause-finished g c = c.plain.ensures.none.0 (search rules)

pub returns-clause-ok : goal.returns-clause-ok
returns-clause-ok g c = c.events.invariant.leads

pub returns-clause-loads : goal.returns-clause-loads
returns-clause-loads g c = c.events.invariant.loads
