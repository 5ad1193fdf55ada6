use Rattle.std.proofs.Common.{List, ℕ, subst}
use Rattle.std.proofs.lemmas.Result.{err_from_is_err_and}
use Rattle.command_steps.specs.Faults.{fault_of}
use Rattle.command_steps.specs.Notes.{LongSchedule}
use Rattle.command_steps.specs.Orders.{Order, Renewed, Runs, follows}
use Rattle.command_steps.specs.States.{outside, shelf_state}
use Rattle.delivery_log.specs.Records.{Records}
use Rattle.delivery_log.specs.Says.{Says}
use Rattle.command_steps.specs.FileWalks.{StoresFile}
use Rattle.symple_run.specs.FileWalks.{NotRead}
use Rattle.symple_run.specs.Played.{IsPlayed}
use Rattle.command_steps.proofs.FileLaws.{bytes_go, bytes_stop}
use Rattle.symple_run.proofs.RenewLaws.{long_or_wants, renew_faulty, renew_goes, renew_stops}
use Rattle.vert_base.specs.declared.message.Event.{Event}
use Rattle.symple_run.proofs.recording.renew.Goals as goal

pub returns-in_err-text-clause-order : goal.returns-in_err-text-clause-order
returns-in_err-text-clause-order g c =
    let old = shelf_state g.H.Shelf.files g.H.Shelf.loads g.H.Shelf.stores c.args.shelf.now in
    let new = shelf_state g.H.Shelf.files g.H.Shelf.loads g.H.Shelf.stores c.load_schedule.new.shelf in
    let next : List ℕ → Order = λ events. Runs (Renewed events c.args.target.now) follows in
    let p = err_from_is_err_and c.from_residual.result c.from_residual.ensures.1 in
    rw (p.1, p.2) (λ work out input. bytes_stop (IsPlayed work) old new c.args.schedule.now 67108864 LongSchedule _
    c.in_err-text.ensures.bytes next out input)

pub returns-in_err-schedule-clause-order : goal.returns-in_err-schedule-clause-order
returns-in_err-schedule-clause-order g c =
    let old = shelf_state g.H.Shelf.files g.H.Shelf.loads g.H.Shelf.stores c.args.shelf.now in
    let new = shelf_state g.H.Shelf.files g.H.Shelf.loads g.H.Shelf.stores c.load_schedule.new.shelf in
    let next : List ℕ → Order = λ events. Runs (Renewed events c.args.target.now) follows in
    let text = c.in_ok-text.text.items in
    let fault = fault_of c.in_err-schedule.field-0.0 in
    let p = err_from_is_err_and c.from_residual-in_err-schedule.result
    c.from_residual-in_err-schedule.ensures.1 in
    rw (p.1, p.2) (λ work out input. bytes_go (IsPlayed work) old new c.args.schedule.now 67108864 LongSchedule text
    c.in_ok-text.ensures.bytes next out input _ _
    (renew_faulty work text c.args.target.now fault
    (subst (λ (t : List ℕ). NotRead t fault) c.deref.ensures.value c.in_err-schedule.ensures) (outside new out input)))

pub returns-in_err-add_all-clause-order : goal.returns-in_err-add_all-clause-order
returns-in_err-add_all-clause-order g c =
    let old = shelf_state g.H.Shelf.files g.H.Shelf.loads g.H.Shelf.stores c.args.shelf.now in
    let new = shelf_state g.H.Shelf.files g.H.Shelf.loads g.H.Shelf.stores c.load_schedule.new.shelf in
    let next : List ℕ → Order = λ events. Runs (Renewed events c.args.target.now) follows in
    let text = c.in_ok-text.text.items in
    let m = c.in_ok-schedule.schedule.machines in
    let es = c.in_ok-schedule.schedule.events.items in
    let says : Says text m es = subst (λ (t : List ℕ). Says t m es) c.deref.ensures.value c.in_ok-schedule.ensures in
    let fault = fault_of c.in_err-add_all.field-0.0 in
    let p = err_from_is_err_and c.from_residual-in_err-add_all.result c.from_residual-in_err-add_all.ensures.1 in
    rw (p.1, p.2) (λ work out input. bytes_go (IsPlayed work) old new c.args.schedule.now 67108864 LongSchedule text
    c.in_ok-text.ensures.bytes next out input _ _
    (renew_stops work text c.args.target.now m es says fault
    (long_or_wants m _ es c.deref-2.ensures.value fault
    (c.in_err-add_all.ensures.err m c.in_ok-recorder.ensures)) (outside new out input)))

pub returns-clause-order : goal.returns-clause-order
returns-clause-order g c =
    let old = shelf_state g.H.Shelf.files g.H.Shelf.loads g.H.Shelf.stores c.args.shelf.now in
    let mid = shelf_state g.H.Shelf.files g.H.Shelf.loads g.H.Shelf.stores c.load_schedule.new.shelf in
    let new = shelf_state g.H.Shelf.files g.H.Shelf.loads g.H.Shelf.stores c.store_file.new.shelf in
    let next : List ℕ → Order = λ events. Runs (Renewed events c.args.target.now) follows in
    let text = c.in_ok-text.text.items in
    let m = c.in_ok-schedule.schedule.machines in
    let es = c.in_ok-schedule.schedule.events.items in
    let says : Says text m es = subst (λ (t : List ℕ). Says t m es) c.deref.ensures.value c.in_ok-schedule.ensures in
    let recording = c.add_all.new.recorder in
    let has : Records recording m es = subst (λ (list : List Event). Records recording m list) c.deref-2.ensures.value
    (c.in_ok-add_all.ensures.ok m c.in_ok-recorder.ensures) in
    let keeps = subst (λ (t : List ℕ). StoresFile c.args.target.now t mid new c.store_file.result) c.text.ensures
    c.store_file.ensures.stored in
    λ work out input. bytes_go (IsPlayed work) old mid c.args.schedule.now 67108864 LongSchedule text
    c.in_ok-text.ensures.bytes next out input _ _
    (renew_goes work text c.args.target.now m es says recording has mid new c.store_file.result keeps out input)
