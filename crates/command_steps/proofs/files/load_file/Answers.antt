use Rattle.std.proofs.Common.{Err, ap, refl, ◌∙◌}
use Rattle.command_steps.specs.Faults.{fault_of}
use Rattle.command_steps.specs.States.{shelf_state}
use Rattle.command_steps.proofs.LoadLaws.{bytes_under, has_failed, is_long, is_missing, loaded_same, wanted_same, within_items}
use Rattle.command_steps.specs.FileWalks.{NotThere, WantsForBytes}
use Rattle.command_steps.proofs.files.load_file.Goals as goal

pub returns-in-Ok-clause-bytes : goal.returns-in-Ok-clause-bytes
returns-in-Ok-clause-bytes g c =
    let old = shelf_state g.H.Shelf.files g.H.Shelf.loads g.H.Shelf.stores c.args.shelf.now in
    let new = shelf_state g.H.Shelf.files g.H.Shelf.loads g.H.Shelf.stores c.load.new.self in
    record {
      under = bytes_under (g.H.Shelf.files c.args.shelf.now) c.args.name.now c.in-Ok.bytes.items c.in-Ok.ensures.bytes;
      within = within_items c.in-Ok.bytes c.args.limit c.in-Ok.ensures.within;
      same = loaded_same old new c.load.ensures.same_files c.load.ensures.same_stores c.load.result
          c.load.ensures.counted c.in-Ok.bytes c.in-Ok.is;
    }

pub returns-in-Err-TooLong-clause-bytes : goal.returns-in-Err-TooLong-clause-bytes
returns-in-Err-TooLong-clause-bytes g c =
    let old = shelf_state g.H.Shelf.files g.H.Shelf.loads g.H.Shelf.stores c.args.shelf.now in
    let new = shelf_state g.H.Shelf.files g.H.Shelf.loads g.H.Shelf.stores c.load.new.self in
    let is = c.in-Err-TooLong.is ∙ ap Err c.in-Err-TooLong.field-0-is in
    NotThere (is_long old new c.load.ensures.same_files c.load.ensures.same_stores c.args.name.now c.args.limit
    (fault_of c.args.too_long) c.load.result c.load.ensures.counted is (c.load.ensures.too_long is))

pub returns-in-Err-Want-clause-bytes : goal.returns-in-Err-Want-clause-bytes
returns-in-Err-Want-clause-bytes g c =
    let old = shelf_state g.H.Shelf.files g.H.Shelf.loads g.H.Shelf.stores c.args.shelf.now in
    let new = shelf_state g.H.Shelf.files g.H.Shelf.loads g.H.Shelf.stores c.load.new.self in
    WantsForBytes (wanted_same old new c.load.ensures.same_files c.load.ensures.same_stores c.load.result
    c.load.ensures.counted (c.in-Err-Want.is ∙ ap Err c.in-Err-Want.field-0-is)) refl

pub returns-in-Err-Failed-clause-bytes : goal.returns-in-Err-Failed-clause-bytes
returns-in-Err-Failed-clause-bytes g c =
    let old = shelf_state g.H.Shelf.files g.H.Shelf.loads g.H.Shelf.stores c.args.shelf.now in
    let new = shelf_state g.H.Shelf.files g.H.Shelf.loads g.H.Shelf.stores c.load.new.self in
    NotThere (has_failed old new c.load.ensures.same_files c.load.ensures.same_stores c.args.name.now c.args.limit
    (fault_of c.args.too_long) _ c.in_ok-unread.ensures.ok
    (c.load.ensures.failed (c.in-Err-Failed.is ∙ ap Err c.in-Err-Failed.field-0-is)))

pub returns-in-Err-Missing-clause-bytes : goal.returns-in-Err-Missing-clause-bytes
returns-in-Err-Missing-clause-bytes g c =
    let old = shelf_state g.H.Shelf.files g.H.Shelf.loads g.H.Shelf.stores c.args.shelf.now in
    let new = shelf_state g.H.Shelf.files g.H.Shelf.loads g.H.Shelf.stores c.load.new.self in
    let is = c.in-Err-Missing.is ∙ ap Err c.in-Err-Missing.field-0-is in
    NotThere (is_missing old new c.load.ensures.same_files c.load.ensures.same_stores c.args.name.now c.args.limit
    (fault_of c.args.too_long) _ c.in_ok-unread.ensures.ok (c.load.ensures.missing is) (c.load.ensures.untold_missing
    is))
