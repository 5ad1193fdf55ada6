use Rattle.std.proofs.Common.{List, ℕ, subst, Ok, Err, ap, refl, ◌∙◌}
use Rattle.program_reader.specs.declared.refusal.ProgramFault.{ProgramFault}
use Rattle.program_reader.specs.declared.refusal.ProgramFault.TheVariants.{Refused}
use Rattle.program_reader.specs.Answers.{ReadsProgram}
use Rattle.command_steps.specs.Commands.{too_long_program}
use Rattle.command_steps.specs.States.{shelf_state}
use Rattle.command_steps.specs.Walks.{BadText, NoText, WantsForText}
use Rattle.command_steps.proofs.LoadLaws.{bytes_under, has_failed, is_long, is_missing, loaded_same, wanted_same, within_items}
use Rattle.command_steps.proofs.read.load_program_text.Goals as goal

pub returns-in-Err-TooLong-clause-program : goal.returns-in-Err-TooLong-clause-program
returns-in-Err-TooLong-clause-program g c =
    let old = shelf_state g.H.Shelf.files g.H.Shelf.loads g.H.Shelf.stores c.args.shelf.now in
    let new = shelf_state g.H.Shelf.files g.H.Shelf.loads g.H.Shelf.stores c.load.new.self in
    let is = c.in-Err-TooLong.is ∙ ap Err c.in-Err-TooLong.field-0-is in
    NoText (is_long old new c.load.ensures.same_files c.load.ensures.same_stores c.args.name.now 65536
    too_long_program c.load.result c.load.ensures.counted is (c.load.ensures.too_long is))

pub returns-in-Err-Want-clause-program : goal.returns-in-Err-Want-clause-program
returns-in-Err-Want-clause-program g c =
    let old = shelf_state g.H.Shelf.files g.H.Shelf.loads g.H.Shelf.stores c.args.shelf.now in
    let new = shelf_state g.H.Shelf.files g.H.Shelf.loads g.H.Shelf.stores c.load.new.self in
    WantsForText (wanted_same old new c.load.ensures.same_files c.load.ensures.same_stores c.load.result
    c.load.ensures.counted (c.in-Err-Want.is ∙ ap Err c.in-Err-Want.field-0-is)) refl

pub returns-in-Err-Failed-clause-program : goal.returns-in-Err-Failed-clause-program
returns-in-Err-Failed-clause-program g c =
    let old = shelf_state g.H.Shelf.files g.H.Shelf.loads g.H.Shelf.stores c.args.shelf.now in
    let new = shelf_state g.H.Shelf.files g.H.Shelf.loads g.H.Shelf.stores c.load.new.self in
    NoText (has_failed old new c.load.ensures.same_files c.load.ensures.same_stores c.args.name.now 65536
    too_long_program _ c.in_ok-unread.ensures.ok
    (c.load.ensures.failed (c.in-Err-Failed.is ∙ ap Err c.in-Err-Failed.field-0-is)))

pub returns-in-Err-Missing-clause-program : goal.returns-in-Err-Missing-clause-program
returns-in-Err-Missing-clause-program g c =
    let old = shelf_state g.H.Shelf.files g.H.Shelf.loads g.H.Shelf.stores c.args.shelf.now in
    let new = shelf_state g.H.Shelf.files g.H.Shelf.loads g.H.Shelf.stores c.load.new.self in
    let is = c.in-Err-Missing.is ∙ ap Err c.in-Err-Missing.field-0-is in
    NoText (is_missing old new c.load.ensures.same_files c.load.ensures.same_stores c.args.name.now 65536
    too_long_program _ c.in_ok-unread.ensures.ok
    (c.load.ensures.missing is) (c.load.ensures.untold_missing is))

pub returns-in-Ok-read_program-clause-program : goal.returns-in-Ok-read_program-clause-program
returns-in-Ok-read_program-clause-program g c =
    let old = shelf_state g.H.Shelf.files g.H.Shelf.loads g.H.Shelf.stores c.args.shelf.now in
    let new = shelf_state g.H.Shelf.files g.H.Shelf.loads g.H.Shelf.stores c.load.new.self in
    let P : List ℕ → Type 0 = λ text. ReadsProgram text (Ok c.in-Ok-read_program.typed) in (
      record {
        text = c.in-Ok.text.items;
        under = bytes_under (g.H.Shelf.files c.args.shelf.now) c.args.name.now c.in-Ok.text.items
            c.in-Ok.ensures.bytes;
        within = within_items c.in-Ok.text 65536 c.in-Ok.ensures.within;
        says = subst P c.deref.ensures.value c.in-Ok-read_program.ensures;
        same = loaded_same old new c.load.ensures.same_files c.load.ensures.same_stores c.load.result
            c.load.ensures.counted c.in-Ok.text c.in-Ok.is;
      },
      refl,
    )

pub returns-in-Err-Refused-clause-program : goal.returns-in-Err-Refused-clause-program
returns-in-Err-Refused-clause-program g c =
    let old = shelf_state g.H.Shelf.files g.H.Shelf.loads g.H.Shelf.stores c.args.shelf.now in
    let new = shelf_state g.H.Shelf.files g.H.Shelf.loads g.H.Shelf.stores c.load.new.self in
    let P : List ℕ → Type 0 = λ text. ReadsProgram text (Err (Refused c.in-Err-Refused.refusal)) in
    let Q : ProgramFault → Type 0 = λ fault. ReadsProgram c.deref.result.now (Err fault) in
    BadText c.in-Ok.text.items (bytes_under (g.H.Shelf.files c.args.shelf.now) c.args.name.now c.in-Ok.text.items
    c.in-Ok.ensures.bytes) (within_items c.in-Ok.text 65536 c.in-Ok.ensures.within)
    c.in-Err-Refused.refusal (subst P c.deref.ensures.value
    (subst Q c.in-Err-Refused.field-0-is c.in-Err-Refused.ensures))
    (loaded_same old new c.load.ensures.same_files c.load.ensures.same_stores c.load.result c.load.ensures.counted
    c.in-Ok.text c.in-Ok.is) refl

pub returns-clause-program : goal.returns-clause-program
returns-clause-program g c =
    let old = shelf_state g.H.Shelf.files g.H.Shelf.loads g.H.Shelf.stores c.args.shelf.now in
    let new = shelf_state g.H.Shelf.files g.H.Shelf.loads g.H.Shelf.stores c.load.new.self in
    WantsForText (loaded_same old new c.load.ensures.same_files c.load.ensures.same_stores c.load.result
    c.load.ensures.counted c.in-Ok.text c.in-Ok.is) refl
