use Rattle.std.proofs.Common.{◌∙◌, ap, sym, subst}
use Rattle.std.specs.Prelude.{option_map}
use Rattle.vert_base.specs.Letters.{letter_of}
use Rattle.flight.specs.Entries.{IsSound, letters_by}
use Rattle.flight.proofs.EntryLaws.{ascend_any, has_key, message_is, taken_letters, taken_sound}
use Rattle.flight.proofs.messages.take.Goals as goal

pub find_in-requires : goal.find_in-requires
find_in-requires c = ascend_any c.args.messages.now c.args.entries.now.items c.requires.order.ascends

pub remove-requires-in-Some : goal.remove-requires-in-Some
remove-requires-in-Some c =
    has_key c.args.messages.now c.args.entries.now.items c.requires c.args.name.now c.in-Some.at c.in-Some.ensures.some
    c.in_ok-entry-in-Some.entry c.in_ok-entry-in-Some.ensures.value

pub returns-in_ok-entry-in-Some-clause-sound : goal.returns-in_ok-entry-in-Some-clause-sound
returns-in_ok-entry-in-Some-clause-sound c =
    subst (IsSound c.remove-in-Some.new.self) (sym c.in_ok-entry-in-Some.ensures.items)
    (taken_sound c.args.messages.now c.args.entries.now.items c.requires c.args.name.now c.in-Some.at
    c.in-Some.ensures.some c.in_ok-entry-in-Some.entry c.in_ok-entry-in-Some.ensures.value c.remove-in-Some.new.self
    c.remove-in-Some.ensures.updates)

pub returns-in_ok-entry-in-Some-clause-message : goal.returns-in_ok-entry-in-Some-clause-message
returns-in_ok-entry-in-Some-clause-message c =
    sym (ap (option_map letter_of) c.remove-in-Some.ensures.value)
    ∙ message_is c.args.messages.now c.args.entries.now.items c.requires c.args.name.now c.in-Some.at
    c.in-Some.ensures.some c.in_ok-entry-in-Some.entry c.in_ok-entry-in-Some.ensures.value

pub returns-in_ok-entry-in-Some-clause-rest : goal.returns-in_ok-entry-in-Some-clause-rest
returns-in_ok-entry-in-Some-clause-rest c =
    ap (letters_by c.remove-in-Some.new.self) c.in_ok-entry-in-Some.ensures.items
    ∙ taken_letters c.args.messages.now c.args.entries.now.items c.requires c.args.name.now c.in-Some.at
    c.in-Some.ensures.some c.in_ok-entry-in-Some.entry c.in_ok-entry-in-Some.ensures.value c.remove-in-Some.new.self
    c.remove-in-Some.ensures.updates
