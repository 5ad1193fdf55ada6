use Rattle.std.proofs.Common.{◌≡◌, ◌∙◌, ap, sym, subst}
use Rattle.slab.specs.Slab.{Slab}
use Rattle.vert_base.specs.declared.message.Message.{Message}
use Rattle.flight.specs.Entries.{IsSound, letters_by, place}
use Rattle.flight.proofs.EntryLaws.{ascend_any, back_sound, grown_sound, put_letters, put_sound}
use Rattle.flight.proofs.messages.add.Goals as goal

pub place_of-at-requires : goal.place_of-at-requires
place_of-at-requires c =
    ascend_any c.args.messages.now c.args.entries.now.items c.requires.sound.order.ascends

pub returns-in-Err-clause-sound : goal.returns-in-Err-clause-sound
returns-in-Err-clause-sound c =
    subst (λ (s : Slab Message). IsSound s c.args.entries.now.items) (sym c.in-Err.ensures.err)
    (grown_sound c.args.messages.now c.insert.new.self.capacity c.args.entries.now.items c.requires.sound)

pub returns-in-Ok-insert-clause-sound : goal.returns-in-Ok-insert-clause-sound
returns-in-Ok-insert-clause-sound c =
    let at_place : c.place_of-at.result ≡ place c.args.msg.name
    (letters_by c.args.messages.now c.args.entries.now.items) = c.place_of-at.ensures.value c.args.messages.now in
    subst (IsSound c.insert.new.self) (sym c.in-Ok-insert.ensures.items)
    (put_sound c.args.messages.now c.insert.new.self c.args.entries.now.items c.requires.sound c.args.msg c.in-Ok.key
    c.place_of-at.result c.in-Ok.ensures.was_vacant c.in-Ok.ensures.updates at_place c.requires.fresh
    c.requires.room)

pub returns-in-Ok-insert-clause-sent : goal.returns-in-Ok-insert-clause-sent
returns-in-Ok-insert-clause-sent c =
    let at_place : c.place_of-at.result ≡ place c.args.msg.name
    (letters_by c.args.messages.now c.args.entries.now.items) = c.place_of-at.ensures.value c.args.messages.now in
    ap (letters_by c.insert.new.self) c.in-Ok-insert.ensures.items
    ∙ put_letters c.args.messages.now c.insert.new.self c.args.entries.now.items c.requires.sound c.args.msg
    c.in-Ok.key c.place_of-at.result c.in-Ok.ensures.was_vacant c.in-Ok.ensures.updates at_place

pub returns-in-Err-insert-clause-sound : goal.returns-in-Err-insert-clause-sound
returns-in-Err-insert-clause-sound c =
    subst (IsSound c.remove.new.self) (sym c.in-Err-insert.ensures.unchanged.0)
    (back_sound c.args.messages.now c.insert.new.self c.args.entries.now.items c.requires.sound c.args.msg c.in-Ok.key
    c.place_of-at.result c.in-Ok.ensures.was_vacant c.in-Ok.ensures.updates c.remove.new.self
    c.remove.ensures.updates)
