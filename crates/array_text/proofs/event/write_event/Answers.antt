use Rattle.std.proofs.Common.{codes, sym, append_assoc, option_copied, option_map}
use Rattle.vert_base.specs.Letters.{letter_of}
use Rattle.array_text.specs.Events.{event_text, message_text}
use Rattle.array_text.proofs.WritesLaws.{writes_same, writes_then}
use Rattle.array_text.proofs.event.write_event.Goals as goal

pub returns : goal.returns
returns g c =
    let taken = option_map letter_of (option_copied c.args.taken) in
    writes_same (sym (append_assoc (event_text c.args.event.now) (message_text taken) (codes "\n")))
    (writes_then _ c.in_ok-put_event.ensures c.put_end.ensures)
