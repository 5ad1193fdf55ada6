-- The lines of events have no line feed.
use Rattle.std.proofs.Common.{ℕ, ◌≤◌, ◌++◌, refl, arith}
use Rattle.std.specs.Prelude.{codes, decimal}
use Rattle.vert_base.specs.NameTexts.{name_text}
use Rattle.delivery_log.specs.LineReading.{IsLine}
use Rattle.delivery_log.proofs.PlainLaws.{decimal_line, joined, name_line, plain_line, wide}
use Rattle.link_core.specs.declared.event.LinkEvent.{LinkEvent}
use Rattle.link_core.specs.declared.event.LinkEvent.TheVariants as link
use Rattle.link_core.specs.LinkTexts.{IsLinkEvent, event_front}

pub event_plain : (e : LinkEvent) → IsLinkEvent e → IsLine (event_front e)
event_plain (link.Go m) is =
    joined (codes "go ") (decimal m) (plain_line (codes "go ") refl) (decimal_line m (wide m is))
event_plain (link.Take x) is =
    joined (codes "take ") (name_text x) (plain_line (codes "take ") refl) (name_line x is)
event_plain (link.Lose x) is =
    joined (codes "lose ") (name_text x) (plain_line (codes "lose ") refl) (name_line x is)
event_plain (link.Again x) is =
    joined (codes "again ") (name_text x) (plain_line (codes "again ") refl) (name_line x is)
event_plain (link.Ack x) is =
    joined (codes "ack ") (name_text x) (plain_line (codes "ack ") refl) (name_line x is)
event_plain (link.Drop x) is =
    joined (codes "drop ") (name_text x) (plain_line (codes "drop ") refl) (name_line x is)

pub header_plain : (m : ℕ) → m ≤ 64 → IsLine (codes "schedule 3 machines " ++ decimal m)
header_plain m few =
    joined (codes "schedule 3 machines ") (decimal m) (plain_line (codes "schedule 3 machines ") refl)
    (decimal_line m (omega (arith, few)))
