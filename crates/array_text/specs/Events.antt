-- The text of an event played.
use Rattle.std.specs.Prelude.{ℕ, List, [], ◌++◌, Option, Some, None, codes, decimal}
use Rattle.hex.specs.Hex.{encode_lower}
use Rattle.vert_base.specs.declared.message.Event.{Event}
use Rattle.vert_base.specs.declared.message.Event.TheVariants.{Go, Take}
use Rattle.vert_base.specs.HeaderBytes.{spelled_message}
use Rattle.vert_base.specs.Letters.{Letter}
use Rattle.vert_base.specs.NameTexts.{name_text}

-- a machine that goes, or a message taken by its whole name
abbrev pub event_text : Event → List ℕ
event_text (Go machine) = codes "go " ++ decimal machine
event_text (Take x) = codes "take " ++ name_text x

-- the header and the body of a message after a space, each byte as two hexadecimal digits
abbrev pub message_text : Option Letter → List ℕ
message_text None = []
message_text (Some letter) = codes " " ++ encode_lower (spelled_message letter.name letter.body)

-- the event, and the message that it takes
abbrev pub event_line : Event → Option Letter → List ℕ
event_line event taken = event_text event ++ message_text taken ++ codes "\n"
