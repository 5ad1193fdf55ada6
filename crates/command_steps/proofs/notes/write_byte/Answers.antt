use Rattle.std.proofs.Common.{codes, ◌∙◌}
use Rattle.array_text.proofs.WritesLaws.{writes_same}
use Rattle.command_steps.proofs.LineLaws.{same_pair}
use Rattle.command_steps.proofs.notes.write_byte.Goals as goal

pub returns : goal.returns
returns g c =
    writes_same
    (same_pair (codes "symple: graph: E") (codes " at byte ") _ _ _ _ (c.as_bytes.ensures.value
    ∙ c.format.ensures.text) (c.as_bytes-2.ensures.value ∙ c.format-2.ensures.text))
    c.put_pieces.ensures
