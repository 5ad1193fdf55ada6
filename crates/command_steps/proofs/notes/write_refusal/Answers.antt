use Rattle.std.proofs.Common.{codes, ◌∙◌}
use Rattle.array_text.proofs.WritesLaws.{writes_same}
use Rattle.command_steps.proofs.LineLaws.{same_place}
use Rattle.command_steps.proofs.notes.write_refusal.Goals as goal

pub returns : goal.returns
returns g c =
    writes_same
    (same_place (codes "symple: program: ") (codes " at ") (codes ":") _ _ _ _ _ _ _ _ c.letter.ensures
    (c.as_bytes.ensures.value ∙ c.format.ensures.text) (c.as_bytes-2.ensures.value ∙ c.format-2.ensures.text)
    (c.as_bytes-3.ensures.value ∙ c.format-3.ensures.text))
    c.put_pieces.ensures
