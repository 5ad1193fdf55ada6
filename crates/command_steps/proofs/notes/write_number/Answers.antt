use Rattle.std.proofs.Common.{decimal, ◌∙◌}
use Rattle.array_text.proofs.WritesLaws.{writes_same}
use Rattle.command_steps.proofs.LineLaws.{ends_in_nothing}
use Rattle.command_steps.proofs.notes.write_number.Goals as goal

pub returns : goal.returns
returns g c =
    writes_same
    (ends_in_nothing c.args.front.now _ (decimal c.args.number) c.args.behind.now
    (c.as_bytes.ensures.value ∙ c.format.ensures.text)) c.put_pieces.ensures
