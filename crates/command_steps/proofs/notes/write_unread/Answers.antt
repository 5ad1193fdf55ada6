use Rattle.std.proofs.Common.{codes}
use Rattle.array_text.proofs.WritesLaws.{writes_same}
use Rattle.command_steps.proofs.LineLaws.{same_name}
use Rattle.command_steps.proofs.notes.write_unread.Goals as goal

pub returns : goal.returns
returns g c = writes_same (same_name (codes "symple: cannot read ") _ _ c.as_bytes.ensures.value) c.put_pieces.ensures
