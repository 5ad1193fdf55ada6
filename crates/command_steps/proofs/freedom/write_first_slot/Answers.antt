use Rattle.std.proofs.Common.{codes, slice_get}
use Rattle.array_text.proofs.WritesLaws.{writes_same}
use Rattle.command_steps.specs.Outputs.{slot_name}
use Rattle.command_steps.proofs.LineLaws.{same_name}
use Rattle.command_steps.proofs.freedom.write_first_slot.Goals as goal

pub returns : goal.returns
returns g c =
    let program = c.args.program.now in
    writes_same (same_name (codes "not free: first slot ") c.name_of_slot.result.now
    (slot_name program (slice_get program.slots.items c.args.slot)) c.name_of_slot.ensures) c.put_pieces.ensures
