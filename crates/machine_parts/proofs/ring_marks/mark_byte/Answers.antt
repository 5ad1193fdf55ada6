-- The byte of four marks, of which some may be missing.
use Rattle.dep_layout.proofs.LoopLaws.{byte_at}
use Rattle.machine_parts.proofs.ring_marks.mark_byte.Goals as goal

pub returns : goal.returns
returns c = byte_at c.args.marks.now c.args.vertex _ _ _ _ c.requires.within
    c.bits_at.ensures.value c.bits_at-2.ensures.value c.bits_at-3.ensures.value c.bits_at-4.ensures.value
