use Rattle.std.proofs.Common.{map, arith}
use Rattle.std.proofs.lemmas.List.{length-map}
use Rattle.dep_layout.specs.Spelling.{mark_of}
use Rattle.dep_layout.specs.States.{state_of, states_of}
use Rattle.dep_layout.proofs.LoopLaws.{byte_at}
use Rattle.dep_layout.proofs.marks.mark_byte.Goals as goal

pub returns : goal.returns
returns g c =
    let states = c.args.states.now in
    byte_at (map mark_of (states_of c.args.states.now)) c.args.vertex _ _ _ _
    (omega (
      arith,
      length-map states (state_of {W = g.row.W}),
      length-map (map (state_of {W = g.row.W}) states) mark_of,
    ))
    c.bits_at.ensures.value c.bits_at-2.ensures.value c.bits_at-3.ensures.value c.bits_at-4.ensures.value
