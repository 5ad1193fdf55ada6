use Rattle.std.proofs.Common.{flat_map, take, Ok}
use Rattle.array_text.specs.Writes.{Writes}
use Rattle.array_text.proofs.put.put_pieces.Given as goal

abbrev pub invariant-loop-piece : goal.invariant-loop-piece
invariant-loop-piece g l = Writes g.O.Sink.held g.O.Sink.faults g.O.Sink.spare l.fn.out l.out
    (flat_map (λ piece. piece.now) (take l.piece-index l.pieces)) (Ok tt)
