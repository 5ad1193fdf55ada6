use Rattle.std.proofs.Common.{◌+◌, List, ℕ, flat_map, drop, Bor, refl, arith}
use Rattle.array_text.proofs.WritesLaws.{writes_same, writes_failed, writes_then, texts_split}
use Rattle.array_text.proofs.put.put_pieces.Goals as goal

pub returns-in_err-put_all : goal.returns-in_err-put_all
returns-in_err-put_all g c =
    let bytes : Bor (List ℕ) → List ℕ = λ piece. piece.now in
    writes_same
    (texts_split bytes c.args.pieces.now c.loop-piece.piece-index _ _ (omega arith) refl)
    (writes_failed (flat_map bytes (drop (c.loop-piece.piece-index + 1) c.args.pieces.now)) c.from_residual.result
    c.from_residual.ensures.0 (writes_then _ c.loop-piece.invariant c.in_err-put_all.ensures))
