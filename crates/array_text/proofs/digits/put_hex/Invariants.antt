use Rattle.std.proofs.Common.{◌≡◌, ℕ, List, ◌++◌, length, Ok}
use Rattle.hex.specs.Hex.{encode_lower}
use Rattle.array_text.specs.Writes.{Writes}
use Rattle.array_text.proofs.digits.put_hex.Given as goal

-- the bytes in front of the rest are written
abbrev pub invariant-loop-rest : goal.invariant-loop-rest
invariant-loop-rest g l =
    (front : List ℕ) × (front ++ l.rest ≡ l.bytes) ×
    Writes g.O.Sink.held g.O.Sink.faults g.O.Sink.spare l.fn.out l.out (encode_lower front) (Ok tt)

abbrev pub decreases-loop-rest : goal.decreases-loop-rest
decreases-loop-rest g l = length l.rest
