-- What is sent of a vertex.
use Rattle.std.proofs.Common.{◌≡◌, ◌<◌, ◌≤◌, ◌^◌, ℕ, ℤ, zero, suc, false, not, refl, sym, ap, None, Some, arith}
use Rattle.std.specs.Prelude.{◌==◌, if◌then◌else◌}
use Rattle.std.specs.Int.{bit_at}
use Rattle.std.proofs.lemmas.Bool.{eq-eqb, ne_eqb}
use Rattle.std.proofs.lemmas.Nat.Bits.{bit_at_above}
use Rattle.symple_face.specs.Ring.{operand}

-- a byte has no mark at a place from 8 on
pub unmarked : (marks place : ℕ) → marks < 2 ^ 8 → 8 ≤ place → not (bit_at marks place == 0) ≡ false
unmarked marks place small high = ap not (eq-eqb (bit_at marks place) 0 (bit_at_above marks 8 place small high))
