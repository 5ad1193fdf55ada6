-- Bits at no more than eight places fit a byte.
use Rattle.std.proofs.Common.{◌≤◌, length, arith}
use Rattle.std.proofs.Math.Pow.{pow_mono}
use Rattle.symple_face.proofs.words.carried_bits.Goals as goal

pub overflow_cast-result : goal.overflow_cast-result
overflow_cast-result c =
    let few : length c.as_slice.result.now ≤ 8 = c.as_slice.ensures.fits in
    omega (arith, pow_mono few, c.bits_at.ensures.small)
