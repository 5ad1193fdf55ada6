use Rattle.std.proofs.Common.{◌+◌, ◌^◌, ◌<◌, arith}
use Rattle.body_shape.proofs.SendLaws.{bit_room}
use Rattle.body_shape.proofs.sends.with_bit.Goals as goal

pub overflow_add-result : goal.overflow_add-result
overflow_add-result c =
    let room : c.args.byte + 2 ^ c.args.place < 256 =
    bit_room c.args.byte c.args.place c.ranges.byte.fits c.requires.place c.requires.clear in
    omega (arith, room)

pub returns : goal.returns
returns c =
    let room : c.args.byte + 2 ^ c.args.place < 256 =
    bit_room c.args.byte c.args.place c.ranges.byte.fits c.requires.place c.requires.clear in
    omega (arith, room)
