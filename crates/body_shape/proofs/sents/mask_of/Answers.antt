use Rattle.std.proofs.Common.{◌<◌, drop, arith}
use Rattle.body_shape.specs.Places.{mask_of}
use Rattle.body_shape.proofs.WriteLaws.{mask_room}
use Rattle.body_shape.proofs.sents.mask_of.Goals as goal

pub overflow_mul-mask : goal.overflow_mul-mask
overflow_mul-mask c =
    let room : mask_of (drop c.places.place c.args.values.now) < 128 =
    mask_room c.args.values.now c.places.place c.requires c.places-test.true in
    omega (arith, room, c.places.invariant.value)

pub overflow_add-mask : goal.overflow_add-mask
overflow_add-mask c =
    let room : mask_of (drop c.places.place c.args.values.now) < 128 =
    mask_room c.args.values.now c.places.place c.requires c.places-test.true in
    omega (arith, room, c.places.invariant.value, c.bit_of.ensures.small)
