use Rattle.std.proofs.Common.{ap, length, arith}
use Rattle.symple_face.specs.Plans.{blocks_of}
use Rattle.vert_tree.proofs.TypedLaws.{few_fields, few_rounds, few_totals}
use Rattle.check_point.specs.Images.{head_in}
use Rattle.check_point.proofs.ReadyLaws.{head_goes_on}
use Rattle.check_point.proofs.read.read_image.Goals as goal

pub is_whole-requires-clause-fields : goal.is_whole-requires-clause-fields
is_whole-requires-clause-fields c =
    let few = few_fields c.args.split.now.program.program c.args.split.now.program.typed in
    omega (arith, few, ap length c.as_slice-fields.ensures.value)

pub is_whole-requires-clause-totals : goal.is_whole-requires-clause-totals
is_whole-requires-clause-totals c =
    let few = few_totals c.args.split.now.program.program c.args.split.now.program.typed in
    omega (arith, few, ap length c.as_slice-totals.ensures.value)

pub start_of-requires-clause-fields : goal.start_of-requires-clause-fields
start_of-requires-clause-fields c =
    let few = few_fields c.args.split.now.program.program c.args.split.now.program.typed in
    omega (arith, few, ap length c.as_slice-fields.ensures.value)

pub start_of-requires-clause-totals : goal.start_of-requires-clause-totals
start_of-requires-clause-totals c =
    let few = few_totals c.args.split.now.program.program c.args.split.now.program.typed in
    omega (arith, few, ap length c.as_slice-totals.ensures.value)

pub start_of-requires-clause-late : goal.start_of-requires-clause-late
start_of-requires-clause-late c =
    let few = few_rounds c.args.split.now.program.program c.args.split.now.program.typed in
    let on = head_goes_on (blocks_of c.args.split.now) c.args.vertices (head_in c.args.bytes.now)
    (c.is_own.ensures.0 c.if-not-is_own.false).head in
    omega (arith, on.within, few)
