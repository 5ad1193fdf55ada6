use Rattle.std.proofs.Common.{◌*◌, arith}
use Rattle.std.proofs.lemmas.Nat.{mul-le}
use Rattle.double_buffer.proofs.names.place_of.Goals as goal

pub overflow_add-result : goal.overflow_add-result
overflow_add-result c =
    omega (
      arith,
      mul-le (2 * c.from.result) c.row_of.result 510 5 (omega arith) c.row_of.ensures.six,
      c.at_in_row.ensures.small,
    )
