-- An update has at most 130 bytes of a vertex.
use Rattle.std.proofs.Common.{◌+◌, ◌*◌, ◌≤◌, arith}
use Rattle.std.proofs.lemmas.Nat.{mul-le}
use Rattle.machine_steps.proofs.scanning.update_most.Goals as goal

pub overflow_mul-result : goal.overflow_mul-result
overflow_mul-result c =
    let each : 2 + 8 * (c.sent_words-words.result.slots + c.sent_words-words.result.reduced) ≤ 130 =
    omega (arith, c.sent_words-words.ensures.few, c.sent_words-words.ensures.few_reduced) in
    omega (arith, mul-le _ c.args.count 130 4294967296 each (omega (arith, c.requires)))
