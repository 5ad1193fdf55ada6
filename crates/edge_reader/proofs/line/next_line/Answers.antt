use Rattle.std.proofs.Common.{◌≡◌, ◌<◌, arith, drop, length}
use Rattle.std.proofs.lemmas.Grind.{common_steps}
use Rattle.std.proofs.lemmas.List.{take_rest}
use Rattle.edge_reader.proofs.LineLaws.{lines_next, lines_last}
use Rattle.edge_reader.proofs.line.next_line.Goals as goal

pub returns-then-is_empty-2-clause-lines : goal.returns-then-is_empty-2-clause-lines
returns-then-is_empty-2-clause-lines c =
    let some : 0 < length c.args.bytes.now = grind (arith, common_steps) in
    let none : length (drop c.line_len.result c.args.bytes.now) ≡ 0 =
    grind (arith, common_steps, c.split_at.ensures.back) in
    rw (c.split_at.ensures.front, c.split_at.ensures.back)
    (lines_last c.args.bytes.now c.line_len.result some c.line_len.ensures.value none)

pub returns-clause-lines : goal.returns-clause-lines
returns-clause-lines c =
    let some : 0 < length c.args.bytes.now = grind (arith, common_steps) in
    rw (take_rest c.split_at.result.1.now 1, c.split_at.ensures.front, c.split_at.ensures.back)
    (lines_next c.args.bytes.now c.line_len.result some c.line_len.ensures.value)
