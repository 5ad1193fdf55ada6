use Rattle.std.proofs.Common.{◌≡◌, ◌<◌, ◌∙◌, sym, arith, length}
use Rattle.std.proofs.lemmas.Bool.Decides.{nat_tests}
use Rattle.delivery_log.proofs.LineLaws.{cut_line, cut_spelled, no_line, same_line}
use Rattle.delivery_log.proofs.line.line_at.Goals as goal

pub returns-then-is_empty-clause-found : goal.returns-then-is_empty-clause-found
returns-then-is_empty-clause-found c = λ line rest plain e.
    let none : length c.split_at.result.1.now ≡ 0 = grind (arith, nat_tests, c.if-is_empty.ensures) in
    absurd (no_line c.args.text.now c.split_at.result.1.now c.line_len.result c.line_len.ensures.value
    c.split_at.ensures.back none line rest e)

pub returns-clause-line : goal.returns-clause-line
returns-clause-line c =
    cut_line c.args.text.now c.split_at.result.0.now c.line_len.result c.line_len.ensures.value c.split_at.ensures.front

pub returns-clause-spelled : goal.returns-clause-spelled
returns-clause-spelled c =
    let some : 0 < length c.split_at.result.1.now = grind (arith, nat_tests, c.if-is_empty.ensures) in
    cut_spelled c.args.text.now c.split_at.result.0.now c.split_at.result.1.now c.split_at-2.result.1.now
    c.line_len.result c.line_len.ensures.value c.split_at.ensures.front c.split_at.ensures.back some
    c.split_at-2.ensures.back

pub returns-clause-found : goal.returns-clause-found
returns-clause-found c = λ line rest plain e.
    let some : 0 < length c.split_at.result.1.now = grind (arith, nat_tests, c.if-is_empty.ensures) in
    let own = cut_line c.args.text.now c.split_at.result.0.now c.line_len.result c.line_len.ensures.value
    c.split_at.ensures.front in
    let whole = cut_spelled c.args.text.now c.split_at.result.0.now c.split_at.result.1.now c.split_at-2.result.1.now
    c.line_len.result c.line_len.ensures.value c.split_at.ensures.front c.split_at.ensures.back some
    c.split_at-2.ensures.back in
    same_line c.split_at.result.0.now line c.split_at-2.result.1.now rest own plain (sym whole ∙ e)
