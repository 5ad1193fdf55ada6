use Rattle.std.proofs.Common.{sym, ◌∙◌}
use Rattle.vert_lex.proofs.Passing.{gap_comment_at}
use Rattle.vert_lex.proofs.length.gap_length.Goals as goal

pub returns-then-is_comment-clause-passes : goal.returns-then-is_comment-clause-passes
returns-then-is_comment-clause-passes c = λ pos s.
    gap_comment_at c.args.text.now c.line_length.result c.requires c.first.result c.skip.result.now c.first-2.result
    c.first.ensures c.first-2.ensures c.skip.ensures (sym c.is_blank.ensures ∙ c.if-is_blank.false)
    (sym c.is_comment.ensures ∙ c.if-is_comment.true) c.line_length.ensures.in_range c.line_length.ensures.all
    c.line_length.ensures.stops pos s
