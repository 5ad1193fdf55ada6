use Rattle.std.proofs.Common.{sym, ◌∙◌}
use Rattle.vert_lex.proofs.Longest.{word_at_front, number_at_front, two_at_front, one_at_front, none_at_front}
use Rattle.vert_lex.proofs.length.token_length.Goals as goal

pub returns-then-is_letter-clause-longest : goal.returns-then-is_letter-clause-longest
returns-then-is_letter-clause-longest c = word_at_front c.args.text.now c.first-b.result c.skip-rest.result.now
    c.requires.some c.first-b.ensures c.skip-rest.ensures c.word_length.result c.word_length.ensures.in_range
    (sym c.is_letter.ensures ∙ c.if-is_letter.true) c.word_length.ensures.all c.word_length.ensures.stops

pub returns-then-is_digit-clause-longest : goal.returns-then-is_digit-clause-longest
returns-then-is_digit-clause-longest c = number_at_front c.args.text.now c.first-b.result c.skip-rest.result.now
    c.requires.some c.first-b.ensures c.skip-rest.ensures c.number_length.result c.number_length.ensures.in_range
    (sym c.is_letter.ensures ∙ c.if-is_letter.false) (sym c.is_digit.ensures ∙ c.if-is_digit.true)
    c.number_length.ensures.all c.number_length.ensures.stops

pub returns-then-begins_with_mark-clause-longest : goal.returns-then-begins_with_mark-clause-longest
returns-then-begins_with_mark-clause-longest c = two_at_front c.args.text.now c.first-b.result c.skip-rest.result.now
    c.requires.some c.first-b.ensures c.skip-rest.ensures (sym c.is_letter.ensures ∙ c.if-is_letter.false)
    (sym c.is_digit.ensures ∙ c.if-is_digit.false) (sym c.begins_with_mark.ensures ∙ c.if-begins_with_mark.true)

pub returns-then-begins_with_mark-2-clause-longest : goal.returns-then-begins_with_mark-2-clause-longest
returns-then-begins_with_mark-2-clause-longest c = one_at_front c.args.text.now c.first-b.result
    c.skip-rest.result.now c.requires.some c.first-b.ensures c.skip-rest.ensures (sym c.is_letter.ensures
    ∙ c.if-is_letter.false) (sym c.is_digit.ensures ∙ c.if-is_digit.false) (sym c.begins_with_mark.ensures
    ∙ c.if-begins_with_mark.false) (sym c.begins_with_mark-2.ensures ∙ c.if-begins_with_mark-2.true)

pub returns-clause-longest : goal.returns-clause-longest
returns-clause-longest c = none_at_front c.args.text.now c.first-b.result c.skip-rest.result.now c.requires.some
    c.first-b.ensures c.skip-rest.ensures (sym c.is_letter.ensures ∙ c.if-is_letter.false) (sym c.is_digit.ensures
    ∙ c.if-is_digit.false) (sym c.begins_with_mark.ensures ∙ c.if-begins_with_mark.false)
    (sym c.begins_with_mark-2.ensures ∙ c.if-begins_with_mark-2.false)
