use Rattle.std.proofs.Common.{sym, ◌∙◌}
use Rattle.vert_lex.proofs.Judging.{word_all, judged_word, judged_name, number_all, judged_number, judged_great, judged_mark, judged_none}
use Rattle.vert_lex.proofs.kind.kind_of.Goals as goal

pub name-requires : goal.name-requires
name-requires c = word_all c.args.span c.args.bytes.now c.requires c.first-b.result c.first-b.ensures
    (sym c.is_letter.ensures ∙ c.if-is_letter.true)

pub returns-in-Some-clause-read : goal.returns-in-Some-clause-read
returns-in-Some-clause-read c = judged_word c.args.span c.args.bytes.now c.requires c.first-b.result c.first-b.ensures
    (sym c.is_letter.ensures ∙ c.if-is_letter.true) c.in-Some.place c.in-Some.ensures

pub returns-in_ok-name-in-None-clause-read : goal.returns-in_ok-name-in-None-clause-read
returns-in_ok-name-in-None-clause-read c = judged_name c.args.span c.args.bytes.now c.requires c.first-b.result
    c.first-b.ensures (sym c.is_letter.ensures ∙ c.if-is_letter.true) c.in-None.ensures _ c.in_ok-name-in-None.ensures

pub number-requires : goal.number-requires
number-requires c = number_all c.args.span c.args.bytes.now c.requires c.first-b.result c.first-b.ensures
    (sym c.is_letter.ensures ∙ c.if-is_letter.false) (sym c.is_digit.ensures ∙ c.if-is_digit.true)

pub returns-in-Some-number-clause-read : goal.returns-in-Some-number-clause-read
returns-in-Some-number-clause-read c = judged_number c.args.span c.args.bytes.now c.requires c.first-b.result
    c.first-b.ensures (sym c.is_letter.ensures ∙ c.if-is_letter.false) (sym c.is_digit.ensures ∙ c.if-is_digit.true)
    c.in-Some-number.value c.in-Some-number.ensures

pub returns-in-None-number-clause-refused : goal.returns-in-None-number-clause-refused
returns-in-None-number-clause-refused c = λ other.
    judged_great c.args.span c.args.bytes.now c.requires c.first-b.result c.first-b.ensures (sym c.is_letter.ensures
    ∙ c.if-is_letter.false) (sym c.is_digit.ensures ∙ c.if-is_digit.true) c.in-None-number.ensures

pub returns-in-Some-mark_place-clause-read : goal.returns-in-Some-mark_place-clause-read
returns-in-Some-mark_place-clause-read c = judged_mark c.args.span c.args.bytes.now c.requires c.first-b.result
    c.first-b.ensures (sym c.is_letter.ensures ∙ c.if-is_letter.false) (sym c.is_digit.ensures ∙ c.if-is_digit.false)
    c.in-Some-mark_place.place c.in-Some-mark_place.ensures

pub returns-in-None-mark_place-clause-refused : goal.returns-in-None-mark_place-clause-refused
returns-in-None-mark_place-clause-refused c = λ other.
    judged_none c.args.span c.args.bytes.now c.requires c.first-b.result c.first-b.ensures (sym c.is_letter.ensures
    ∙ c.if-is_letter.false) (sym c.is_digit.ensures ∙ c.if-is_digit.false) c.in-None-mark_place.ensures
