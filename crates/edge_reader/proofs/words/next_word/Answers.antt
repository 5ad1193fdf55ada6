use Rattle.std.proofs.Common.{◌≡◌, ◌<◌, arith, take, drop, length, ◌-◌}
use Rattle.std.proofs.lemmas.Grind.{common_steps}
use Rattle.std.proofs.lemmas.List.{take_rest}
use Rattle.edge_reader.proofs.WordLaws.{words_next, words_none}
use Rattle.edge_reader.proofs.words.next_word.Goals as goal

pub returns-then-is_empty : goal.returns-then-is_empty
returns-then-is_empty c =
    let front = take (length c.args.text.now - c.blanks.result) (drop c.blanks.result c.args.text.now) in
    let none : length front ≡ 0 = grind (arith, common_steps) in
    words_none c.args.text.now front c.blanks.result c.blanks.ensures.value
    (take_rest c.args.text.now c.blanks.result) none

pub returns : goal.returns
returns c =
    let front = take (length c.args.text.now - c.blanks.result) (drop c.blanks.result c.args.text.now) in
    let some : 0 < length front = grind (arith, common_steps) in
    rw (c.split_at.ensures.front, c.split_at.ensures.back)
    (words_next c.args.text.now front c.blanks.result c.word_len.result c.blanks.ensures.value
    (take_rest c.args.text.now c.blanks.result) some c.word_len.ensures.value)
