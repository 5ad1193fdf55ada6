use Rattle.std.proofs.Common.{◌≡◌, ◌∙◌, option_map, [], sym, ap, drop, drop_of_length-le}
use Rattle.symple_words.specs.Spelling.{advanced, read_from, nothing_read}
use Rattle.symple_words.specs.Views.{form_of, move_view, tally_view, words_of}
use Rattle.symple_words.proofs.TallyLaws.{turn, turn_stops, refused, at_the_end, count_grows}
use Rattle.symple_words.proofs.spelling.is_spelt.Goals as goal

pub returns-in-None : goal.returns-in-None
returns-in-None c =
    refused (form_of c.args.form.now) (words_of c.args.words.now)
    (turn_stops (form_of c.args.form.now) (tally_view c.loop-word.tally) c.args.words.now c.loop-word.word-index
    c.word-item.result c.as_str.result.now _
    c.loop-word.invariant.reads c.loop-word-test.true c.word-item.is c.as_str.ensures.value
    (sym (ap (option_map move_view) c.in-None.is) ∙ c.next_move.ensures))

pub loop-word-preserved : goal.loop-word-preserved
loop-word-preserved c =
    let next : tally_view c.advance.new.tally ≡ advanced (tally_view c.loop-word.tally) (move_view c.in-Some.step) =
    c.in_ok-advance-in-Some.ensures in
    record {
      reads = turn (form_of c.args.form.now) (tally_view c.loop-word.tally) _ c.args.words.now c.loop-word.word-index
          c.word-item.result c.as_str.result.now (move_view c.in-Some.step) _
          c.loop-word.invariant.reads c.loop-word-test.true c.word-item.is c.as_str.ensures.value
          (sym (ap (option_map move_view) c.in-Some.is) ∙ c.next_move.ensures) next;
      count = count_grows (tally_view c.loop-word.tally) (tally_view c.advance.new.tally) (move_view c.in-Some.step)
          c.loop-word.word-index next c.loop-word.invariant.count;
    }

pub returns : goal.returns
returns c =
    let f = form_of c.args.form.now in
    let words = words_of c.args.words.now in
    let r = c.loop-word.invariant.reads in
    let past : drop c.loop-word.word-index c.args.words.now ≡ [] =
    drop_of_length-le c.args.words.now c.loop-word-test.false in
    let ended : read_from f r.stand [] ≡ read_from f nothing_read words =
    ap (λ l. read_from f r.stand (words_of l)) (sym past) ∙ r.same in
    let answer = at_the_end f r.stand (tally_view c.loop-word.tally) words r.tally ended in
    c.is_whole.ensures ∙ answer
