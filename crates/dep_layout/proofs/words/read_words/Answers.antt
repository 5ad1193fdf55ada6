use Rattle.std.proofs.Common.{◌+◌, ◌-◌, ◌++◌, length, take, set, ap, ◌∙◌}
use Rattle.std.specs.Int.{w64}
use Rattle.std.proofs.lemmas.List.{length-set}
use Rattle.std.proofs.lemmas.Int.{to_z-of_z}
use borrow.Author.Rules.{sfits_of}
use Rattle.dep_layout.specs.Judgement.{word_of, words_in}
use Rattle.dep_layout.proofs.LoopLaws.{room_step, words_end, words_step}
use Rattle.dep_layout.proofs.words.read_words.Goals as goal

pub loop-i-preserved : goal.loop-i-preserved
loop-i-preserved g c =
    let rest = c.loop-i.rest.now in
    let behind = c.split_at.result.1.now in
    let read = to_z-of_z w64 c.word_of.result (sfits_of c.word_of.type_inv) ∙ c.word_of.ensures
    ∙ ap word_of c.split_at.ensures.front in
    record {
      count = length-set c.loop-i.at c.loop-i.i _ ∙ c.loop-i.invariant.count;
      room = room_step 8 g.row.W c.loop-i.i (length rest) (length behind) c.loop-i-test.true c.loop-i.invariant.room
          c.split_at.ensures.back_len;
      whole = ap (λ word. take (c.loop-i.i + 1) (set c.loop-i.at c.loop-i.i word)
          ++ words_in (g.row.W - (c.loop-i.i + 1)) behind) read
          ∙ ap (λ bytes. take (c.loop-i.i + 1) (set c.loop-i.at c.loop-i.i (word_of (take 8 rest)))
          ++ words_in (g.row.W - (c.loop-i.i + 1)) bytes) c.split_at.ensures.back
          ∙ words_step g.row.W c.loop-i.i c.loop-i.at rest _ c.loop-i-test.true c.loop-i.invariant.count
          c.loop-i.invariant.whole;
    }

pub returns : goal.returns
returns g c = words_end g.row.W c.loop-i.i c.loop-i.at c.loop-i.rest.now _ c.loop-i-test.false
    c.loop-i.invariant.count c.loop-i.invariant.whole
