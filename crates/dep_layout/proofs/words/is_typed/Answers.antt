use Rattle.std.proofs.Common.{◌≡◌, true, ◌+◌, ◌-◌, ◌/◌, length, take, sym, ap, ◌∙◌}
use Rattle.std.specs.Int.{w64}
use Rattle.std.proofs.lemmas.Int.{to_z-of_z}
use borrow.Author.Rules.{sfits_of}
use Rattle.dep_layout.specs.Spelling.{are_typed, suits}
use Rattle.dep_layout.specs.Judgement.{word_of, words_in}
use Rattle.dep_layout.proofs.LoopLaws.{room_step, typed_step}
use Rattle.dep_layout.proofs.words.is_typed.Goals as goal

pub words-preserved : goal.words-preserved
words-preserved c =
    let rest = c.words.rest.now in
    let behind = c.split_at.result.1.now in
    let suited : suits c.words.left (word_of (take 8 c.words.rest.now)) ≡ true =
    ap (suits c.words.left) (ap word_of (sym c.split_at.ensures.front) ∙ sym c.word_of.ensures
    ∙ sym (to_z-of_z w64 c.word_of.result (sfits_of c.word_of.type_inv)))
    ∙ sym c.suits.ensures ∙ c.if-not-suits.false in
    record {
      room = room_step 8 c.args.width c.words.counter (length rest) (length behind) c.words-test.true
          c.words.invariant.room c.split_at.ensures.back_len;
      whole = ap (λ bytes. are_typed (c.words.left / 2) (words_in (c.args.width - (c.words.counter + 1)) bytes))
          c.split_at.ensures.back
          ∙ typed_step c.words.left c.args.width c.words.counter rest _ c.words-test.true suited
          c.words.invariant.whole;
    }
