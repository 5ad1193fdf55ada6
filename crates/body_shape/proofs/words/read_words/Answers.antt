use Rattle.std.proofs.Common.{◌+◌, ◌-◌, ◌++◌, [], ◌∷◌, length, ap, ◌∙◌, to_z, of_z, length-append, arith}
use Rattle.std.specs.Int.{w64}
use Rattle.std.proofs.lemmas.Int.{to_z-of_z}
use borrow.Author.Rules.{sfits_of}
use Rattle.dep_layout.specs.Judgement.{words_in}
use Rattle.body_shape.proofs.ReadLaws.{read_step}
use Rattle.body_shape.proofs.words.read_words.Goals as goal

pub words-preserved : goal.words-preserved
words-preserved g c =
    let word = to_z w64 (of_z w64 c.word_at.result) in
    let so_far = c.words.words.items in
    let behind = c.behind-rest-in-words.result.now in
    let read = to_z-of_z w64 c.word_at.result (sfits_of c.word_at.type_inv) ∙ c.word_at.ensures in
    record {
      count = omega (arith, ap length c.push.ensures.items, length-append so_far (word ∷ []), c.words.invariant.count);
      whole = ap (λ words. words ++ words_in (c.args.count - (c.words.counter + 1)) behind) c.push.ensures.items
          ∙ read_step c.args.count c.words.counter so_far word c.words.rest.now behind _ c.words-test.true read
          c.behind-rest-in-words.ensures
          c.words.invariant.whole;
    }
