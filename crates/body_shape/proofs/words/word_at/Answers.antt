use Rattle.std.proofs.Common.{drop, sym, ap, ◌∙◌}
use Rattle.std.specs.Int.{w64}
use Rattle.std.proofs.lemmas.Int.{to_z-of_z}
use borrow.Author.Rules.{sfits_of}
use Rattle.dep_layout.specs.Judgement.{word_of}
use Rattle.body_shape.proofs.ReadLaws.{front_word}
use Rattle.body_shape.proofs.words.word_at.Goals as goal

pub returns : goal.returns
returns c =
    to_z-of_z w64 c.first_word.result (sfits_of c.first_word.type_inv)
    ∙ c.first_word.ensures
    ∙ ap word_of c.behind.ensures
    ∙ sym (front_word (drop c.args.place c.args.bytes.now))
