use Rattle.std.proofs.Common.{◌*◌, not, Some, take, drop, ap, ◌∙◌}
use Rattle.std.specs.Int.{w64}
use Rattle.std.proofs.lemmas.Int.{to_z-of_z}
use Rattle.std.proofs.lemmas.Bool.{ne_eqb}
use borrow.Author.Rules.{sfits_of}
use Rattle.dep_layout.specs.Judgement.{word_of}
use Rattle.body_shape.proofs.ReadLaws.{value_missing, value_there}
use Rattle.body_shape.proofs.sents.value_in.Goals as goal

pub returns-then-mask-place-eq0 : goal.returns-then-mask-place-eq0
returns-then-mask-place-eq0 c = λ count within.
    value_missing c.args.mask count c.args.place c.args.bytes.now c.requires within c.if-mask-place-eq0.true

pub returns-else-mask-place-eq0 : goal.returns-else-mask-place-eq0
returns-else-mask-place-eq0 c = λ count within.
    ap Some (to_z-of_z w64 c.word_at.result (sfits_of c.word_at.type_inv) ∙ c.word_at.ensures)
    ∙ ap (λ k. Some (word_of (take 8 (drop (8 * k) c.args.bytes.now)))) c.set_below.ensures.value
    ∙ value_there c.args.mask count c.args.place c.args.bytes.now c.requires within
    (ap not (ne_eqb _ 0 c.if-mask-place-eq0.false))
