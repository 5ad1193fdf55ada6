use Rattle.std.proofs.Common.{◌++◌, codes, drop, ap, ◌∙◌, ◌≡◌, List, ℕ, ℤ, to_z, of_z, w64, arith, rules}
use Rattle.std.proofs.lemmas.Grind.{common_steps}
use Rattle.std.proofs.lemmas.Int.{to_z-of_z}
use mir.Val.{SFits}
use Rattle.vert_base.specs.declared.value.ValueType.{ValueType}
use Rattle.array_text.specs.Tables.{word_text, words_text}
use Rattle.array_text.proofs.WordsLaws.{words_more, words_rest}
use Rattle.array_text.proofs.WritesLaws.{writes_same, writes_failed, writes_then}
use Rattle.array_text.proofs.row.+put_words.Goals as goal

-- a word as it was passed
passed : (kind : ValueType) (word : ℤ) (rest : List ℕ) → SFits w64 word →
    codes " " ++ word_text kind (to_z w64 (of_z w64 word)) ++ rest ≡ codes " " ++ word_text kind word ++ rest
passed kind word rest fits = ap (λ (w : ℤ). codes " " ++ word_text kind w ++ rest) (to_z-of_z w64 word fits)

pub returns-in_err-put_word : goal.returns-in_err-put_word
returns-in_err-put_word g t c =
    let others = words_text (drop 1 c.args.fields.now) (drop 1 c.args.words.now) in
    let fits : SFits w64 c.in-Some-first.word.now = first_of (search rules, grind (arith, common_steps)) in
    writes_same
    (passed c.in-Some.field.now.kind c.in-Some-first.word.now others fits
    ∙ words_more c.args.fields.now c.args.words.now c.in-Some.field.now c.in-Some-first.word.now
    c.in-Some.ensures.value c.in-Some-first.ensures.value)
    (writes_failed others c.from_residual.result c.from_residual.ensures.0 c.in_err-put_word.ensures)

pub returns : goal.returns
returns g t c =
    let others = words_text (drop 1 c.args.fields.now) (drop 1 c.args.words.now) in
    let fits : SFits w64 c.in-Some-first.word.now = first_of (search rules, grind (arith, common_steps)) in
    writes_same
    (ap (λ (rest : List ℕ). codes " " ++ word_text c.in-Some.field.now.kind
    (to_z w64 (of_z w64 c.in-Some-first.word.now)) ++ rest) (words_rest c.args.fields.now c.args.words.now)
    ∙ passed c.in-Some.field.now.kind c.in-Some-first.word.now others fits
    ∙ words_more c.args.fields.now c.args.words.now c.in-Some.field.now c.in-Some-first.word.now
    c.in-Some.ensures.value c.in-Some-first.ensures.value)
    (writes_then _ c.in_ok-put_word.ensures c.put_words.ensures)
