use Rattle.std.proofs.Common.{◌≡◌, ◌+◌, ◌*◌, suc, take, drop, sym, ap, ◌∙◌, arith}
use Rattle.std.specs.Int.{w64}
use Rattle.std.proofs.lemmas.Int.{to_z-of_z}
use Rattle.std.proofs.lemmas.List.{drop-drop}
use borrow.Author.Rules.{sfits_of}
use Rattle.dep_layout.specs.Judgement.{word_of, words_in}
use Rattle.vert_base.specs.Truth.{is_set}
use Rattle.body_shape.proofs.ReadLaws.{row_parts}
use Rattle.body_shape.proofs.rows.read_row.Goals as goal

pub returns : goal.returns
returns c =
    let body = c.args.body.now in
    let width = c.args.width in
    let start : 8 * (c.args.width + 1) * c.args.place ≡ 8 * suc c.args.width * c.args.place =
    let one : c.args.width + 1 ≡ suc c.args.width = omega arith in ap (λ w. 8 * w * c.args.place) one in
    let fields = c.read_words.ensures ∙ ap (λ k. words_in width (drop k body)) start in
    let active =
    c.is_set-row.ensures
    ∙ ap is_set (to_z-of_z w64 c.word_at.result (sfits_of c.word_at.type_inv) ∙ c.word_at.ensures)
    ∙ ap (λ k. is_set (word_of (take 8 (drop (k + 8 * width) body)))) start
    ∙ ap (λ bytes. is_set (word_of (take 8 bytes))) (sym (drop-drop (8 * width) (8 * suc width * c.args.place) body)) in
    (λ i. record { fields = fields i; active = active i })
    ∙ sym (row_parts width (drop (8 * suc width * c.args.place) body))
