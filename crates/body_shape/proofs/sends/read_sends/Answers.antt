use Rattle.std.proofs.Common.{◌+◌, ◌*◌, drop, sym, ap, ◌∙◌}
use Rattle.std.proofs.lemmas.List.{drop-drop}
use Rattle.dep_layout.specs.Judgement.{words_in}
use Rattle.body_shape.specs.Fit.{bit_len}
use Rattle.body_shape.proofs.sends.read_sends.Goals as goal

pub returns : goal.returns
returns g c =
    let push = c.args.push.now in
    let count = c.args.count in
    let before = 8 * count * c.args.earlier in
    c.read_words.ensures
    ∙ ap (λ k. words_in count (drop (k + before) push)) c.div_ceil.ensures
    ∙ ap (words_in count) (sym (drop-drop before (bit_len c.args.vertices) push))
