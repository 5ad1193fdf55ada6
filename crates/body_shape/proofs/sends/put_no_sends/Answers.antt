use Rattle.std.proofs.Common.{◌≡◌, ◌++◌, None, replicate, refl, sym, ap, ◌∙◌, arith}
use Rattle.std.proofs.lemmas.List.{length-replicate}
use Rattle.body_shape.specs.Fit.{bit_len}
use Rattle.body_shape.proofs.SendLaws.{no_sends}
use Rattle.body_shape.proofs.sends.put_no_sends.Goals as goal

pub returns-clause-put : goal.returns-clause-put
returns-clause-put c =
    let old = c.args.bytes.now.items in
    let n = c.args.vertices in
    let same : c.bytes.counter ≡ bit_len c.args.vertices =
    omega (arith, c.bytes-test.false, c.bytes.auto.counter-end, c.div_ceil-count.ensures) in
    c.bytes.invariant.whole
    ∙ ap (λ bytes. bytes ++ replicate c.bytes.counter 0) c.reserve.ensures.items
    ∙ ap (λ k. old ++ replicate k 0) same
    ∙ ap (λ bytes. old ++ bytes) (sym (no_sends n (replicate n None) refl (length-replicate n None)))
