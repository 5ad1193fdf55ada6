-- The form of a push by its parts.
use Rattle.std.proofs.Common.{◌≡◌, ◌≤◌, length, arith, ap, sym, refl, ◌∙◌, [], append-nil}
use Rattle.std.proofs.Math.Pow.{pow_mono}
use Rattle.std.proofs.lemmas.List.{length-map}
use Rattle.symple_face.specs.PartViews.{plain_of}
use Rattle.body_shape.specs.Shapes.{bool_bits}
use Rattle.symple_face.specs.Shapes.{pushed, types_of}
use Rattle.vert_tree.specs.Places.{sends_in}
use Rattle.symple_face.proofs.part.Part.push_form.Goals as goal

pub overflow_cast-result-3 : goal.overflow_cast-result-3
overflow_cast-result-3 c =
    let few : length c.sends-sends.result.now ≤ 8 = c.sends-sends.ensures.few in
    omega (arith, pow_mono few, c.bits_before.ensures.alone refl)

pub returns : goal.returns
returns c =
    let there = sends_in c.args.self.now.split.value.program.program.sparse in
    let same : c.sends-sends.result.now ≡ there = c.sends-sends.ensures.value
    ∙ ap (λ s. sends_in s.program.program.sparse) c.deref.ensures in
    let vertices : length c.pushed.result.now ≡ length (pushed (plain_of c.args.self.now) c.args.name.now) =
    sym (length-map c.pushed.result.now (λ v. v.0)) ∙ ap length c.pushed.ensures.list in
    let words : length c.sends-sends.result.now ≡ length (types_of there) =
    ap length same ∙ sym (length-map there (λ d. d.kind)) in
    let bits : c.bits_before.result ≡ bool_bits (types_of there) = c.bits_before.ensures.value [] refl
    ∙ ap bool_bits (append-nil (types_of c.sends-sends.result.now) ∙ ap types_of same) in
    cc (vertices, words, bits)
