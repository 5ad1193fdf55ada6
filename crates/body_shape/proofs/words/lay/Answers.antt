use Rattle.std.proofs.Common.{◌≡◌, ◌++◌, ◌<◌, pos, length, get_or, ap, ◌∙◌, rules, arith}
use Rattle.std.specs.Int.{w64}
use Rattle.std.specs.Int.RustNames.{FitsSigned}
use Rattle.std.proofs.lemmas.Int.{to_z-of_z}
use Rattle.std.proofs.lemmas.List.{get_or_default}
use Rattle.dep_layout.specs.Spelling.{word_bytes}
use Rattle.dep_layout.proofs.LoopLaws.{push_step}
use Rattle.body_shape.proofs.words.lay.Goals as goal

pub loop-word-preserved : goal.loop-word-preserved
unfolding word_bytes
loop-word-preserved c =
    let bytes = c.loop-word.bytes.items in
    let words = c.args.words.now in
    let i = c.loop-word.word-index in
    let word = get_or words i (pos 0) in
    let fits : FitsSigned w64 (get_or c.args.words.now c.loop-word.word-index (pos 0)) = search rules in
    let within : c.loop-word.word-index < length c.args.words.now = omega arith in
    let written = c.to_le_bytes.ensures ∙ ap word_bytes (to_z-of_z w64 word fits) in
    let size : length c.to_le_bytes.result ≡ 8 = ap length c.to_le_bytes.ensures in
    let put = c.in_ok-extend_from_slice.ensures in
    let so_far = c.loop-word.invariant in
    record {
      room = omega (arith, put.len, put.capacity, size, so_far.room, within);
      len = omega (arith, put.len, size, so_far.len);
      capacity = omega (arith, put.capacity, so_far.capacity);
      whole = push_step bytes c.extend_from_slice.new.self.items words i word _ within
          (get_or_default words i (pos 0) word within)
          (put.items ∙ ap (λ more. bytes ++ more) written) so_far.whole;
    }
