use Rattle.std.proofs.Common.{◌≤◌, List, ℕ, length, subst, ◌∙◌}
use Rattle.outside.proofs.PiecesLaws.{passed_bytes, passed_rest}
use Rattle.outside.proofs.pieces.next_place.Goals as goal

pub loop-at-preserved : goal.loop-at-preserved
loop-at-preserved c =
    let all : length c.index-pieces-at.result.items ≤ c.loop-at.given =
    subst (λ (bytes : List ℕ). length bytes ≤ c.loop-at.given) c.as_slice.ensures.value c.if-as_slice-given.true in
    record {
      bytes = λ size. passed_bytes c.args.pieces.now c.loop-at.at c.loop-at.given c.index-pieces-at.result size
          c.loop-at-test.true c.index-pieces-at.is all ∙ c.loop-at.invariant.bytes size;
      rest = λ size. passed_rest c.args.pieces.now c.loop-at.at c.loop-at.given c.index-pieces-at.result size
          c.loop-at-test.true c.index-pieces-at.is all ∙ c.loop-at.invariant.rest size;
    }
