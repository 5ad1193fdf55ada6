use Rattle.std.proofs.Common.{◌∙◌, List, ℕ, ◌++◌, drop, ap}
use Rattle.outside.proofs.PiecesLaws.{copied_size, copied_bytes, copied_rest}
use Rattle.outside.proofs.pieces.copy_at.Goals as goal

pub returns-then-at-pieces-clause-size : goal.returns-then-at-pieces-clause-size
returns-then-at-pieces-clause-size c = copied_size c.args.pieces.now c.args.at c.args.given c.index-pieces-at.result
    c.as_slice.result.now c.args.into.now c.copy_first.result c.if-at-pieces.true c.index-pieces-at.is
    (c.requires c.index-pieces-at.result c.if-at-pieces.true) c.as_slice.ensures.value c.copy_first.ensures.size

pub returns-then-at-pieces-clause-into : goal.returns-then-at-pieces-clause-into
returns-then-at-pieces-clause-into c =
    c.copy_first.ensures.into ∙ ap (λ (x : List ℕ). x ++ drop c.copy_first.result c.args.into.now)
    (copied_bytes c.args.pieces.now c.args.at c.args.given c.index-pieces-at.result c.as_slice.result.now
    c.args.into.now c.copy_first.result c.if-at-pieces.true c.index-pieces-at.is
    (c.requires c.index-pieces-at.result c.if-at-pieces.true) c.as_slice.ensures.value c.copy_first.ensures.size)

pub returns-then-at-pieces-clause-rest : goal.returns-then-at-pieces-clause-rest
returns-then-at-pieces-clause-rest c = copied_rest c.args.pieces.now c.args.at c.args.given c.index-pieces-at.result
    c.as_slice.result.now c.args.into.now c.copy_first.result c.if-at-pieces.true c.index-pieces-at.is
    (c.requires c.index-pieces-at.result c.if-at-pieces.true) c.as_slice.ensures.value c.copy_first.ensures.size
