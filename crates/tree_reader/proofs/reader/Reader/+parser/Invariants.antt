use Rattle.std.proofs.Common.{◌+◌, ◌-◌, ◌*◌}
use Rattle.vert_tree.specs.Views.{view}
use Rattle.tree_reader.specs.Signs.{plain}
use Rattle.tree_reader.proofs.Steps.{IsChain}
use Rattle.tree_reader.proofs.reader.Reader.+parser.Given as goal

abbrev pub decreases-expression : goal.decreases-expression
decreases-expression l = l.room * 16 + 10

abbrev pub decreases-binary : goal.decreases-binary
decreases-binary l = l.room * 16 + (l.layer + 4)

abbrev pub decreases-unary : goal.decreases-unary
decreases-unary l = l.room * 16 + 3

abbrev pub decreases-prefixed : goal.decreases-prefixed
decreases-prefixed l = l.room * 16 + 2

abbrev pub decreases-negative : goal.decreases-negative
decreases-negative l = l.room * 16 + 1

abbrev pub decreases-not : goal.decreases-not
decreases-not l = l.room * 16 + 1

abbrev pub decreases-group : goal.decreases-group
decreases-group l = l.room * 16 + 1

abbrev pub decreases-least : goal.decreases-least
decreases-least l = l.room * 16 + 1

abbrev pub decreases-greatest : goal.decreases-greatest
decreases-greatest l = l.room * 16 + 1

abbrev pub decreases-two : goal.decreases-two
decreases-two l = l.room * 16

abbrev pub invariant-binary-chain : goal.invariant-binary-chain
invariant-binary-chain l = IsChain l.room l.layer (plain l.self.names.items l.fn.tokens)
    (view l.self.names.items l.left) l.depth (plain l.self.names.items l.tokens)

abbrev pub decreases-binary-chain : goal.decreases-binary-chain
decreases-binary-chain l = l.room + 1 - l.depth
