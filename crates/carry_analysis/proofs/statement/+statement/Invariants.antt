use Rattle.std.proofs.Common.{◌≡◌, drop}
use Rattle.carry_analysis.specs.Classes.{body_marks}
use Rattle.carry_analysis.specs.Walks.{walk_after, walk_of}
use Rattle.carry_analysis.proofs.statement.+statement.Given as goal

-- what was seen so far and what is left give what the block gives
abbrev pub invariant-walk_body-loop-stmt : goal.invariant-walk_body-loop-stmt
invariant-walk_body-loop-stmt l =
    walk_after (walk_of l.walk) (body_marks (drop l.stmt-index l.body)) ≡ walk_after (walk_of l.initial.walk)
    (body_marks l.body)
