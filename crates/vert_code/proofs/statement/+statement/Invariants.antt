use Rattle.std.proofs.Common.{◌≡◌, ◌++◌, drop, length}
use Rattle.vert_code.specs.Listing.{body_code}
use Rattle.vert_code.proofs.statement.+statement.Given as goal

-- what was written and what is left give what the block gives
abbrev pub invariant-write_body-loop-stmt : goal.invariant-write_body-loop-stmt
invariant-write_body-loop-stmt l =
    l.list.items ++ body_code (drop l.stmt-index l.body) (length l.list.items)
    ≡ l.initial.list.items ++ body_code l.body (length l.initial.list.items)
