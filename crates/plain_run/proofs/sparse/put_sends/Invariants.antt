use Rattle.std.proofs.Common.{◌≡◌, take, map}
use Rattle.vert_eval.specs.Values.{value_of}
use Rattle.plain_run.proofs.sparse.put_sends.Given as goal

abbrev pub invariant-loop-decl : goal.invariant-loop-decl
invariant-loop-decl l = l.words.items ≡ map (λ d. value_of d.value l.sender) (take l.decl-index l.decl-items)
