-- The words so far.
use Rattle.std.proofs.Common.{◌≡◌, map, take}
use Rattle.vert_eval.specs.Values.{value_of}
use Rattle.vertex_work.proofs.own.sent_words.Given as goal

abbrev pub invariant-loop-decl : goal.invariant-loop-decl
invariant-loop-decl l = l.words.items ≡ map (λ d. value_of d.value l.env) (take l.decl-index l.decl-items)
