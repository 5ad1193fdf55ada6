use Rattle.std.proofs.Common.{◌≡◌, drop}
use Rattle.std.specs.List.{list_any}
use Rattle.dep_layout.specs.Judgement.{pairs_in, is_set}
use Rattle.dep_layout.proofs.marks.is_set_behind.Given as goal

abbrev pub invariant-loop-vertex : goal.invariant-loop-vertex
invariant-loop-vertex l = list_any is_set (drop l.vertex (pairs_in l.marks))
    ≡ list_any is_set (drop l.vertices (pairs_in l.marks))
