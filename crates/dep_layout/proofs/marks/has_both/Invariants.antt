use Rattle.std.proofs.Common.{◌≡◌, take, drop}
use Rattle.std.specs.List.{list_any}
use Rattle.dep_layout.specs.Judgement.{pairs_in, is_both}
use Rattle.dep_layout.proofs.marks.has_both.Given as goal

abbrev pub invariant-loop-vertex : goal.invariant-loop-vertex
invariant-loop-vertex l = list_any is_both (drop l.vertex (take l.vertices (pairs_in l.marks)))
    ≡ list_any is_both (take l.vertices (pairs_in l.marks))
