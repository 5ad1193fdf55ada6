use Rattle.std.proofs.Common.{◌≡◌, drop}
use Rattle.std.specs.List.{list_any}
use Rattle.dep_layout.specs.Judgement.{is_set}
use Rattle.body_shape.specs.Fit.{bits_in}
use Rattle.dep_message.proofs.sends.is_set_behind.Given as goal

abbrev pub invariant-loop-vertex : goal.invariant-loop-vertex
invariant-loop-vertex l = list_any is_set (drop l.vertex (bits_in l.marks))
    ≡ list_any is_set (drop l.vertices (bits_in l.marks))
