use Rattle.std.proofs.Common.{◌≡◌, ◌≤◌, ◌+◌, count_by, take, drop}
use Rattle.dep_layout.specs.Judgement.{is_set}
use Rattle.body_shape.specs.Fit.{bits_in}
use Rattle.dep_message.proofs.sends.senders.Given as goal

abbrev pub invariant-loop-vertex : goal.invariant-loop-vertex
invariant-loop-vertex l = record {
  within : l.count ≤ l.vertex;
  whole : l.count + count_by is_set (drop l.vertex (take l.vertices (bits_in l.marks)))
      ≡ count_by is_set (take l.vertices (bits_in l.marks));
}
