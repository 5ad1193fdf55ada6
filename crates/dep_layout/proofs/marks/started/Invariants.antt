use Rattle.std.proofs.Common.{◌≡◌, ◌≤◌, ◌+◌, take, drop}
use Rattle.dep_layout.specs.Judgement.{pairs_in, started}
use Rattle.dep_layout.proofs.marks.started.Given as goal

abbrev pub invariant-loop-vertex : goal.invariant-loop-vertex
invariant-loop-vertex l = record {
  within : l.count ≤ l.vertex;
  whole : l.count + started (drop l.vertex (take l.vertices (pairs_in l.marks)))
      ≡ started (take l.vertices (pairs_in l.marks));
}
