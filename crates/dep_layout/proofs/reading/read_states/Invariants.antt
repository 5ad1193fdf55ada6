use Rattle.std.proofs.Common.{◌≡◌, ◌≤◌, ◌*◌, ◌++◌, length, take, drop}
use Rattle.dep_layout.specs.Judgement.{pairs_in, started}
use Rattle.dep_layout.specs.Reading.{states_in}
use Rattle.dep_layout.specs.States.{states_of}
use Rattle.dep_layout.proofs.reading.read_states.Given as goal

abbrev pub invariant-loop-vertex : goal.invariant-loop-vertex
invariant-loop-vertex g l = record {
  room : 8 * g.row.W * started (drop l.vertex (take l.vertices (pairs_in l.marks))) ≤ length l.rest;
  whole : states_of l.states.items ++ states_in g.row.W (drop l.vertex (take l.vertices (pairs_in l.marks))) l.rest
      ≡ states_in g.row.W (take l.vertices (pairs_in l.marks)) l.words;
}
