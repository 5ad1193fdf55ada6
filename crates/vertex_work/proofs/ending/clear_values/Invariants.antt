-- The values so far.
use Rattle.std.proofs.Common.{◌≡◌, length, take, map}
use Rattle.vert_eval.specs.Rounds.{no_values}
use Rattle.vertex_work.proofs.ending.clear_values.Given as goal

abbrev pub invariant-loop-i : goal.invariant-loop-i
invariant-loop-i l = record {
  first : take l.i l.values.items ≡ no_values (map (λ s. s.op) (take l.i l.slots));
  count : length l.values.items ≡ length l.slots;
}
