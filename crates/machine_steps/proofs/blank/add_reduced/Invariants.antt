-- The partials of the reduced ones among the first lets.
use Rattle.std.proofs.Common.{◌≡◌, ◌≤◌, ◌+◌, ◌++◌, length, take, map}
use Rattle.slot_merge.specs.Partials.{empty_partial}
use Rattle.symple_face.specs.CoreTakes.{reduced_ops}
use Rattle.machine_steps.proofs.blank.add_reduced.Given as goal

abbrev pub invariant-loop-class : goal.invariant-loop-class
invariant-loop-class l = record {
  items : l.row.items ≡ l.initial.row.items ++ map empty_partial (reduced_ops (take l.class-index l.classes));
  few : length l.row.items ≤ length l.initial.row.items + l.class-index;
}
