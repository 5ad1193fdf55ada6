-- The sums so far, with the tallies that are left.
use Rattle.std.proofs.Common.{◌≡◌, length}
use Rattle.symple_face.specs.CoreJudge.{sums_at}
use Rattle.machine_core.specs.CoreState.{core_state}
use Rattle.machine_steps.specs.Plain.{counted_of}
use Rattle.machine_core.proofs.SumLaws.{left_from}
use Rattle.machine_core.proofs.machine.Core.sums.Given as goal

abbrev pub invariant-machines : goal.invariant-machines
invariant-machines l = record {
  left : left_from (core_state l.self) l.round (counted_of l.sums) l.from ≡ sums_at (core_state l.self) l.round;
  each : length l.sums.totals.items ≡ length l.self.ground.part.split.value.program.program.totals.items;
}
