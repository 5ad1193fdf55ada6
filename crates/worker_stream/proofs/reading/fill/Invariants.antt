-- The bytes so far stand in front.
use Rattle.std.proofs.Common.{◌≡◌, ◌-◌, ◌≤◌, length, take}
use Rattle.outside.specs.Bytes.{led_by}
use Rattle.worker_stream.proofs.reading.fill.Given as goal

abbrev pub invariant-loop-count : goal.invariant-loop-count
invariant-loop-count g l = record {
  within : l.count ≤ length l.into;
  taken : g.I.Source.left l.fn.input ≡ led_by (take l.count l.into) (g.I.Source.left l.input);
  counted : g.I.Source.faults l.input ≡ g.I.Source.faults l.fn.input;
}

abbrev pub decreases-loop-count : goal.decreases-loop-count
decreases-loop-count g l = length l.into - l.count
