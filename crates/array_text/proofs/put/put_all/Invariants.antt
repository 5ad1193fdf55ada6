use Rattle.std.proofs.Common.{length, ◌-◌, ◌≡◌, ◌+◌, ◌≤◌, take}
use Rattle.outside.specs.Bytes.{gained}
use Rattle.array_text.proofs.put.put_all.Given as goal

abbrev pub invariant-loop-done : goal.invariant-loop-done
invariant-loop-done g l = record {
  within : l.done ≤ length l.bytes;
  held : g.O.Sink.held l.out ≡ gained (g.O.Sink.held l.fn.out) (take l.done l.bytes);
  counted : g.O.Sink.faults l.out ≡ g.O.Sink.faults l.fn.out;
  spared : g.O.Sink.spare l.fn.out ≤ g.O.Sink.spare l.out + l.done;
}

-- the bytes that are left
abbrev pub decreases-loop-done : goal.decreases-loop-done
decreases-loop-done g l = length l.bytes - l.done
