use Rattle.std.proofs.Common.{◌≡◌, ◌-◌, drop, length}
use Rattle.circulant_plan.specs.Table.{gives_of}
use Rattle.link_core.specs.Traffic.{all_sent}
use Rattle.link_core.specs.Wires.{IsSettled, traffic_of}
use Rattle.link_core.proofs.sending.send_gifts.Given as goal

abbrev pub invariant-loop-name : goal.invariant-loop-name
invariant-loop-name l = record {
  settled : IsSettled l.wire;
  rest : all_sent (drop l.k (gives_of l.ring l.machine l.spot l.ruling)) (traffic_of l.wire)
      ≡ all_sent (gives_of l.ring l.machine l.spot l.ruling) (traffic_of l.fn.wire);
}

abbrev pub decreases-loop-name : goal.decreases-loop-name
decreases-loop-name l = length (gives_of l.ring l.machine l.spot l.ruling) - l.k
