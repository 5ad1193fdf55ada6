use Rattle.std.proofs.Common.{arith}
use Rattle.machine_core.specs.CoreState.{core_state}
use Rattle.machine_core.proofs.HalfActs.{scan_low}
use Rattle.machine_core.proofs.machine.Core.act_scan.Goals as goal

pub scan_last-requires-clause-last : goal.scan_last-requires-clause-last
scan_last-requires-clause-last c =
    let self = c.args.self.now in
    let low = (scan_low (core_state self) c.args.round c.args.step c.args.half self.sound c.requires.at).step_low in
    let count = c.machines.ensures.count in
    let no = c.if-step-machines.false in
    omega arith
