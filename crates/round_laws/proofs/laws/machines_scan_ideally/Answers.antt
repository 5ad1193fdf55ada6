use Rattle.round_laws.proofs.MachineScans.{machine_scans_ideal}
use Rattle.round_laws.proofs.laws.machines_scan_ideally.Goals as goal

pub returns : goal.returns
returns c = machine_scans_ideal
