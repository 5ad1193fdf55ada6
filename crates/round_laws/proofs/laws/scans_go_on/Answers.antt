use Rattle.round_laws.proofs.FoldScan.{scans_and_goes_on}
use Rattle.round_laws.proofs.laws.scans_go_on.Goals as goal

pub returns : goal.returns
returns c = scans_and_goes_on
