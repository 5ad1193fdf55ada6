use Rattle.print_law.proofs.Reread.{prints_again}
use Rattle.print_law.proofs.printing.Goals as goal

pub returns : goal.returns
returns c = prints_again
