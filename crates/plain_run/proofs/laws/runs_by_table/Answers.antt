use Rattle.plain_run.proofs.TableRunLaws as laws
use Rattle.plain_run.proofs.laws.runs_by_table.Goals as goal

pub returns : goal.returns
returns c = laws.runs_by_table
