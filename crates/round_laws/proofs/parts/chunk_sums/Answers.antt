use Rattle.round_laws.proofs.Sums.{chunks_cover, counts_by_chunks, steps_are_machines, sums_by_chunks, sums_by_machines, totals_by_chunks}
use Rattle.round_laws.proofs.parts.chunk_sums.Goals as goal

pub returns-clause-cover : goal.returns-clause-cover
returns-clause-cover c = chunks_cover

pub returns-clause-sums : goal.returns-clause-sums
returns-clause-sums c = sums_by_chunks

pub returns-clause-counts : goal.returns-clause-counts
returns-clause-counts c = counts_by_chunks

pub returns-clause-totals : goal.returns-clause-totals
returns-clause-totals c = totals_by_chunks

pub returns-clause-steps : goal.returns-clause-steps
returns-clause-steps c = steps_are_machines

pub returns-clause-machines : goal.returns-clause-machines
returns-clause-machines c = sums_by_machines
