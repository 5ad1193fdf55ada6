use Rattle.worker_laws.proofs.ChunkTexts.{tables_are_of_chunks}
use Rattle.worker_laws.proofs.tables_are_of_chunks.Goals as goal

pub returns : goal.returns
returns c = tables_are_of_chunks
