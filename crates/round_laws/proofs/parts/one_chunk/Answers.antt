use Rattle.round_laws.proofs.Chunks.{each_has_a_chunk, ends_reach, none_has_two}
use Rattle.round_laws.proofs.parts.one_chunk.Goals as goal

pub returns-clause-reach : goal.returns-clause-reach
returns-clause-reach c = ends_reach

pub returns-clause-some : goal.returns-clause-some
returns-clause-some c = each_has_a_chunk

pub returns-clause-one : goal.returns-clause-one
returns-clause-one c = none_has_two
