use Rattle.round_laws.proofs.Keys.{keys_below, keys_rise}
use Rattle.round_laws.proofs.parts.sparse_keys.Goals as goal

pub returns-clause-below : goal.returns-clause-below
returns-clause-below c = keys_below

pub returns-clause-rise : goal.returns-clause-rise
returns-clause-rise c = keys_rise
