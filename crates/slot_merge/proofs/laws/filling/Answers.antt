use Rattle.slot_merge.proofs.FillLaws.{begins_empty, fills_emissions, fills_more, has_value}
use Rattle.slot_merge.proofs.laws.filling.Goals as goal

pub returns-clause-begins : goal.returns-clause-begins
returns-clause-begins c = begins_empty

pub returns-clause-more : goal.returns-clause-more
returns-clause-more c = fills_more

pub returns-clause-emissions : goal.returns-clause-emissions
returns-clause-emissions c = fills_emissions

pub returns-clause-value : goal.returns-clause-value
returns-clause-value c = has_value
