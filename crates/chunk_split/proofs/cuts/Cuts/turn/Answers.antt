use Rattle.std.proofs.Common.{◌∙◌, sym}
use Rattle.chunk_split.proofs.cuts.Cuts.turn.Goals as goal

pub returns-clause-value : goal.returns-clause-value
returns-clause-value g c = c.end.ensures.value ∙ sym c.owner.ensures.turn
