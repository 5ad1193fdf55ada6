use Rattle.std.proofs.Common.{rules}
use Rattle.draw_source.specs.Draws.{draw_word}
use Rattle.draw_source.proofs.draw.Goals as goal

pub returns : goal.returns
unfolding draw_word
returns c = search rules
