use Rattle.vert_parse.proofs.Counting.{AreNumbered}
use Rattle.vert_parse.proofs.numbering.number_names.Given as goal

-- the tokens up to here are numbered
abbrev pub invariant-tokens : goal.invariant-tokens
invariant-tokens l = AreNumbered l.tokens l.token-index l.signs.items l.names.items
