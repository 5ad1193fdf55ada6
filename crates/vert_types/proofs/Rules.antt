-- The laws by which the contracts of expressions, statements and places are met.
use Rattle.std.proofs.lemmas.List.{length-map}
use Rattle.vert_types.proofs.Firsts.{first_from-append}
use Rattle.vert_types.proofs.Starts.{start_view}

pub ruleset expression_laws = (first_from-append, start_view)

pub ruleset place_laws = (length-map)
