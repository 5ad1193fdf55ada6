-- The parts of a test that is a chain.
use Rattle.std.proofs.Common.{◌≡◌, Bool, true}
use Rattle.std.specs.Prelude.{◌&&◌}
use Rattle.std.proofs.lemmas.Bool.{and_parts}

pub and_first : (a b : Bool) → (a && b) ≡ true → a ≡ true
and_first a b holds = (and_parts a b holds).0

pub and_second : (a b : Bool) → (a && b) ≡ true → b ≡ true
and_second a b holds = (and_parts a b holds).1
