-- The first of joined lists of faults.
use Rattle.std.proofs.Common.{◌≡◌, List, [], ◌∷◌, ◌++◌, Option, Some, refl}
use Rattle.vert_types.specs.declared.fault.Finding.{Finding}
use Rattle.vert_types.specs.Findings.{first_from, sooner}

pub first_from-append : (found : Option Finding) (a b : List Finding) →
    first_from found (a ++ b) ≡ first_from (first_from found a) b
first_from-append found [] b = refl
first_from-append found (f ∷ a) b = first_from-append (Some (sooner found f)) a b
