-- Which machines are ready, as flags that are kept beside them.
use Rattle.std.specs.Prelude.{ℕ, ◌+◌, Bool, if◌then◌else◌, Some, List, [], ◌∷◌, map}
use Rattle.symple_face.specs.Cluster.{can_act}
use Rattle.symple_face.specs.State.{State}

-- of each machine, whether it is ready
abbrev pub flags_of : {X : Type 0} → (X → State) → List X → List Bool
flags_of state xs = map (λ x. can_act (Some (state x))) xs

-- where flags are set, where the first of a list has this number
abbrev pub set_from : ℕ → List Bool → List ℕ
set_from number [] = []
set_from number (b ∷ bs) = if b then number ∷ set_from (number + 1) bs else set_from (number + 1) bs
