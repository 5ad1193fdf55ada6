-- What the types of ring states are seen as.
use Rattle.std.specs.Prelude.{ℕ, List, map}
use Rattle.dep_layout.specs.declared.state.DepState.{DepState}
use Rattle.dep_layout.specs.Spelling.{State}

abbrev pub state_of : {W : ℕ} → DepState W → State
state_of s = record { mark = s.mark; words = s.words.at }

abbrev pub states_of : {W : ℕ} → List (DepState W) → List State
states_of states = map state_of states
