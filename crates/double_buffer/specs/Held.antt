-- The messages that a machine holds.
use Rattle.std.specs.Prelude.{◌≡◌, ℕ, List, All}
use Rattle.vert_base.specs.declared.message.Name.{Name}
use Rattle.vert_base.specs.Letters.{Letter, placed, without}

-- how many machines there are, and the messages held, in the order of their names
pub record Held : Type 0 where
  pub machines : ℕ
  pub letters : List Letter

-- each message is of this round, and goes to this machine
abbrev pub AreOfRound : ℕ → ℕ → List Letter → Type 0
AreOfRound round to ms = All (λ y. (y.name.round ≡ round) × (y.name.to ≡ to)) ms

abbrev pub with_letter : Letter → Held → Held
with_letter m held = record held { letters = placed m held.letters }

abbrev pub without_name : Name → Held → Held
without_name x held = record held { letters = without x held.letters }
