-- The place of each name: a row of 2p places for each kind.
use Rattle.std.specs.Prelude.{◌≡◌, ◌≤◌, ◌+◌, ◌*◌, ℕ, suc, if◌then◌else◌, Option, Some, None, List, [], ◌∷◌, ⊤, length}
use Rattle.vert_base.specs.declared.message.Name.{Name}
use Rattle.vert_base.specs.declared.message.NameKind.{NameKind}
use Rattle.vert_base.specs.declared.message.NameKind.TheVariants.{Refresh, Dep, Update, Push, Tally, Verdict}
use Rattle.vert_base.specs.declared.message.Message.{Message}
use Rattle.vert_base.specs.Names.{kind_place, same_name}
use Rattle.vert_base.specs.Letters.{Letter, letter_of, Ascends}
use Rattle.double_buffer.specs.Taking.{CanTake}

-- the place in the row: that of the sender, or that of the half in its step
abbrev pub place_in_row : NameKind → Name → ℕ
place_in_row Refresh x = x.from
place_in_row Dep x = 2 * x.step + x.half
place_in_row Update x = 2 * x.step + x.half
place_in_row Push x = x.from
place_in_row Tally x = x.from
place_in_row Verdict x = x.from

abbrev pub place_of : ℕ → Name → ℕ
place_of p x = 2 * p * kind_place x.kind + place_in_row x.kind x

-- the messages in the places
abbrev pub letters_in : List (Option Message) → List Letter
letters_in [] = []
letters_in (None ∷ places) = letters_in places
letters_in (Some m ∷ places) = letter_of m ∷ letters_in places

-- the message of a name, where its place holds it
abbrev pub letter_at : Name → Option Message → Option Letter
letter_at x None = None
letter_at x (Some m) = if same_name m.name x then Some (letter_of m) else None

-- from this place on each message lies in the place of its name
abbrev pub LieInPlace : ℕ → ℕ → List (Option Message) → Type 0
LieInPlace p at [] = ⊤
LieInPlace p at (None ∷ places) = LieInPlace p (suc at) places
LieInPlace p at (Some m ∷ places) = CanTake p m.name × (place_of p m.name ≡ at) × LieInPlace p (suc at) places

pub record AreSound (cap p : ℕ) (places : List (Option Message)) : Type 0 where
  pub some : 1 ≤ p
  pub within : p ≤ cap
  pub few : p ≤ 64
  pub size : length places ≡ 12 * p
  pub lie : LieInPlace p 0 places
  pub ascends : Ascends (letters_in places)
