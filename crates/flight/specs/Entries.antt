-- The index of the messages: their names in order, each with the key of its message.
use Rattle.std.specs.Prelude.{◌≡◌, ◌<◌, ℕ, suc, if◌then◌else◌, Option, Some, None, List, [], ◌∷◌, length, map, option_map, slice_index_or}
use Rattle.std.specs.List.{AllByRecursion, remove}
use Rattle.slab.specs.Slab.{Slab, get}
use Rattle.vert_base.specs.declared.message.Name.{Name}
use Rattle.vert_base.specs.declared.message.Message.{Message}
use Rattle.vert_base.specs.Names.{is_before}
use Rattle.vert_base.specs.Letters.{Letter, Ascends, IsMissing, found, without}
use Rattle.flight.specs.declared.entries.Entry.{Entry}
use Rattle.flight.specs.Order.{IsInOrder}

abbrev pub body_of : Option Message → List ℕ
body_of None = []
body_of (Some m) = m.body.items

-- the message of an entry
abbrev pub letter_by : Slab Message → Entry → Letter
letter_by messages entry = record { name = entry.name; body = body_of (get messages entry.key) }

abbrev pub letters_by : Slab Message → List Entry → List Letter
letters_by messages entries = map (letter_by messages) entries

-- the entry's key has a message of its name
abbrev pub HasMessage : Slab Message → Entry → Type 0
HasMessage messages entry = option_map (λ m. m.name) (get messages entry.key) ≡ Some entry.name

pub record IsSound (messages : Slab Message) (entries : List Entry) : Type 0 where
  pub order : IsInOrder (letters_by messages entries)
  pub have : AllByRecursion (HasMessage messages) entries

-- the names ascend, whatever the messages are
abbrev pub NamesAscend : List Entry → Type 0
NamesAscend entries = (messages : Slab Message) → Ascends (letters_by messages entries)

-- how many messages stand before the first one whose name isn't before this one
abbrev pub place : Name → List Letter → ℕ
place x [] = 0
place x (y ∷ ys) = if is_before y.name x then suc (place x ys) else 0

-- the entry of a name stands at a place, whatever the messages are
pub record IsFoundAt (x : Name) (entries : List Entry) (at : ℕ) : Type 0 where
  pub within : at < length entries
  pub here : (messages : Slab Message) (other : Entry) →
      found x (letters_by messages entries) ≡ Some (letter_by messages (slice_index_or entries at other))
  pub rest : (messages : Slab Message) → letters_by messages (remove entries at)
      ≡ without x (letters_by messages entries)

abbrev pub IsNowhere : Name → List Entry → Type 0
IsNowhere x entries = (messages : Slab Message) → IsMissing x (letters_by messages entries)
