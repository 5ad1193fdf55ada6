-- Messages without their memory, as a list in the order of their names.
use Rattle.std.specs.Prelude.{◌≡◌, ℕ, true, if◌then◌else◌, Option, Some, None, List, [], ◌∷◌, ⊤}
use Rattle.std.specs.List.{AllByRecursion}
use Rattle.vert_base.specs.declared.message.Name.{Name}
use Rattle.vert_base.specs.declared.message.Message.{Message}
use Rattle.vert_base.specs.Names.{is_before, same_name}

-- a message without its memory: its name and the bytes of its body
pub record Letter : Type 0 where
  pub name : Name
  pub body : List ℕ

abbrev pub letter_of : Message → Letter
letter_of m = record { name = m.name; body = m.body.items }

-- the message of a name
abbrev pub found : Name → List Letter → Option Letter
found x [] = None
found x (y ∷ ys) = if same_name y.name x then Some y else found x ys

-- the messages with one more, before the first one whose name isn't before its own
abbrev pub placed : Letter → List Letter → List Letter
placed m [] = m ∷ []
placed m (y ∷ ys) = if is_before y.name m.name then y ∷ placed m ys else m ∷ y ∷ ys

-- the messages but for the one of a name
abbrev pub without : Name → List Letter → List Letter
without x [] = []
without x (y ∷ ys) = if same_name y.name x then ys else y ∷ without x ys

-- each message's name is before those of all later ones
abbrev pub Ascends : List Letter → Type 0
Ascends [] = ⊤
Ascends (y ∷ ys) = AllByRecursion (λ z. is_before y.name z.name ≡ true) ys × Ascends ys

-- no message has the name
pub record IsMissing (x : Name) (ms : List Letter) : Type 0 where
  pub missing : found x ms ≡ None
  pub whole : without x ms ≡ ms

-- two names with the same numbers are one name
abbrev pub NamesAreTheirNumbers : Type 0
NamesAreTheirNumbers = (a b : Name) → same_name a b ≡ true → a ≡ b

-- after a message was put in, its name has it, and every other name what it had
abbrev pub PlacedIsFound : Type 0
PlacedIsFound = (m : Letter) (ms : List Letter) (x : Name) →
    found x (placed m ms) ≡ (if same_name m.name x then Some m else found x ms)

-- after the message of a name was taken out, the name has nothing, and every other name what it had
abbrev pub TakenIsGone : Type 0
TakenIsGone = (y : Name) (ms : List Letter) (x : Name) → Ascends ms →
    found x (without y ms) ≡ (if same_name y x then None else found x ms)

-- two lists in the order of names are one list where each name has the same in both
abbrev pub SameLetters : Type 0
SameLetters = (ms ns : List Letter) → Ascends ms → Ascends ns → ((x : Name) → found x ms ≡ found x ns) → ms ≡ ns
