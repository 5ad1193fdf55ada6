-- The words of a command line as texts.
use Rattle.std.specs.Prelude.{◌==◌, ℕ, Bool, false, not, List, [], ◌∷◌, Option, Some, None, if◌then◌else◌, option_and_then}
use Rattle.std.specs.List.{list_any, before_first, after_first}
use Rattle.std.specs.Str.{bytes_eq}

-- a text by its bytes
abbrev pub Text : Type 0
Text = List ℕ

-- a word that may be a positional or a value: it is not empty, and does not begin with a hyphen
abbrev pub is_plain : Text → Bool
is_plain [] = false
is_plain (byte ∷ rest) = not (byte == 45)

-- what follows a first hyphen
abbrev pub after_hyphen : Text → Option Text
after_hyphen [] = None
after_hyphen (byte ∷ rest) = if byte == 45 then Some rest else None

-- what stands before the first `=` (61), and what stands behind it if there is one
abbrev pub name_and_value : Text → Text × Option Text
name_and_value text = (
  before_first (λ byte. byte == 61) text,
  if list_any (λ byte. byte == 61) text then Some (after_first (λ byte. byte == 61) text) else None,
)

abbrev pub named : Text → Option (Text × Option Text)
named [] = None
named (byte ∷ rest) = Some (name_and_value (byte ∷ rest))

-- the name and the value of `--NAME` or `--NAME=VALUE`; `--` alone is none
abbrev pub option_of : Text → Option (Text × Option Text)
option_of word = option_and_then named (option_and_then after_hyphen (after_hyphen word))

-- whether a name is one of these
abbrev pub has : Text → List Text → Bool
has name names = list_any (λ other. bytes_eq other name) names
