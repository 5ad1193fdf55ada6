-- How the words behind a command's name are spelt.
use Rattle.std.specs.Prelude.{◌+◌, ◌==◌, ◌&&◌, ℕ, Bool, not, List, [], ◌∷◌, ◌++◌, map, length, codes, if◌then◌else◌}
use Rattle.std.specs.Prelude.{Option, Some, None, is_some, unwrap_or, option_map, option_and_then, find, slice_get}
use Rattle.std.specs.Str.{bytes_eq}
use Rattle.symple_words.specs.Texts.{Text, is_plain, option_of, has}

-- the names of a command's positionals, of its options with a value, and of its flags
pub record Form : Type 0 where
  pub positionals : List Text
  pub options : List Text
  pub flags : List Text

-- ---- what a word does

-- a name gets its value, an option waits for its value, or a positional gets its word
pub data Move : Type 0 where
  gives : (name value : Text) → Move
  waits : (name : Text) → Move
  places : (name word : Text) → Move

abbrev pub value_move : Text → Text → Option Move
value_move name word = if is_plain word then Some (gives name word) else None

-- `--NAME=VALUE`, or `--NAME` whose value is the next word
abbrev pub valued_move : Text → Option Text → Option Move
valued_move name None = Some (waits name)
valued_move name (Some value) = value_move name value

-- a flag is given with the value `true`
abbrev pub flag_move : Text → Option Text → Option Move
flag_move name None = Some (gives name (codes "true"))
flag_move name (Some value) = None

-- an option may stand once
abbrev pub option_move : Form → List Text → Text → Option Text → Option Move
option_move f seen name value = if has name seen then None
    else if has name f.options then valued_move name value
    else if has name f.flags then flag_move name value
    else None

abbrev pub place_move : Form → ℕ → Text → Option Move
place_move f count word = if is_plain word
    then option_map (λ name. places name word) (slice_get f.positionals count) else None

abbrev pub fresh_move : Form → List Text → ℕ → Text → Option (Text × Option Text) → Option Move
fresh_move f seen count word (Some p) = option_move f seen p.0 p.1
fresh_move f seen count word None = place_move f count word

-- the names that were read, the option whose value is the next word, and how many positionals were read
pub record Tally : Type 0 where
  pub names : List Text
  pub waiting : Option Text
  pub count : ℕ

abbrev pub move_of : Form → List Text → Option Text → ℕ → Text → Option Move
move_of f seen (Some name) count word = value_move name word
move_of f seen None count word = fresh_move f seen count word (option_of word)

-- what one more word does, where the spelling allows it
abbrev pub next_move : Form → Tally → Text → Option Move
next_move f t word = move_of f t.names t.waiting t.count word

abbrev pub advanced : Tally → Move → Tally
advanced t (gives name value) =
    record { names = t.names ++ name ∷ []; waiting = None; count = t.count }
advanced t (waits name) = record t { waiting = Some name }
advanced t (places name word) =
    record { names = t.names ++ name ∷ []; waiting = None; count = t.count + 1 }

-- ---- all the words

-- what was read, in the order of the words, each with the name of its place
abbrev pub Given : Type 0
Given = List (Text × Text)

abbrev pub names_of : Given → List Text
names_of = map (λ p. p.0)

abbrev pub has_given : Text → Given → Bool
has_given name given = has name (names_of given)

-- the value at a name
abbrev pub value_at : Text → Given → Option Text
value_at name given = option_map (λ p. p.1) (find (λ p. bytes_eq p.0 name) given)

-- where the reading stands: what was read, the option whose value is the next word, and how many
-- positionals were read
pub record Stand : Type 0 where
  pub given : Given
  pub waiting : Option Text
  pub count : ℕ

abbrev pub moved : Stand → Move → Stand
moved s (gives name value) =
    record { given = s.given ++ (name, value) ∷ []; waiting = None; count = s.count }
moved s (waits name) = record s { waiting = Some name }
moved s (places name word) =
    record { given = s.given ++ (name, word) ∷ []; waiting = None; count = s.count + 1 }

-- one more word, where the spelling allows it
abbrev pub step : Form → Stand → Text → Option Stand
step f s word = option_map (moved s) (move_of f (names_of s.given) s.waiting s.count word)

unfoldable pub read_from : Form → Stand → List Text → Option Stand
read_from f s [] = Some s
read_from f s (word ∷ rest) = option_and_then (λ t. read_from f t rest) (step f s word)

abbrev pub nothing_read : Stand
nothing_read = record { given = []; waiting = None; count = 0 }

-- no option waits, and the positionals are as many as named
abbrev pub is_whole : Form → Option Text → ℕ → Bool
is_whole f waiting count = not (is_some waiting) && count == length f.positionals

abbrev pub whole : Form → Stand → Option Given
whole f s = if is_whole f s.waiting s.count then Some s.given else None

-- what the words behind the command's name give, where they are spelt as the form says
abbrev pub given_by : Form → List Text → Option Given
given_by f words = option_and_then (whole f) (read_from f nothing_read words)

-- what they give, and nothing where they are spelt wrong
abbrev pub given_or_none : Form → List Text → Given
given_or_none f words = unwrap_or (given_by f words) []
