-- Words between blanks, and the numbers that they say.
use Rattle.std.specs.Prelude.{◌≡◌, ◌==◌, ℕ, ◌+◌, ◌-◌, ◌*◌, Bool, false, true, not, ◌||◌, if◌then◌else◌, List, [], ◌∷◌, ◌++◌, min, Option, Some, None}
use Rattle.std.specs.List.{fold, list_all}
use Rattle.vert_base.specs.Digits.{is_digit}

-- a space or a tab
abbrev pub is_blank : ℕ → Bool
is_blank byte = byte == 32 || byte == 9

-- a byte of a word
abbrev pub is_word_byte : ℕ → Bool
is_word_byte byte = not (is_blank byte)

-- a byte of a word in front of a text with these words: right before a word it belongs to that word
abbrev pub join_byte : ℕ → List ℕ → List (List ℕ) → List (List ℕ)
join_byte byte [] words = (byte ∷ []) ∷ words
join_byte byte (next ∷ rest) [] = (byte ∷ []) ∷ []
join_byte byte (next ∷ rest) (word ∷ words) = if is_blank next then (byte ∷ []) ∷ (word ∷ words)
    else (byte ∷ word) ∷ words

-- the words of a text: its longest pieces without a blank
abbrev pub words_of : List ℕ → List (List ℕ)
words_of [] = []
words_of (byte ∷ rest) = if is_blank byte then words_of rest else join_byte byte rest (words_of rest)

-- one digit or more
abbrev pub is_number : List ℕ → Bool
is_number [] = false
is_number (byte ∷ word) = list_all is_digit (byte ∷ word)

-- the value of digits
abbrev pub value_of : List ℕ → ℕ
value_of digits = fold (λ value digit. value * 10 + (digit - 48)) 0 digits

-- the number that a word says, where it is digits
abbrev pub number_of : List ℕ → Option ℕ
number_of word = if is_number word then Some (value_of word) else None

-- a text that begins with a number, cut down to 2^40 where it is larger, and goes on with `rest`
pub record BeginsWith (text : List ℕ) (number : ℕ) (rest : List ℕ) : Type 0 where
  pub word : List ℕ
  pub parts : text ≡ word ++ rest
  pub says : is_number word ≡ true
  pub value : number ≡ min (value_of word) 1099511627776
