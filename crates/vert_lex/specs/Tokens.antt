-- The tokens of a text, by the rule of the longest token.
use Rattle.std.specs.Prelude.{ℕ, zero, suc, Bool, List, [], ◌∷◌, Option, Some, None, is_some, take, if◌then◌else◌, nat_le, ◌==◌, ◌&&◌, ◌||◌}
use Rattle.std.specs.List.{list_all}
use Rattle.std.specs.Str.Parse.{digits_value}
use Rattle.vert_lex.specs.Places.{reserved_words, marks, place_of}

-- what a token is: a reserved word or a mark by its place, a number, or any other word
pub data Kind : Type 0 where
  Reserved : (place : ℕ) → Kind
  Mark : (place : ℕ) → Kind
  Number : (value : ℕ) → Kind
  Name : (text : List ℕ) → Kind

abbrev pub is_letter : ℕ → Bool
is_letter b = b == 95 || (nat_le 97 b && nat_le b 122) || (nat_le 65 b && nat_le b 90)

abbrev pub is_digit : ℕ → Bool
is_digit b = nat_le 48 b && nat_le b 57

abbrev pub is_word : ℕ → Bool
is_word b = is_letter b || is_digit b

abbrev pub word_at : Option ℕ → List ℕ → Kind
word_at (Some place) word = Reserved place
word_at None word = Name word

abbrev pub mark_at : Option ℕ → Option Kind
mark_at (Some place) = Some (Mark place)
mark_at None = None

-- which token exactly these bytes are, if they are one
unfoldable pub kind_of : List ℕ → Option Kind
kind_of [] = None
kind_of (b ∷ bs) =
    if is_letter b then (if list_all is_word bs then Some (word_at (place_of reserved_words (b ∷ bs)) (b ∷ bs))
    else None)
    else (if is_digit b then (if list_all is_digit bs then Some (Number (digits_value 10 (b ∷ bs))) else None)
    else mark_at (place_of marks (b ∷ bs)))

-- the length of the longest token of at most n bytes at the front of a text, or 0
unfoldable pub longest : ℕ → List ℕ → ℕ
longest zero text = 0
longest (suc n) text = if is_some (kind_of (take (suc n) text)) then suc n else longest n text
