-- What a line of an edge file says.
use Rattle.std.specs.Prelude.{◌==◌, ℕ, ◌-◌, nat_lt, Bool, true, false, ◌||◌, if◌then◌else◌, List, [], ◌∷◌, length, slice_index, take, min, Option, Some, None, ℤ, pos, neg_ℤ}
use Rattle.std.specs.Option.{option_map}
use Rattle.edge_reader.specs.declared.entry.Entry.{Entry}
use Rattle.edge_reader.specs.declared.entry.Entry.TheVariants.{Skipped, Malformed, TooLarge, Read}
use Rattle.edge_reader.specs.declared.entry.Weight.{Weight}
use Rattle.edge_reader.specs.Words.{words_of, number_of}

-- a line feed
abbrev pub is_line_end : ℕ → Bool
is_line_end byte = byte == 10

-- a byte in front of a text with these lines
abbrev pub join_line : ℕ → List (List ℕ) → List (List ℕ)
join_line byte [] = (byte ∷ []) ∷ []
join_line byte (line ∷ lines) = (byte ∷ line) ∷ lines

-- the lines of a text, each without its line feed, which the last one may lack
abbrev pub lines_of : List ℕ → List (List ℕ)
lines_of [] = []
lines_of (byte ∷ rest) = if is_line_end byte then [] ∷ lines_of rest else join_line byte (lines_of rest)

-- a line without one carriage return at its end
abbrev pub without_return : List ℕ → List ℕ
without_return line = if slice_index line (length line - 1) == 13 then take (length line - 1) line else line

-- the weight that a word says: digits with an optional minus before them
abbrev pub weight_of : List ℕ → Option Weight
weight_of [] = None
weight_of (byte ∷ word) =
    if byte == 45 then option_map (λ size. record { negative = true; size = size }) (number_of word)
    else option_map (λ size. record { negative = false; size = size }) (number_of (byte ∷ word))

-- a weight with its size cut down to `most` where it is larger
abbrev pub capped : ℕ → Weight → Weight
capped most weight = record { negative = weight.negative; size = min weight.size most }

-- the weight of an edge that says none
abbrev pub one : Weight
one = record { negative = false; size = 1 }

-- a weight as a number
abbrev pub signed : Weight → ℤ
signed weight = if weight.negative then neg_ℤ (pos weight.size) else pos weight.size

-- the edge of these numbers, where the ids are below 2^32 and the weight is from -2^31 to 2^31 - 1
abbrev pub edge_of : ℕ → ℕ → Weight → Entry
edge_of from to weight =
    if nat_lt 4294967295 from || nat_lt 4294967295 to
    || nat_lt (if weight.negative then 2147483648 else 2147483647) weight.size then TooLarge
    else Read (record { from = record { 0 = from }; to = record { 0 = to }; weight = signed weight })

-- the edge of these numbers, where each is one
abbrev pub entry_of_numbers : Option ℕ → Option ℕ → Option Weight → Entry
entry_of_numbers (Some from) (Some to) (Some weight) = edge_of from to weight
entry_of_numbers (Some from) (Some to) None = Malformed
entry_of_numbers (Some from) None weight = Malformed
entry_of_numbers None to weight = Malformed

-- the word begins with `#`
abbrev pub is_comment : List ℕ → Bool
is_comment [] = false
is_comment (byte ∷ word) = byte == 35

-- what the words of a line without a comment say: source, target and weight
abbrev pub entry_of_words : List (List ℕ) → Entry
entry_of_words [] = Skipped
entry_of_words (from ∷ []) = Malformed
entry_of_words (from ∷ to ∷ []) = entry_of_numbers (number_of from) (number_of to) (Some one)
entry_of_words (from ∷ to ∷ weight ∷ []) = entry_of_numbers (number_of from) (number_of to) (weight_of weight)
entry_of_words (from ∷ to ∷ weight ∷ more ∷ rest) = Malformed

-- the words of a line where no comment begins it
abbrev pub without_comment : List (List ℕ) → List (List ℕ)
without_comment [] = []
without_comment (word ∷ words) = if is_comment word then [] else word ∷ words

-- what a line without its line feed says
abbrev pub entry_of_line : List ℕ → Entry
entry_of_line line = entry_of_words (without_comment (words_of (without_return line)))
