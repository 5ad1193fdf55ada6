-- What is wrong with a body that should spell ring states.
use Rattle.std.specs.Prelude.{◌≡◌, ℕ, zero, suc, ◌*◌, ◌/◌, ◌%◌, ◌==◌, not, nat_lt, ℤ, Bool, if◌then◌else◌, Option, Some, None, List, [], ◌∷◌, length, take, drop, count_by}
use Rattle.std.specs.Int.{w64, cast_signed, from_le_bytes, div_ceil}
use Rattle.std.specs.List.{flat_map, list_all, list_any}
use Rattle.dep_layout.specs.Spelling.{are_typed}
use Rattle.dep_layout.specs.declared.fault.DepFault.{DepFault}
use Rattle.dep_layout.specs.declared.fault.DepFault.TheVariants.{Length, Bits, Padding, NotBool}

-- how many bytes the marks of so many vertices take
abbrev pub mark_len : ℕ → ℕ
mark_len vertices = div_ceil vertices 4

-- the two-bit numbers of a byte, the low bits first
abbrev pub pairs_of : ℕ → List ℕ
pairs_of byte = byte % 4 ∷ byte / 4 % 4 ∷ byte / 16 % 4 ∷ byte / 64 % 4 ∷ []

abbrev pub pairs_in : List ℕ → List ℕ
pairs_in bytes = flat_map pairs_of bytes

abbrev pub is_both : ℕ → Bool
is_both pair = pair == 3

abbrev pub is_set : ℕ → Bool
is_set pair = not (pair == 0)

-- how many vertices are started
abbrev pub started : List ℕ → ℕ
started pairs = count_by is_set pairs

-- the word that eight bytes spell
unfoldable pub word_of : List ℕ → ℤ
word_of bytes = cast_signed w64 (from_le_bytes w64 bytes)

-- the first so many words of the bytes
abbrev pub words_in : ℕ → List ℕ → List ℤ
words_in zero bytes = []
words_in (suc count) bytes = word_of (take 8 bytes) ∷ words_in count (drop 8 bytes)

-- the words of the first so many started vertices, `width` of each
abbrev pub rows_in : ℕ → ℕ → List ℕ → List (List ℤ)
rows_in width zero bytes = []
rows_in width (suc count) bytes = words_in width bytes ∷ rows_in width count (drop (8 * width) bytes)

-- a mark with both bits, then a bit behind the last mark, then words that aren't as many as the marks say, then a word
-- that should be a Bool and is none
abbrev pub refusal_of_parts : ℕ → ℕ → ℕ → List ℕ → List ℕ → Option DepFault
refusal_of_parts width bools vertices marks words =
    let pairs = take vertices (pairs_in marks) in
    if list_any is_both pairs then Some Bits
    else if list_any is_set (drop vertices (pairs_in marks)) then Some Padding
    else if not (length words == 8 * width * started pairs) then Some Length
    else if not (list_all (are_typed bools) (rows_in width (started pairs) words)) then Some NotBool
    else None

-- the first fault of a body of so many vertices: it ends before the marks do, or is one of its parts
abbrev pub refusal_of : ℕ → ℕ → ℕ → List ℕ → Option DepFault
refusal_of width vertices bools body =
    if nat_lt (length body) (mark_len vertices) then Some Length
    else refusal_of_parts width bools vertices (take (mark_len vertices) body) (drop (mark_len vertices) body)

-- the body of a ring state: nothing is wrong with it
abbrev pub FitsRing : ℕ → ℕ → ℕ → List ℕ → Type 0
FitsRing width vertices bools body = refusal_of width vertices bools body ≡ None
