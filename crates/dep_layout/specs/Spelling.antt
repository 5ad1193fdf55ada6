-- How ring states are spelled as bytes.
use Rattle.std.specs.Prelude.{◌≡◌, ℕ, ◌+◌, ◌*◌, ◌/◌, ◌%◌, ◌==◌, ◌&&◌, ◌||◌, nat_lt, ℤ, pos, negsuc, Bool, true, false, List, [], ◌∷◌, ◌++◌, length, map, replicate}
use Rattle.std.specs.Int.{w64, cast_unsigned, to_le_bytes}
use Rattle.std.specs.Int.RustNames.{FitsSigned}
use Rattle.std.specs.List.{AllByRecursion, flat_map}
use Rattle.dep_layout.specs.declared.state.Mark.{Mark}
use Rattle.dep_layout.specs.declared.state.Mark.TheVariants.{Fresh, Running, Broken}

-- the ring state of a vertex: how far its loop has come, and the lets that it carries
pub record State : Type 0 where
  pub mark : Mark
  pub words : List ℤ

abbrev pub mark_of : State → Mark
mark_of s = s.mark

-- the two bits of a mark
abbrev pub bits_of : Mark → ℕ
bits_of Fresh = 0
bits_of Running = 1
bits_of Broken = 2

-- four marks a byte, the first in the low bits. The bits behind the last mark are 0
abbrev pub mark_bytes : List Mark → List ℕ
mark_bytes [] = []
mark_bytes (a ∷ []) = bits_of a ∷ []
mark_bytes (a ∷ b ∷ []) = (bits_of a + 4 * bits_of b) ∷ []
mark_bytes (a ∷ b ∷ c ∷ []) = (bits_of a + 4 * bits_of b + 16 * bits_of c) ∷ []
mark_bytes (a ∷ b ∷ c ∷ d ∷ marks) = (bits_of a + 4 * bits_of b + 16 * bits_of c + 64 * bits_of d) ∷ mark_bytes marks

-- a word in two's complement, its low byte first
unfoldable pub word_bytes : ℤ → List ℕ
word_bytes word = to_le_bytes w64 (cast_unsigned w64 word)

-- the words that are sent of a vertex: none where it isn't started
abbrev pub sent_of : Mark → List ℤ → List ℤ
sent_of Fresh words = []
sent_of Running words = words
sent_of Broken words = words

abbrev pub sent_bytes : State → List ℕ
sent_bytes s = flat_map word_bytes (sent_of s.mark s.words)

-- the marks of all vertices, then the words of the started ones
abbrev pub spelled : List State → List ℕ
spelled states = mark_bytes (map mark_of states) ++ flat_map sent_bytes states

-- a Bool is the word 0 or 1
abbrev pub is_bool : ℤ → Bool
is_bool (pos n) = nat_lt n 2
is_bool (negsuc n) = false

-- a word is a Bool where the lowest bit of `bools` is 1, and any word where it is 0
abbrev pub suits : ℕ → ℤ → Bool
suits bools word = bools % 2 == 0 || is_bool word

-- word i is a Bool where bit i of `bools` is 1
abbrev pub are_typed : ℕ → List ℤ → Bool
are_typed bools [] = true
are_typed bools (word ∷ words) = suits bools word && are_typed (bools / 2) words

-- a state that carries so many words, of which these are Bools
pub record IsState (width bools : ℕ) (s : State) : Type 0 where
  pub count : length s.words ≡ width
  pub fits : AllByRecursion (FitsSigned w64) s.words
  pub typed : are_typed bools s.words ≡ true
  pub still : s.mark ≡ Fresh → s.words ≡ replicate width (pos 0)

-- the body spells these states, one for each vertex
pub record Spells (width vertices bools : ℕ) (body : List ℕ) (states : List State) : Type 0 where
  pub count : length states ≡ vertices
  pub each : AllByRecursion (IsState width bools) states
  pub spells : spelled states ≡ body
