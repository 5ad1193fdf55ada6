-- Truth values as words.
use Rattle.std.specs.Prelude.{ℤ, pos, negsuc, zero, suc, Bool, true, false}

-- the word of a truth value
abbrev pub word_of_bool : Bool → ℤ
word_of_bool true = pos 1
word_of_bool false = pos 0

-- every word but 0 is true
abbrev pub is_set : ℤ → Bool
is_set (pos zero) = false
is_set (pos (suc n)) = true
is_set (negsuc n) = true
