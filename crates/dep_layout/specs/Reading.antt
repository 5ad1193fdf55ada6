-- The states that marks and words stand for.
use Rattle.std.specs.Prelude.{ℕ, zero, suc, ◌*◌, pos, List, [], ◌∷◌, take, drop, replicate}
use Rattle.dep_layout.specs.declared.state.Mark.{Mark}
use Rattle.dep_layout.specs.declared.state.Mark.TheVariants.{Fresh, Running, Broken}
use Rattle.dep_layout.specs.Spelling.{State}
use Rattle.dep_layout.specs.Judgement.{mark_len, pairs_in, words_in}

-- the mark of two bits
abbrev pub mark_with : ℕ → Mark
mark_with zero = Fresh
mark_with (suc zero) = Running
mark_with (suc (suc n)) = Broken

-- the state with a mark: the words at the front of bytes where it is started, else zeros
abbrev pub state_with : ℕ → Mark → List ℕ → State
state_with width Fresh words = record { mark = Fresh; words = replicate width (pos 0) }
state_with width Running words = record { mark = Running; words = words_in width words }
state_with width Broken words = record { mark = Broken; words = words_in width words }

-- the bytes behind its words
abbrev pub words_behind : ℕ → Mark → List ℕ → List ℕ
words_behind width Fresh words = words
words_behind width Running words = drop (8 * width) words
words_behind width Broken words = drop (8 * width) words

-- a state for the two bits of each vertex, the words of the started ones in turn
abbrev pub states_in : ℕ → List ℕ → List ℕ → List State
states_in width [] words = []
states_in width (pair ∷ pairs) words =
    state_with width (mark_with pair) words ∷ states_in width pairs (words_behind width (mark_with pair) words)

-- the states that a body is read as
abbrev pub read_of : ℕ → ℕ → List ℕ → List State
read_of width vertices body = states_in width (take vertices (pairs_in (take (mark_len vertices) body)))
    (drop (mark_len vertices) body)
