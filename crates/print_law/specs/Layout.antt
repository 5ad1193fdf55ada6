-- Tokens as text: each with its own text, and behind it a line end or a space.
use Rattle.std.specs.Prelude.{ℕ, Bool, List, [], ◌∷◌, ◌++◌, flat_map, if◌then◌else◌, ◌||◌, get_or, decimal}
use Rattle.vert_lex.specs.declared.marks.TheConstants as mark
use Rattle.vert_lex.specs.Places.{reserved_words, marks}
use Rattle.vert_lex.specs.Tokens.{Kind, Reserved, Mark, Number, Name}
use Rattle.vert_grammar.specs.Signs.{is_mark}

-- the text of a token, a number without leading zeros
abbrev pub text_of : Kind → List ℕ
text_of (Reserved place) = get_or reserved_words place []
text_of (Mark place) = get_or marks place []
text_of (Number value) = decimal value
text_of (Name text) = text

-- a line ends behind `;`, `{` and `}`
abbrev pub ends_line : Kind → Bool
ends_line k = is_mark mark.SEMICOLON k || (is_mark mark.LEFT_BRACE k || is_mark mark.RIGHT_BRACE k)

-- what stands behind a token: a line end or a space
abbrev pub behind : Kind → ℕ
behind k = if ends_line k then 10 else 32

-- the text of some tokens
abbrev pub laid : List Kind → List ℕ
laid ks = flat_map (λ k. text_of k ++ behind k ∷ []) ks
