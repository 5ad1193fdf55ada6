-- The reserved words and the marks, in order. A word or a mark is named by its place in its list.
use Rattle.std.specs.Prelude.{ℕ, List, [], ◌∷◌, Option, codes, position}
use Rattle.std.specs.Str.{bytes_eq}

unfoldable pub reserved_words : List (List ℕ)
reserved_words =
    codes "vertex" ∷ codes "mode" ∷ codes "limit" ∷ codes "auto" ∷ codes "dense" ∷ codes "sparse"
    ∷ codes "field" ∷ codes "slot" ∷ codes "start" ∷ codes "when" ∷ codes "let" ∷ codes "for"
    ∷ codes "u" ∷ codes "w" ∷ codes "if" ∷ codes "else" ∷ codes "emit" ∷ codes "break"
    ∷ codes "send" ∷ codes "update" ∷ codes "int" ∷ codes "bool" ∷ codes "min" ∷ codes "max"
    ∷ codes "sum" ∷ codes "first" ∷ codes "true" ∷ codes "false" ∷ codes "id" ∷ codes "n"
    ∷ codes "round" ∷ codes "indeg" ∷ codes "outdeg" ∷ codes "active" ∷ codes "draw" ∷ codes "got"
    ∷ codes "value" ∷ []

unfoldable pub marks : List (List ℕ)
marks =
    codes "{" ∷ codes "}" ∷ codes "(" ∷ codes ")" ∷ codes ";" ∷ codes ":" ∷ codes "," ∷ codes "."
    ∷ codes "=" ∷ codes "==" ∷ codes "!=" ∷ codes "<" ∷ codes "<=" ∷ codes ">" ∷ codes ">="
    ∷ codes "+" ∷ codes "-" ∷ codes "*" ∷ codes "/" ∷ codes "%" ∷ codes "&&" ∷ codes "||"
    ∷ codes "!" ∷ codes "?" ∷ codes "+=" ∷ []

-- where a text stands in a list, from 0
abbrev pub place_of : List (List ℕ) → List ℕ → Option ℕ
place_of texts text = position (λ t. bytes_eq t text) texts
