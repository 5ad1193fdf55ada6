-- The text of a table: a header line, then a line for each vertex.
use Rattle.std.specs.Prelude.{ℕ, zero, suc, ◌+◌, List, [], ◌∷◌, ◌++◌, ℤ, pos, negsuc, Option, Some, None, flat_map, slice_get, codes, decimal}
use Rattle.std.specs.Fmt.{signed_decimal}
use Rattle.std.specs.String.{string_bytes}
use Rattle.std.specs.declared.alloc.Global.{Global}
use Rattle.std.specs.declared.string.String.{String}
use Rattle.vert_base.specs.declared.value.Row.{Row}
use Rattle.vert_base.specs.declared.value.ValueType.{ValueType}
use Rattle.vert_base.specs.declared.value.ValueType.TheVariants as kind
use Rattle.vert_tree.specs.declared.program.Decl.{Decl}
use Rattle.vert_tree.specs.declared.program.Program.{Program}

-- the bytes of a text, where there is one
abbrev pub bytes_of : Option (String Global) → List ℕ
bytes_of (Some text) = string_bytes text
bytes_of None = []

-- a field's name after a space
abbrev pub name_text : Program → Decl → List ℕ
name_text p field = codes " " ++ bytes_of (slice_get p.names.items field.name.name)

-- `vertex` and the field names
abbrev pub header_text : Program → List ℕ
header_text p = codes "vertex" ++ flat_map (name_text p) p.fields.items ++ codes "\n"

-- of a truth value every word but 0 is true
abbrev pub truth_text : ℤ → List ℕ
truth_text (pos zero) = codes "false"
truth_text (pos (suc n)) = codes "true"
truth_text (negsuc n) = codes "true"

abbrev pub word_text : ValueType → ℤ → List ℕ
word_text kind.Int word = signed_decimal word
word_text kind.Bool word = truth_text word

-- the words of the fields, each after a space
abbrev pub words_text : List Decl → List ℤ → List ℕ
words_text [] words = []
words_text (field ∷ fields) [] = []
words_text (field ∷ fields) (word ∷ words) = codes " " ++ word_text field.kind word ++ words_text fields words

-- the line of vertex v
abbrev pub row_text : Program → ℕ → Row → List ℕ
row_text p v row = decimal v ++ words_text p.fields.items row.words.items ++ codes "\n"

-- the lines of the vertices from v on
abbrev pub rows_text : Program → ℕ → List Row → List ℕ
rows_text p v [] = []
rows_text p v (row ∷ rows) = row_text p v row ++ rows_text p (v + 1) rows

abbrev pub table_text : Program → List Row → List ℕ
table_text p rows = header_text p ++ rows_text p 0 rows
