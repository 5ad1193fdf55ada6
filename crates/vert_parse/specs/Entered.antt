-- Texts that are entered in a list, each unless it is there.
use Rattle.std.specs.Prelude.{ℕ, Bool, List, map}
use Rattle.std.specs.List.{list_any}
use Rattle.std.specs.String.{string_bytes}
use Rattle.std.specs.Str.{bytes_eq}
use Rattle.std.specs.declared.alloc.Global.{Global}
use Rattle.std.specs.declared.string.String.{String}
use Rattle.indexmap.specs.IndexSet.{insert_all, insert_key}
use Rattle.vert_tree.specs.declared.name.Ident.{Ident}
use Rattle.vert_tree.specs.Views.{text_of}
use Rattle.vert_parse.specs.Names.{Texts}

abbrev pub texts_in : List (String Global) → Texts
texts_in names = map string_bytes names

unfoldable pub enter : Texts → List ℕ → Texts
enter texts text = insert_key bytes_eq texts text

unfoldable pub enter_all : Texts → Texts → Texts
enter_all texts more = insert_all bytes_eq texts more

abbrev pub is_entered : List (String Global) → List ℕ → Bool
is_entered used text = list_any (λ k. bytes_eq text (string_bytes k)) used

-- the text of a name is among these
abbrev pub has_place : List (String Global) → List (String Global) → Ident → Bool
has_place names used name = is_entered used (text_of names name.name)
