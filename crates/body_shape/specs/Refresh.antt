-- Rows of a refresh, as bytes and back.
use Rattle.std.specs.Prelude.{◌≡◌, ℕ, ◌<◌, ◌*◌, zero, suc, ◌/◌, ◌%◌, ◌==◌, not, ℤ, pos, negsuc, Bool, true, false, List, [], ◌∷◌, ◌++◌, length, get_or, map, take, drop}
use Rattle.std.specs.Int.{w64}
use Rattle.std.specs.Int.RustNames.{FitsSigned}
use Rattle.std.specs.List.{AllByRecursion, flat_map}
use Rattle.dep_layout.specs.Spelling.{word_bytes, are_typed}
use Rattle.dep_layout.specs.Judgement.{words_in, rows_in}
use Rattle.dep_layout.specs.Laws.{AreBytes}
use Rattle.body_shape.specs.declared.shape.BodyShape.TheVariants.{Refresh}
use Rattle.vert_base.specs.declared.value.Row.{Row}
use Rattle.vert_base.specs.declared.value.ValueType.{ValueType}
use Rattle.vert_base.specs.declared.value.ValueType.TheVariants as kind
use Rattle.vert_base.specs.Truth.{is_set, word_of_bool}
use Rattle.body_shape.specs.Shapes.{bool_bits}
use Rattle.body_shape.specs.Fit.{is_fit}

-- so many words, each of which fits 64 bits
abbrev pub IsWords : ℕ → List ℤ → Type 0
IsWords width words = (length words ≡ width) × AllByRecursion (FitsSigned w64) words

abbrev pub words_bytes : List ℤ → List ℕ
words_bytes words = flat_map word_bytes words

abbrev pub rows_bytes : List (List ℤ) → List ℕ
rows_bytes rows = flat_map words_bytes rows

-- what a refresh tells of a vertex: its fields, and whether it is active
pub record PlainRow : Type 0 where
  pub fields : List ℤ
  pub active : Bool

-- the fields, then the flag
abbrev pub row_words : PlainRow → List ℤ
row_words row = row.fields ++ word_of_bool row.active ∷ []

abbrev pub row_bytes : PlainRow → List ℕ
row_bytes row = words_bytes (row_words row)

abbrev pub refresh_body : List PlainRow → List ℕ
refresh_body rows = rows_bytes (map row_words rows)

-- the flag behind so many fields
abbrev pub flag_at : ℕ → List ℤ → Bool
flag_at width [] = false
flag_at zero (word ∷ words) = is_set word
flag_at (suc width) (word ∷ words) = flag_at width words

abbrev pub row_of : ℕ → List ℤ → PlainRow
row_of width words = record { fields = take width words; active = flag_at width words }

-- the row at a place
abbrev pub row_at : ℕ → ℕ → List ℕ → PlainRow
row_at width place body = row_of width (words_in (suc width) (drop (8 * suc width * place) body))

-- a row of a program as plain data
abbrev pub plain_row : Row → PlainRow
plain_row row = record { fields = row.words.items; active = row.active }

-- so many rows, each of so many fields and the flag
abbrev pub rows_read : ℕ → ℕ → List ℕ → List PlainRow
rows_read width count body = map (row_of width) (rows_in (suc width) count body)

-- a row of so many fields
abbrev pub HasFields : ℕ → PlainRow → Type 0
HasFields width row = IsWords width row.fields

-- of which these are Bools
abbrev pub IsRow : ℕ → ℕ → PlainRow → Type 0
IsRow width bools row = HasFields width row × (are_typed bools (row_words row) ≡ true)

-- the word behind so many is a Bool
abbrev pub is_flagged : ℕ → ℕ → Bool
is_flagged zero bools = not (bools % 2 == 0)
is_flagged (suc width) bools = is_flagged width (bools / 2)

abbrev pub SuitsRefresh : ℕ → ℕ → ℕ → List PlainRow → Type 0
SuitsRefresh count width bools rows = (length rows ≡ count) × AllByRecursion (IsRow width bools) rows

-- rows are read from what is spelled of them
abbrev pub RefreshReadsBack : Type 0
RefreshReadsBack = (count width : ℕ) (rows : List PlainRow) → length rows ≡ count →
    AllByRecursion (HasFields width) rows → rows_read width count (refresh_body rows) ≡ rows

-- a row in its place
abbrev pub RefreshInPlace : Type 0
RefreshInPlace = (count width i : ℕ) (body : List ℕ) (d : PlainRow) → i < count →
    get_or (rows_read width count body) i d ≡ row_at width i body

-- rows behind others are spelled behind them
abbrev pub RefreshGrows : Type 0
RefreshGrows = (rows more : List PlainRow) → refresh_body (rows ++ more) ≡ refresh_body rows ++ refresh_body more

-- what is spelled of rows that suit a shape fits it
abbrev pub RefreshFits : Type 0
RefreshFits = (count width bools : ℕ) (rows : List PlainRow) → SuitsRefresh count width bools rows →
    is_fit (Refresh count (suc width) bools) (refresh_body rows) ≡ true

-- the rows of a body that fits suit its shape
abbrev pub RefreshSuits : Type 0
RefreshSuits = (count width bools : ℕ) (body : List ℕ) → is_flagged width bools ≡ true →
    is_fit (Refresh count (suc width) bools) body ≡ true →
    SuitsRefresh count width bools (rows_read width count body)

-- a body that fits is the spelling of its rows
abbrev pub RefreshIsSpelled : Type 0
RefreshIsSpelled = (count width bools : ℕ) (body : List ℕ) → AreBytes body → is_flagged width bools ≡ true →
    is_fit (Refresh count (suc width) bools) body ≡ true →
    refresh_body (rows_read width count body) ≡ body

-- the form of a refresh says that the word behind its fields is a Bool
abbrev pub FormIsFlagged : Type 0
FormIsFlagged = (types : List ValueType) → is_flagged (length types) (bool_bits (types ++ kind.Bool ∷ [])) ≡ true
