-- Rows and ring states of vertices in flat lists.
use Rattle.std.specs.Prelude.{◌≡◌, ◌≤◌, ℕ, ℤ, pos, Bool, false, List, [], ◌∷◌, length, replicate, slice_index_or}
use Rattle.std.specs.List.{All}
use Rattle.vert_base.specs.declared.value.Row.{Row}
use Rattle.flat_table.specs.Grids.{Rows}
use Rattle.dep_layout.specs.Spelling.{State}
use Rattle.dep_layout.specs.declared.state.Mark.{Mark}
use Rattle.dep_layout.specs.declared.state.Mark.TheVariants.{Fresh}

-- the rows of vertices, and how many fields each of them has
pub record RowTable : Type 0 where
  pub width : ℕ
  pub rows : List Row

-- a row of these words
abbrev pub row_with : List ℤ → Bool → Row
row_with words active = record { words = record { items = words }; active = active }

-- what two lists make, place by place
abbrev pub zip_with : {X Y Z : Type 0} → (X → Y → Z) → List X → List Y → List Z
zip_with f [] ys = []
zip_with f (x ∷ xs) [] = []
zip_with f (x ∷ xs) (y ∷ ys) = f x y ∷ zip_with f xs ys

-- rows from their words and flags
abbrev pub rows_with : List (List ℤ) → List Bool → List Row
rows_with lists flags = zip_with row_with lists flags

-- a row of so many zeros that isn't active
abbrev pub still_row : ℕ → Row
still_row width = row_with (replicate width (pos 0)) false

-- each list has so many words
abbrev pub AreWide : ℕ → List (List ℤ) → Type 0
AreWide width lists = All (λ words. length words ≡ width) lists

-- the words of so many vertices, of each the same number, which is at most so great
pub record AreLaid (most width count : ℕ) (words : Rows ℤ) : Type 0 where
  pub narrow : width ≤ most
  pub wide : words.width ≡ width
  pub size : length words.rows ≡ count
  pub each : AreWide width words.rows

-- the ring states of vertices, and how many words each of them has
pub record StateTable : Type 0 where
  pub width : ℕ
  pub states : List State

-- ring states from their marks and words
abbrev pub states_with : List Mark → List (List ℤ) → List State
states_with marks lists = zip_with (λ mark words. record { mark = mark; words = words }) marks lists

-- the state of a vertex whose loop hasn't begun
abbrev pub fresh_state : ℕ → State
fresh_state width = record { mark = Fresh; words = replicate width (pos 0) }

abbrev pub state_at : List State → ℕ → State
state_at states place = slice_index_or states place (fresh_state 0)

-- the words of a vertex whose loop hasn't begun are zeros
abbrev pub AreStill : ℕ → List State → Type 0
AreStill width states = All (λ s. s.mark ≡ Fresh → s.words ≡ replicate width (pos 0)) states
