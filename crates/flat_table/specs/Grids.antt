-- Rows of equal width, and the list of their cells.
use Rattle.std.specs.Prelude.{ℕ, zero, suc, List, [], ◌∷◌, take, drop}

-- rows, and how many cells each of them has
pub record Rows (T : Type 0) : Type 0 where
  pub width : ℕ
  pub rows : List (List T)

-- so many rows of so many cells, from the front of a list of cells
abbrev pub rows_of : {T : Type 0} → ℕ → ℕ → List T → List (List T)
rows_of width zero cells = []
rows_of width (suc count) cells = take width cells ∷ rows_of width count (drop width cells)
