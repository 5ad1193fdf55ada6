-- The rows of a list of cells, one by one.
use Rattle.std.proofs.Common.{◌≡◌, ℕ, zero, suc, ◌+◌, ◌*◌, ◌^◌, ◌<◌, ◌≤◌, List, [], ◌∷◌, ◌++◌, length, get_or, set, take, drop, replicate, refl, sym, ap, ◌∙◌, arith}
use Rattle.std.proofs.Math.Seq.{take-set-lt}
use Rattle.std.proofs.lemmas.Nat.{mul-le}
use Rattle.std.proofs.lemmas.List.{drop-append-le, drop-drop, drop-set-add, drop-set-lt, drop-take, length-drop, length-replicate, length-take, replicate-append-replicate, take-set-le, take_at, drop_at}
use Rattle.std.proofs.lemmas.Slice.{take-put_mid_below}
use borrow.Rule.Slice.PartMut.{put_mid}
use Rattle.flat_table.specs.Grids.{rows_of}

pub length-rows_of : {T : Type 0} (width count : ℕ) (cells : List T) → length (rows_of width count cells) ≡ count
length-rows_of width zero cells = refl
length-rows_of width (suc count) cells = ap suc (length-rows_of width count (drop width cells))

-- the cells of a row stand side by side
pub row_is : {T : Type 0} (width count place : ℕ) (cells : List T) → place < count →
    get_or (rows_of width count cells) place [] ≡ take width (drop (width * place) cells)
row_is width zero place cells within = absurd (omega arith)
row_is width (suc count) zero cells within =
    let none : width * 0 ≡ 0 = omega arith in
    ap (λ k. take width (drop k cells)) (sym none)
row_is width (suc count) (suc place) cells within =
    let further : width * suc place ≡ width + width * place = omega arith in
    row_is width count place (drop width cells) (omega arith)
    ∙ ap (take width) (drop-drop (width * place) width cells)
    ∙ ap (λ k. take width (drop k cells)) (sym further)

-- a value in one cell changes one row
pub put_is : {T : Type 0} (width count place column : ℕ) (value : T) (cells : List T) → place < count → column < width →
    rows_of width count (set cells (width * place + column) value)
    ≡ set (rows_of width count cells) place (set (get_or (rows_of width count cells) place []) column value)
put_is width zero place column value cells within inside = absurd (omega arith)
put_is width (suc count) zero column value cells within inside =
    let first : width * 0 + column ≡ column = omega arith in
    ap (λ k. rows_of width (suc count) (set cells k value)) first
    ∙ ap (λ row. row ∷ rows_of width count (drop width (set cells column value)))
    (take-set-lt width cells column value inside)
    ∙ ap (λ rest. set (take width cells) column value ∷ rows_of width count rest)
    (drop-set-lt width cells column value inside)
put_is width (suc count) (suc place) column value cells within inside =
    let cell = width * place + column in
    let further : width * suc place + column ≡ width + (width * place + column) = omega arith in
    ap (λ k. rows_of width (suc count) (set cells k value)) further
    ∙ ap (λ row. row ∷ rows_of width count (drop width (set cells (width + cell) value)))
    (take-set-le width cells (width + cell) value (omega arith))
    ∙ ap (λ rest. take width cells ∷ rows_of width count rest) (drop-set-add width cells cell value)
    ∙ ap (λ rows. take width cells ∷ rows)
    (put_is width count place column value (drop width cells) (omega arith) inside)

-- behind the first cells a part lies that much earlier
drop_front : {T : Type 0} (n at width : ℕ) (cells row : List T) → n ≤ length cells →
    drop n (put_mid (n + at) width cells row) ≡ put_mid at width (drop n cells) row
drop_front n at width cells row room =
    let short : n ≤ length (take (n + at) cells) = omega (arith, length-take (n + at) cells) in
    drop-append-le n (take (n + at) cells) (row ++ drop width (drop (n + at) cells)) short
    ∙ ap (λ front. front ++ (row ++ drop width (drop (n + at) cells))) (drop-take n at cells)
    ∙ ap (λ rest. take at (drop n cells) ++ (row ++ drop width rest)) (sym (drop-drop at n cells))

-- equal cells make equal rows
pub filled_is : {T : Type 0} (width count : ℕ) (value : T) →
    rows_of width count (replicate (width * count) value) ≡ replicate count (replicate width value)
filled_is width zero value = refl
filled_is width (suc count) value =
    let front = replicate width value in
    let behind = replicate (width * count) value in
    let size : width * suc count ≡ width + width * count = omega arith in
    let parts = ap (λ n. replicate n value) size ∙ sym (replicate-append-replicate width (width * count) value) in
    ap (λ cells. take width cells ∷ rows_of width count (drop width cells)) parts
    ∙ ap (λ row. row ∷ rows_of width count (drop width (front ++ behind)))
    (take_at front behind width (length-replicate width value))
    ∙ ap (λ rest. front ∷ rows_of width count rest) (drop_at front behind width (length-replicate width value))
    ∙ ap (λ rows. front ∷ rows) (filled_is width count value)

-- a cell of a row is one of all
pub cell_within : (width count place : ℕ) → place < count → width * place + width ≤ width * count
cell_within width count place within =
    let more : suc place ≤ count = omega arith in
    let all : width * suc place ≤ width * count = mul-le width (suc place) width count (omega arith) more in
    omega (arith, all)

-- and has a number of 64 bits
pub cell_small : (width count place : ℕ) → width < 2 ^ 16 → count < 2 ^ 32 → place < count →
    width * place + width < 2 ^ 50
cell_small width count place narrow few within =
    let most : width * count ≤ 2 ^ 16 * 2 ^ 32 = mul-le width count (2 ^ 16) (2 ^ 32) (omega arith) (omega arith) in
    omega (arith, most, cell_within width count place within)

-- a row in the place of another one
pub put_row_is : {T : Type 0} (width count place : ℕ) (row cells : List T) → place < count → length row ≡ width →
    length cells ≡ width * count →
    rows_of width count (put_mid (width * place) width cells row) ≡ set (rows_of width count cells) place row
put_row_is width zero place row cells within size all = absurd (omega arith)
put_row_is width (suc count) zero row cells within size all =
    let first : width * 0 ≡ 0 = omega arith in
    ap (λ k. rows_of width (suc count) (put_mid k width cells row)) first
    ∙ ap (λ r. r ∷ rows_of width count (drop width (row ++ drop width cells)))
    (take_at row (drop width cells) width size)
    ∙ ap (λ rest. row ∷ rows_of width count rest) (drop_at row (drop width cells) width size)
put_row_is width (suc count) (suc place) row cells within size all =
    let at = width * place in
    let further : width * suc place ≡ width + width * place = omega arith in
    let room : width ≤ length cells = omega (arith, all) in
    let rest : length (drop width cells) ≡ width * count = omega (arith, all, length-drop width cells) in
    let front : take width (put_mid (width + width * place) width cells row) ≡ take width cells =
    take-put_mid_below (width + at) width cells row width (omega arith)
    (omega (arith, all, cell_within width (suc count) (suc place) within)) in
    let behind : drop width (put_mid (width + width * place) width cells row)
    ≡ put_mid (width * place) width (drop width cells) row =
    drop_front width at width cells row room in
    ap (λ k. rows_of width (suc count) (put_mid k width cells row)) further
    ∙ ap (λ r. r ∷ rows_of width count (drop width (put_mid (width + at) width cells row))) front
    ∙ ap (λ rest. take width cells ∷ rows_of width count rest) behind
    ∙ ap (λ rows. take width cells ∷ rows) (put_row_is width count place row (drop width cells) (omega arith) size rest)
