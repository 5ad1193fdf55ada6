-- What is read, one row more, and the numbers of an image that is a run's own.
use Rattle.std.proofs.Common.{◌≡◌, ℕ, suc, ◌+◌, ◌*◌, ◌<◌, ◌≤◌, false, List, [], ◌∷◌, ◌++◌, length, map, take, drop, ap, ◌∙◌, arith}
use Rattle.std.proofs.lemmas.List.{length-drop, length-map, take_more, get_or-map}
use Rattle.vert_base.specs.declared.value.Row.{Row}
use Rattle.body_shape.specs.Refresh.{PlainRow, row_at, row_of, rows_read}
use Rattle.body_shape.proofs.RefreshLaws.{refresh_in_place}
use Rattle.body_shape.proofs.RowLaws.{length-rows_in}
use Rattle.dep_layout.specs.Judgement.{rows_in}
use Rattle.symple_face.specs.CoreSight.{told_row}

pub rows_count : (width count : ℕ) (body : List ℕ) → length (rows_read width count body) ≡ count
rows_count width count body =
    length-map (rows_in (suc width) count body) (row_of width) ∙ length-rows_in (suc width) count body

-- one row more
pub told_more : (width count i : ℕ) (body : List ℕ) → i < count →
    take (i + 1) (map told_row (rows_read width count body))
    ≡ take i (map told_row (rows_read width count body)) ++ told_row (row_at width i body) ∷ []
told_more width count i body below =
    let none : PlainRow = record { fields = []; active = false } in
    let rows : List PlainRow = rows_read width count body in
    let within : i < length rows = omega (arith, below, rows_count width count body) in
    let some : i < length (map told_row rows) = omega (arith, within, length-map rows told_row) in
    take_more (map told_row rows) i (told_row none) some
    ∙ ap (λ (r : Row). take i (map told_row rows) ++ r ∷ [])
    (get_or-map told_row rows i none (told_row none) within
    ∙ ap told_row (refresh_in_place count width i body none below))

-- the rows stand behind the head
pub rows_there : (rows totals : ℕ) (bytes behind : List ℕ) → length bytes ≡ 61 + rows + 8 * totals + 32 →
    behind ≡ drop 61 bytes → rows ≤ length behind
rows_there rows totals bytes behind long is = omega (arith, long, ap length is, length-drop 61 bytes)
