-- What is written, one row or one word more.
use Rattle.std.proofs.Common.{◌≡◌, ℕ, ◌+◌, ◌<◌, List, [], ◌∷◌, ◌++◌, ℤ, length, map, take, get_or, ap, ◌∙◌, append-nil}
use Rattle.std.proofs.lemmas.Grind.{flat_map-append}
use Rattle.std.proofs.lemmas.List.{map-append, take_more}
use Rattle.vert_base.specs.declared.value.Row.{Row}
use Rattle.dep_layout.specs.Spelling.{word_bytes}
use Rattle.body_shape.specs.Refresh.{plain_row, refresh_body, row_bytes, words_bytes}
use Rattle.body_shape.proofs.RefreshLaws.{refresh_grows}

pub rows_more : (rows : List Row) (i : ℕ) (d : Row) → i < length rows →
    refresh_body (map plain_row (take (i + 1) rows))
    ≡ refresh_body (map plain_row (take i rows)) ++ row_bytes (plain_row (get_or rows i d))
rows_more rows i d below =
    ap (λ rs. refresh_body (map plain_row rs)) (take_more rows i d below)
    ∙ ap refresh_body (map-append plain_row (take i rows) (get_or rows i d ∷ []))
    ∙ refresh_grows (map plain_row (take i rows)) (plain_row (get_or rows i d) ∷ [])
    ∙ ap (λ (t : List ℕ). refresh_body (map plain_row (take i rows)) ++ t)
    (append-nil (row_bytes (plain_row (get_or rows i d))))

pub words_more : (words : List ℤ) (i : ℕ) (d : ℤ) → i < length words →
    words_bytes (take (i + 1) words) ≡ words_bytes (take i words) ++ words_bytes (get_or words i d ∷ [])
words_more words i d below =
    ap words_bytes (take_more words i d below) ∙ flat_map-append word_bytes (take i words) (get_or words i d ∷ [])
