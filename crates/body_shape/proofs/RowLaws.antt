-- Rows of words as bytes, and back.
use Rattle.std.proofs.Common.{◌≡◌, ℕ, zero, suc, ◌+◌, ◌*◌, ◌≤◌, ℤ, List, [], ◌∷◌, ◌++◌, length, drop, refl, sym, ap, ◌∙◌, arith}
use Rattle.std.specs.List.{AllByRecursion}
use Rattle.std.proofs.lemmas.List.{append_assoc, append-nil, length-append, length-drop, drop_all}
use Rattle.dep_layout.specs.Judgement.{words_in, rows_in}
use Rattle.dep_layout.proofs.WordLaws.{AreBelow, drop_below, bytes-words_in, length-words_bytes, length-words_in, fits-words_in}
use Rattle.dep_layout.proofs.StateLaws.{past_row, row_again, row_past}
use Rattle.body_shape.specs.Refresh.{IsWords, words_bytes, rows_bytes}

-- rows are read from the bytes that they spell
pub rows_again : (width : ℕ) (rows : List (List ℤ)) (rest : List ℕ) → AllByRecursion (IsWords width) rows →
    rows_in width (length rows) (rows_bytes rows ++ rest) ≡ rows
rows_again width [] rest each = refl
rows_again width (row ∷ rows) rest each =
    let front = words_bytes row in
    let behind = rows_bytes rows in
    let n = length rows in
    ap (λ bytes. words_in width bytes ∷ rows_in width n (drop (8 * width) bytes)) (append_assoc front behind rest)
    ∙ ap (λ first. first ∷ rows_in width n (drop (8 * width) (front ++ (behind ++ rest))))
    (row_again width row (behind ++ rest) each.0.0 each.0.1)
    ∙ ap (λ bytes. row ∷ rows_in width n bytes) (row_past width row (behind ++ rest) each.0.0)
    ∙ ap (λ others. row ∷ others) (rows_again width rows rest each.1)

pub rows_whole : (width count : ℕ) (rows : List (List ℤ)) → length rows ≡ count → AllByRecursion (IsWords width) rows →
    rows_in width count (rows_bytes rows) ≡ rows
rows_whole width count rows many each =
    ap (λ bytes. rows_in width count bytes) (sym (append-nil (rows_bytes rows)))
    ∙ ap (λ n. rows_in width n (rows_bytes rows ++ [])) (sym many)
    ∙ rows_again width rows [] each

pub length-rows_bytes : (width : ℕ) (rows : List (List ℤ)) → AllByRecursion (IsWords width) rows →
    length (rows_bytes rows) ≡ 8 * width * length rows
length-rows_bytes width [] each = omega arith
length-rows_bytes width (row ∷ rows) each =
    let first : length (words_bytes row) ≡ 8 * width = length-words_bytes row ∙ ap (λ n. 8 * n) each.0.0 in
    length-append (words_bytes row) (rows_bytes rows)
    ∙ more width (length rows) _ _ first (length-rows_bytes width rows each.1)
  where
    more : (width n a b : ℕ) → a ≡ 8 * width → b ≡ 8 * width * n → a + b ≡ 8 * width * suc n
    more width n a b e f = omega arith

-- the rows that are read spell the bytes that were read
pub bytes-rows_in : (width n : ℕ) (bytes : List ℕ) → 8 * width * n ≤ length bytes → AreBelow bytes →
    rows_bytes (rows_in width n bytes) ++ drop (8 * width * n) bytes ≡ bytes
bytes-rows_in width zero bytes room fits =
    let e : 8 * width * 0 ≡ 0 = omega arith in
    ap (λ k. drop k bytes) e
bytes-rows_in width (suc n) bytes room fits =
    let row = words_bytes (words_in width bytes) in
    let rest = rows_bytes (rows_in width n (drop (8 * width) bytes)) in
    let left = drop (8 * width * n) (drop (8 * width) bytes) in
    let first : 8 * width ≤ length bytes = omega arith in
    let others : 8 * width * n ≤ length (drop (8 * width) bytes) = omega (arith, length-drop (8 * width) bytes) in
    ap (λ end. (row ++ rest) ++ end) (past_row width n bytes)
    ∙ append_assoc row rest left
    ∙ ap (λ end. row ++ end) (bytes-rows_in width n (drop (8 * width) bytes) others (drop_below (8 * width) bytes fits))
    ∙ bytes-words_in width bytes first fits

-- rows that take all the bytes spell them
pub bytes_whole : (width n : ℕ) (bytes : List ℕ) → length bytes ≡ 8 * width * n → AreBelow bytes →
    rows_bytes (rows_in width n bytes) ≡ bytes
bytes_whole width n bytes count fits =
    sym (append-nil (rows_bytes (rows_in width n bytes)))
    ∙ ap (λ end. rows_bytes (rows_in width n bytes) ++ end)
    (sym (drop_all (8 * width * n) bytes (omega (arith, count))))
    ∙ bytes-rows_in width n bytes (omega (arith, count)) fits

pub length-rows_in : (width n : ℕ) (bytes : List ℕ) → length (rows_in width n bytes) ≡ n
length-rows_in width zero bytes = refl
length-rows_in width (suc n) bytes = ap suc (length-rows_in width n (drop (8 * width) bytes))

pub each-rows_in : (width n : ℕ) (bytes : List ℕ) → AllByRecursion (IsWords width) (rows_in width n bytes)
each-rows_in width zero bytes = tt
each-rows_in width (suc n) bytes =
    ((length-words_in width bytes, fits-words_in width bytes), each-rows_in width n (drop (8 * width) bytes))

-- words that take all the bytes
pub words_whole : (count : ℕ) (words : List ℤ) → IsWords count words → words_in count (words_bytes words) ≡ words
words_whole count words is = ap (words_in count) (sym (append-nil (words_bytes words)))
    ∙ row_again count words [] is.0 is.1

pub words_spelled : (count : ℕ) (bytes : List ℕ) → length bytes ≡ 8 * count → AreBelow bytes →
    words_bytes (words_in count bytes) ≡ bytes
words_spelled count bytes long fits =
    sym (append-nil (words_bytes (words_in count bytes)))
    ∙ ap (λ end. words_bytes (words_in count bytes) ++ end) (sym (drop_all (8 * count) bytes (omega (arith, long))))
    ∙ bytes-words_in count bytes (omega (arith, long)) fits

pub are_words_in : (count : ℕ) (bytes : List ℕ) → IsWords count (words_in count bytes)
are_words_in count bytes = (length-words_in count bytes, fits-words_in count bytes)

pub words_count : (count : ℕ) (words : List ℤ) → IsWords count words → length (words_bytes words) ≡ 8 * count
words_count count words is = length-words_bytes words ∙ ap (λ n. 8 * n) is.0
