-- The laws of refreshes.
use Rattle.std.proofs.Common.{◌≡◌, ℕ, zero, suc, ◌+◌, ◌*◌, ◌/◌, ◌%◌, eqb, ℤ, pos, negsuc, Bool, true, false, ◌||◌, not, List, [], ◌∷◌, ◌++◌, length, map, take, drop, refl, sym, ap, ◌∙◌, lit<, arith}
use Rattle.std.specs.Int.{w64}
use Rattle.std.specs.Int.RustNames.{FitsSigned}
use Rattle.std.specs.List.{AllByRecursion, list_all}
use Rattle.std.proofs.lemmas.Bool.{and_parts, and_from, eqb-true, eq-eqb, ltb-true}
use Rattle.std.proofs.lemmas.List.{length-append, length-map, map-append}
use Rattle.std.proofs.lemmas.List.Concat.{flat_map-append}
use Rattle.dep_layout.specs.Spelling.{is_bool, suits, are_typed}
use Rattle.dep_layout.specs.Judgement.{words_in, rows_in}
use Rattle.dep_layout.proofs.StateLaws.{past_row}
use borrow.Author.Rules.{sfits_of}
use Rattle.vert_base.specs.declared.value.ValueType.TheVariants as kind
use Rattle.dep_layout.proofs.SpellingLaws.{below_from_All}
use Rattle.body_shape.specs.Shapes.{bool_bits}
use Rattle.body_shape.specs.Refresh.{IsWords, HasFields, words_bytes, rows_bytes, PlainRow, row_words, refresh_body, flag_at, row_of, IsRow, is_flagged, RefreshReadsBack, RefreshInPlace, RefreshGrows, FormIsFlagged, RefreshFits, RefreshSuits, RefreshIsSpelled}
use Rattle.vert_base.specs.Truth.{word_of_bool, is_set}
use Rattle.body_shape.proofs.RowLaws.{rows_whole, length-rows_bytes, bytes_whole, length-rows_in, each-rows_in}

bool_again : (b : Bool) → is_set (word_of_bool b) ≡ b
bool_again false = refl
bool_again true = refl

fits-bool : (b : Bool) → FitsSigned w64 (word_of_bool b)
fits-bool false = sfits_of (lit< tt)
fits-bool true = sfits_of (lit< tt)

Bool_no : false ≡ true → ⊥
Bool_no e = cc

-- a word that is a Bool is that of its truth
word_again : (word : ℤ) → is_bool word ≡ true → word_of_bool (is_set word) ≡ word
word_again (pos zero) e = refl
word_again (pos (suc zero)) e = refl
word_again (pos (suc (suc n))) e = absurd (omega (arith, ltb-true (suc (suc n)) 2 e))
word_again (negsuc n) e = absurd (Bool_no e)

-- ---- a row and its words

more_fits : (fields : List ℤ) (b : Bool) → AllByRecursion (FitsSigned w64) fields →
    AllByRecursion (FitsSigned w64) (fields ++ word_of_bool b ∷ [])
more_fits [] b fits = (fits-bool b, tt)
more_fits (field ∷ fields) b fits = (fits.0, more_fits fields b fits.1)

row_is_words : (width : ℕ) (row : PlainRow) → HasFields width row → IsWords (suc width) (row_words row)
row_is_words width row is = (
  length-append row.fields (word_of_bool row.active ∷ []) ∙ omega (arith, is.0),
  more_fits row.fields row.active is.1,
)

take_fields : (width : ℕ) (fields rest : List ℤ) → length fields ≡ width → take width (fields ++ rest) ≡ fields
take_fields zero [] rest e = refl
take_fields (suc width) [] rest e = absurd (omega arith)
take_fields zero (field ∷ fields) rest e = absurd (omega arith)
take_fields (suc width) (field ∷ fields) rest e = ap (λ others. field ∷ others)
    (take_fields width fields rest (omega arith))

flag_behind : (width : ℕ) (fields : List ℤ) (b : Bool) → length fields ≡ width →
    flag_at width (fields ++ word_of_bool b ∷ []) ≡ b
flag_behind zero [] b e = bool_again b
flag_behind (suc width) [] b e = absurd (omega arith)
flag_behind zero (field ∷ fields) b e = absurd (omega arith)
flag_behind (suc width) (field ∷ fields) b e = flag_behind width fields b (omega arith)

row_again : (width : ℕ) (row : PlainRow) → length row.fields ≡ width → row_of width (row_words row) ≡ row
row_again width row e =
    ap (λ fs. record { fields = fs; active = flag_at width (row_words row) })
    (take_fields width row.fields (word_of_bool row.active ∷ []) e)
    ∙ ap (λ b. record { fields = row.fields; active = b }) (flag_behind width row.fields row.active e)

must_be : (bools : ℕ) (word : ℤ) → not (eqb (bools % 2) 0) ≡ true → suits bools word ≡ true → is_bool word ≡ true
must_be bools word flagged suit = pick (eqb (bools % 2) 0) (is_bool word) flagged suit
  where
    pick : (a b : Bool) → not a ≡ true → (a || b) ≡ true → b ≡ true
    pick true b f s = absurd (cc)
    pick false b f s = s

-- words of which the last is a Bool are those of their row
words_again : (width bools : ℕ) (words : List ℤ) → length words ≡ suc width → is_flagged width bools ≡ true →
    are_typed bools words ≡ true →
    row_words (row_of width words) ≡ words
words_again width bools [] e flagged typed = absurd (omega arith)
words_again zero bools (word ∷ []) e flagged typed =
    ap (λ w. w ∷ []) (word_again word (must_be bools word flagged (and_parts (suits bools word) true typed).0))
words_again zero bools (word ∷ other ∷ words) e flagged typed = absurd (omega arith)
words_again (suc width) bools (word ∷ words) e flagged typed =
    ap (λ others. word ∷ others)
    (words_again width (bools / 2) words (omega arith) flagged
    (and_parts (suits bools word) (are_typed (bools / 2) words) typed).1)

take_fits : (width : ℕ) (words : List ℤ) → AllByRecursion (FitsSigned w64) words →
    AllByRecursion (FitsSigned w64) (take width words)
take_fits zero words fits = tt
take_fits (suc width) [] fits = tt
take_fits (suc width) (word ∷ words) fits = (fits.0, take_fits width words fits.1)

take_count : (width : ℕ) (words : List ℤ) → length words ≡ suc width → length (take width words) ≡ width
take_count zero words e = refl
take_count (suc width) [] e = absurd (omega arith)
take_count (suc width) (word ∷ words) e = ap suc (take_count width words (omega arith))

-- ---- rows

all_words : (width : ℕ) (rows : List PlainRow) → AllByRecursion (HasFields width) rows →
    AllByRecursion (IsWords (suc width)) (map row_words rows)
all_words width [] each = tt
all_words width (row ∷ rows) each = (row_is_words width row each.0, all_words width rows each.1)

all_again : (width : ℕ) (rows : List PlainRow) → AllByRecursion (HasFields width) rows →
    map (row_of width) (map row_words rows) ≡ rows
all_again width [] each = refl
all_again width (row ∷ rows) each =
    ap (λ r. r ∷ map (row_of width) (map row_words rows)) (row_again width row each.0.0)
    ∙ ap (λ rs. row ∷ rs) (all_again width rows each.1)

all_fields : (width bools : ℕ) (rows : List PlainRow) → AllByRecursion (IsRow width bools) rows →
    AllByRecursion (HasFields width) rows
all_fields width bools [] each = tt
all_fields width bools (row ∷ rows) each = (each.0.0, all_fields width bools rows each.1)

all_typed : (width bools : ℕ) (rows : List PlainRow) → AllByRecursion (IsRow width bools) rows →
    list_all (are_typed bools) (map row_words rows) ≡ true
all_typed width bools [] each = refl
all_typed width bools (row ∷ rows) each = and_from _ _ each.0.1 (all_typed width bools rows each.1)

words_back : (width bools : ℕ) (rows : List (List ℤ)) → is_flagged width bools ≡ true →
    AllByRecursion (IsWords (suc width)) rows → list_all (are_typed bools) rows ≡ true →
    map row_words (map (row_of width) rows) ≡ rows
words_back width bools [] flagged each typed = refl
words_back width bools (row ∷ rows) flagged each typed =
    let parts = and_parts (are_typed bools row) (list_all (are_typed bools) rows) typed in
    ap (λ r. r ∷ map row_words (map (row_of width) rows)) (words_again width bools row each.0.0 flagged parts.0)
    ∙ ap (λ rs. row ∷ rs) (words_back width bools rows flagged each.1 parts.1)

rows_suit : (width bools : ℕ) (rows : List (List ℤ)) → is_flagged width bools ≡ true →
    AllByRecursion (IsWords (suc width)) rows → list_all (are_typed bools) rows ≡ true →
    AllByRecursion (IsRow width bools) (map (row_of width) rows)
rows_suit width bools [] flagged each typed = tt
rows_suit width bools (row ∷ rows) flagged each typed =
    let parts = and_parts (are_typed bools row) (list_all (are_typed bools) rows) typed in
    let same = words_again width bools row each.0.0 flagged parts.0 in (
      ((take_count width row each.0.0, take_fits width row each.0.1), ap (are_typed bools) same ∙ parts.0),
      rows_suit width bools rows flagged each.1 parts.1,
    )

-- ---- the laws

pub refresh_back : RefreshReadsBack
refresh_back count width rows many each =
    ap (map (row_of width)) (rows_whole (suc width) count (map row_words rows) (length-map rows row_words ∙ many)
    (all_words width rows each))
    ∙ all_again width rows each

pub refresh_in_place : RefreshInPlace
refresh_in_place zero width i body d within = absurd (omega arith)
refresh_in_place (suc count) width zero body d within =
    let e : 8 * suc width * 0 ≡ 0 = omega arith in
    ap (λ k. row_of width (words_in (suc width) (drop k body))) (sym e)
refresh_in_place (suc count) width (suc i) body d within =
    refresh_in_place count width i (drop (8 * suc width) body) d (omega arith)
    ∙ ap (λ bytes. row_of width (words_in (suc width) bytes)) (sym (past_row (suc width) i body))

pub refresh_grows : RefreshGrows
refresh_grows rows more =
    ap rows_bytes (map-append row_words rows more)
    ∙ flat_map-append words_bytes (map row_words rows) (map row_words more)

pub refresh_fits : RefreshFits
refresh_fits count width bools rows suit =
    let each = all_words width rows (all_fields width bools rows suit.1) in
    let many : length (map row_words rows) ≡ count = length-map rows row_words ∙ suit.0 in
    let long : length (refresh_body rows) ≡ 8 * suc width * count =
    length-rows_bytes (suc width) (map row_words rows) each ∙ ap (λ n. 8 * suc width * n) many in
    and_from _ _ (eq-eqb _ _ long)
    (ap (list_all (are_typed bools)) (rows_whole (suc width) count (map row_words rows) many each)
    ∙ all_typed width bools rows suit.1)

pub refresh_suits : RefreshSuits
refresh_suits count width bools body flagged fit =
    let rows = rows_in (suc width) count body in
    let parts = and_parts _ _ fit in (
      length-map (rows_in (suc width) count body) (row_of width) ∙ length-rows_in (suc width) count body,
      rows_suit width bools (rows_in (suc width) count body) flagged (each-rows_in (suc width) count body) parts.1,
    )

pub refresh_spelled : RefreshIsSpelled
refresh_spelled count width bools body bytes flagged fit =
    let parts = and_parts _ _ fit in
    ap rows_bytes (words_back width bools (rows_in (suc width) count body) flagged
    (each-rows_in (suc width) count body) parts.1)
    ∙ bytes_whole (suc width) count body (eqb-true _ _ parts.0) (below_from_All body bytes)

pub form_flagged : FormIsFlagged
form_flagged [] = refl
form_flagged (kind.Int ∷ types) =
    let half : 2 * bool_bits (types ++ kind.Bool ∷ []) / 2 ≡ bool_bits (types ++ kind.Bool ∷ []) = omega arith in
    ap (is_flagged (length types)) half ∙ form_flagged types
form_flagged (kind.Bool ∷ types) =
    let half : (1 + 2 * bool_bits (types ++ kind.Bool ∷ [])) / 2 ≡ bool_bits (types ++ kind.Bool ∷ []) = omega arith in
    ap (is_flagged (length types)) half ∙ form_flagged types
