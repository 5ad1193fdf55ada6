-- An image that was written is read as the start.
use Rattle.std.proofs.Common.{◌≡◌, ℕ, zero, suc, ◌+◌, ◌-◌, ◌*◌, ◌<◌, ◌≤◌, ◌^◌, Bool, true, false, ℤ, List, [], ◌∷◌, ◌++◌, length, map, take, drop, get_or, refl, ap, sym, ◌∙◌, arith, append_assoc, length-append}
use Rattle.std.specs.Prelude.{codes}
use Rattle.std.specs.Int.{w64}
use Rattle.std.specs.Int.RustNames.{FitsSigned}
use Rattle.std.specs.List.{All, AllByRecursion, list_all}
use Rattle.std.proofs.lemmas.Bool.{and_parts, eqb-true}
use Rattle.std.proofs.lemmas.List.{drop-append-le, drop_at, get_or-drop, length-drop, length-map, take-append-le, take_at}
use Rattle.std.proofs.lemmas.List.Elements.{All-head, All-tail, recursion_from_All}
use Rattle.std.proofs.lemmas.Nat.{from_le_bytes-to_le_bytes_8}
use Rattle.sha2.specs.Sha256.{sha256}
use Rattle.sha2.proofs.Facts256.{length-sha256}
use Rattle.vert_base.specs.HeaderBytes.{four_bytes, number_of_four}
use Rattle.vert_base.specs.Truth.{word_of_bool}
use Rattle.vert_base.specs.declared.value.Ruling.{Ruling}
use Rattle.vert_base.specs.declared.value.Ruling.TheVariants.{Stop, Dense, Sparse}
use Rattle.vert_base.specs.declared.value.Row.{Row}
use Rattle.vert_base.specs.declared.value.ValueType.{ValueType}
use Rattle.vert_base.specs.declared.value.ValueType.TheVariants as kind
use Rattle.dep_layout.specs.Judgement.{rows_in, words_in, word_of}
use Rattle.dep_layout.specs.Spelling.{are_typed}
use Rattle.dep_layout.proofs.StateLaws.{row_again}
use Rattle.body_shape.specs.Fit.{number_of}
use Rattle.body_shape.specs.Refresh.{HasFields, IsRow as IsPlainRow, IsWords, PlainRow, plain_row, refresh_body, row_of, rows_read, words_bytes}
use Rattle.body_shape.specs.Tally.{number_bytes}
use Rattle.body_shape.specs.Verdict.{ruling_byte, ruling_with}
use Rattle.body_shape.proofs.RefreshLaws.{refresh_back, refresh_fits}
use Rattle.body_shape.proofs.RowLaws.{words_count}
use Rattle.word_kinds.specs.Fits.{IsRow, IsWord}
use Rattle.value_laws.proofs.Rounds.{append_words}
use Rattle.value_laws.proofs.Words.{truth_word}
use Rattle.work_laws.proofs.Words.{typed_words, words_fit}
use Rattle.chunk_split.specs.Chunks.{vertices_of}
use Rattle.circulant_plan.specs.Skeleton.{Blocks}
use Rattle.symple_face.specs.CoreSight.{told_row}
use Rattle.symple_face.specs.Planned.{has_block}
use Rattle.symple_face.specs.Plans.{blocks_of}
use Rattle.symple_face.specs.Shapes.{types_of}
use Rattle.check_point.specs.Images.{front_bytes, head_in, image_bytes}
use Rattle.check_point.specs.Judgement.{is_mode, row_bits}
use Rattle.check_point.specs.Laws.{ImageReadsBack}
use Rattle.check_point.proofs.ReadyLaws.{GoesOn, bits_of, on_goes_head}
use Rattle.state_laws.proofs.Words.{four_back}

-- ---- parts of bytes
-- what stands behind a front, and a piece that stands there
behind_at : (front behind bytes : List ℕ) (i : ℕ) → bytes ≡ front ++ behind → length front ≡ i → drop i bytes ≡ behind
behind_at front behind bytes i e long = ap (drop i) e ∙ drop_at front behind i long

module _ (front piece behind bytes : List ℕ) (i n : ℕ) where
  piece_at : bytes ≡ front ++ (piece ++ behind) → length front ≡ i → length piece ≡ n →
      take n (drop i bytes) ≡ piece
  piece_at e long size =
      ap (take n) (behind_at front (piece ++ behind) bytes i e long) ∙ take_at piece behind n size

-- ---- numbers
pub length-four : (n : ℕ) → length (four_bytes n) ≡ 4
unfolding four_bytes
length-four n = refl

pub length-eight : (n : ℕ) → length (number_bytes n) ≡ 8
unfolding number_bytes
length-eight n = refl

pub eight_back : (n : ℕ) → n < 2 ^ 64 → number_of (number_bytes n) ≡ n
unfolding number_bytes number_of
eight_back n below = from_le_bytes-to_le_bytes_8 n below

-- ---- the parts of an image
record Cuts (mark key ended ruling active edges count rows totals digest bytes : List ℕ) (r t : ℕ) : Type 0 where
  mark_is : take 4 bytes ≡ mark
  key_is : take 32 (drop 4 bytes) ≡ key
  ended_is : take 4 (drop 36 bytes) ≡ ended
  ruling_is : get_or bytes 40 0 ≡ get_or ruling 0 0
  active_is : take 8 (drop 41 bytes) ≡ active
  edges_is : take 8 (drop 49 bytes) ≡ edges
  count_is : take 4 (drop 57 bytes) ≡ count
  rows_is : drop 61 bytes ≡ rows ++ (totals ++ digest)
  totals_is : drop (61 + r) bytes ≡ totals ++ digest
  front_is : take (61 + r + t) bytes ≡ mark ++ key ++ ended ++ ruling ++ active ++ edges ++ count ++ rows ++ totals
  digest_is : drop (61 + r + t) bytes ≡ digest
  long : length bytes ≡ 61 + r + t + length digest

cuts :
    (mark key ended : List ℕ) (byte : ℕ) (active edges count rows totals digest : List ℕ) (r t : ℕ) →
    length mark ≡ 4 → length key ≡ 32 → length ended ≡ 4 → length active ≡ 8 → length edges ≡ 8 → length count ≡ 4 →
    length rows ≡ r → length totals ≡ t →
    Cuts mark key ended (byte ∷ []) active edges count rows totals digest
    ((mark ++ key ++ ended ++ (byte ∷ []) ++ active ++ edges ++ count ++ rows ++ totals) ++ digest) r t
cuts mark key ended byte active edges count rows totals digest r t lm lk le la lg lc lr lt =
    let h1 : List ℕ = mark ++ key in
    let h2 : List ℕ = h1 ++ ended in
    let h3 : List ℕ = h2 ++ (byte ∷ []) in
    let h4 : List ℕ = h3 ++ active in
    let h5 : List ℕ = h4 ++ edges in
    let h6 : List ℕ = h5 ++ count in
    let h7 : List ℕ = h6 ++ rows in
    let h8 : List ℕ = h7 ++ totals in
    let bytes : List ℕ = h8 ++ digest in
    let b7 : List ℕ = totals ++ digest in
    let b6 : List ℕ = rows ++ b7 in
    let b5 : List ℕ = count ++ b6 in
    let b4 : List ℕ = edges ++ b5 in
    let b3 : List ℕ = active ++ b4 in
    let b2 : List ℕ = (byte ∷ []) ++ b3 in
    let b1 : List ℕ = ended ++ b2 in
    let b0 : List ℕ = key ++ b1 in
    let e7 : bytes ≡ h7 ++ b7 = append_assoc h7 totals digest in
    let e6 : bytes ≡ h6 ++ b6 = e7 ∙ append_assoc h6 rows b7 in
    let e5 : bytes ≡ h5 ++ b5 = e6 ∙ append_assoc h5 count b6 in
    let e4 : bytes ≡ h4 ++ b4 = e5 ∙ append_assoc h4 edges b5 in
    let e3 : bytes ≡ h3 ++ b3 = e4 ∙ append_assoc h3 active b4 in
    let e2 : bytes ≡ h2 ++ b2 = e3 ∙ append_assoc h2 (byte ∷ []) b3 in
    let e1 : bytes ≡ h1 ++ b1 = e2 ∙ append_assoc h1 ended b2 in
    let e0 : bytes ≡ mark ++ b0 = e1 ∙ append_assoc mark key b1 in
    let l1 : length h1 ≡ 36 = omega (arith, length-append mark key, lm, lk) in
    let l2 : length h2 ≡ 40 = omega (arith, length-append h1 ended, l1, le) in
    let l3 : length h3 ≡ 41 = omega (arith, length-append h2 (byte ∷ []), l2) in
    let l4 : length h4 ≡ 49 = omega (arith, length-append h3 active, l3, la) in
    let l5 : length h5 ≡ 57 = omega (arith, length-append h4 edges, l4, lg) in
    let l6 : length h6 ≡ 61 = omega (arith, length-append h5 count, l5, lc) in
    let l7 : length h7 ≡ 61 + r = omega (arith, length-append h6 rows, l6, lr) in
    let l8 : length h8 ≡ 61 + r + t = omega (arith, length-append h7 totals, l7, lt) in
    record {
      mark_is = ap (take 4) e0 ∙ take_at mark b0 4 lm;
      key_is = piece_at mark key b1 bytes 4 32 e0 lm lk;
      ended_is = piece_at h1 ended b2 bytes 36 4 e1 l1 le;
      ruling_is = sym (get_or-drop 40 bytes 0 0) ∙ ap (λ q. get_or q 0 0) (behind_at h2 b2 bytes 40 e2 l2);
      active_is = piece_at h3 active b4 bytes 41 8 e3 l3 la;
      edges_is = piece_at h4 edges b5 bytes 49 8 e4 l4 lg;
      count_is = piece_at h5 count b6 bytes 57 4 e5 l5 lc;
      rows_is = behind_at h6 b6 bytes 61 e6 l6;
      totals_is = behind_at h7 b7 bytes (61 + r) e7 l7;
      front_is = take_at h8 digest (61 + r + t) l8;
      digest_is = drop_at h8 digest (61 + r + t) l8;
      long = omega (arith, length-append h8 digest, l8);
    }

-- ---- rows
-- rows are read from the front of bytes
words_front : (width : ℕ) (bytes rest : List ℕ) → 8 * width ≤ length bytes →
    words_in width (bytes ++ rest) ≡ words_in width bytes
words_front zero bytes rest room = refl
words_front (suc width) bytes rest room =
    let eight : 8 ≤ length bytes = omega arith in
    let left : 8 * width ≤ length (drop 8 bytes) = omega (arith, length-drop 8 bytes) in
    ap (λ front. word_of front ∷ words_in width (drop 8 (bytes ++ rest))) (take-append-le 8 bytes rest eight)
    ∙ ap (λ others. word_of (take 8 bytes) ∷ words_in width others) (drop-append-le 8 bytes rest eight)
    ∙ ap (λ others. word_of (take 8 bytes) ∷ others) (words_front width (drop 8 bytes) rest left)

pub rows_front : (width count : ℕ) (bytes rest : List ℕ) → 8 * width * count ≤ length bytes →
    rows_in width count (bytes ++ rest) ≡ rows_in width count bytes
rows_front width zero bytes rest room = refl
rows_front width (suc count) bytes rest room =
    let one : 8 * width ≤ length bytes = omega arith in
    let left : 8 * width * count ≤ length (drop (8 * width) bytes) = omega (arith, length-drop (8 * width) bytes) in
    ap (λ row. row ∷ rows_in width count (drop (8 * width) (bytes ++ rest))) (words_front width bytes rest one)
    ∙ ap (λ others. words_in width bytes ∷ rows_in width count others) (drop-append-le (8 * width) bytes rest one)
    ∙ ap (λ others. words_in width bytes ∷ others) (rows_front width count (drop (8 * width) bytes) rest left)

-- rows of a program suit the form of a refresh
row_suits : (kinds : List ValueType) (width : ℕ) (row : Row) → width ≡ length kinds → IsRow kinds row →
    IsPlainRow width (bits_of kinds) (plain_row row)
row_suits kinds width row e is =
    let flag : ℤ = word_of_bool row.active in
    let all = append_words kinds kind.Bool row.words.items flag is.count is.words (flag_word row.active) in
    let n = is.count in (
      (is.count ∙ sym e, words_fit kinds row.words.items is.count is.words),
      typed_words (kinds ++ kind.Bool ∷ []) (row.words.items ++ flag ∷ []) all
          (omega (arith, length-append row.words.items (flag ∷ []), length-append kinds (kind.Bool ∷ []), n)),
    )
  where
    flag_word : (b : Bool) → IsWord kind.Bool (word_of_bool b)
    flag_word true = truth_word true
    flag_word false = truth_word false

rows_suit : (kinds : List ValueType) (width : ℕ) (rows : List Row) → width ≡ length kinds → All (IsRow kinds) rows →
    AllByRecursion (IsPlainRow width (bits_of kinds)) (map plain_row rows)
rows_suit kinds width [] e all = tt
rows_suit kinds width (row ∷ rows) e all = (
  row_suits kinds width row e (All-head (IsRow kinds) row rows all),
  rows_suit kinds width rows e (All-tail (IsRow kinds) row rows all),
)

fields_of : (width bits : ℕ) (rows : List PlainRow) → AllByRecursion (IsPlainRow width bits) rows →
    AllByRecursion (HasFields width) rows
fields_of width bits [] all = tt
fields_of width bits (row ∷ rows) all = (all.0.0, fields_of width bits rows all.1)

same_rows : (rows : List Row) → map told_row (map plain_row rows) ≡ rows
same_rows [] = refl
same_rows (row ∷ rows) = ap (λ others. row ∷ others) (same_rows rows)

record RowsBack (kinds : List ValueType) (width count : ℕ) (rows : List Row) (rest : List ℕ) : Type 0 where
  long : length (refresh_body (map plain_row rows)) ≡ 8 * suc width * count
  typed : list_all (are_typed (bits_of kinds))
      (rows_in (suc width) count (refresh_body (map plain_row rows) ++ rest)) ≡ true
  back : map told_row (rows_read width count (refresh_body (map plain_row rows) ++ rest)) ≡ rows

rows_back : (kinds : List ValueType) (width count : ℕ) (rows : List Row) (rest : List ℕ) → width ≡ length kinds →
    length rows ≡ count → All (IsRow kinds) rows → RowsBack kinds width count rows rest
rows_back kinds width count rows rest e many all =
    let plain : List PlainRow = map plain_row rows in
    let body : List ℕ = refresh_body plain in
    let number : length plain ≡ count = length-map rows plain_row ∙ many in
    let suit = rows_suit kinds width rows e all in
    let fit = and_parts _ _ (refresh_fits count width (bits_of kinds) plain (number, suit)) in
    let long : length body ≡ 8 * suc width * count = eqb-true _ _ fit.0 in
    let same : rows_in (suc width) count (body ++ rest) ≡ rows_in (suc width) count body =
    rows_front (suc width) count body rest (omega (arith, long)) in
    record {
      long = long;
      typed = ap (list_all (are_typed (bits_of kinds))) same ∙ fit.1;
      back = ap (λ rs. map told_row (map (row_of width) rs)) same
          ∙ ap (map told_row) (refresh_back count width plain number (fields_of width (bits_of kinds) plain suit))
          ∙ same_rows rows;
    }

-- ---- the ruling
ruling_back : (ruling : Ruling) → ruling_with (ruling_byte ruling) ≡ ruling
ruling_back Stop = refl
ruling_back Dense = refl
ruling_back Sparse = refl

mode_back : (blocks : Blocks) (ruling : Ruling) → has_block blocks ruling ≡ true →
    is_mode blocks (ruling_byte ruling) ≡ true
mode_back blocks Stop e = e
mode_back blocks Dense e = e
mode_back blocks Sparse e = e

pub image_reads_back : ImageReadsBack
image_reads_back whole split key start lk below small is =
    let n : ℕ = vertices_of whole.ends in
    let fields = split.program.program.fields.items in
    let width : ℕ = length fields in
    let count : ℕ = length split.program.program.totals.items in
    let rows : List ℕ = refresh_body (map plain_row start.rows) in
    let totals : List ℕ = words_bytes start.totals in
    let digest : List ℕ = sha256 (front_bytes key start) in
    let bytes : List ℕ = image_bytes key start in
    let again = rows_back (types_of fields) width n start.rows (totals ++ digest)
    (sym (length-map fields (λ d. d.kind))) is.rows is.typed in
    let words : IsWords count start.totals = (is.totals, recursion_from_All (FitsSigned w64) start.totals is.words) in
    let cut : Cuts (codes "SGI1") key (four_bytes (start.round - 1)) (ruling_byte start.ruling ∷ [])
    (number_bytes start.active) (number_bytes start.edges) (four_bytes (length start.rows)) rows totals digest bytes
    (8 * suc width * n) (8 * count) =
    cuts (codes "SGI1") key (four_bytes (start.round - 1)) (ruling_byte start.ruling) (number_bytes start.active)
    (number_bytes start.edges) (four_bytes (length start.rows)) rows totals digest (8 * suc width * n) (8 * count)
    refl lk (length-four (start.round - 1)) (length-eight start.active) (length-eight start.edges)
    (length-four (length start.rows)) again.long (words_count count start.totals words) in
    let ended : (head_in bytes).ended ≡ start.round - 1 =
    ap number_of_four cut.ended_is ∙ four_back (start.round - 1) (omega (arith, below)) in
    let active : (head_in bytes).active ≡ start.active =
    ap number_of cut.active_is ∙ eight_back start.active (omega (arith, is.active)) in
    let edges : (head_in bytes).edges ≡ start.edges =
    ap number_of cut.edges_is ∙ eight_back start.edges (omega (arith, is.edges)) in
    let vertices : (head_in bytes).count ≡ n =
    ap number_of_four cut.count_is ∙ four_back (length start.rows) (omega (arith, is.rows, small)) ∙ is.rows in
    let ruling : (head_in bytes).ruling ≡ ruling_byte start.ruling = cut.ruling_is in
    let round : (head_in bytes).ended + 1 ≡ start.round = omega (arith, ended, is.late) in
    let on : GoesOn (blocks_of split) n (head_in bytes) = record {
      count = vertices;
      late = omega (arith, ended, is.late);
      within = omega (arith, round, is.within);
      mode = ap (is_mode (blocks_of split)) ruling ∙ mode_back (blocks_of split) start.ruling is.block;
      some = omega (arith, active, is.some);
      active = omega (arith, active, is.active);
      edges = omega (arith, edges, is.edges);
    } in
    let rulings : ruling_with (head_in bytes).ruling ≡ start.ruling =
    ap ruling_with ruling ∙ ruling_back start.ruling in
    let told = ap (λ b. map told_row (rows_read width n b)) cut.rows_is ∙ again.back in
    let sums = ap (words_in count) cut.totals_is ∙ row_again count start.totals digest words.0 words.1 in (
      record {
        long = cut.long ∙ ap (λ k. 61 + 8 * suc width * n + 8 * count + k) (length-sha256 (front_bytes key start));
        mark = cut.mark_is;
        digest = cut.digest_is ∙ sym (ap sha256 cut.front_is);
      },
      record {
        key_is = cut.key_is;
        head = on_goes_head (blocks_of split) n (head_in bytes) on;
        rows = ap (λ b. list_all (are_typed (row_bits split)) (rows_in (suc width) n b)) cut.rows_is ∙ again.typed;
      },
      λ i. record {
        round = round i;
        ruling = rulings i;
        active = active i;
        edges = edges i;
        rows = told i;
        totals = sums i;
      },
    )
