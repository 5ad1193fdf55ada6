-- Bytes that are accepted are the image of the start that is read.
use Rattle.std.proofs.Common.{◌≡◌, ℕ, zero, suc, ◌+◌, ◌-◌, ◌*◌, ◌<◌, ◌≤◌, true, List, [], ◌∷◌, ◌++◌, length, map, take, drop, get_or, refl, ap, sym, ◌∙◌, arith, append_assoc, length-append}
use Rattle.std.specs.Prelude.{codes}
use Rattle.std.specs.List.{list_all}
use Rattle.std.proofs.lemmas.Bool.{and_from, eq-eqb}
use Rattle.std.proofs.lemmas.List.{drop-drop, drop_more, length-drop, length-map, length-take-le, take-append-drop, take_at}
use Rattle.std.proofs.lemmas.List.Elements.{All-drop, All-take}
use Rattle.std.proofs.lemmas.Nat.{le_bytes_8}
use Rattle.sha2.specs.Sha256.{sha256}
use Rattle.vert_base.specs.HeaderBytes.{four_bytes, number_of_four}
use Rattle.dep_layout.specs.Laws.{AreBytes}
use Rattle.dep_layout.specs.Judgement.{rows_in}
use Rattle.dep_layout.specs.Spelling.{are_typed}
use Rattle.dep_layout.proofs.SpellingLaws.{below_from_All}
use Rattle.dep_layout.proofs.WordLaws.{AreBelow, bytes-words_in, drop_below, take_below}
use Rattle.body_shape.specs.Fit.{are_rows, number_of}
use Rattle.body_shape.specs.Refresh.{PlainRow, is_flagged, plain_row, refresh_body, row_of, rows_read, words_bytes}
use Rattle.body_shape.specs.Tally.{number_bytes}
use Rattle.body_shape.specs.Verdict.{ruling_byte, ruling_with}
use Rattle.body_shape.proofs.RefreshLaws.{form_flagged, refresh_spelled}
use Rattle.circulant_plan.specs.Skeleton.{Blocks}
use Rattle.instrument.specs.declared.split.Split.{Split}
use Rattle.symple_face.specs.CoreSight.{told_row}
use Rattle.symple_face.specs.Plans.{blocks_of}
use Rattle.symple_face.specs.Shapes.{types_of}
use Rattle.symple_face.specs.Work.{PlainStart}
use Rattle.check_point.specs.Images.{front_bytes, front_len, head_in, image_bytes}
use Rattle.check_point.specs.Judgement.{IsOwn, IsWholeOf, is_mode, row_bits}
use Rattle.check_point.specs.Laws.{StartIsSpelled, told_start}
use Rattle.check_point.proofs.BackLaws.{rows_front}
use Rattle.check_point.proofs.ReadLaws.{rows_count}
use Rattle.check_point.proofs.ReadyLaws.{GoesOn, head_goes_on}
use Rattle.state_laws.proofs.Words.{four_again}

-- ---- the pieces of bytes, joined again
piece : (width place : ℕ) (bytes : List ℕ) → take width (drop place bytes) ++ drop (place + width) bytes
    ≡ drop place bytes
piece width place bytes =
    ap (λ behind. take width (drop place bytes) ++ behind) (sym (drop-drop width place bytes))
    ∙ take-append-drop width (drop place bytes)

length-piece : (width place : ℕ) (bytes : List ℕ) → place + width ≤ length bytes →
    length (take width (drop place bytes)) ≡ width
length-piece width place bytes room =
    length-take-le width (drop place bytes) (omega (arith, length-drop place bytes, room))

bytes_of_eight : (bytes : List ℕ) → length bytes ≡ 8 → AreBelow bytes → number_bytes (number_of bytes) ≡ bytes
unfolding number_bytes number_of
bytes_of_eight bytes count fits = le_bytes_8 bytes _ count fits refl

four_piece : (place : ℕ) (bytes : List ℕ) → place + 4 ≤ length bytes → AreBelow bytes →
    four_bytes (number_of_four (take 4 (drop place bytes))) ++ drop (place + 4) bytes ≡ drop place bytes
four_piece place bytes room fits =
    ap (λ four. four ++ drop (place + 4) bytes)
    (four_again (take 4 (drop place bytes)) (length-piece 4 place bytes room)
    (take_below 4 (drop place bytes) (drop_below place bytes fits)))
    ∙ piece 4 place bytes

eight_piece : (place : ℕ) (bytes : List ℕ) → place + 8 ≤ length bytes → AreBelow bytes →
    number_bytes (number_of (take 8 (drop place bytes))) ++ drop (place + 8) bytes ≡ drop place bytes
eight_piece place bytes room fits =
    ap (λ eight. eight ++ drop (place + 8) bytes)
    (bytes_of_eight (take 8 (drop place bytes)) (length-piece 8 place bytes room)
    (take_below 8 (drop place bytes) (drop_below place bytes fits)))
    ∙ piece 8 place bytes

byte_piece : (place : ℕ) (bytes : List ℕ) → place < length bytes →
    get_or bytes place 0 ∷ drop (place + 1) bytes ≡ drop place bytes
byte_piece place bytes room = sym (drop_more bytes place 0 room)

-- ---- the ruling and the rows
-- a byte that stands for a mode is that of its ruling
mode_again : (blocks : Blocks) (byte : ℕ) → is_mode blocks byte ≡ true → ruling_byte (ruling_with byte) ≡ byte
mode_again blocks zero e = refl
mode_again blocks (suc zero) e = refl
mode_again blocks (suc (suc zero)) e = refl
mode_again blocks (suc (suc (suc n))) e = absurd (cc)

same_rows : (rows : List PlainRow) → map plain_row (map told_row rows) ≡ rows
same_rows [] = refl
same_rows (row ∷ rows) = ap (λ others. row ∷ others) (same_rows rows)

-- rows are read from their own bytes alone
rows_taken : (width count : ℕ) (bytes : List ℕ) → 8 * width * count ≤ length bytes →
    rows_in width count (take (8 * width * count) bytes) ≡ rows_in width count bytes
rows_taken width count bytes room =
    let many = 8 * width * count in
    let long : length (take (8 * width * count) bytes) ≡ 8 * width * count =
    length-take-le (8 * width * count) bytes room in
    sym (rows_front width count (take many bytes) (drop many bytes) (omega (arith, long)))
    ∙ ap (rows_in width count) (take-append-drop many bytes)

-- the pieces of an image one by one, and what stands behind it
module _ (mark key ended : List ℕ) (ruling : ℕ) (active edges count rows totals rest : List ℕ) where
  regrouped : ((mark ++ key ++ ended ++ (ruling ∷ []) ++ active ++ edges ++ count ++ rows ++ totals) ++ rest) ≡
      mark ++ (key ++ (ended ++ (ruling ∷ (active ++ (edges ++ (count ++ (rows ++ (totals ++ rest))))))))
  regrouped = simp append_assoc refl

module _ (split : Split) (n : ℕ) (key bytes : List ℕ) (clean : AreBytes bytes) (whole : IsWholeOf split n bytes)
    (own : IsOwn split n key bytes) where
  abbrev fields : ℕ
  fields = length split.program.program.fields.items

  abbrev totals : ℕ
  totals = length split.program.program.totals.items

  abbrev rows_len : ℕ
  rows_len = 8 * suc fields * n

  abbrev most : ℕ
  most = front_len fields n totals

  abbrev told : PlainStart
  told = told_start split n bytes

  below : AreBelow bytes
  below = below_from_All bytes clean

  head : GoesOn (blocks_of split) n (head_in bytes)
  head = head_goes_on (blocks_of split) n (head_in bytes) own.head

  size : 61 + rows_len + 8 * totals ≤ length bytes
  size = let long = whole.long in omega (arith, long)

  room : 61 ≤ length bytes
  room = omega (arith, size)

  rows_piece : refresh_body (map plain_row told.rows) ++ drop (61 + rows_len) bytes ≡ drop 61 bytes
  rows_piece =
      let IsByte : ℕ → Type 0 = λ b. b < 256 in
      let types = types_of split.program.program.fields.items in
      let behind : List ℕ = drop 61 bytes in
      let body : List ℕ = take rows_len behind in
      let enough : rows_len ≤ length (drop 61 bytes) = omega (arith, size, length-drop 61 bytes) in
      let same = rows_taken (suc fields) n behind enough in
      let long : length (take rows_len (drop 61 bytes)) ≡ rows_len = length-take-le rows_len (drop 61 bytes) enough in
      let flagged : is_flagged fields (row_bits split) ≡ true =
      ap (λ k. is_flagged k (row_bits split)) (sym (length-map split.program.program.fields.items (λ d. d.kind)))
      ∙ form_flagged types in
      let fit : are_rows n (suc fields) (row_bits split) body ≡ true =
      and_from _ _ (eq-eqb _ _ long) (ap (list_all (are_typed (row_bits split))) same ∙ own.rows) in
      let part = All-take IsByte rows_len behind (All-drop IsByte 61 bytes clean) in
      let spelled =
      ap refresh_body (same_rows (rows_read fields n behind))
      ∙ ap (λ rows. refresh_body (map (row_of fields) rows)) (sym same)
      ∙ refresh_spelled n fields (row_bits split) body part flagged fit in
      ap (λ rows. rows ++ drop (61 + rows_len) bytes) spelled ∙ piece rows_len 61 bytes

  totals_piece : words_bytes told.totals ++ drop most bytes ≡ drop (61 + rows_len) bytes
  totals_piece =
      let place = 61 + rows_len in
      let enough : 8 * totals ≤ length (drop (61 + rows_len) bytes) =
      omega (arith, size, length-drop (61 + rows_len) bytes) in
      ap (λ rest. words_bytes told.totals ++ rest) (sym (drop-drop (8 * totals) place bytes))
      ∙ bytes-words_in totals (drop place bytes) enough (drop_below place bytes below)

  count_piece : four_bytes (length told.rows) ++ drop 61 bytes ≡ drop 57 bytes
  count_piece =
      let many =
      length-map (rows_read fields n (drop 61 bytes)) told_row ∙ rows_count fields n (drop 61 bytes) ∙ sym head.count in
      ap (λ k. four_bytes k ++ drop 61 bytes) many ∙ four_piece 57 bytes room below

  edges_piece : number_bytes told.edges ++ drop 57 bytes ≡ drop 49 bytes
  edges_piece = eight_piece 49 bytes (omega (arith, room)) below

  active_piece : number_bytes told.active ++ drop 49 bytes ≡ drop 41 bytes
  active_piece = eight_piece 41 bytes (omega (arith, room)) below

  ruling_piece : ruling_byte told.ruling ∷ drop 41 bytes ≡ drop 40 bytes
  ruling_piece =
      ap (λ b. b ∷ drop 41 bytes) (mode_again (blocks_of split) (head_in bytes).ruling head.mode)
      ∙ byte_piece 40 bytes (omega (arith, room))

  ended_piece : four_bytes (told.round - 1) ++ drop 40 bytes ≡ drop 36 bytes
  ended_piece =
      let same : told.round - 1 ≡ (head_in bytes).ended = omega arith in
      ap (λ k. four_bytes k ++ drop 40 bytes) same ∙ four_piece 36 bytes (omega (arith, room)) below

  key_piece : key ++ drop 36 bytes ≡ drop 4 bytes
  key_piece = ap (λ k. k ++ drop 36 bytes) (sym own.key_is) ∙ piece 32 4 bytes

  mark_piece : codes "SGI1" ++ drop 4 bytes ≡ bytes
  mark_piece = ap (λ m. m ++ drop 4 bytes) (sym whole.mark) ∙ take-append-drop 4 bytes

  front_piece : front_bytes key told ++ drop most bytes ≡ bytes
  front_piece =
      let ended = four_bytes (told.round - 1) in
      let ruling = ruling_byte told.ruling in
      let active = number_bytes told.active in
      let edges = number_bytes told.edges in
      let count = four_bytes (length told.rows) in
      let rows = refresh_body (map plain_row told.rows) in
      let mark = codes "SGI1" in
      regrouped mark key ended ruling active edges count rows (words_bytes told.totals) (drop most bytes)
      ∙ ap (λ t. mark ++ (key ++ (ended ++ (ruling ∷ (active ++ (edges ++ (count ++ (rows ++ t)))))))) totals_piece
      ∙ ap (λ t. mark ++ (key ++ (ended ++ (ruling ∷ (active ++ (edges ++ (count ++ t))))))) rows_piece
      ∙ ap (λ t. mark ++ (key ++ (ended ++ (ruling ∷ (active ++ (edges ++ t)))))) count_piece
      ∙ ap (λ t. mark ++ (key ++ (ended ++ (ruling ∷ (active ++ t))))) edges_piece
      ∙ ap (λ t. mark ++ (key ++ (ended ++ (ruling ∷ t)))) active_piece
      ∙ ap (λ t. mark ++ (key ++ (ended ++ t))) ruling_piece
      ∙ ap (λ t. mark ++ (key ++ t)) ended_piece
      ∙ ap (λ t. mark ++ t) key_piece
      ∙ mark_piece

  front_is : front_bytes key told ≡ take most bytes
  front_is =
      let front : List ℕ = front_bytes key told in
      let long : length (front_bytes key told) ≡ most =
      omega (
        arith,
        ap length front_piece,
        length-append (front_bytes key told) (drop most bytes),
        length-drop most bytes,
        size,
      ) in
      sym (take_at front (drop most bytes) most long) ∙ ap (take most) front_piece

  all_is : image_bytes key told ≡ bytes
  all_is =
      ap (λ d. front_bytes key told ++ d) (ap sha256 front_is ∙ sym whole.digest) ∙ front_piece

pub start_is_spelled : StartIsSpelled
start_is_spelled split n key bytes clean whole own = all_is split n key bytes clean whole own
