-- A run goes on with a start that is read.
use Rattle.std.proofs.Common.{◌≡◌, ℕ, zero, suc, ◌+◌, ◌*◌, ◌≤◌, ◌^◌, true, ℤ, List, [], ◌∷◌, ◌++◌, length, map, drop, ap, sym, subst, ◌∙◌, arith, nat_le}
use Rattle.std.specs.Prelude.{◌==◌}
use Rattle.std.specs.Int.{w64}
use Rattle.std.specs.Int.RustNames.{FitsSigned}
use Rattle.std.specs.List.{All, AllByRecursion, list_all}
use Rattle.std.proofs.lemmas.Bool.{and_from, and_parts, eq-eqb, eqb-true, le-leb, leb-true}
use Rattle.std.proofs.lemmas.List.{length-map}
use Rattle.std.proofs.lemmas.List.Elements.{All-cons, All-from_recursion, All-nil}
use Rattle.vert_base.specs.Truth.{word_of_bool}
use Rattle.vert_base.specs.declared.value.ValueType.{ValueType}
use Rattle.vert_base.specs.declared.value.ValueType.TheVariants as kind
use Rattle.dep_layout.specs.Judgement.{rows_in}
use Rattle.dep_layout.specs.Spelling.{are_typed}
use Rattle.body_shape.specs.Refresh.{IsRow as IsPlainRow, PlainRow, is_flagged, row_of, rows_bytes, rows_read}
use Rattle.body_shape.specs.Shapes.{bool_bits}
use Rattle.body_shape.specs.Verdict.{ruling_with}
use Rattle.body_shape.proofs.RefreshLaws.{form_flagged, refresh_suits}
use Rattle.body_shape.proofs.RowLaws.{are_words_in, each-rows_in, length-rows_bytes, length-rows_in, rows_whole}
use Rattle.word_kinds.specs.Fits.{IsRow}
use Rattle.chunk_split.specs.Chunks.{vertices_of}
use Rattle.circulant_plan.specs.Skeleton.{Blocks}
use Rattle.symple_face.specs.CoreSight.{told_row}
use Rattle.symple_face.specs.Planned.{has_block}
use Rattle.symple_face.specs.Plans.{blocks_of}
use Rattle.symple_face.specs.Shapes.{types_of}
use Rattle.work_laws.proofs.Words.{words_typed}
use Rattle.check_point.specs.declared.head.Head.{Head}
use Rattle.check_point.specs.Images.{head_in}
use Rattle.check_point.specs.Judgement.{goes_on, is_mode}
use Rattle.check_point.specs.Laws.{StartIsReady}
use Rattle.check_point.proofs.ReadLaws.{rows_count}

-- which words of a row of these fields are Bools
abbrev pub bits_of : List ValueType → ℕ
bits_of kinds = bool_bits (kinds ++ kind.Bool ∷ [])

-- ---- rows
told_fits : (kinds : List ValueType) (width : ℕ) (row : PlainRow) → width ≡ length kinds →
    IsPlainRow width (bits_of kinds) row → IsRow kinds (told_row row)
told_fits kinds width row e is =
    let count : length row.fields ≡ length kinds = is.0.0 ∙ e in
    record {
      count = count;
      words = words_typed kinds (kind.Bool ∷ []) row.fields (word_of_bool row.active ∷ []) count is.0.1 is.1;
    }

told_fit : (kinds : List ValueType) (width : ℕ) (rows : List PlainRow) → width ≡ length kinds →
    AllByRecursion (IsPlainRow width (bits_of kinds)) rows → All (IsRow kinds) (map told_row rows)
told_fit kinds width [] e all = All-nil (IsRow kinds)
told_fit kinds width (row ∷ rows) e all =
    All-cons (IsRow kinds) (told_row row) (map told_row rows) (told_fits kinds width row e all.0)
    (told_fit kinds width rows e all.1)

-- rows of which the Bools are ones fit the fields
pub rows_fit : (kinds : List ValueType) (width count : ℕ) (body : List ℕ) → width ≡ length kinds →
    list_all (are_typed (bits_of kinds)) (rows_in (suc width) count body) ≡ true →
    All (IsRow kinds) (map told_row (rows_read width count body))
rows_fit kinds width count body e typed =
    let rows : List (List ℤ) = rows_in (suc width) count body in
    let many : length rows ≡ count = length-rows_in (suc width) count body in
    let each = each-rows_in (suc width) count body in
    let again : rows_in (suc width) count (rows_bytes rows) ≡ rows = rows_whole (suc width) count rows many each in
    let long : length (rows_bytes rows) ≡ 8 * suc width * count =
    length-rows_bytes (suc width) rows each ∙ ap (λ n. 8 * suc width * n) many in
    let flagged : is_flagged width (bits_of kinds) ≡ true =
    ap (λ n. is_flagged n (bits_of kinds)) e ∙ form_flagged kinds in
    let suit = refresh_suits count width (bits_of kinds) (rows_bytes rows) flagged
    (and_from _ _ (eq-eqb _ _ long) (ap (list_all (are_typed (bits_of kinds))) again ∙ typed)) in
    subst (λ (rs : List (List ℤ)). All (IsRow kinds) (map told_row (map (row_of width) rs))) again
    (told_fit kinds width (rows_read width count (rows_bytes rows)) e suit.1)

-- ---- the numbers of the head
mode_there : (blocks : Blocks) (byte : ℕ) → is_mode blocks byte ≡ true → has_block blocks (ruling_with byte) ≡ true
mode_there blocks zero e = e
mode_there blocks (suc zero) e = e
mode_there blocks (suc (suc zero)) e = e
mode_there blocks (suc (suc (suc n))) e = absurd (cc)

pub record GoesOn (blocks : Blocks) (vertices : ℕ) (head : Head) : Type 0 where
  pub count : head.count ≡ vertices
  pub late : 1 ≤ head.ended
  pub within : head.ended + 1 ≤ blocks.limit
  pub mode : is_mode blocks head.ruling ≡ true
  pub some : 1 ≤ head.active
  pub active : head.active ≤ 2 ^ 32
  pub edges : head.edges ≤ 2 ^ 32

pub head_goes_on : (blocks : Blocks) (vertices : ℕ) (head : Head) → goes_on blocks vertices head ≡ true →
    GoesOn blocks vertices head
head_goes_on blocks vertices head on =
    let a = and_parts (head.count == vertices) _ on in
    let b = and_parts (nat_le 1 head.ended) _ a.1 in
    let c = and_parts (nat_le (head.ended + 1) blocks.limit) _ b.1 in
    let d = and_parts (is_mode blocks head.ruling) _ c.1 in
    let e = and_parts (nat_le 1 head.active) _ d.1 in
    let f = and_parts (nat_le head.active (2 ^ 32)) (nat_le head.edges (2 ^ 32)) e.1 in
    record {
      count = eqb-true _ _ a.0;
      late = leb-true _ _ b.0;
      within = leb-true _ _ c.0;
      mode = d.0;
      some = leb-true _ _ e.0;
      active = leb-true _ _ f.0;
      edges = leb-true _ _ f.1;
    }

pub on_goes_head : (blocks : Blocks) (vertices : ℕ) (head : Head) → GoesOn blocks vertices head →
    goes_on blocks vertices head ≡ true
on_goes_head blocks vertices head on =
    and_from _ _ (eq-eqb _ _ on.count)
    (and_from _ _ (le-leb _ _ on.late)
    (and_from _ _ (le-leb _ _ on.within)
    (and_from _ _ on.mode
    (and_from _ _ (le-leb _ _ on.some) (and_from _ _ (le-leb _ _ on.active) (le-leb _ _ on.edges))))))

pub start_is_ready : StartIsReady
start_is_ready whole split key bytes own =
    let n : ℕ = vertices_of whole.ends in
    let fields = split.program.program.fields.items in
    let width : ℕ = length fields in
    let totals : ℕ = length split.program.program.totals.items in
    let head = head_goes_on (blocks_of split) n (head_in bytes) own.head in
    let words = are_words_in totals (drop (61 + 8 * suc width * n) bytes) in
    record {
      rows = length-map (rows_read width n (drop 61 bytes)) told_row ∙ rows_count width n (drop 61 bytes);
      typed = rows_fit (types_of fields) width n (drop 61 bytes) (sym (length-map fields (λ d. d.kind))) own.rows;
      totals = words.0;
      words = All-from_recursion (FitsSigned w64) _ words.1;
      late = omega (arith, head.late);
      within = head.within;
      block = mode_there (blocks_of split) (head_in bytes).ruling head.mode;
      some = head.some;
      active = head.active;
      edges = head.edges;
    }
