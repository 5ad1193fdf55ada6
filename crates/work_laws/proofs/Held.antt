-- What a core reads of the bodies that it holds fits, whether they are there or not.
use Rattle.std.proofs.Common.{◌≡◌, ◌⊎◌, ◌<◌, ◌≤◌, ◌+◌, ◌-◌, ◌==◌, inl, inr, ⊎_elim, ℕ, zero, suc, ℤ, Bool, true, false, not, List, [], ◌∷◌, ◌++◌, map, length, take, drop, All, refl, sym, ap, subst, ◌∙◌, Option, None, Some, FitsSigned, w64, arith, get_or, length-append}
use Rattle.std.specs.Prelude.{if◌then◌else◌, nat_lt, slice_index_or}
use Rattle.std.specs.List.{AllByRecursion, list_all}
use Rattle.std.proofs.Math.Seq.{take-nil}
use Rattle.std.proofs.lemmas.Bool.{and_parts, ltb-true}
use Rattle.std.proofs.lemmas.Option.{same_Some}
use Rattle.std.proofs.lemmas.List.{length-map}
use Rattle.std.proofs.lemmas.List.Elements.{All-cons, All-from_recursion, All-head, All-nil, All-tail}
use Rattle.vert_base.specs.declared.message.Name.{Name}
use Rattle.vert_base.specs.declared.message.NameKind.TheVariants as kind
use Rattle.vert_base.specs.declared.value.ValueType.{ValueType}
use Rattle.vert_base.specs.declared.value.ValueType.TheVariants as value
use Rattle.vert_base.specs.Letters.{Letter, found}
use Rattle.vert_base.specs.Names.{same_name}
use Rattle.vert_base.proofs.LetterLaws.{names_law}
use Rattle.vert_tree.specs.Kinds.{kinds_of}
use Rattle.vert_eval.specs.Rounds.{empty_row}
use Rattle.vert_eval.specs.Values.{word_at}
use Rattle.dep_layout.specs.Judgement.{mark_len, pairs_in, refusal_of, words_in}
use Rattle.dep_layout.specs.Reading.{read_of, states_in}
use Rattle.dep_layout.specs.Spelling.{IsState, are_typed}
use Rattle.dep_layout.proofs.SpellingLaws.{sound_parts}
use Rattle.dep_layout.proofs.StateLaws.{states-states_in}
use Rattle.dep_layout.proofs.WordLaws.{fits-words_in}
use Rattle.circulant_plan.specs.Names.{dep_name, refresh_name}
use Rattle.circulant_plan.specs.Ring.{before_machine, chunk_of, order_of}
use Rattle.circulant_plan.proofs.CircleLaws.{each_ring_turns}
use Rattle.instrument.specs.declared.split.Split.{Split}
use Rattle.body_shape.specs.declared.shape.BodyShape.{BodyShape}
use Rattle.body_shape.specs.declared.shape.BodyShape.TheVariants.{Refresh, Dep, Push}
use Rattle.body_shape.specs.Fit.{is_fit}
use Rattle.body_shape.specs.Places.{there}
use Rattle.body_shape.specs.Push.{SuitsPush, sends_read}
use Rattle.body_shape.specs.Refresh.{IsWords, PlainRow, SuitsRefresh, rows_read, IsRow as IsPlainRow}
use Rattle.vert_base.specs.Truth.{word_of_bool}
use Rattle.body_shape.specs.Shapes.{bool_bits}
use Rattle.body_shape.specs.Verdict.{judged_read}
use Rattle.body_shape.proofs.MissingLaws.{push_missing, refresh_missing}
use Rattle.body_shape.proofs.PushLaws.{push_suits}
use Rattle.body_shape.proofs.RefreshLaws.{form_flagged, refresh_suits}
use Rattle.word_kinds.specs.Fits.{AreWords}
use Rattle.value_laws.proofs.Rounds.{no_words}
use Rattle.symple_face.specs.CoreSight.{beside, body_of, field_count, program_of, told_row}
use Rattle.symple_face.specs.Parts.{PlainPart}
use Rattle.symple_face.specs.Plans.{concerns, is_planned, loop_carry}
use Rattle.symple_face.specs.Shapes.{carried_in, form_of, half_in, pushed, refreshed, shape_of, size_of, types_at, types_of}
use Rattle.vert_tree.specs.Places.{lets_in, sends_in}
use Rattle.symple_face.specs.Shapes as shapes
use Rattle.work_laws.specs.Sound.{IsHeld, IsLoopState}
use Rattle.work_laws.proofs.Sights.{all_fit_at}
use Rattle.work_laws.proofs.Words.{words_alone, words_typed}
use Rattle.state_laws.proofs.Options.{none_of}

-- ---- bodies under a name
abbrev pub FitsAs : Split → PlainPart → Name → List ℕ → Type 0
FitsAs split part x body = (shape : BodyShape) × (shape_of split part x ≡ Some shape) × (is_fit shape body ≡ true)

-- there is none, or it fits
abbrev pub MayRead : Split → PlainPart → Name → List ℕ → Type 0
MayRead split part x body = (body ≡ []) ⊎ FitsAs split part x body

module _ (split : Split) (part : PlainPart) where
  held_if : (b : Bool) (x : Name) (l : Letter) (o : Option Letter) → (b ≡ true → l.name ≡ x) →
      IsHeld split part l → MayRead split part x (body_of o) →
      MayRead split part x (body_of (if b then Some l else o))
  held_if true x l o same here more = subst (λ (y : Name). MayRead split part y l.body) (same refl) here
  held_if false x l o same here more = more

pub may_read : (split : Split) (part : PlainPart) (x : Name) (held : List Letter) →
    AllByRecursion (IsHeld split part) held →
    MayRead split part x (body_of (found x held))
may_read split part x [] all = inl refl
may_read split part x (l ∷ ls) all =
    held_if split part (same_name l.name x) x l (found x ls) (names_law l.name x) all.0 (may_read split part x ls all.1)

-- a name with a form is planned, and its form is that of its kind
shape_if : (b : Bool) (form shape : BodyShape) → (if b then Some form else None) ≡ Some shape →
    (b ≡ true) × (form ≡ shape)
shape_if true form shape e = (refl, cc)
shape_if false form shape e = cc

pub shape_parts : (split : Split) (part : PlainPart) (x : Name) (shape : BodyShape) →
    shape_of split part x ≡ Some shape →
    (is_planned split part.at.machines part.at.machine x ≡ true) × (form_of split part x.kind x ≡ shape)
shape_parts split part x shape e = shape_if (is_planned split part.at.machines part.at.machine x)
    (form_of split part x.kind x) shape e

-- who sends it isn't who takes it
pub planned_apart : (split : Split) (p m : ℕ) (x : Name) → is_planned split p m x ≡ true →
    (x.from < p) × (x.to < p) × ((x.from == x.to) ≡ false)
planned_apart split p m x planned =
    let a = (and_parts (concerns p m x) _ planned).0 in
    let b = and_parts (nat_lt x.from p) _ a in
    let c = and_parts (nat_lt x.to p) _ b.1 in
    let d = and_parts (not (x.from == x.to)) _ c.1 in
    (ltb-true x.from p b.0, ltb-true x.to p c.0, by (x.from == x.to) d.0)
  where
    by : (b : Bool) → not b ≡ true → b ≡ false
    by true e = cc
    by false e = refl

-- ---- of two lists side by side
pub beside_is : {X : Type 0} (P : X → Type 0) (d : X) (v : ℕ) (us : List ℕ) (xs : List X) → P d → All P xs →
    P (beside d v us xs)
beside_is P d v [] xs p h = p
beside_is P d v (u ∷ us) [] p h = p
beside_is P d v (u ∷ us) (x ∷ xs) p h = by (u == v) (beside_is P d v us xs p (All-tail P x xs h))
  where
    by : (b : Bool) → P (beside d v us xs) → P (if b then x else beside d v us xs)
    by true more = All-head P x xs h
    by false more = more

pub get_or_is : {X : Type 0} (P : X → Type 0) (d : X) (xs : List X) (i : ℕ) → P d → All P xs → P (get_or xs i d)
get_or_is P d [] i p h = p
get_or_is P d (x ∷ xs) zero p h = All-head P x xs h
get_or_is P d (x ∷ xs) (suc i) p h = get_or_is P d xs i p (All-tail P x xs h)

-- ---- rows that were told
plain_row_are : (kinds : List ValueType) (row : PlainRow) →
    IsPlainRow (length kinds) (bool_bits (kinds ++ value.Bool ∷ [])) row →
    AreWords kinds row.fields
plain_row_are kinds row is = words_typed kinds (value.Bool ∷ []) row.fields (word_of_bool row.active ∷ []) is.0.0
    is.0.1 is.1

told_are : (kinds : List ValueType) (rows : List PlainRow) →
    AllByRecursion (IsPlainRow (length kinds) (bool_bits (kinds ++ value.Bool ∷ []))) rows →
    All (λ row. AreWords kinds row.words.items) (map told_row rows)
told_are kinds [] all = All-nil (λ row. AreWords kinds row.words.items)
told_are kinds (row ∷ rows) all =
    All-cons (λ row. AreWords kinds row.words.items) (told_row row) (map told_row rows) (plain_row_are kinds row all.0)
    (told_are kinds rows all.1)

flag_length : (kinds : List ValueType) → length (kinds ++ value.Bool ∷ []) ≡ suc (length kinds)
flag_length kinds = omega (arith, length-append kinds (value.Bool ∷ []))

abbrev row_kinds : Split → List ValueType
row_kinds split = kinds_of (program_of split).fields.items

rows_told : (split : Split) (part : PlainPart) (r d : ℕ) (body : List ℕ) →
    MayRead split part (refresh_name r d part.at.machine) body →
    SuitsRefresh (length (slice_index_or part.refresh_of d [])) (length (row_kinds split))
    (bool_bits (row_kinds split ++ value.Bool ∷ []))
    (rows_read (length (row_kinds split)) (length (slice_index_or part.refresh_of d [])) body)
rows_told split part r d body (inl none) =
    let kinds : List ValueType = row_kinds split in
    let count : ℕ = length (slice_index_or part.refresh_of d []) in
    subst (λ b. SuitsRefresh count (length kinds) (bool_bits (kinds ++ value.Bool ∷ []))
    (rows_read (length kinds) count b)) (sym none)
    (refresh_missing count (length kinds) (bool_bits (kinds ++ value.Bool ∷ []))).1
rows_told split part r d body (inr fits) =
    let kinds : List ValueType = row_kinds split in
    let count : ℕ = length (slice_index_or part.refresh_of d []) in
    let bools : ℕ = bool_bits (kinds ++ value.Bool ∷ []) in
    let x : Name = refresh_name r d part.at.machine in
    let parts = shape_parts split part x fits.0 fits.1 in
    let apart : (d == part.at.machine) ≡ false = (planned_apart split part.at.machines part.at.machine x parts.0).2 in
    let form : Refresh count (suc (length kinds)) bools ≡ fits.0 =
    ap (λ n. Refresh count n bools) (sym (flag_length kinds))
    ∙ ap (λ b. Refresh (length (if b then slice_index_or part.refresh_to part.at.machine [] else slice_index_or
    part.refresh_of d []))
    (length (kinds ++ value.Bool ∷ [])) bools) (sym apart)
    ∙ parts.1 in
    refresh_suits count (length kinds) bools body (form_flagged kinds) (ap (λ shape. is_fit shape body) form ∙ fits.2)

-- the row of a vertex of another chunk
pub mirror_words : (split : Split) (part : PlainPart) (r d v : ℕ) (body : List ℕ) →
    MayRead split part (refresh_name r d part.at.machine) body →
    AreWords (row_kinds split)
    (beside empty_row v (slice_index_or part.refresh_of d [])
    (map told_row (rows_read (field_count split) (length (slice_index_or part.refresh_of d [])) body))).words.items
mirror_words split part r d v body may =
    let kinds : List ValueType = row_kinds split in
    let vertices : List ℕ = slice_index_or part.refresh_of d [] in
    beside_is (λ row. AreWords kinds row.words.items) empty_row v vertices
    (map told_row (rows_read (field_count split) (length vertices) body)) (no_words kinds)
    (subst (λ n. All (λ row. AreWords kinds row.words.items) (map told_row (rows_read n (length vertices) body)))
    (length-map (program_of split).fields.items (λ d. d.kind))
    (told_are kinds (rows_read (length kinds) (length vertices) body) (rows_told split part r d body may).1))

-- ---- sends that were told
-- words of these types, where there are some
abbrev pub SendFits : List ValueType → Option (List ℤ) → Type 0
SendFits kinds o = (words : List ℤ) → o ≡ Some words → AreWords kinds words

sends_are : (kinds : List ValueType) (sends : List (Option (List ℤ))) →
    AllByRecursion (IsWords (length kinds)) (there sends) →
    list_all (are_typed (bool_bits kinds)) (there sends) ≡ true → All (SendFits kinds) sends
sends_are kinds [] each typed = All-nil (SendFits kinds)
sends_are kinds (None ∷ sends) each typed =
    All-cons (SendFits kinds) None sends (λ words e. cc) (sends_are kinds sends each typed)
sends_are kinds (Some ws ∷ sends) each typed =
    let parts = and_parts (are_typed (bool_bits kinds) ws) (list_all (are_typed (bool_bits kinds)) (there sends)) typed
    in
    All-cons (SendFits kinds) (Some ws) sends
    (λ words e. subst (AreWords kinds) (same_Some ws words e) (words_alone kinds ws each.0.0 each.0.1 parts.0))
    (sends_are kinds sends each.1 parts.1)

abbrev pub send_kinds : Split → List ValueType
send_kinds split = kinds_of (sends_in (program_of split).sparse)

sends_told : (split : Split) (part : PlainPart) (x : Name) (body : List ℕ) → x.kind ≡ kind.Push →
    x.to ≡ part.at.machine →
    MayRead split part x body →
    SuitsPush (length (slice_index_or part.push_of x.from [])) (length (send_kinds split))
    (bool_bits (send_kinds split))
    (sends_read (length (send_kinds split)) (length (slice_index_or part.push_of x.from [])) body)
sends_told split part x body is here (inl none) =
    let kinds : List ValueType = send_kinds split in
    let count : ℕ = length (slice_index_or part.push_of x.from []) in
    subst (λ b. SuitsPush count (length kinds) (bool_bits kinds) (sends_read (length kinds) count b)) (sym none)
    (push_missing count (length kinds) (bool_bits kinds)).1
sends_told split part x body is here (inr fits) =
    let kinds : List ValueType = send_kinds split in
    let count : ℕ = length (slice_index_or part.push_of x.from []) in
    let parts = shape_parts split part x fits.0 fits.1 in
    let apart : (x.from == part.at.machine) ≡ false =
    ap (λ q. x.from == q) (sym here) ∙ (planned_apart split part.at.machines part.at.machine x parts.0).2 in
    let form : Push count (length kinds) (bool_bits kinds) ≡ fits.0 =
    ap (λ b. Push (length (if b then slice_index_or part.push_to x.to [] else slice_index_or part.push_of x.from []))
    (length kinds) (bool_bits kinds)) (sym apart)
    ∙ ap (λ k. form_of split part k x) (sym is)
    ∙ parts.1 in
    push_suits count (length kinds) (bool_bits kinds) body (ap (λ shape. is_fit shape body) form ∙ fits.2)

-- what the body of a push tells of a vertex
pub told_send_fits : (split : Split) (part : PlainPart) (x : Name) (u : ℕ) (body : List ℕ) → x.kind ≡ kind.Push →
    x.to ≡ part.at.machine →
    MayRead split part x body →
    SendFits (send_kinds split)
    (beside None u (slice_index_or part.push_of x.from [])
    (sends_read (length (sends_in (program_of split).sparse)) (length (slice_index_or part.push_of x.from [])) body))
told_send_fits split part x u body is here may =
    let kinds : List ValueType = send_kinds split in
    let vertices : List ℕ = slice_index_or part.push_of x.from [] in
    let suits = sends_told split part x body is here may in
    beside_is (SendFits kinds) None u vertices
    (sends_read (length (sends_in (program_of split).sparse)) (length vertices) body) (λ words e. cc)
    (subst (λ n. All (SendFits kinds) (sends_read n (length vertices) body))
    (length-map (sends_in (program_of split).sparse) (λ d. d.kind))
    (sends_are kinds (sends_read (length kinds) (length vertices) body) suits.each suits.typed))

-- ---- loop states that were told
later_none : {X : Type 0} (b : Bool) (x : X) (o : Option X) → (if b then Some x else o) ≡ None → o ≡ None
later_none true x o e = cc
later_none false x o e = e

pub states_read : (width bools count : ℕ) (body : List ℕ) → (body ≡ []) ⊎ (is_fit (Dep count width bools) body ≡ true) →
    AllByRecursion (IsState width bools) (read_of width count body)
states_read width bools count body (inl none) =
    subst (λ b. AllByRecursion (IsState width bools) (read_of width count b)) (sym none)
    (subst (λ pairs. AllByRecursion (IsState width bools) (states_in width pairs (drop (mark_len count) [])))
    (sym (ap (λ marks. take count (pairs_in marks)) (take-nil (mark_len count)) ∙ take-nil count)) tt)
states_read width bools count body (inr fits) =
    let none : refusal_of width count bools body ≡ None = none_of (refusal_of width count bools body) fits in
    let parts = sound_parts width bools count (take (mark_len count) body) (drop (mark_len count) body)
    (later_none (nat_lt (length body) (mark_len count)) _ _ none) in
    states-states_in width bools (take count (pairs_in (take (mark_len count) body))) (drop (mark_len count) body)
    parts.typed

-- the machine before works on the same chunk in the step before
pub same_chunk : (m step p : ℕ) → m < p → 0 < step → step < p →
    chunk_of (before_machine m p) (step - 1) p ≡ chunk_of m step p
same_chunk m step p within later low =
    let ring = each_ring_turns p (omega (arith, within)) in
    let d : ℕ = chunk_of m step p in
    let here : order_of d step p ≡ m = ring.machine m step within low in
    let small : d < p = chunk_low m step p (omega (arith, within)) in
    let same : step - 1 + 1 ≡ step = omega (arith, later) in
    let before : before_machine (order_of d (step - 1 + 1) p) p ≡ order_of d (step - 1) p =
    ring.before d (step - 1) small (omega (arith, later, low)) in
    let back : before_machine m p ≡ order_of d (step - 1) p =
    ap (λ q. before_machine q p) (sym (ap (λ n. order_of d n p) same ∙ here)) ∙ before in
    ap (λ q. chunk_of q (step - 1) p) back ∙ ring.chunk d (step - 1) small (omega (arith, later, low))
  where
    chunk_low : (m s p : ℕ) → 1 ≤ p → chunk_of m s p < p
    chunk_low m s p some = omega arith

module _ (split : Split) (part : PlainPart) (r step h : ℕ) (body : List ℕ) where
  pub states_told : part.at.machine < part.at.machines → 0 < step → step < part.at.machines →
      MayRead split part (dep_name r (step - 1) h (before_machine part.at.machine part.at.machines)
      part.at.machine) body →
      AllByRecursion (IsLoopState split) (read_of (shapes.words_in (loop_carry split.dense)) (size_of (half_in
      part.ends (chunk_of part.at.machine step part.at.machines) h)) body)
  states_told within later low may =
      let width : ℕ = shapes.words_in (loop_carry split.dense) in
      let bools : ℕ = bool_bits (types_at (types_of (lets_in (program_of split).dense)) (carried_in split.dense)) in
      let m : ℕ = part.at.machine in
      let p : ℕ = part.at.machines in
      let x : Name = dep_name r (step - 1) h (before_machine m p) m in
      let fit : FitsAs split part x body → is_fit (Dep (size_of (half_in part.ends (chunk_of m step p) h)) width
      bools)
      body ≡ true =
      λ fits.
      ap (λ shape. is_fit shape body)
      (ap (λ c. Dep (size_of (half_in part.ends c h)) width bools) (sym (same_chunk m step p within later low))
      ∙ (shape_parts split part x fits.0 fits.1).1)
      ∙ fits.2 in
      states_read width bools (size_of (half_in part.ends (chunk_of m step p) h)) body
      (⊎_elim (λ (none : body ≡ []). inl none) (λ (fits : FitsAs split part x body). inr (fit fits)) may)

-- ---- totals that were told
read_fit : (n : ℕ) (bytes : List ℕ) (i : ℕ) → FitsSigned w64 (word_at (words_in n bytes) i)
read_fit n bytes i =
    all_fit_at (words_in n bytes) (All-from_recursion (FitsSigned w64) (words_in n bytes) (fits-words_in n bytes)) i

pub totals_told : (n : ℕ) (body : List ℕ) (i : ℕ) → FitsSigned w64 (word_at (judged_read n body).totals i)
totals_told n [] i = read_fit n [] i
totals_told n (byte ∷ bytes) i = read_fit n bytes i
