-- No body of a machine's messages is longer than a header can tell.
use Rattle.std.proofs.Common.{◌≡◌, ℕ, zero, suc, ◌+◌, ◌-◌, ◌*◌, ◌<◌, ◌≤◌, Bool, true, false, Option, Some, None, List, [], ◌∷◌, ◌++◌, length, min, refl, sym, subst, arith, ⊎_elim, length-append}
use Rattle.std.specs.Prelude.{◌==◌, nat_lt, nat_le, ◌&&◌, if◌then◌else◌, option_map, slice_index, slice_index_or}
use Rattle.std.specs.Int.{div_ceil}
use Rattle.std.proofs.lemmas.Bool.{cases_lt}
use Rattle.std.proofs.lemmas.List.{length-map}
use Rattle.std.proofs.lemmas.Nat.{mul-le}
use Rattle.std.proofs.lemmas.Option.{cond_some}
use Rattle.vert_base.specs.declared.graph.Edge.{Edge}
use Rattle.vert_base.specs.declared.message.Name.{Name}
use Rattle.vert_base.specs.declared.message.NameKind.{NameKind}
use Rattle.vert_base.specs.declared.message.NameKind.TheVariants as kind
use Rattle.vert_base.specs.declared.value.ValueType.TheVariants as value
use Rattle.vert_base.specs.Ends.{start_of}
use Rattle.vert_base.specs.Neighbours.{source, target}
use Rattle.vert_tree.specs.declared.program.Dense.{Dense}
use Rattle.vert_tree.specs.Places.{sends_in}
use Rattle.vert_tree.proofs.TypedLaws.{few_fields, few_lets, few_totals}
use Rattle.carry_analysis.specs.Classes.{body_marks, has_break, let_classes}
use Rattle.chunk_split.specs.Chunks.{vertices_of}
use Rattle.circulant_plan.specs.Ring.{chunk_of, half_of}
use Rattle.instrument.specs.declared.split.Split.{Split}
use Rattle.instrument.specs.declared.split.SplitLoop.{SplitLoop}
use Rattle.instrument.specs.Loops.{loop_split}
use Rattle.instrument.proofs.TypedLaws.{length-let_classes}
use Rattle.body_shape.specs.declared.shape.BodyShape.{BodyShape}
use Rattle.body_shape.specs.Shapes.{longest_of}
use Rattle.symple_face.specs.Lawful.{CanRun}
use Rattle.symple_face.specs.Parts.{PlainPart, edges_between, push_list, refresh_list}
use Rattle.symple_face.specs.Plans.{is_planned, loop_carry}
use Rattle.symple_face.specs.Shapes.{count_within, form_of, half_in, pushed, reduced_in, refreshed, size_of, types_of, updated, words_in}
use Rattle.symple_face.proofs.LimitLaws.{few_sends}
use Rattle.symple_face.proofs.ListLaws.{ends_met_few, filter_few, others_few}
use Rattle.worker_stream.specs.Laws.{FormsAreShort}
use Rattle.state_laws.proofs.Carries.{few_carry}

abbrev reduced_count : Split → ℕ
reduced_count split = length (reduced_in split.dense)

past_end : (xs : List ℕ) (i : ℕ) → length xs ≤ i → slice_index xs i ≡ 0
past_end [] i past = refl
past_end (x ∷ xs) zero past = absurd (omega arith)
past_end (x ∷ xs) (suc i) past = past_end xs i (omega arith)

-- ---- lists of vertices
module _ (part : PlainPart) (split : Split) (can : CanRun part split) where
  refresh_few : (k m : ℕ) (edges : List Edge) → length (refresh_list part.ends k m edges) ≤ 2097152
  refresh_few k m edges =
      let within = can.whole.within in
      omega (arith, ends_met_few target (vertices_of part.ends) (edges_between part.ends m k edges))

  push_few : (m k : ℕ) (edges : List Edge) → length (push_list part.ends m k edges) ≤ 2097152
  push_few m k edges =
      let within = can.whole.within in
      omega (arith, ends_met_few source (vertices_of part.ends) (edges_between part.ends m k edges))

  abbrev Few : List (List ℕ) → Type 0
  Few lists = (i : ℕ) → length (slice_index_or lists i []) ≤ 2097152

  refresh_to : Few part.refresh_to
  refresh_to i = subst (λ ls. length (slice_index_or ls i []) ≤ 2097152) (sym can.whole.refresh_to)
      (others_few 2097152 part.at.machines part.at.machine i
      (λ k. refresh_list part.ends part.at.machine k part.push) (λ k. refresh_few part.at.machine k part.push))

  refresh_of : Few part.refresh_of
  refresh_of i = subst (λ ls. length (slice_index_or ls i []) ≤ 2097152) (sym can.whole.refresh_of)
      (others_few 2097152 part.at.machines part.at.machine i
      (λ k. refresh_list part.ends k part.at.machine part.scan) (λ k. refresh_few k part.at.machine part.scan))

  push_to : Few part.push_to
  push_to i = subst (λ ls. length (slice_index_or ls i []) ≤ 2097152) (sym can.whole.push_to)
      (others_few 2097152 part.at.machines part.at.machine i
      (λ k. push_list part.ends part.at.machine k part.scan) (λ k. push_few part.at.machine k part.scan))

  push_of : Few part.push_of
  push_of i = subst (λ ls. length (slice_index_or ls i []) ≤ 2097152) (sym can.whole.push_of)
      (others_few 2097152 part.at.machines part.at.machine i
      (λ k. push_list part.ends k part.at.machine part.push) (λ k. push_few k part.at.machine part.push))

  either : (b : Bool) (xs ys : List ℕ) → length xs ≤ 2097152 → length ys ≤ 2097152 →
      length (if b then xs else ys) ≤ 2097152
  either true xs ys a b = a
  either false xs ys a b = b

  few_refreshed : (x : Name) → length (refreshed part x) ≤ 2097152
  few_refreshed x = either (x.from == part.at.machine) (slice_index_or part.refresh_to x.to [])
      (slice_index_or part.refresh_of x.from []) (refresh_to x.to) (refresh_of x.from)

  few_updated : (x : Name) → length (updated part x) ≤ 2097152
  few_updated x = either (x.from == part.at.machine) (slice_index_or part.refresh_of x.to [])
      (slice_index_or part.refresh_to x.from []) (refresh_of x.to) (refresh_to x.from)

  few_pushed : (x : Name) → length (pushed part x) ≤ 2097152
  few_pushed x = either (x.from == part.at.machine) (slice_index_or part.push_to x.to [])
      (slice_index_or part.push_of x.from []) (push_to x.to) (push_of x.from)

  few_within : (range : ℕ × ℕ) (xs : List ℕ) → length xs ≤ 2097152 → count_within range xs ≤ 2097152
  few_within range xs few =
      omega (arith, filter_few (λ v. nat_le range.0 v && nat_lt v range.1) xs)

  -- ---- a half of a chunk
  end_low : (m : ℕ) → slice_index part.ends m ≤ 2097152
  end_low m = ⊎_elim
      (λ (here : m < length part.ends).
      let top = can.ends.2 m (length part.ends - 1) 0 (omega arith) (omega arith) in
      let within = can.whole.within in
      let most : slice_index part.ends m ≤ 2097152 = omega arith in most)
      (λ (past : length part.ends ≤ m).
      let none : slice_index part.ends m ≡ 0 = past_end part.ends m past in
      omega arith)
      (cases_lt m (length part.ends))

  half_low : (a b h : ℕ) → b ≤ 2097152 → size_of (half_of a b h) ≤ 2097152
  half_low a b zero low = omega arith
  half_low a b (suc h) low = omega arith

-- ---- words
few_words : (split : Split) → words_in (loop_carry split.dense) ≤ 8
few_words split =
    subst (λ (o : Option SplitLoop). words_in (loop_carry o) ≤ 8) (sym split.split)
    (at split.program.program.dense refl)
  where
    at : (o : Option Dense) → split.program.program.dense ≡ o → words_in (loop_carry (option_map loop_split o)) ≤ 8
    at None is = omega arith
    at (Some d) is =
        let count = length-let_classes 0 d.lets.items (body_marks d.body.items) in
        let few = few_lets split.program.program split.program.typed d is in
        few_carry (has_break (body_marks d.body.items)) (let_classes 0 d.lets.items (body_marks d.body.items)) 8
        (omega (arith, count, few))

-- rows of few words
rows_short : (words vertices : ℕ) → words ≤ 17 → vertices ≤ 2097152 → 8 * words * vertices ≤ 285212672
rows_short words vertices few short =
    let most = mul-le (8 * words) vertices 136 2097152 (omega arith) short in
    omega arith

updates_short : (slots reduced vertices : ℕ) → vertices ≤ 2097152 →
    (2 + 8 * min slots 8 + 8 * min reduced 8) * vertices ≤ 272629760
updates_short slots reduced vertices short =
    let most = mul-le (2 + 8 * min slots 8 + 8 * min reduced 8) vertices 130 2097152 (omega arith) short in
    omega arith

fours_short : (vertices : ℕ) → vertices ≤ 2097152 → div_ceil vertices 4 ≤ 2097152
fours_short vertices short = omega arith

eights_short : (vertices : ℕ) → vertices ≤ 2097152 → div_ceil vertices 8 ≤ 2097152
eights_short vertices short = omega arith

module _ (split : Split) (part : PlainPart) (x : Name) (can : CanRun part split) where
  form_short : (k : NameKind) → longest_of (form_of split part k x) < 4294967296
  form_short kind.Refresh =
      let types = types_of split.program.program.fields.items ++ value.Bool ∷ [] in
      let fields = few_fields split.program.program split.program.typed in
      let count = length-append (types_of split.program.program.fields.items) (value.Bool ∷ []) in
      let same = length-map split.program.program.fields.items (λ d. d.kind) in
      let words : length types ≤ 17 = omega (arith, fields, count, same) in
      let rows = rows_short (length types) (length (refreshed part x)) words (few_refreshed part split can x) in
      omega arith
  form_short kind.Dep =
      let m = chunk_of x.from x.step part.at.machines in
      let vertices = size_of (half_in part.ends m x.half) in
      let few : vertices ≤ 2097152 =
      half_low part split can (start_of part.ends m) (slice_index part.ends m) x.half (end_low part split can m) in
      let words = few_words split in
      let rows = rows_short (words_in (loop_carry split.dense)) vertices (omega arith) few in
      let marks = fours_short vertices few in
      omega arith
  form_short kind.Update =
      let few = few_within part split can (half_in part.ends x.to x.half) (updated part x)
      (few_updated part split can x) in
      let most = updates_short (length split.program.program.slots.items) (reduced_count split)
      (count_within (half_in part.ends x.to x.half) (updated part x)) few in
      omega arith
  form_short kind.Push =
      let types = types_of (sends_in split.program.program.sparse) in
      let sends = few_sends split.program.program split.program.typed in
      let same = length-map (sends_in split.program.program.sparse) (λ d. d.kind) in
      let words : length types ≤ 17 = omega (arith, sends, same) in
      let few = few_pushed part split can x in
      let rows = rows_short (length types) (length (pushed part x)) words few in
      let marks = eights_short (length (pushed part x)) few in
      omega arith
  form_short kind.Tally =
      let few = few_totals split.program.program split.program.typed in omega arith
  form_short kind.Verdict =
      let few = few_totals split.program.program split.program.typed in omega arith

pub forms_short : FormsAreShort
forms_short split part x shape can is =
    let both = cond_some (is_planned split part.at.machines part.at.machine x) (form_of split part x.kind x) shape is in
    subst (λ (q : BodyShape). longest_of q < 4294967296) both.1 (form_short split part x can x.kind)
