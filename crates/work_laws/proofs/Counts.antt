-- What a sound core counts and judges is small, and words.
use Rattle.std.proofs.Common.{◌≡◌, ◌<◌, ◌≤◌, ◌+◌, ◌-◌, ◌*◌, ◌==◌, ◌^◌, ℕ, zero, suc, ℤ, Bool, true, false, List, [], ◌∷◌, map, length, All, refl, sym, ap, subst, ◌∙◌, Some, FitsSigned, w64, arith, ⊎_elim}
use Rattle.std.specs.Prelude.{filter, if◌then◌else◌, nat_le, slice_get, slice_index, sum}
use Rattle.std.specs.List.{AllByRecursion, list_all, list_any, range_with_len}
use Rattle.std.proofs.lemmas.Bool.{and_parts, cases_eq, eq-eqb, eqb-true, ne_eqb, true≢false}
use Rattle.std.proofs.lemmas.List.{length-map}
use Rattle.std.proofs.lemmas.List.Elements.{All-from_recursion, All-map}
use Rattle.std.proofs.lemmas.List.FromFn.{length-range_with_len}
use Rattle.vert_base.specs.declared.graph.Edge.{Edge}
use Rattle.vert_base.specs.declared.message.Name.{Name}
use Rattle.vert_base.specs.declared.value.Row.{Row}
use Rattle.vert_base.specs.declared.value.ValueType.TheVariants as value
use Rattle.vert_base.specs.Neighbours.{source, target}
use Rattle.vert_tree.specs.declared.program.TotalDecl.{TotalDecl}
use Rattle.vert_tree.specs.Kinds.{Kinds, expr_has, field_kinds, kinds_of}
use Rattle.slot_merge.specs.Combine.{neutral}
use Rattle.vert_eval.specs.Values.{value_of}
use Rattle.chunk_split.specs.Chunks.{vertices_of}
use Rattle.circulant_plan.specs.Names.{tally_name}
use Rattle.circulant_plan.specs.Ring.{lies_in}
use Rattle.vert_base.specs.Ends.{start_of}
use Rattle.circulant_plan.specs.Table.{others_of}
use Rattle.circulant_plan.proofs.CountLaws.{length-map_others}
use Rattle.circulant_plan.proofs.Members.{Has, has_range}
use Rattle.instrument.specs.declared.split.Split.{Split}
use Rattle.body_shape.specs.Fit.{is_fit}
use Rattle.body_shape.specs.Refresh.{IsWords}
use Rattle.body_shape.specs.Tally.{Counted, SuitsTally, counted_read}
use Rattle.body_shape.proofs.MissingLaws.{tally_missing}
use Rattle.body_shape.proofs.TallyLaws.{tally_suits}
use Rattle.word_kinds.specs.Fits.{IsRow, expr_fits, totals_fit}
use Rattle.value_laws.proofs.Rounds.{parts, row_words}
use Rattle.value_laws.proofs.Rows.{fold_fits, neutral_fits}
use Rattle.value_laws.proofs.Values.{value_word}
use Rattle.value_laws.proofs.Words.{combined_fits, zero_fits}
use Rattle.symple_face.specs.declared.degree.Degree.{Degree}
use Rattle.symple_face.specs.CoreJudge.{all_joined, chunk_total, counted, edges_ahead, joined, judge_go, report_after, sums_at, tally_of, totals_joined}
use Rattle.symple_face.specs.CoreSight.{degree_among, degree_of, held_body, part_sight, program_of, row_in, targets_of, total_count}
use Rattle.symple_face.specs.Lawful.{CanRun, IsSmall}
use Rattle.symple_face.specs.Parts.{PlainPart, chunk_vertices, degree_in}
use Rattle.symple_face.specs.Sight.{Sight, seen_env}
use Rattle.symple_face.specs.State.{State, p_of}
use Rattle.symple_face.proofs.ChunkLaws.{chunk_within}
use Rattle.symple_face.proofs.ListLaws.{filter_few}
use Rattle.work_laws.specs.Sound.{AreWithin, HoldsFit, OfOwn, members_in}
use Rattle.work_laws.proofs.Held.{FitsAs, may_read, shape_parts}
use Rattle.work_laws.proofs.Partials.{over_range}
use Rattle.work_laws.proofs.Sees.{among_lies, own_small}
use Rattle.work_laws.proofs.Sights.{part_sees, seen_has}
use Rattle.state_laws.proofs.Sums.{sum-cons}

-- ---- sums over vertices
sum_more : (f g h : ℕ → ℕ) (vs : List ℕ) → ((v : ℕ) → f v ≡ g v + h v) →
    sum (map f vs) ≡ sum (map g vs) + sum (map h vs)
sum_more f g h [] e = omega arith
sum_more f g h (v ∷ vs) e = let rest = sum_more f g h vs e in
    let here = e v in
    omega (arith, rest, here, sum-cons (f v) (map f vs), sum-cons (g v) (map g vs), sum-cons (h v) (map h vs))

sum_none : (f : ℕ → ℕ) (vs : List ℕ) → ((v : ℕ) → f v ≡ 0) → sum (map f vs) ≡ 0
sum_none f [] e = refl
sum_none f (v ∷ vs) e = let rest = sum_none f vs e in let here = e v in omega (
  arith,
  rest,
  here,
  sum-cons (f v)
      (map f vs),
)

abbrev one_at : ℕ → ℕ → ℕ
one_at s v = if s == v then 1 else 0

one_other : (s v : ℕ) → s < v → one_at s v ≡ 0
one_other s v lt = ap (λ b. if b then 1 else 0) (ne_eqb s v (λ e. omega (arith, e, lt)))

sum_past : (s a n : ℕ) → s < a → sum (map (one_at s) (range_with_len a n)) ≡ 0
sum_past s a zero lt = refl
sum_past s a (suc n) lt =
    let here = one_other s a lt in
    let rest = sum_past s (a + 1) n (omega (arith, lt)) in
    omega (arith, here, rest, sum-cons (one_at s a) (map (one_at s) (range_with_len (a + 1) n)))

sum_ones : (s a n : ℕ) → sum (map (one_at s) (range_with_len a n)) ≤ 1
sum_ones s a zero = omega arith
sum_ones s a (suc n) =
    ⊎_elim
    (λ (e : s ≡ a).
    let here : one_at s a ≡ 1 = ap (λ b. if b then 1 else 0) (eq-eqb s a e) in
    let rest = sum_past s (a + 1) n (omega (arith, e)) in
    omega (arith, here, rest, sum-cons (one_at s a) (map (one_at s) (range_with_len (a + 1) n))))
    (λ other.
    let here : one_at s a ≡ 0 = ap (λ b. if b then 1 else 0) (ne_eqb s a other) in
    let rest = sum_ones s (a + 1) n in
    omega (arith, here, rest, sum-cons (one_at s a) (map (one_at s) (range_with_len (a + 1) n))))
    (cases_eq s a)

one_more : (key : Edge → ℕ) (e : Edge) (es : List Edge) (v : ℕ) →
    length (filter (λ x. key x == v) (e ∷ es)) ≡ one_at (key e) v + length (filter (λ x. key x == v) es)
one_more key e es v = by (key e == v)
  where
    by : (b : Bool) →
        length (if b then e ∷ filter (λ x. key x == v) es else filter (λ x. key x == v) es)
        ≡ (if b then 1 else 0) + length (filter (λ x. key x == v) es)
    by true = omega arith
    by false = omega arith

-- the edges of distinct vertices are no more than all edges
each_once : (key : Edge → ℕ) (es : List Edge) (a n : ℕ) →
    sum (map (λ v. length (filter (λ x. key x == v) es)) (range_with_len a n)) ≤ length es
each_once key [] a n = let none = sum_none (λ v. 0) (range_with_len a n) (λ v. refl) in omega (arith, none)
each_once key (e ∷ es) a n =
    let parts = sum_more (λ v. length (filter (λ x. key x == v) (e ∷ es))) (one_at (key e))
    (λ v. length (filter (λ x. key x == v) es))
    (range_with_len a n) (one_more key e es) in
    let ones = sum_ones (key e) a n in
    let rest = each_once key es a n in
    omega (arith, parts, ones, rest)

filter_sum : (f : ℕ → ℕ) (p : ℕ → Bool) (vs : List ℕ) → sum (map f (filter p vs)) ≤ sum (map f vs)
filter_sum f p [] = omega arith
filter_sum f p (v ∷ vs) = by (p v) (filter_sum f p vs)
  where
    by : (b : Bool) → sum (map f (filter p vs)) ≤ sum (map f vs) →
        sum (map f (if b then v ∷ filter p vs else filter p vs)) ≤ sum (map f (v ∷ vs))
    by true rest = omega (arith, rest, sum-cons (f v) (map f vs), sum-cons (f v) (map f (filter p vs)))
    by false rest = omega (arith, rest, sum-cons (f v) (map f vs))

within_sum : (part : PlainPart) (vs : List ℕ) (xs : List (List ℕ)) → AreWithin part vs xs →
    sum (map length xs) ≤ sum (map (λ v. length (members_in part v)) vs)
within_sum part [] [] h = omega arith
within_sum part [] (x ∷ xs) h = absurd h
within_sum part (v ∷ vs) [] h = absurd h
within_sum part (v ∷ vs) (x ∷ xs) h =
    let here = h.0 in
    let rest = within_sum part vs xs h.1 in
    omega (
      arith,
      here,
      rest,
      sum-cons (length x) (map length xs),
      sum-cons (length (members_in part v)) (map (λ v. length (members_in part v)) vs),
    )

pub reads_few : (part : PlainPart) (xs : List (List ℕ)) → AreWithin part (targets_of part) xs →
    sum (map length xs) ≤ length part.scan
reads_few part xs h =
    let n : ℕ = vertices_of part.ends in
    let f : ℕ → ℕ = λ v. length (members_in part v) in
    let a = within_sum part (targets_of part) xs h in
    let b = filter_sum f (λ v. list_any (λ e. target e == v) part.scan) (range_with_len 0 n) in
    let c = each_once target part.scan 0 n in
    omega (arith, a, b, c)

-- ---- the edges that leave own vertices
among_filtered : (p : Degree → Bool) (ds : List Degree) (v : ℕ) → ((d : Degree) → d.id.0 ≡ v → p d ≡ true) →
    degree_among ds v ≡ degree_among (filter p ds) v
among_filtered p [] v h = refl
among_filtered p (d ∷ ds) v h = by (d.id.0 == v) refl (p d) refl (among_filtered p ds v h)
  where
    by : (b : Bool) → (d.id.0 == v) ≡ b → (c : Bool) → p d ≡ c → degree_among ds v ≡ degree_among (filter p ds) v →
        (if b then d else degree_among ds v) ≡ degree_among (if c then d ∷ filter p ds else filter p ds) v
    by true e true f more = sym (ap (λ b. if b then d else degree_among (filter p ds) v) e)
    by true e false f more = absurd (true≢false (sym (h d (eqb-true d.id.0 v e)) ∙ f))
    by false e true f more = more ∙ sym (ap (λ b. if b then d else degree_among (filter p ds) v) e)
    by false e false f more = more

among_made : (ins outs : List Edge) (vs : List ℕ) (v : ℕ) → Has vs v →
    degree_among (map (degree_in ins outs) vs) v ≡ degree_in ins outs v
among_made ins outs [] v h = absurd h
among_made ins outs (w ∷ vs) v h =
    ⊎_elim
    (λ (e : w ≡ v).
    ap (λ b. if b then degree_in ins outs w else degree_among (map (degree_in ins outs) vs) v) (eq-eqb w v e) ∙
    ap (degree_in ins outs) e)
    (λ (more : Has vs v). later w (w == v) refl (among_made ins outs vs v more))
    h
  where
    later : (w : ℕ) (b : Bool) → (w == v) ≡ b → degree_among (map (degree_in ins outs) vs) v ≡ degree_in ins outs v →
        (if b then degree_in ins outs w else degree_among (map (degree_in ins outs) vs) v) ≡ degree_in ins outs v
    later w true e more = ap (degree_in ins outs) (eqb-true w v e)
    later w false e more = more

sum_under : (f g : ℕ → ℕ) (a n : ℕ) → ((v : ℕ) → a ≤ v → v < a + n → f v ≤ g v) →
    sum (map f (range_with_len a n)) ≤ sum (map g (range_with_len a n))
sum_under f g a zero h = omega arith
sum_under f g a (suc n) h =
    let here = h a (omega arith) (omega arith) in
    let rest = sum_under f g (a + 1) n (λ v low high. h v (omega (arith, low)) (omega (arith, high))) in
    omega (
      arith,
      here,
      rest,
      sum-cons (f a) (map f (range_with_len (a + 1) n)),
      sum-cons (g a)
          (map g (range_with_len (a + 1) n)),
    )

module _ (part : PlainPart) (split : Split) (can : CanRun part split) where
  abbrev own : List ℕ
  own = chunk_vertices part.ends part.at.machine

  own_outs : (v : ℕ) → start_of part.ends part.at.machine ≤ v →
      v < start_of part.ends part.at.machine +
      (slice_index part.ends part.at.machine - start_of part.ends part.at.machine) →
      (degree_of part v).outs ≡ length (filter (λ e. source e == v) part.scan)
  own_outs v low high =
      let a : ℕ = start_of part.ends part.at.machine in
      let n : ℕ = slice_index part.ends part.at.machine - a in
      let lies : lies_in part.ends part.at.machine v ≡ true =
      among_lies part v (low, omega (arith, high, length-range_with_len a n)) in
      ap (λ d. d.outs)
      (among_filtered (λ d. lies_in part.ends part.at.machine d.id.0) part.degrees v
      (λ d e. ap (lies_in part.ends part.at.machine) e ∙ lies)
      ∙ ap (λ ds. degree_among ds v) can.whole.own
      ∙ among_made part.push part.scan (chunk_vertices part.ends part.at.machine) v (has_range a n v low high))

  edges_few : (rows : List Row) → edges_ahead part rows ≤ length part.scan
  edges_few rows =
      let a : ℕ = start_of part.ends part.at.machine in
      let n : ℕ = slice_index part.ends part.at.machine - a in
      let under = sum_under (λ v. if (row_in part rows v).active then (degree_of part v).outs else 0)
      (λ v. length (filter (λ e. source e == v) part.scan)) a n
      (λ v low high. active_few v (row_in part rows v).active low high) in
      let all = each_once source part.scan a n in
      omega (arith, under, all)
    where
      active_few : (v : ℕ) (b : Bool) → start_of part.ends part.at.machine ≤ v →
          v < start_of part.ends part.at.machine +
          (slice_index part.ends part.at.machine - start_of part.ends part.at.machine) →
          (if b then (degree_of part v).outs else 0) ≤ length (filter (λ e. source e == v) part.scan)
      active_few v true low high = omega (arith, own_outs v low high)
      active_few v false low high = omega arith

  -- ---- totals
  total_fits : (rows : List Row) (r : ℕ) (t : TotalDecl) →
      All (IsRow (kinds_of (program_of split).fields.items)) rows → r < 2 ^ 32 →
      expr_has (field_kinds (program_of split)) value.Int t.value ≡ true → expr_fits t.value ≡ true →
      FitsSigned w64 (chunk_total part rows r t)
  total_fits rows r t are small typed fit =
      let k : Kinds = field_kinds (program_of split) in
      let g : Sight = part_sight part r [] (row_in part rows) in
      let sees = part_sees part split (kinds_of (program_of split).fields.items) r [] (row_in part rows) can small
      (λ i. zero_fits)
      (λ v. row_words (kinds_of (program_of split).fields.items) rows are (v - start_of part.ends part.at.machine)) in
      let a : ℕ = start_of part.ends part.at.machine in
      let n : ℕ = slice_index part.ends part.at.machine - a in
      fold_fits t.op (neutral t.op) (map (λ v. value_of t.value (seen_env g v 0 []))
      (chunk_vertices part.ends part.at.machine))
      (neutral_fits t.op)
      (All-map (FitsSigned w64) (λ v. value_of t.value (seen_env g v 0 [])) (chunk_vertices part.ends part.at.machine)
      (over_range (λ v. FitsSigned w64 (value_of t.value (seen_env g v 0 []))) a n
      (λ v low high.
      (value_word k value.Int t.value (seen_env g v 0 [])
      (seen_has k g v 0 [] sees
      (own_small part split can v (among_lies part v (low, omega (arith, high, length-range_with_len a n)))) no_slots)
      typed fit).fits)))
    where
      no_slots : (i : ℕ) (z : ℤ) → slice_get [] i ≡ Some (Some z) → FitsSigned w64 z
      no_slots i z e = cc

  totals_all : (rows : List Row) (r : ℕ) (ts : List TotalDecl) →
      All (IsRow (kinds_of (program_of split).fields.items)) rows → r < 2 ^ 32 →
      list_all (λ t. expr_has (field_kinds (program_of split)) value.Int t.value) ts ≡ true → totals_fit ts ≡ true →
      AllByRecursion (FitsSigned w64) (map (chunk_total part rows r) ts)
  totals_all rows r [] are small typed fit = tt
  totals_all rows r (t ∷ ts) are small typed fit =
      let a = and_parts (expr_has (field_kinds (program_of split)) value.Int t.value)
      (list_all (λ t. expr_has (field_kinds (program_of split)) value.Int t.value) ts) typed in
      let b = and_parts (expr_fits t.value) (totals_fit ts) fit in
      (total_fits rows r t are small a.0 b.0, totals_all rows r ts are small a.1 b.1)

  pub counted_suits : (rows : List Row) (reads : List (List ℕ)) (r : ℕ) →
      OfOwn part (IsRow (kinds_of (program_of split).fields.items)) rows →
      sum (map length reads) ≤ length part.scan → r < 2 ^ 32 →
      SuitsTally (total_count split) (counted part split rows reads r)
  counted_suits rows reads r are few small =
      let whole = can.whole in
      let place = can.place in
      let a : ℕ = start_of part.ends part.at.machine in
      let b : ℕ = slice_index part.ends part.at.machine in
      let top = chunk_within 64 part.ends can.ends part.at.machine (omega (arith, place, whole.machine)) in
      let many = whole.within in
      let edges = whole.few in
      let scan = whole.few_scan in
      let count = are.0 in
      let active = filter_few (λ row. row.active) rows in
      let ahead = edges_few rows in
      let own = parts (program_of split) can.program in
      record {
        active = omega (arith, active, count, length-range_with_len a (b - a), top, many);
        edges = omega (arith, ahead, scan, edges);
        reads = omega (arith, few, scan, edges);
        totals = (
          length-map (program_of split).totals.items (chunk_total part rows r),
          totals_all rows r (program_of split).totals.items are.1 small own.totals.0 own.totals.1,
        );
      }

-- ---- sums over machines
joined_length : (ts : List TotalDecl) (xs ys : List ℤ) → length xs ≡ length ts →
    length (totals_joined ts xs ys) ≡ length ts
joined_length [] xs ys n = refl
joined_length (t ∷ ts) [] ys n = absurd (omega (arith, n))
joined_length (t ∷ ts) (x ∷ xs) [] n = ap suc (joined_length ts xs [] (omega (arith, n)))
joined_length (t ∷ ts) (x ∷ xs) (y ∷ ys) n = ap suc (joined_length ts xs ys (omega (arith, n)))

joined_fit : (ts : List TotalDecl) (xs ys : List ℤ) → AllByRecursion (FitsSigned w64) xs →
    AllByRecursion (FitsSigned w64) ys →
    AllByRecursion (FitsSigned w64) (totals_joined ts xs ys)
joined_fit [] xs ys p q = tt
joined_fit (t ∷ ts) [] ys p q = tt
joined_fit (t ∷ ts) (x ∷ xs) [] p q = (p.0, joined_fit ts xs [] p.1 q)
joined_fit (t ∷ ts) (x ∷ xs) (y ∷ ys) p q = (combined_fits t.op x y p.0 q.0, joined_fit ts xs ys p.1 q.1)

-- numbers at most so many times 2^32, and totals that are words
pub record SumsFit (ts : List TotalDecl) (most : ℕ) (c : Counted) : Type 0 where
  pub active : c.active ≤ most * 2 ^ 32
  pub edges : c.edges ≤ most * 2 ^ 32
  pub reads : c.reads ≤ most * 2 ^ 32
  pub totals : IsWords (length ts) c.totals

all_fit : (ts : List TotalDecl) (most : ℕ) (a : Counted) (bs : List Counted) → SumsFit ts most a →
    AllByRecursion (SuitsTally (length ts)) bs →
    SumsFit ts (most + length bs) (all_joined ts a bs)
all_fit ts most a [] fit all = subst (λ n. SumsFit ts n a) (omega arith) fit
all_fit ts most a (b ∷ bs) fit all =
    let here = all.0 in
    let a1 = fit.active in
    let a2 = fit.edges in
    let a3 = fit.reads in
    let b1 = here.active in
    let b2 = here.edges in
    let b3 = here.reads in
    let next : SumsFit ts (most + 1) (joined ts a b) =
    record {
      active = omega (arith, a1, b1);
      edges = omega (arith, a2, b2);
      reads = omega (arith, a3, b3);
      totals = (
        joined_length ts a.totals b.totals fit.totals.0,
        joined_fit ts a.totals b.totals fit.totals.1
            here.totals.1,
      );
    } in
    subst (λ n. SumsFit ts n (all_joined ts a (b ∷ bs))) (omega arith)
    (all_fit ts (most + 1) (joined ts a b) bs next all.1)

module _ (s : State) (can : CanRun s.part s.split) (fits : HoldsFit s.part s.split s) where
  tally_fit : (r k : ℕ) → SuitsTally (total_count s.split) (tally_of s r k)
  tally_fit r k =
      let x : Name = tally_name r k in
      let n : ℕ = total_count s.split in
      let body : List ℕ = held_body s x in
      ⊎_elim (λ (none : body ≡ []). subst (λ b. SuitsTally n (counted_read n b)) (sym none) (tally_missing n).1)
      (λ (fit : FitsAs s.split s.part x body).
      tally_suits n body (ap (λ shape. is_fit shape body) (shape_parts s.split s.part x fit.0 fit.1).1 ∙ fit.2))
      (may_read s.split s.part x s.held fits.held)

  tallies_fit : (r : ℕ) (ks : List ℕ) → AllByRecursion (SuitsTally (total_count s.split)) (map (tally_of s r) ks)
  tallies_fit r [] = tt
  tallies_fit r (k ∷ ks) = (tally_fit r k, tallies_fit r ks)

  pub own_counted : (r : ℕ) → r < 2 ^ 32 → SuitsTally (total_count s.split) (counted s.part s.split s.rows s.reads r)
  own_counted r small = counted_suits s.part s.split can s.rows s.reads r fits.rows
      (reads_few s.part s.reads fits.reads) small

  pub sums_fit : (r : ℕ) → r < 2 ^ 32 → SumsFit (program_of s.split).totals.items 64 (sums_at s r)
  sums_fit r small =
      let ts : List TotalDecl = (program_of s.split).totals.items in
      let mine = own_counted r small in
      let m1 = mine.active in
      let m2 = mine.edges in
      let m3 = mine.reads in
      let own : SumsFit ts 1 (counted s.part s.split s.rows s.reads r) =
      record { active = omega (arith, m1); edges = omega (arith, m2); reads = omega (arith, m3); totals = mine.totals }
      in
      let others : List ℕ = others_of (p_of s) 0 in
      let all = all_fit ts 1 (counted s.part s.split s.rows s.reads r) (map (tally_of s r) others) own
      (tallies_fit r others) in
      let place = can.place in
      let few = can.ends.1 in
      let whole = can.whole.machine in
      let n : length others ≡ p_of s - 1 =
      sym (length-map others (tally_name 0)) ∙ length-map_others (tally_name 0) (p_of s) 0 (omega (arith, place)) in
      let count = length-map others (tally_of s r) in
      let a1 = all.active in
      let a2 = all.edges in
      let a3 = all.reads in
      record {
        active = omega (arith, a1, count, n, place, few, whole);
        edges = omega (arith, a2, count, n, place, few, whole);
        reads = omega (arith, a3, count, n, place, few, whole);
        totals = all.totals;
      }

  reported : (r : ℕ) → r < 2 ^ 32 → IsSmall (report_after s r)
  reported r small = by (nat_le 1 r)
    where
      by : (b : Bool) →
          IsSmall
          (if b then record {
            round = r;
            ruling = s.ruling;
            active = s.judged.active;
            edges = s.judged.edges;
            reads = (sums_at s r).reads;
          }
          else s.report)
      by true =
          let few = (sums_fit r small).reads in
          record { active = fits.judged.active; edges = fits.judged.edges; reads = omega (arith, few) }
      by false = fits.report

  pub judge_go_fits : (r : ℕ) → r < 2 ^ 32 → HoldsFit s.part s.split (judge_go s r)
  judge_go_fits r small =
      let sums = sums_fit r small in
      let a1 = sums.active in
      let a2 = sums.edges in
      record {
        rows = fits.rows;
        partials = fits.partials;
        ring = fits.ring;
        held = fits.held;
        reading = fits.reading;
        reads = fits.reads;
        judged = record {
          active = omega (arith, a1);
          edges = omega (arith, a2);
          totals = All-from_recursion (FitsSigned w64) (sums_at s r).totals sums.totals.1;
        };
        report = reported r small;
      }
