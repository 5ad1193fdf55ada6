-- Edges with one end stand side by side in a list in order of it.
use Rattle.std.proofs.Common.{◌≡◌, ℕ, zero, suc, ◌+◌, ◌-◌, ◌<◌, ◌≤◌, Bool, true, false, ◌||◌, cond, List, [], ◌∷◌, ◌++◌, length, get_or, take, drop, map, refl, ap, sym, subst, ◌∙◌, arith, ⊎_elim}
use Rattle.std.specs.Prelude.{◌==◌, ◌&&◌, nat_le, nat_lt, not}
use Rattle.std.proofs.lemmas.List.FromFn.{get_or-range_with_len, length-range_with_len}
use Rattle.std.proofs.lemmas.List.Kept.{AllPairs-from_increasing, IsNonDecreasingBy-filter, IsStrictlyIncreasing-filter}
use Rattle.std.specs.List.{All, AllByRecursion, filter, list_any, prefix_len, range_with_len, slice_range}
use Rattle.std.specs.List.Sorted.{IsNonDecreasingBy, IsPartitionPoint, IsPartitionedBy, IsStrictlyIncreasing}
use Rattle.std.proofs.lemmas.Bool.Decides.{nat_tests}
use Rattle.std.proofs.lemmas.Bool.{cases_eq, cases_lt, eq-eqb, eqb-true, ne_eqb, eqb-false}
use Rattle.std.proofs.lemmas.List.{append-nil, drop-map, get_or-drop, get_or-map, get_or-take, get_or_default, length-drop, length-map, length-take, map_push, take-append-drop, take-map, take-take, take_all}
use Rattle.std.proofs.lemmas.List.Elements.{filter_agree, All-from_get_or, All-from_recursion, All-get_or, All-push, filter-append, recursion_from_All}
use Rattle.std.proofs.lemmas.List.Folds.{list_any-append, list_any_at, list_any_none}
use Rattle.std.proofs.lemmas.List.Sums.{prefix_len-le-length, prefix_len_is, prefix_len_passes, prefix_len_stops, prefix_len-drop_yes}
use Rattle.std.proofs.Math.Seq.{take-add}
use Rattle.vert_base.specs.declared.graph.Edge.{Edge}
use Rattle.vert_base.specs.declared.graph.VertexId.{VertexId}
use Rattle.vert_base.specs.Neighbours.{bucket, in_order, source, target}
use Rattle.vert_base.proofs.Orders.{Rises, in_order_below, in_order_rises}
use Rattle.graph_table.proofs.FilterLaws.{all_range, all_weaker, filter_all, filter_filter, filter_none, filter_same}
use Rattle.circulant_plan.proofs.SpanLaws.{range_split}
use Rattle.symple_face.specs.Parts.{ends_met}
use Rattle.machine_parts.specs.Spans.{AreSpans, IsSpan, SpansRise, vertex_of}
use Rattle.machine_parts.specs.declared.spans.Span.{Span}

-- whether a vertex is an end of one of the edges
abbrev met : (Edge → ℕ) → List Edge → ℕ → Bool
met end edges v = list_any (λ e. end e == v) edges

-- behind edges with smaller ends, edges with one end add it
module _ (end : Edge → ℕ) (k : ℕ) (a b : List Edge) (low : All (λ e. end e < k) a) (same : All (λ e. end e ≡ k) b)
    (some : 0 < length b) where
  none_in : (P : Edge → Type 0) (xs : List Edge) (v : ℕ) → All P xs → ((e : Edge) → P e → end e ≡ v → ⊥)
      → met end xs v ≡ false
  none_in P xs v all other = list_any_none (λ e. end e == v) xs
      (λ i d lt. ne_eqb (end (get_or xs i d)) v (other (get_or xs i d) (all i d lt)))

  met_below : (v : ℕ) → v < k → met end (a ++ b) v ≡ met end a v
  met_below v lt =
      list_any-append (λ e. end e == v) a b
      ∙ ap (λ c. met end a v || c) (none_in (λ e. end e ≡ k) b v same (λ e is at. omega arith))
      ∙ or_false (met end a v)
    where
      or_false : (c : Bool) → (c || false) ≡ c
      or_false true = refl
      or_false false = refl

  first_none : (v : ℕ) → k ≤ v → met end a v ≡ false
  first_none v le = none_in (λ e. end e < k) a v low (λ e lt at. omega arith)

  met_above : (v : ℕ) → k < v → met end (a ++ b) v ≡ false
  met_above v lt =
      list_any-append (λ e. end e == v) a b
      ∙ ap (λ c. c || met end b v) (first_none v (omega arith))
      ∙ none_in (λ e. end e ≡ k) b v same (λ e is at. omega arith)

  met_here : (d : Edge) → met end (a ++ b) k ≡ true
  met_here d =
      list_any-append (λ e. end e == k) a b
      ∙ ap (λ c. c || met end b k) (first_none k (omega arith))
      ∙ list_any_at (λ e. end e == k) b 0 d some (eq-eqb (end (get_or b 0 d)) k (same 0 d some))

  range_at : (m : ℕ) → range_with_len 0 (k + suc m) ≡ range_with_len 0 k ++ (k ∷ range_with_len (k + 1) m)
  range_at m = range_split k (suc m) 0 k (omega arith)

  met_run_of : (m : ℕ) (d : Edge) → ends_met end (k + suc m) (a ++ b) ≡ ends_met end (k + suc m) a ++ k ∷ []
  met_run_of m d =
      let p = met end (a ++ b) in
      let q = met end a in
      let lower = range_with_len 0 k in
      let upper = range_with_len (k + 1) m in
      let front : filter p (range_with_len 0 k) ≡ filter q (range_with_len 0 k) =
      filter_same p q lower (all_range (λ v. p v ≡ q v) 0 k (λ v low high. met_below v (omega arith))) in
      let back : filter p (k ∷ range_with_len (k + 1) m) ≡ k ∷ [] =
      ap (λ c. cond c (k ∷ filter p upper) (filter p upper)) (met_here d)
      ∙ ap (λ vs. k ∷ vs) (filter_none p upper (all_range (λ v. p v ≡ false) (k + 1) m
      (λ v low high. met_above v (omega arith)))) in
      let none : filter q (k ∷ range_with_len (k + 1) m) ≡ [] =
      filter_none q (k ∷ upper) (all_range (λ v. q v ≡ false) k (suc m) (λ v low high. first_none v low)) in
      let whole : ends_met end (k + suc m) a ≡ filter q (range_with_len 0 k) =
      ap (filter q) (range_at m) ∙ filter-append q lower (k ∷ upper) ∙ ap (λ vs. filter q lower ++ vs) none
      ∙ append-nil (filter q lower) in
      ap (filter p) (range_at m)
      ∙ filter-append p lower (k ∷ upper)
      ∙ ap (λ vs. vs ++ filter p (k ∷ upper)) front
      ∙ ap (λ vs. filter q lower ++ vs) back
      ∙ ap (λ vs. vs ++ k ∷ []) (sym whole)

  pub met_run : (n : ℕ) (d : Edge) → k < n → ends_met end n (a ++ b) ≡ ends_met end n a ++ k ∷ []
  met_run n d lt =
      let whole : k + suc (n - suc k) ≡ n = omega arith in
      subst (λ (z : ℕ). ends_met end z (a ++ b) ≡ ends_met end z a ++ k ∷ []) whole (met_run_of (n - suc k) d)

-- the edges that have the end of the one at a place, from there on
module _ (end : Edge → ℕ) (edges : List Edge) (order : IsNonDecreasingBy end edges) (start k : ℕ) (d : Edge)
    (inside : start < length edges) (is : k ≡ end (get_or edges start d))
    (before : (i : ℕ) → i < start → end (get_or edges i d) < k) where
  abbrev same : Edge → Bool
  same e = end e == k

  abbrev rest : List Edge
  rest = drop start edges

  abbrev count : ℕ
  count = prefix_len same (drop start edges)

  size : length (drop start edges) ≡ length edges - start
  size = length-drop start edges

  pub run_within : start + prefix_len (λ e. end e == k) (drop start edges) ≤ length edges
  run_within = omega (arith, prefix_len-le-length same rest, size)

  pub run_some : start < start + prefix_len (λ e. end e == k) (drop start edges)
  run_some = omega (arith, prefix_len-drop_yes same edges start d inside (eq-eqb _ _ (sym is)))

  low_part : All (λ e. end e < k) (take start edges)
  low_part =
      All-from_get_or (λ e. end e < k) (take start edges) d
      (λ i lt. let low : i < start = omega (arith, length-take start edges) in
      subst (λ (e : Edge). end e < k) (sym (get_or-take start edges i d low)) (before i low))

  run_part : All (λ e. end e ≡ k) (take (prefix_len same (drop start edges)) (drop start edges))
  run_part =
      All-from_get_or (λ e. end e ≡ k) (take count rest) d
      (λ i lt. let low : i < prefix_len same (drop start edges) = omega (arith, length-take count rest) in
      subst (λ (e : Edge). end e ≡ k) (sym (get_or-take count rest i d low))
      (eqb-true _ _ (prefix_len_passes same rest i d low)))

  -- an edge behind the run has a greater end
  pub above_run : (i : ℕ) → start + prefix_len (λ e. end e == k) (drop start edges) ≤ i → i < length edges
      → k < end (get_or edges i d)
  above_run i le lt =
      let stop : prefix_len same (drop start edges) < length (drop start edges) = omega (arith, size) in
      let other : end (get_or (drop start edges) (prefix_len same (drop start edges)) d) ≡ k → ⊥ =
      eqb-false _ _ (prefix_len_stops same rest d stop) in
      let at : get_or (drop start edges) (prefix_len same (drop start edges)) d
      ≡ get_or edges (start + prefix_len same (drop start edges)) d = get_or-drop start edges count d in
      let up : end (get_or edges start d) ≤ end (get_or edges (start + prefix_len same (drop start edges)) d) =
      order start (start + count) d (omega arith) (omega arith) in
      let on : end (get_or edges (start + prefix_len same (drop start edges)) d) ≤ end (get_or edges i d) =
      order (start + count) i d le lt in
      let apart : end (get_or edges (start + prefix_len same (drop start edges)) d) ≡ k → ⊥ =
      λ e. other (ap end at ∙ e) in
      omega (arith, is)

  -- those before it and in it have smaller ones
  pub below_next : (i j : ℕ) → i < start + prefix_len (λ e. end e == k) (drop start edges)
      → start + prefix_len (λ e. end e == k) (drop start edges) ≤ j → j < length edges
      → end (get_or edges i d) < end (get_or edges j d)
  below_next i j lt le within =
      let high = above_run j le within in
      ⊎_elim
      (λ (low : i < start). let first = before i low in omega arith)
      (λ (from : start ≤ i).
      let at : get_or (drop start edges) (i - start) d ≡ get_or edges (start + (i - start)) d =
      get_or-drop start edges (i - start) d in
      let place : start + (i - start) ≡ i = omega arith in
      let here : end (get_or edges i d) ≡ k =
      ap (λ z. end (get_or edges z d)) (sym place) ∙ ap end (sym at)
      ∙ eqb-true _ _ (prefix_len_passes same rest (i - start) d (omega arith)) in
      omega arith)
      (cases_lt i start)

  behind_part : All (λ e. k < end e) (drop (prefix_len same (drop start edges)) (drop start edges))
  behind_part =
      All-from_get_or (λ e. k < end e) (drop count rest) d
      (λ i lt.
      let at : get_or (drop (prefix_len same (drop start edges)) (drop start edges)) i d
      ≡ get_or edges (start + (prefix_len same (drop start edges) + i)) d =
      get_or-drop count rest i d ∙ get_or-drop start edges (count + i) d in
      let room : i < length edges - start - prefix_len same (drop start edges) =
      omega (arith, length-drop count rest, size) in
      subst (λ (e : Edge). k < end e) (sym at) (above_run (start + (count + i)) (omega arith) (omega arith)))

  pub run_edges : slice_range edges start (start + prefix_len (λ e. end e == k) (drop start edges)) ≡ bucket end k
      edges
  run_edges =
      let run = take count rest in
      let behind = drop count rest in
      let none : (P : Edge → Type 0) (xs : List Edge) → All P xs → ((e : Edge) → P e → end e ≡ k → ⊥)
      → filter same xs ≡ [] =
      λ P xs all other. filter_none same xs (all_weaker P (λ e. same e ≡ false) (λ e p. ne_eqb (end e) k (other e
      p)) xs
      (recursion_from_All P xs all)) in
      let mid : filter same (take (prefix_len same (drop start edges)) (drop start edges))
      ≡ take (prefix_len same (drop start edges)) (drop start edges) =
      filter_all same run (all_weaker (λ e. end e ≡ k) (λ e. same e ≡ true) (λ e p. eq-eqb (end e) k p) run
      (recursion_from_All (λ e. end e ≡ k) run run_part)) in
      let length' : start + prefix_len same (drop start edges) - start ≡ prefix_len same (drop start edges) =
      omega arith in
      let parts : bucket end k edges ≡ take (prefix_len same (drop start edges)) (drop start edges) =
      ap (filter same) (sym (take-append-drop start edges))
      ∙ filter-append same (take start edges) rest
      ∙ ap (λ es. es ++ filter same rest) (none (λ e. end e < k) (take start edges) low_part (λ e lt at. omega arith))
      ∙ ap (filter same) (sym (take-append-drop count rest))
      ∙ filter-append same run behind
      ∙ ap (λ es. filter same run ++ es) (none (λ e. k < end e) behind behind_part (λ e lt at. omega arith))
      ∙ append-nil (filter same run)
      ∙ mid in
      ap (λ z. take z rest) length' ∙ sym parts

  pub run_met : (n : ℕ) → k < n → ends_met end n (take (start + prefix_len (λ e. end e == k) (drop start edges))
      edges)
      ≡ ends_met end n (take start edges) ++ k ∷ []
  run_met n lt =
      let some : 0 < length (take (prefix_len same (drop start edges)) (drop start edges)) =
      omega (arith, length-take count rest, prefix_len-le-length same rest, run_some) in
      ap (ends_met end n) (take-add start count edges)
      ∙ met_run end k (take start edges) (take count rest) low_part run_part some n d lt

-- the spans of the edges before a place, behind which greater ends stand
pub record IsSpanning (end : Edge → ℕ) (edges : List Edge) (start : ℕ) (spans : List Span) : Type 0 where
  pub within : start ≤ length edges
  pub before : (i j : ℕ) (d : Edge) → i < start → start ≤ j → j < length edges
      → end (get_or edges i d) < end (get_or edges j d)
  pub vertices : (n : ℕ) → All (λ e. end e < n) edges → map vertex_of spans ≡ ends_met end n (take start edges)
  pub each : All (IsSpan end edges) spans

none_yet : (end : Edge → ℕ) (edges : List Edge) → IsSpanning end edges 0 []
none_yet end edges = record {
  within = omega arith;
  before = λ i j d lt le within. absurd (omega arith);
  vertices = λ n below. sym (filter_none (λ v. false) (range_with_len 0 n)
      (all_range (λ v. false ≡ false) 0 n (λ v low high. refl)));
  each = λ k d lt. absurd (omega arith);
}

pub spanning_none : (end : Edge → ℕ) (edges : List Edge) (spans : List Span) → spans ≡ [] → IsSpanning end edges 0
    spans
spanning_none end edges spans none = subst (IsSpanning end edges 0) (sym none) (none_yet end edges)

module _ (end : Edge → ℕ) (edges : List Edge) (start stop k : ℕ) (d : Edge) (spans more : List Span)
    (span : Span) where
  pub spanning_more : IsNonDecreasingBy end edges → start < length edges → k ≡ end (get_or edges start d) →
      stop ≡ start + prefix_len (λ e. end e == k) (drop start edges) →
      span ≡ record { vertex = record { 0 = k }; start = start; end = stop } → more ≡ spans ++ span ∷ [] →
      IsSpanning end edges start spans → IsSpanning end edges stop more
  spanning_more order inside is at here added so_far =
      let before : (i : ℕ) → i < start → end (get_or edges i d) < k = λ i lt. let low =
      so_far.before i start d lt (omega arith) inside in omega arith in
      let count : ℕ = prefix_len (λ e. end e == k) (drop start edges) in
      let within : start + prefix_len (λ e. end e == k) (drop start edges) ≤ length edges =
      run_within end edges order start k d inside is before in
      let one : IsSpan end edges (record {
        vertex = record { 0 = k };
        start = start;
        end =
            start + prefix_len (λ e. end e == k) (drop start edges);
      }) = record {
        some = run_some end edges order start k d inside is before;
        within = within;
        stand = run_edges end edges order start k d inside is before;
      } in
      let last : IsSpan end edges span = subst (IsSpan end edges)
      (ap (λ z. record { vertex = record { 0 = k }; start = start; end = z }) (sym at) ∙ sym here) one in
      record {
        within = omega arith;
        before = λ i j e lt le inside'.
            let low : i < length edges = omega arith in
            let low' = below_next end edges order start k d inside is before i j (omega arith) (omega arith)
            inside' in
            subst (λ (x : ℕ). x < end (get_or edges j e)) (ap end (get_or_default edges i d e low))
            (subst (λ (x : ℕ). end (get_or edges i d) < x) (ap end (get_or_default edges j d e inside')) low');
        vertices = λ n below.
            let small : k < n = subst (λ (x : ℕ). x < n) (sym is) (below start d inside) in
            let vertex : vertex_of span ≡ k = ap vertex_of here in
            ap (map vertex_of) added ∙ map_push vertex_of spans span
            ∙ ap (λ vs. vs ++ vertex_of span ∷ []) (so_far.vertices n below)
            ∙ ap (λ v. ends_met end n (take start edges) ++ v ∷ []) vertex
            ∙ sym (run_met end edges order start k d inside is before n small)
            ∙ ap (λ z. ends_met end n (take z edges)) (sym at);
        each = subst (All (IsSpan end edges)) (sym added) (All-push (IsSpan end edges) spans span so_far.each last);
      }

pub spanning_all : (end : Edge → ℕ) (edges : List Edge) (start n : ℕ) (spans : List Span) → length edges ≤ start →
    All (λ e. end e < n) edges → IsSpanning end edges start spans → AreSpans end n edges spans
spanning_all end edges start n spans done below so_far = record {
  vertices = so_far.vertices n below ∙ ap (ends_met end n) (take_all start edges done);
  each = so_far.each;
}

-- the first edges of a list that have an end, where another one follows
module _ (end : Edge → ℕ) (v : ℕ) (xs : List Edge) (n x : ℕ) (d : Edge) where
  pub run_stops : n < length xs → x ≡ end (get_or xs n d) → (x ≡ v → ⊥) →
      ((k : ℕ) (e : Edge) → k < n → end (get_or xs k e) ≡ v) → n ≡ prefix_len (λ e. end e == v) xs
  run_stops lt is other same =
      sym (prefix_len_is (λ e. end e == v) xs n d (omega arith)
      (λ k low. eq-eqb (end (get_or xs k d)) v (same k d low))
      (λ _. ne_eqb (end (get_or xs n d)) v (λ e. other (is ∙ e))))

-- and where there are no more
pub run_ends : (end : Edge → ℕ) (v n : ℕ) (xs : List Edge) → length xs ≤ n
    → ((k : ℕ) (e : Edge) → k < n → end (get_or xs k e) ≡ v) → length xs ≡ prefix_len (λ e. end e == v) xs
run_ends end v n [] le same = refl
run_ends end v n (x ∷ xs) le same =
    sym (prefix_len_is (λ e. end e == v) (x ∷ xs) (length (x ∷ xs)) x (omega arith)
    (λ k low. eq-eqb (end (get_or (x ∷ xs) k x)) v (same k x (omega arith))) (λ lt. absurd (omega arith)))

-- a run reaches at most to the end, and has the edge at its front
module _ (end : Edge → ℕ) (edges rest : List Edge) (start count k : ℕ) (d : Edge) where
  pub run_fits : start < length edges → k ≡ end (get_or edges start d) → rest ≡ drop start edges →
      count ≡ prefix_len (λ e. end e == k) rest → (start + count ≤ length edges) × (0 < count)
  run_fits inside is here run =
      let same : Edge → Bool = λ e. end e == k in
      let at : count ≡ prefix_len (λ e. end e == k) (drop start edges) = run ∙ ap (prefix_len same) here in (
        omega (arith, at, prefix_len-le-length same (drop start edges), length-drop start edges),
        omega (arith, at, prefix_len-drop_yes same edges start d inside (eq-eqb _ _ (sym is))),
      )

rises_at : (end : Edge → ℕ) (xs : List Edge) → Rises end xs → (i j : ℕ) (d : Edge) → i ≤ j → j < length xs
    → end (get_or xs i d) ≤ end (get_or xs j d)
rises_at end [] up i j d le lt = absurd (omega arith)
rises_at end (x ∷ xs) up zero zero d le lt = omega arith
rises_at end (x ∷ xs) up zero (suc j) d le lt = All-get_or (λ y. end x ≤ end y) xs j d (omega arith)
    (All-from_recursion (λ y. end x ≤ end y) xs up.0)
rises_at end (x ∷ xs) up (suc i) zero d le lt = absurd (omega arith)
rises_at end (x ∷ xs) up (suc i) (suc j) d le lt = rises_at end xs up.1 i j d (omega arith) (omega arith)

-- a list that is in order
pub ordered : (end : Edge → ℕ) (n : ℕ) (xs ys : List Edge) → ys ≡ in_order end n xs → IsNonDecreasingBy end ys
ordered end n xs ys is = subst (IsNonDecreasingBy end) (sym is)
    (rises_at end (in_order end n xs) (in_order_rises end n xs))

-- has only ends below the bound
pub ordered_below : (end : Edge → ℕ) (n : ℕ) (xs ys : List Edge) → ys ≡ in_order end n xs → All (λ e. end e < n) ys
ordered_below end n xs ys is = subst (All (λ e. end e < n)) (sym is)
    (All-from_recursion (λ e. end e < n) (in_order end n xs) (in_order_below end n xs))

-- the sources of the first edges of a vertex
module _ (edges : List Edge) (span : Span) (sources part : List VertexId) (count : ℕ) where
  pub first_sources_are : span.start + count ≤ span.end → IsSpan target edges span →
      map (λ v. v.0) sources ≡ map source edges → part ≡ slice_range sources span.start (span.start + count) →
      map (λ v. v.0) part ≡ map source (take count (bucket target span.vertex.0 edges))
  first_sources_are within is same here =
      let number : VertexId → ℕ = λ v. v.0 in
      let size : span.start + count - span.start ≡ count = omega arith in
      let less : count ≤ span.end - span.start = omega arith in
      ap (map number) (here ∙ ap (λ n. take n (drop span.start sources)) size)
      ∙ sym (take-map number count (drop span.start sources) ∙ refl)
      ∙ ap (take count) (sym (drop-map number span.start sources) ∙ ap (drop span.start) same ∙ drop-map source
      span.start edges)
      ∙ take-map source count (drop span.start edges)
      ∙ ap (map source) (sym (take-take count (span.end - span.start) (drop span.start edges) less) ∙ ap (take count)
      is.stand)

-- where a test holds of the first elements alone, these are those that pass it
module _ {X : Type 0} (p q : X → Bool) (xs : List X) (i : ℕ) (d : X) (within : i ≤ length xs)
    (point : IsPartitionPoint (λ y. p y ≡ true) (λ y. p y ≡ false) xs i) (other : (x : X) → q x ≡ not (p x)) where
  front : AllByRecursion (λ y. p y ≡ true) (take i xs)
  front =
      recursion_from_All (λ y. p y ≡ true) (take i xs)
      (All-from_get_or (λ y. p y ≡ true) (take i xs) d
      (λ k lt. let low : k < i = omega (arith, length-take i xs) in
      ap p (get_or-take i xs k d low) ∙ point.0 k d (omega arith) low))

  behind : AllByRecursion (λ y. p y ≡ false) (drop i xs)
  behind =
      recursion_from_All (λ y. p y ≡ false) (drop i xs)
      (All-from_get_or (λ y. p y ≡ false) (drop i xs) d
      (λ k lt. ap p (get_or-drop i xs k d) ∙ point.1 (i + k) d (omega arith) (omega (arith, length-drop i xs))))

  pub passing_first : take i xs ≡ filter p xs
  passing_first =
      sym (ap (filter p) (sym (take-append-drop i xs))
      ∙ filter-append p (take i xs) (drop i xs)
      ∙ ap (λ ys. ys ++ filter p (drop i xs)) (filter_all p (take i xs) front)
      ∙ ap (λ ys. take i xs ++ ys) (filter_none p (drop i xs) behind)
      ∙ append-nil (take i xs))

  pub failing_last : drop i xs ≡ filter q xs
  failing_last =
      sym (ap (filter q) (sym (take-append-drop i xs))
      ∙ filter-append q (take i xs) (drop i xs)
      ∙ ap (λ ys. ys ++ filter q (drop i xs)) (filter_none q (take i xs) (all_weaker (λ y. p y ≡ true) (λ y. q y ≡
      false) (λ y h. other y ∙ ap not h) (take i xs) front))
      ∙ filter_all q (drop i xs) (all_weaker (λ y. p y ≡ false) (λ y. q y ≡ true) (λ y h. other y ∙ ap not h) (drop
      i xs) behind))

pub below_too : (a b v : ℕ) → a ≤ b → nat_lt b v ≡ true → nat_lt a v ≡ true
below_too a b v le h = grind (arith, nat_tests)

-- the vertices below one stand in front of the others
pub stand_in_front : (v : ℕ) (spans : List Span) → IsNonDecreasingBy vertex_of spans → IsPartitionedBy (λ s. nat_lt
    (vertex_of s) v) spans
stand_in_front v spans up = λ i j d le within h. below_too (vertex_of (get_or spans i d)) (vertex_of (get_or spans
    j d)) v (up i j d le within) h

pub not_below : (a v : ℕ) → nat_le v a ≡ not (nat_lt a v)
not_below a v = grind (arith, nat_tests)

abbrev pub no_span : Span
no_span = record { vertex = record { 0 = 0 }; start = 0; end = 0 }

-- a filter by two bounds, one after the other
pub within_bounds : (a b : ℕ) (spans below : List Span) → below ≡ filter (λ s. nat_lt (vertex_of s) b) spans →
    filter (λ s. nat_le a (vertex_of s)) below ≡ filter (λ s. nat_le a (vertex_of s) && nat_lt (vertex_of s) b) spans
within_bounds a b spans below is =
    ap (filter (λ s. nat_le a (vertex_of s))) is
    ∙ filter_filter (λ s. nat_le a (vertex_of s)) (λ s. nat_lt (vertex_of s) b) spans
    ∙ filter_agree (λ s. nat_lt (vertex_of s) b && nat_le a (vertex_of s)) (λ s. nat_le a (vertex_of s) && nat_lt
    (vertex_of s) b)
    (λ s. and_turned (nat_lt (vertex_of s) b) (nat_le a (vertex_of s))) spans
  where
    and_turned : (x y : Bool) → (x && y) ≡ (y && x)
    and_turned true true = refl
    and_turned true false = refl
    and_turned false true = refl
    and_turned false false = refl

-- those below a bound are in order too
pub below_in_order : (b : ℕ) (spans below : List Span) → below ≡ filter (λ s. nat_lt (vertex_of s) b) spans →
    IsNonDecreasingBy vertex_of spans →
    IsNonDecreasingBy vertex_of below
below_in_order b spans below is up =
    subst (IsNonDecreasingBy vertex_of) (sym is) (IsNonDecreasingBy-filter vertex_of (λ s. nat_lt (vertex_of s) b)
    spans up)

range_rises : (n : ℕ) → IsStrictlyIncreasing (range_with_len 0 n)
range_rises n k lt =
    let inside : k + 1 < n = omega (arith, length-range_with_len 0 n) in
    omega (arith, get_or-range_with_len 0 n k 0 (omega arith), get_or-range_with_len 0 n (k + 1) 0 inside)

pub spans_rise : SpansRise
spans_rise end n edges spans are i j d le lt =
    let ids : List ℕ = map vertex_of spans in
    let increasing : IsStrictlyIncreasing (map vertex_of spans) =
    subst IsStrictlyIncreasing (sym are.vertices)
    (IsStrictlyIncreasing-filter (met end edges) (range_with_len 0 n) (range_rises n)) in
    ⊎_elim
    (λ (same : i ≡ j). let here : vertex_of (get_or spans i d) ≡ vertex_of (get_or spans j d) =
    ap (λ k. vertex_of (get_or spans k d)) same in omega arith)
    (λ (other : i ≡ j → ⊥).
    let low : i < j = omega arith in
    let within : j < length (map vertex_of spans) = omega (arith, length-map spans vertex_of) in
    let above = AllPairs-from_increasing ids increasing i j 0 low within in
    omega (arith, above, get_or-map vertex_of spans i d 0 (omega arith), get_or-map vertex_of spans j d 0 lt))
    (cases_eq i j)
