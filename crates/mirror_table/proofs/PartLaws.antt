-- The parts of a graph are parts: what a machine tells from its own edges is what it is in the whole graph.
use Rattle.std.proofs.Common.{◌≡◌, ℕ, ◌+◌, ◌-◌, ◌<◌, ◌≤◌, ◌≢◌, Bool, true, false, ◌&&◌, List, [], ◌++◌, length, map, refl, ap, sym, subst, ◌∙◌, arith, ⊎_elim}
use Rattle.std.specs.Prelude.{◌==◌, if◌then◌else◌, slice_index}
use Rattle.std.specs.List.{AllByRecursion, filter, flat_map, list_any, range_with_len}
use Rattle.std.proofs.lemmas.Bool.{and_parts, cases_Bool, eq-eqb, eqb-true, ne_eqb, true≢false}
use Rattle.std.proofs.lemmas.List.{append-nil}
use Rattle.std.proofs.lemmas.List.Concat.{flat_map-append}
use Rattle.std.proofs.lemmas.List.Elements.{All-from_recursion, recursion_from_All}
use Rattle.vert_base.specs.declared.graph.Edge.{Edge}
use Rattle.vert_base.specs.declared.limits.TheConstants.{EDGES, VERTICES}
use Rattle.vert_base.specs.Neighbours.{AreBelow, source, target, in_order}
use Rattle.graph_table.proofs.OrderLaws.{All-in_order, bucket-in_order, filter-in_order, in_order_by_buckets, in_order_twice}
use Rattle.chunk_split.specs.Chunks.{AreEnds, vertices_of}
use Rattle.circulant_plan.specs.Ring.{lies_in}
use Rattle.vert_base.specs.Ends.{start_of}
use Rattle.circulant_plan.proofs.SpanLaws.{range_split}
use Rattle.symple_face.specs.Parts.{IsPart, chunk_vertices, degree_in, edges_between, for_others, push_list, refresh_list}
use Rattle.symple_face.proofs.ListLaws.{filter_few}
use Rattle.symple_face.specs.PartsOf.{known_of, part_of, push_of, scan_of}
use Rattle.graph_table.proofs.FilterLaws.{all_filter, all_passes, all_range, all_true, all_weaker, filter_all, filter-flat_map, filter-map, filter_none, flat_map_none, flat_map_same, map-map, map_itself, map_same}
use Rattle.graph_table.proofs.BucketLaws.{bucket_kept}
use Rattle.symple_face.proofs.ChunkLaws.{chunk_rises, lies_is, one_chunk}
use Rattle.mirror_table.proofs.MovedLaws.{passes_from_any, two_count, two_keys, two_length}

-- two orders that are made once more
pub orders_twice : {X : Type 0} (major minor : X → ℕ) (n : ℕ) (xs : List X) →
    in_order major n (in_order minor n (in_order major n (in_order minor n xs)))
    ≡ in_order major n (in_order minor n xs)
orders_twice major minor n xs =
    in_order_by_buckets major n (in_order minor n (in_order major n (in_order minor n xs))) (in_order minor n xs)
    (λ v lt.
    filter-in_order (λ e. major e == v) minor n (in_order major n (in_order minor n xs))
    ∙ (ap (in_order minor n) (bucket-in_order major v n (in_order minor n xs) lt)
    ∙ (sym (filter-in_order (λ e. major e == v) minor n (in_order minor n xs))
    ∙ ap (filter (λ e. major e == v)) (in_order_twice minor n xs))))

pub all_in_order : {X : Type 0} (P : X → Type 0) (key : X → ℕ) (n : ℕ) (xs : List X) → AllByRecursion P xs →
    AllByRecursion P (in_order key n xs)
all_in_order P key n xs all = recursion_from_All P (in_order key n xs)
    (All-in_order P key n xs (All-from_recursion P xs all))

and_left : (a b : Bool) → (a && (a && b)) ≡ (a && b)
and_left true b = refl
and_left false b = refl

and_right : (a b : Bool) → (b && (a && b)) ≡ (a && b)
and_right true true = refl
and_right true false = refl
and_right false true = refl
and_right false false = refl

-- lists that are alike for each other machine
pub others_same : (p m : ℕ) (f g : ℕ → List ℕ) → ((k : ℕ) → f k ≡ g k) → for_others p m f ≡ for_others p m g
others_same p m f g h =
    map_same (λ k. if k == m then [] else f k) (λ k. if k == m then [] else g k) (range_with_len 0 p)
    (all_true (λ k. (if k == m then [] else f k) ≡ (if k == m then [] else g k)) (λ k.
    ap (λ l. if k == m then [] else l) (h k)) (range_with_len 0 p))

-- a list that only one machine adds to
pub one_alone : {X : Type 0} (p m : ℕ) (f : ℕ → List X) → m < p →
    flat_map (λ k. if k == m then f k else []) (range_with_len 0 p) ≡ f m
one_alone {X} p m f lt =
    let g : ℕ → List X = λ k. if k == m then f k else [] in
    let split : range_with_len 0 p ≡ range_with_len 0 m ++ (range_with_len m 1 ++ range_with_len (m + 1) (p - m - 1)) =
    ap (range_with_len 0) (let e : p ≡ m + (1 + (p - m - 1)) = omega arith in e)
    ∙ (range_split m (1 + (p - m - 1)) 0 m (omega arith)
    ∙ ap (λ zs. range_with_len 0 m ++ zs) (range_split 1 (p - m - 1) m (m + 1) refl)) in
    let other : (k : ℕ) → (k ≡ m → ⊥) → g k ≡ [] = λ k ne. let no' : (k == m) ≡ false = ne_eqb k m ne in rw no' refl in
    let self : g m ≡ f m = let here : (m == m) ≡ true = eq-eqb m m refl in rw here refl in
    let low : flat_map g (range_with_len 0 m) ≡ [] =
    flat_map_none g (range_with_len 0 m) (all_range (λ k. g k ≡ []) 0 m (λ k a b. other k (λ e. omega arith))) in
    let high : flat_map g (range_with_len (m + 1) (p - m - 1)) ≡ [] =
    flat_map_none g (range_with_len (m + 1) (p - m - 1))
    (all_range (λ k. g k ≡ []) (m + 1) (p - m - 1) (λ k a b. other k (λ e. omega arith))) in
    ap (flat_map g) split
    ∙ (flat_map-append g (range_with_len 0 m) (range_with_len m 1 ++ range_with_len (m + 1) (p - m - 1))
    ∙ (ap (λ zs. zs ++ flat_map g (range_with_len m 1 ++ range_with_len (m + 1) (p - m - 1))) low
    ∙ (flat_map-append g (range_with_len m 1) (range_with_len (m + 1) (p - m - 1))
    ∙ (ap (λ zs. flat_map g (range_with_len m 1) ++ zs) high
    ∙ (append-nil (g m ++ []) ∙ (append-nil (g m) ∙ self))))))

module _ (most : ℕ) (ends : List ℕ) (edges : List Edge) (are : AreEnds most ends)
    (below : AreBelow (vertices_of ends) edges) (m : ℕ) (here : m < length ends) where
  abbrev n : ℕ
  n = vertices_of ends

  pub sources_below : AllByRecursion (λ e. source e < vertices_of ends) edges
  sources_below = recursion_from_All (λ e. source e < n) edges (λ k d lt. (below k d lt).0)

  pub targets_below : AllByRecursion (λ e. target e < vertices_of ends) edges
  targets_below = recursion_from_All (λ e. target e < n) edges (λ k d lt. (below k d lt).1)

  -- from the edges of its own machine a list is as it is from all edges
  pub refresh_of_scan : (k : ℕ) → refresh_list ends k m (scan_of ends edges m) ≡ refresh_list ends k m edges
  refresh_of_scan k =
      two_keys target source n target (λ e. lies_in ends m (source e) && lies_in ends k (target e)) (λ e.
      lies_in ends m (source e)) edges
      (λ e. and_left (lies_in ends m (source e)) (lies_in ends k (target e))) targets_below sources_below

  pub push_to_scan : (k : ℕ) → push_list ends m k (scan_of ends edges m) ≡ push_list ends m k edges
  push_to_scan k =
      two_keys target source n source (λ e. lies_in ends m (source e) && lies_in ends k (target e)) (λ e.
      lies_in ends m (source e)) edges
      (λ e. and_left (lies_in ends m (source e)) (lies_in ends k (target e))) targets_below sources_below

  pub refresh_to_push : (k : ℕ) → refresh_list ends m k (push_of ends edges m) ≡ refresh_list ends m k edges
  refresh_to_push k =
      two_keys source target n target (λ e. lies_in ends k (source e) && lies_in ends m (target e)) (λ e.
      lies_in ends m (target e)) edges
      (λ e. and_right (lies_in ends k (source e)) (lies_in ends m (target e))) sources_below targets_below

  pub push_of_push : (k : ℕ) → push_list ends k m (push_of ends edges m) ≡ push_list ends k m edges
  push_of_push k =
      two_keys source target n source (λ e. lies_in ends k (source e) && lies_in ends m (target e)) (λ e.
      lies_in ends m (target e)) edges
      (λ e. and_right (lies_in ends k (source e)) (lies_in ends m (target e))) sources_below targets_below

  -- the degrees of own vertices by the own edges
  own_ins : (v : ℕ) → lies_in ends m v ≡ true → length (filter (λ e. target e == v) edges)
      ≡ length (filter (λ e. target e == v) (push_of ends edges m))
  own_ins v at =
      let s : Edge → Bool = λ e. lies_in ends m (target e) in
      sym (two_count source target n (λ e. target e == v) (filter s edges)
      (all_filter (λ e. source e < n) s edges sources_below) (all_filter (λ e. target e < n) s edges targets_below)
      ∙ ap length (bucket_kept target (lies_in ends m) v edges at))

  own_outs : (v : ℕ) → lies_in ends m v ≡ true → length (filter (λ e. source e == v) edges)
      ≡ length (filter (λ e. source e == v) (scan_of ends edges m))
  own_outs v at =
      let s : Edge → Bool = λ e. lies_in ends m (source e) in
      sym (two_count target source n (λ e. source e == v) (filter s edges)
      (all_filter (λ e. target e < n) s edges targets_below) (all_filter (λ e. source e < n) s edges sources_below)
      ∙ ap length (bucket_kept source (lies_in ends m) v edges at))

  own_degree : (v : ℕ) → lies_in ends m v ≡ true →
      degree_in edges edges v ≡ degree_in (push_of ends edges m) (scan_of ends edges m) v
  own_degree v at =
      let ins = own_ins v at in
      let outs = own_outs v at in
      ap (λ q. record { id = record { 0 = v }; ins = q; outs = length (filter (λ e. source e == v) edges) }) ins
      ∙ ap (λ q. record {
        id = record { 0 = v };
        ins = length (filter (λ e. target e == v) (push_of ends edges m));
        outs = q;
      }) outs

  chunk_lies : AllByRecursion (λ v. lies_in ends m v ≡ true) (chunk_vertices ends m)
  chunk_lies =
      let up = chunk_rises most ends are m here in
      all_range (λ v. lies_in ends m v ≡ true) (start_of ends m) (slice_index ends m - start_of ends m) (λ v low high.
      lies_is (start_of ends m) (slice_index ends m) v low (omega arith))

  -- the lists of other machines have no own vertices
  lists_elsewhere : (k : ℕ) → k < length ends → k ≢ m →
      AllByRecursion (λ v. lies_in ends m v ≡ false) (refresh_list ends k m edges)
  lists_elsewhere k kin ne =
      let between : List Edge = edges_between ends m k edges in
      let there : AllByRecursion (λ e. lies_in ends k (target e) ≡ true) between =
      all_weaker (λ e. (lies_in ends m (source e) && lies_in ends k (target e)) ≡ true) (λ e.
      lies_in ends k (target e) ≡ true)
      (λ e h. (and_parts (lies_in ends m (source e)) (lies_in ends k (target e)) h).1) between
      (all_passes (λ e. lies_in ends m (source e) && lies_in ends k (target e)) edges) in
      all_weaker (λ v. list_any (λ e. target e == v) between ≡ true) (λ v. lies_in ends m v ≡ false)
      (λ v met.
      ⊎_elim
      (λ (own : lies_in ends m v ≡ true). absurd
      (ne (one_chunk most ends are k m v kin here (passes_from_any target (lies_in ends k) v between there met)
      own)))
      (λ (out : lies_in ends m v ≡ false). out)
      (cases_Bool (lies_in ends m v)))
      (refresh_list ends k m edges) (all_passes (λ v. list_any (λ e. target e == v) between) (range_with_len 0 n))

  -- of the vertices that a machine knows those of its chunk are its own
  pub own_known : filter (lies_in ends m) (known_of ends edges m) ≡ chunk_vertices ends m
  own_known =
      let g : ℕ → List ℕ = λ k. if k == m then chunk_vertices ends k else refresh_list ends k m edges in
      filter-flat_map (lies_in ends m) g (range_with_len 0 (length ends))
      ∙ (flat_map_same (λ k. filter (lies_in ends m) (g k)) (λ k. if k == m then chunk_vertices ends k else [])
      (range_with_len 0 (length ends))
      (all_range (λ k. filter (lies_in ends m) (g k) ≡ (if k == m then chunk_vertices ends k else [])) 0 (length ends)
      (λ k low high.
      ⊎_elim
      (λ (self : (k == m) ≡ true).
      let at : filter (lies_in ends m) (chunk_vertices ends k) ≡ chunk_vertices ends k =
      let P : ℕ → Type 0 = λ q. filter (lies_in ends m) (chunk_vertices ends q) ≡ chunk_vertices ends q in
      subst P (sym (eqb-true k m self)) (filter_all (lies_in ends m) (chunk_vertices ends m) chunk_lies) in
      rw self at)
      (λ (other : (k == m) ≡ false).
      let none : filter (lies_in ends m) (refresh_list ends k m edges) ≡ [] =
      filter_none (lies_in ends m) (refresh_list ends k m edges)
      (lists_elsewhere k (omega arith) (λ e. true≢false (sym (eq-eqb k m e) ∙ other))) in
      rw other none)
      (cases_Bool (k == m))))
      ∙ one_alone (length ends) m (chunk_vertices ends) here)

  -- the part of a machine is one
  pub part_is : (draws : ℕ) → vertices_of ends ≤ VERTICES → length edges ≤ EDGES → IsPart (part_of ends draws edges m)
  part_is draws within few =
      let from : Edge → Bool = λ e. lies_in ends m (source e) in
      let into : Edge → Bool = λ e. lies_in ends m (target e) in
      let low_from : AllByRecursion (λ e. source e < n) (filter from edges) =
      all_filter (λ e. source e < n) from edges sources_below in
      let high_from : AllByRecursion (λ e. target e < n) (filter from edges) =
      all_filter (λ e. target e < n) from edges targets_below in
      let low_into : AllByRecursion (λ e. source e < n) (filter into edges) =
      all_filter (λ e. source e < n) into edges sources_below in
      let high_into : AllByRecursion (λ e. target e < n) (filter into edges) =
      all_filter (λ e. target e < n) into edges targets_below in
      record {
        machine = refl;
        within = within;
        few = few;
        few_scan = omega (
          arith,
          two_length target source n (filter from edges) high_from low_from,
          filter_few from edges,
        );
        few_push = omega (
          arith,
          two_length source target n (filter into edges) low_into high_into,
          filter_few into edges,
        );
        scan_order = sym (orders_twice target source n (filter from edges));
        push_order = sym (orders_twice source target n (filter into edges));
        scan_chunk = All-from_recursion (λ e. lies_in ends m (source e) ≡ true) (scan_of ends edges m)
            (all_in_order (λ e. lies_in ends m (source e) ≡ true) target n (in_order source n (filter from edges))
            (all_in_order (λ e. lies_in ends m (source e) ≡ true) source n (filter from edges)
            (all_passes from edges)));
        push_chunk = All-from_recursion (λ e. lies_in ends m (target e) ≡ true) (push_of ends edges m)
            (all_in_order (λ e. lies_in ends m (target e) ≡ true) source n (in_order target n (filter into edges))
            (all_in_order (λ e. lies_in ends m (target e) ≡ true) target n (filter into edges)
            (all_passes into edges)));
        refresh_to = others_same (length ends) m (λ k. refresh_list ends m k edges) (λ k.
            refresh_list ends m k (push_of ends edges m)) (λ k. sym (refresh_to_push k));
        refresh_of = others_same (length ends) m (λ k. refresh_list ends k m edges) (λ k.
            refresh_list ends k m (scan_of ends edges m)) (λ k. sym (refresh_of_scan k));
        push_to = others_same (length ends) m (λ k. push_list ends m k edges) (λ k.
            push_list ends m k (scan_of ends edges m)) (λ k. sym (push_to_scan k));
        push_of = others_same (length ends) m (λ k. push_list ends k m edges) (λ k.
            push_list ends k m (push_of ends edges m)) (λ k. sym (push_of_push k));
        known =
            map-map (λ d. d.id.0) (degree_in edges edges) (known_of ends edges m)
            ∙ (map_itself (known_of ends edges m)
            ∙ flat_map_same (λ k. if k == m then chunk_vertices ends k else refresh_list ends k m edges) (λ k.
            if k == m then chunk_vertices ends k else refresh_list ends k m (scan_of ends edges m))
            (range_with_len 0 (length ends))
            (all_true (λ k. (if k == m then chunk_vertices ends k else refresh_list ends k m edges)
            ≡ (if k == m then chunk_vertices ends k else refresh_list ends k m (scan_of ends edges m)))
            (λ k. ap (λ l. if k == m then chunk_vertices ends k else l) (sym (refresh_of_scan k)))
            (range_with_len 0 (length ends))));
        own =
            filter-map (λ d. lies_in ends m d.id.0) (degree_in edges edges) (known_of ends edges m)
            ∙ (ap (map (degree_in edges edges)) own_known
            ∙ map_same (degree_in edges edges) (degree_in (push_of ends edges m) (scan_of ends edges m))
            (chunk_vertices ends m)
            (all_weaker (λ v. lies_in ends m v ≡ true) (λ v.
            degree_in edges edges v ≡ degree_in (push_of ends edges m) (scan_of ends edges m) v) (λ v at.
            own_degree v at) (chunk_vertices ends m) chunk_lies));
      }
