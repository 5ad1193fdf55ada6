-- Which vertices two machines speak of, and which degrees a machine knows.
use Rattle.std.proofs.Common.{◌≡◌, ℕ, ◌+◌, ◌-◌, ◌<◌, ◌≤◌, Bool, true, false, cond, ◌&&◌, List, [], ◌++◌, length, refl, ap, sym, ◌∙◌, arith, ⊎_elim}
use Rattle.std.specs.Prelude.{◌==◌, if◌then◌else◌, slice_index}
use Rattle.std.specs.List.{AllByRecursion, filter, list_any, range_with_len}
use Rattle.std.proofs.lemmas.Bool.{cases_Bool, eqb-true}
use Rattle.std.proofs.lemmas.List.{append-nil}
use Rattle.std.proofs.lemmas.List.Elements.{filter-append}
use Rattle.vert_base.specs.declared.graph.Edge.{Edge}
use Rattle.vert_base.specs.Neighbours.{bucket, source, target}
use Rattle.vert_base.proofs.Orders.{filter-in_order, part-two_orders}
use Rattle.chunk_split.specs.Chunks.{AreEnds, vertices_of}
use Rattle.circulant_plan.specs.Ring.{lies_in}
use Rattle.vert_base.specs.Ends.{start_of}
use Rattle.circulant_plan.proofs.SpanLaws.{range_split}
use Rattle.graph_table.proofs.FilterLaws.{all_filter, all_passes, all_range, all_weaker, filter_all, filter_filter, filter_none, filter_same}
use Rattle.symple_face.specs.Parts.{chunk_vertices, edges_between, push_list, refresh_list}
use Rattle.symple_face.specs.PartsOf.{known_of, push_of}
use Rattle.round_laws.specs.Vertices.{KnowsOwn, KnowsWorked, PushedMeet, RefreshedMeet, are_some, members_at}
use Rattle.symple_face.proofs.ChunkLaws.{chunk_rises, chunk_within, lies_high, lies_is, lies_low, lies_not_above, lies_not_below, lies_within}
use Rattle.round_laws.proofs.Lists.{any-filter, any-flat_map, any_and, any_kept, any_more, any_range, any_same, some-filter, some-in_order}
use Rattle.round_laws.proofs.Sums.{chunks_cover}

-- the tests of an edge between two chunks at one of its ends
at_target : (s t : Bool) (lies : ℕ → Bool) (end v : ℕ) → ((s && lies end) && (end == v)) ≡ (lies v && ((end == v) && s))
at_target s t lies end v =
    ⊎_elim
    (λ (here : (end == v) ≡ true).
    let same : lies end ≡ lies v = ap lies (eqb-true end v here) in
    rw (same, here) (swap s (lies v)))
    (λ (other : (end == v) ≡ false). rw other (none (s && lies end) (lies v)))
    (cases_Bool (end == v))
  where
    swap : (a b : Bool) → ((a && b) && true) ≡ (b && (true && a))
    swap true true = refl
    swap true false = refl
    swap false true = refl
    swap false false = refl

    none : (a b : Bool) → (a && false) ≡ (b && (false && s))
    none true true = refl
    none true false = refl
    none false true = refl
    none false false = refl

at_source : (lies : ℕ → Bool) (t : Bool) (end v : ℕ) → ((lies end && t) && (end == v)) ≡ (lies v && (t && (end == v)))
at_source lies t end v =
    ⊎_elim
    (λ (here : (end == v) ≡ true).
    let same : lies end ≡ lies v = ap lies (eqb-true end v here) in
    rw (same, here) (join (lies v) t))
    (λ (other : (end == v) ≡ false). rw other (none (lies end && t) (lies v) t))
    (cases_Bool (end == v))
  where
    join : (a b : Bool) → ((a && b) && true) ≡ (a && (b && true))
    join true true = refl
    join true false = refl
    join false true = refl
    join false false = refl

    none : (a b c : Bool) → (a && false) ≡ (b && (c && false))
    none true true true = refl
    none true true false = refl
    none true false c = refl
    none false true true = refl
    none false true false = refl
    none false false c = refl

module _ (most : ℕ) (ends : List ℕ) (are : AreEnds most ends) where
  abbrev n : ℕ
  n = vertices_of ends

  -- the vertices of a chunk among all
  chunk_of_all : (k : ℕ) → k < length ends → filter (lies_in ends k) (range_with_len 0 n) ≡ chunk_vertices ends k
  chunk_of_all k lt =
      let a = start_of ends k in
      let b = slice_index ends k in
      let up : a ≤ b = chunk_rises most ends are k lt in
      let top : b ≤ n = chunk_within most ends are k lt in
      let whole : a + ((b - a) + (n - b)) ≡ n = omega arith in
      let parts : range_with_len 0 n ≡ range_with_len 0 a ++ (range_with_len a (b - a) ++ range_with_len b (n - b)) =
      ap (range_with_len 0) (sym whole)
      ∙ range_split a ((b - a) + (n - b)) 0 a (omega arith)
      ∙ ap (λ l. range_with_len 0 a ++ l) (range_split (b - a) (n - b) a b (omega arith)) in
      let low : filter (lies_in ends k) (range_with_len 0 a) ≡ [] =
      filter_none (lies_in ends k) (range_with_len 0 a)
      (all_range (λ v. lies_in ends k v ≡ false) 0 a (λ v l h. lies_not_below a b v (omega arith))) in
      let own : filter (lies_in ends k) (range_with_len a (b - a)) ≡ range_with_len a (b - a) =
      filter_all (lies_in ends k) (range_with_len a (b - a))
      (all_range (λ v. lies_in ends k v ≡ true) a (b - a) (λ v l h. lies_is a b v l (omega arith))) in
      let high : filter (lies_in ends k) (range_with_len b (n - b)) ≡ [] =
      filter_none (lies_in ends k) (range_with_len b (n - b))
      (all_range (λ v. lies_in ends k v ≡ false) b (n - b) (λ v l h. lies_not_above a b v l)) in
      ap (filter (lies_in ends k)) parts
      ∙ filter-append (lies_in ends k) (range_with_len 0 a) (range_with_len a (b - a) ++ range_with_len b (n - b))
      ∙ ap (λ l. l ++ filter (lies_in ends k) (range_with_len a (b - a) ++ range_with_len b (n - b))) low
      ∙ filter-append (lies_in ends k) (range_with_len a (b - a)) (range_with_len b (n - b))
      ∙ ap (λ l. l ++ filter (lies_in ends k) (range_with_len b (n - b))) own
      ∙ ap (λ l. range_with_len a (b - a) ++ l) high
      ∙ append-nil (range_with_len a (b - a))

  -- a filter of all vertices that passes those of a chunk alone
  within_chunk :
      (k : ℕ) (p q : ℕ → Bool) → k < length ends → ((v : ℕ) → v < n → p v ≡ (lies_in ends k v && q v)) →
      filter p (range_with_len 0 n) ≡ filter q (chunk_vertices ends k)
  within_chunk k p q lt h =
      filter_same p (λ v. lies_in ends k v && q v) (range_with_len 0 n)
      (all_range (λ v. p v ≡ (lies_in ends k v && q v)) 0 n (λ v low high. h v (omega arith)))
      ∙ sym (filter_filter q (lies_in ends k) (range_with_len 0 n))
      ∙ ap (filter q) (chunk_of_all k lt)

  module _ (edges : List Edge) (k m : ℕ) (kin : k < length ends) (min : m < length ends) where
    -- whether members of a vertex lie with machine m
    members_any :
        (v : ℕ) →
        are_some (members_at ends edges m v) ≡ list_any (λ e. (target e == v) && lies_in ends m (source e)) edges
    members_any v =
        let lies : Edge → Bool = λ e. lies_in ends m (source e) in
        let into : List Edge = bucket target v edges in
        let low : AllByRecursion (λ e. source e < n) (filter lies into) =
        all_weaker (λ e. lies e ≡ true) (λ e. source e < n)
        (λ e h. lies_within most ends are m (source e) min h) (filter lies into) (all_passes lies into) in
        ap are_some (filter-in_order lies source n into)
        ∙ some-in_order source n (filter lies into) low
        ∙ some-filter lies into
        ∙ any-filter lies (λ e. target e == v) edges

    pub refreshed_meet : refresh_list ends k m edges ≡ filter
        (λ v. are_some (members_at ends edges m v)) (chunk_vertices ends k)
    refreshed_meet =
        within_chunk k (λ v. list_any (λ e. target e == v) (edges_between ends m k edges))
        (λ v. are_some (members_at ends edges m v)) kin
        (λ v lt.
        any-filter (λ e. target e == v) (λ e. lies_in ends m (source e) && lies_in ends k (target e)) edges
        ∙ any_same (λ e. (lies_in ends m (source e) && lies_in ends k (target e)) && (target e == v))
        (λ e. lies_in ends k v && ((target e == v) && lies_in ends m (source e))) edges
        (λ e. at_target (lies_in ends m (source e)) true (lies_in ends k) (target e) v)
        ∙ any_and (lies_in ends k v) (λ e. (target e == v) && lies_in ends m (source e)) edges
        ∙ ap (λ b. lies_in ends k v && b) (sym (members_any v)))

    -- whether machine k has edges from a vertex
    pushes_any : (u : ℕ) → u < n → are_some (bucket source u (push_of ends edges k)) ≡ list_any
        (λ e. lies_in ends k (target e) && (source e == u)) edges
    pushes_any u lt =
        let lies : Edge → Bool = λ e. lies_in ends k (target e) in
        let own : List Edge = filter lies edges in
        let low : AllByRecursion (λ e. target e < n) own =
        all_weaker (λ e. lies e ≡ true) (λ e. target e < n)
        (λ e h. lies_within most ends are k (target e) kin h) own (all_passes lies edges) in
        ap are_some (part-two_orders source target n own u lt)
        ∙ some-in_order target n (bucket source u own) (all_filter (λ e. target e < n) (λ e. source e == u) own low)
        ∙ some-filter (λ e. source e == u) own
        ∙ any-filter (λ e. source e == u) lies edges

    pub pushed_meet : push_list ends m k edges ≡ filter
        (λ u. are_some (bucket source u (push_of ends edges k))) (chunk_vertices ends m)
    pushed_meet =
        within_chunk m (λ u. list_any (λ e. source e == u) (edges_between ends m k edges))
        (λ u. are_some (bucket source u (push_of ends edges k))) min
        (λ u lt.
        any-filter (λ e. source e == u) (λ e. lies_in ends m (source e) && lies_in ends k (target e)) edges
        ∙ any_same (λ e. (lies_in ends m (source e) && lies_in ends k (target e)) && (source e == u))
        (λ e. lies_in ends m u && (lies_in ends k (target e) && (source e == u))) edges
        (λ e. at_source (lies_in ends m) (lies_in ends k (target e)) (source e) u)
        ∙ any_and (lies_in ends m u) (λ e. lies_in ends k (target e) && (source e == u)) edges
        ∙ ap (λ b. lies_in ends m u && b) (sym (pushes_any u lt)))

  module _ (edges : List Edge) (m v : ℕ) (min : m < length ends) (lt : v < n) where
    abbrev lists : ℕ → List ℕ
    lists k = if k == m then chunk_vertices ends k else refresh_list ends k m edges

    -- the vertex is in some chunk
    in_some_chunk : list_any
        (λ k. list_any (λ u. u == v) (chunk_vertices ends k)) (range_with_len 0 (length ends)) ≡ true
    in_some_chunk =
        sym (any-flat_map (λ u. u == v) (chunk_vertices ends) (range_with_len 0 (length ends)))
        ∙ ap (list_any (λ u. u == v)) (chunks_cover most ends are)
        ∙ any_range v 0 n (omega arith) (omega arith)

    knows_by : ((k : ℕ) → k < length ends → list_any
        (λ u. u == v) (chunk_vertices ends k) ≡ true → (k == m) ≡ false → list_any
        (λ u. u == v) (refresh_list ends k m edges) ≡ true) →
        list_any (λ u. u == v) (known_of ends edges m) ≡ true
    knows_by h =
        any-flat_map (λ u. u == v) lists (range_with_len 0 (length ends))
        ∙ any_more (λ k. list_any (λ u. u == v) (chunk_vertices ends k))
        (λ k. list_any (λ u. u == v) (lists k)) (range_with_len 0 (length ends))
        (all_range (λ k. list_any (λ u. u == v) (chunk_vertices ends k) ≡ true → list_any
        (λ u. u == v) (lists k) ≡ true) 0 (length ends)
        (λ k low high here.
        ⊎_elim
        (λ (own : (k == m) ≡ true). ap
        (λ b. list_any (λ u. u == v) (cond b (chunk_vertices ends k) (refresh_list ends k m edges))) own ∙ here)
        (λ (other : (k == m) ≡ false).
        ap (λ b. list_any (λ u. u == v) (cond b (chunk_vertices ends k) (refresh_list ends k m edges))) other
        ∙ h k (omega arith) here other)
        (cases_Bool (k == m))))
        in_some_chunk

    worked : are_some (members_at ends edges m v) ≡ true → list_any (λ u. u == v) (known_of ends edges m) ≡ true
    worked some =
        knows_by (λ k kin here other.
        ap (list_any (λ u. u == v)) (refreshed_meet edges k m kin min)
        ∙ any_kept (λ v. are_some (members_at ends edges m v)) v (chunk_vertices ends k) some here)

pub refreshed_law : RefreshedMeet
refreshed_law most ends edges k m are kin min = refreshed_meet most ends are edges k m kin min

pub pushed_law : PushedMeet
pushed_law most ends edges k m are kin min = pushed_meet most ends are edges k m kin min

pub worked_law : KnowsWorked
worked_law most ends edges m v are min lt some = worked most ends are edges m v min lt some

-- at its own place stands the whole chunk
pub own_law : KnowsOwn
own_law most ends edges m v are min lies =
    let f : ℕ → List ℕ = λ k. if k == m then chunk_vertices ends k else refresh_list ends k m edges in
    let low = lies_low ends m v lies in
    let high = lies_high ends m v lies in
    let here : list_any (λ u. u == v) (chunk_vertices ends m) ≡ true =
    any_range v (start_of ends m) (slice_index ends m - start_of ends m) low (omega arith) in
    any-flat_map (λ u. u == v) f (range_with_len 0 (length ends))
    ∙ any_more (λ k. k == m) (λ k. list_any (λ u. u == v) (f k)) (range_with_len 0 (length ends))
    (all_range (λ k. (k == m) ≡ true → list_any (λ u. u == v) (f k) ≡ true) 0 (length ends)
    (λ k l h is.
    ap (λ b. list_any (λ u. u == v) (cond b (chunk_vertices ends k) (refresh_list ends k m edges))) is
    ∙ ap (λ q. list_any (λ u. u == v) (chunk_vertices ends q)) (eqb-true k m is)
    ∙ here))
    (any_range m 0 (length ends) (omega arith) (omega arith))
