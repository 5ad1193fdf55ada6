-- What is made machine by machine is the part by its definition.
use Rattle.std.proofs.Common.{◌≡◌, ℕ, ◌-◌, ◌<◌, Bool, true, false, cond, ◌&&◌, List, [], ◌∷◌, length, map, refl, ap, sym, subst, ◌∙◌, arith, ⊎_elim}
use Rattle.std.specs.Prelude.{◌==◌, if◌then◌else◌, slice_index, slice_index_or}
use Rattle.std.specs.List.{All, AllByRecursion, filter, flat_map, list_any, range_with_len}
use Rattle.std.specs.List.Sorted.{IsNonDecreasingBy}
use Rattle.std.proofs.lemmas.Bool.{cases_Bool}
use Rattle.std.proofs.lemmas.List.Elements.{All-from_recursion}
use Rattle.std.specs.declared.alloc.Global.{Global}
use Rattle.std.specs.declared.vec.Vec.{Vec}
use Rattle.std.proofs.lemmas.List.{length-map}
use Rattle.std.proofs.lemmas.List.FromFn.{length-map-range_with_len}
use Rattle.vert_base.specs.declared.graph.Edge.{Edge}
use Rattle.vert_base.specs.declared.graph.VertexId.{VertexId}
use Rattle.vert_base.specs.Neighbours.{AreBelow, source, target, in_order}
use Rattle.chunk_split.specs.Chunks.{AreEnds, vertices_of}
use Rattle.circulant_plan.specs.Ring.{lies_in}
use Rattle.vert_base.specs.Ends.{start_of}
use Rattle.vert_base.proofs.Orders.{in_order_rises}
use Rattle.symple_face.specs.declared.degree.Degree.{Degree}
use Rattle.symple_face.specs.Parts.{PlainPart, chunk_vertices, degree_in, ends_met, for_others, lists_of, push_list, refresh_list}
use Rattle.symple_face.specs.PartsOf.{known_of, part_of, push_of, scan_of}
use Rattle.graph_table.proofs.FilterLaws.{all_filter, all_flat_map, all_passes, all_range, all_weaker, filter_same, flat_map_same}
use Rattle.symple_face.proofs.ChunkLaws.{chunk_rises, chunk_within}
use Rattle.symple_face.proofs.ListLaws.{other_list}
use Rattle.mirror_table.proofs.PartLaws.{all_in_order, others_same, push_of_push, push_to_scan, refresh_of_scan, refresh_to_push, sources_below, targets_below}
use Rattle.graph_table.proofs.SplitLaws.{by_index}

-- the vertex lists of a chunk's vertices hold edges of the graph
module _ (most : ℕ) (ends : List ℕ) (edges : List Edge) (are : AreEnds most ends)
    (below : AreBelow (vertices_of ends) edges) (m : ℕ) (here : m < length ends) where
  pub scan_rises : IsNonDecreasingBy target (scan_of ends edges m)
  scan_rises = by_index target (scan_of ends edges m)
      (in_order_rises target (vertices_of ends)
      (in_order source (vertices_of ends) (filter (λ e. lies_in ends m (source e)) edges)))

  pub push_rises : IsNonDecreasingBy source (push_of ends edges m)
  push_rises = by_index source (push_of ends edges m)
      (in_order_rises source (vertices_of ends)
      (in_order target (vertices_of ends) (filter (λ e. lies_in ends m (target e)) edges)))

  both_ends : (xs : List Edge) → AllByRecursion (λ e. source e < vertices_of ends) xs →
      AllByRecursion (λ e. target e < vertices_of ends) xs → AreBelow (vertices_of ends) xs
  both_ends xs low high = λ k d lt. (
    All-from_recursion (λ e. source e < vertices_of ends) xs low k d lt,
    All-from_recursion (λ e. target e < vertices_of ends) xs high k d lt,
  )

  ordered_all : (P : Edge → Type 0) (major minor : Edge → ℕ) (p : Edge → Bool) → AllByRecursion P edges →
      AllByRecursion P (in_order major (vertices_of ends) (in_order minor (vertices_of ends) (filter p edges)))
  ordered_all P major minor p all = all_in_order P major (vertices_of ends)
      (in_order minor (vertices_of ends) (filter p edges))
      (all_in_order P minor (vertices_of ends) (filter p edges) (all_filter P p edges all))

  pub scan_below : AreBelow (vertices_of ends) (scan_of ends edges m)
  scan_below =
      both_ends (scan_of ends edges m)
      (ordered_all (λ e. source e < vertices_of ends) target source (λ e. lies_in ends m (source e))
      (sources_below most ends edges are below m here))
      (ordered_all (λ e. target e < vertices_of ends) target source (λ e. lies_in ends m (source e))
      (targets_below most ends edges are below m here))

  pub push_below : AreBelow (vertices_of ends) (push_of ends edges m)
  push_below =
      both_ends (push_of ends edges m)
      (ordered_all (λ e. source e < vertices_of ends) source target (λ e. lies_in ends m (target e))
      (sources_below most ends edges are below m here))
      (ordered_all (λ e. target e < vertices_of ends) source target (λ e. lies_in ends m (target e))
      (targets_below most ends edges are below m here))

  from_here : AllByRecursion (λ e. lies_in ends m (source e) ≡ true) (scan_of ends edges m)
  from_here =
      all_in_order (λ e. lies_in ends m (source e) ≡ true) target (vertices_of ends)
      (in_order source (vertices_of ends) (filter (λ e. lies_in ends m (source e)) edges))
      (all_in_order (λ e. lies_in ends m (source e) ≡ true) source (vertices_of ends)
      (filter (λ e. lies_in ends m (source e)) edges) (all_passes (λ e. lies_in ends m (source e)) edges))

  into_here : AllByRecursion (λ e. lies_in ends m (target e) ≡ true) (push_of ends edges m)
  into_here =
      all_in_order (λ e. lies_in ends m (target e) ≡ true) source (vertices_of ends)
      (in_order target (vertices_of ends) (filter (λ e. lies_in ends m (target e)) edges))
      (all_in_order (λ e. lies_in ends m (target e) ≡ true) target (vertices_of ends)
      (filter (λ e. lies_in ends m (target e)) edges) (all_passes (λ e. lies_in ends m (target e)) edges))

  -- an edge of the own scan lies between the own chunk and that of its target
  scan_between : (k : ℕ) → filter (λ e. lies_in ends k (target e)) (scan_of ends edges m)
      ≡ filter (λ e. lies_in ends m (source e) && lies_in ends k (target e)) (scan_of ends edges m)
  scan_between k =
      filter_same (λ e. lies_in ends k (target e)) (λ e. lies_in ends m (source e) && lies_in ends k (target e))
      (scan_of ends edges m)
      (all_weaker (λ e. lies_in ends m (source e) ≡ true) (λ e.
      lies_in ends k (target e) ≡ (lies_in ends m (source e) && lies_in ends k (target e))) (λ e h.
      sym (ap (λ b. b && lies_in ends k (target e)) h)) (scan_of ends edges m) from_here)

  and_true : (a b : Bool) → b ≡ true → a ≡ (a && b)
  and_true true b e = sym e
  and_true false b e = refl

  push_between : (k : ℕ) → filter (λ e. lies_in ends k (source e)) (push_of ends edges m)
      ≡ filter (λ e. lies_in ends k (source e) && lies_in ends m (target e)) (push_of ends edges m)
  push_between k =
      filter_same (λ e. lies_in ends k (source e)) (λ e. lies_in ends k (source e) && lies_in ends m (target e))
      (push_of ends edges m)
      (all_weaker (λ e. lies_in ends m (target e) ≡ true) (λ e.
      lies_in ends k (source e) ≡ (lies_in ends k (source e) && lies_in ends m (target e))) (λ e h.
      and_true (lies_in ends k (source e)) (lies_in ends m (target e)) h) (push_of ends edges m) into_here)

  -- so the lists that are made are those of the definition
  pub refresh_of_made : for_others (length ends) m (λ k.
      ends_met target (vertices_of ends) (filter (λ e. lies_in ends k (target e)) (scan_of ends edges m)))
      ≡ for_others (length ends) m (λ k. refresh_list ends k m edges)
  refresh_of_made =
      others_same (length ends) m (λ k. ends_met target (vertices_of ends)
      (filter (λ e. lies_in ends k (target e)) (scan_of ends edges m))) (λ k. refresh_list ends k m edges)
      (λ k. ap (ends_met target (vertices_of ends)) (scan_between k)
      ∙ refresh_of_scan most ends edges are below m here k)

  pub push_to_made : for_others (length ends) m (λ k.
      ends_met source (vertices_of ends) (filter (λ e. lies_in ends k (target e)) (scan_of ends edges m)))
      ≡ for_others (length ends) m (λ k. push_list ends m k edges)
  push_to_made =
      others_same (length ends) m (λ k. ends_met source (vertices_of ends)
      (filter (λ e. lies_in ends k (target e)) (scan_of ends edges m))) (λ k. push_list ends m k edges)
      (λ k. ap (ends_met source (vertices_of ends)) (scan_between k) ∙ push_to_scan most ends edges are below m here k)

  pub refresh_to_made : for_others (length ends) m (λ k.
      ends_met target (vertices_of ends) (filter (λ e. lies_in ends k (source e)) (push_of ends edges m)))
      ≡ for_others (length ends) m (λ k. refresh_list ends m k edges)
  refresh_to_made =
      others_same (length ends) m (λ k. ends_met target (vertices_of ends)
      (filter (λ e. lies_in ends k (source e)) (push_of ends edges m))) (λ k. refresh_list ends m k edges)
      (λ k. ap (ends_met target (vertices_of ends)) (push_between k)
      ∙ refresh_to_push most ends edges are below m here k)

  pub push_of_made : for_others (length ends) m (λ k.
      ends_met source (vertices_of ends) (filter (λ e. lies_in ends k (source e)) (push_of ends edges m)))
      ≡ for_others (length ends) m (λ k. push_list ends k m edges)
  push_of_made =
      others_same (length ends) m (λ k. ends_met source (vertices_of ends)
      (filter (λ e. lies_in ends k (source e)) (push_of ends edges m))) (λ k. push_list ends k m edges)
      (λ k. ap (ends_met source (vertices_of ends)) (push_between k) ∙ push_of_push most ends edges are below m here k)

  -- the vertices of the chunks and lists are those that the machine knows
  pub known_made : (lists : List (List ℕ)) → lists ≡ for_others (length ends) m (λ k. refresh_list ends k m edges) →
      flat_map (λ k. if k == m then chunk_vertices ends k else slice_index_or lists k [])
      (range_with_len 0 (length ends)) ≡ known_of ends edges m
  known_made lists are_lists =
      flat_map_same (λ k. if k == m then chunk_vertices ends k else slice_index_or lists k []) (λ k.
      if k == m then chunk_vertices ends k else refresh_list ends k m edges) (range_with_len 0 (length ends))
      (all_range (λ k. (if k == m then chunk_vertices ends k else slice_index_or lists k [])
      ≡ (if k == m then chunk_vertices ends k else refresh_list ends k m edges)) 0 (length ends)
      (λ k low high.
      ⊎_elim
      (λ (self : (k == m) ≡ true). rw self refl)
      (λ (other : (k == m) ≡ false).
      rw other (ap (λ ls. slice_index_or ls k []) are_lists
      ∙ other_list (length ends) m k (λ k. refresh_list ends k m edges) (omega arith) other))
      (cases_Bool (k == m))))

  -- and all of them are vertices
  pub known_below : AllByRecursion (λ v. v < vertices_of ends) (known_of ends edges m)
  known_below =
      all_flat_map (λ v. v < vertices_of ends) (λ k. if k == m then chunk_vertices ends k
      else refresh_list ends k m edges) (range_with_len 0 (length ends))
      (all_range (λ k. AllByRecursion (λ v. v < vertices_of ends) (if k == m then chunk_vertices ends k
      else refresh_list ends k m edges)) 0 (length ends)
      (λ k low high.
      let top = chunk_within most ends are k (omega arith) in
      let up = chunk_rises most ends are k (omega arith) in
      let own : AllByRecursion (λ v. v < vertices_of ends) (chunk_vertices ends k) =
      all_range (λ v. v < vertices_of ends) (start_of ends k) (slice_index ends k - start_of ends k) (λ v a b.
      omega arith) in
      let lists : AllByRecursion (λ v. v < vertices_of ends) (refresh_list ends k m edges) =
      all_filter (λ v. v < vertices_of ends) (λ v.
      list_any (λ e. target e == v) (filter (λ e. lies_in ends m (source e) && lies_in ends k (target e)) edges))
      (range_with_len 0 (vertices_of ends))
      (all_range (λ v. v < vertices_of ends) 0 (vertices_of ends) (λ v a b. omega arith)) in
      elim (k == m) as (λ b. AllByRecursion (λ v. v < vertices_of ends)
      (cond b (chunk_vertices ends k) (refresh_list ends k m edges))) [ true ↦ own | false ↦ lists ]))

pub all_from_map : {X : Type 0} (number : X → ℕ) (n : ℕ) (xs : List X) → AllByRecursion (λ v. v < n) (map number xs) →
    AllByRecursion (λ x. number x < n) xs
all_from_map number n [] h = tt
all_from_map number n (x ∷ xs) h = (h.0, all_from_map number n xs h.1)

-- a part whose fields are those of the definition is that part
module _ (ends : List ℕ) (draws : ℕ) (edges : List Edge) (m : ℕ) (p : PlainPart) (machine : p.at.machine ≡ m)
    (machines : p.at.machines ≡ length ends) (cuts : p.ends ≡ ends) (count : p.edges ≡ length edges) where
  pub part_made : p.draws ≡ draws → p.scan ≡ scan_of ends edges m → p.push ≡ push_of ends edges m →
      p.degrees ≡ map (degree_in edges edges) (known_of ends edges m) →
      p.refresh_to ≡ for_others (length ends) m (λ k. refresh_list ends m k edges) →
      p.refresh_of ≡ for_others (length ends) m (λ k. refresh_list ends k m edges) →
      p.push_to ≡ for_others (length ends) m (λ k. push_list ends m k edges) →
      p.push_of ≡ for_others (length ends) m (λ k. push_list ends k m edges) → p ≡ part_of ends draws edges m
  part_made drawn scan_is push_is degrees_are to_is of_is push_to_is push_of_is =
      let whole : PlainPart = part_of ends draws edges m in
      ap (λ (x : ℕ). record p { at = record { machine = x; machines = p.at.machines } }) machine
      ∙ (ap (λ (x : ℕ). record p { at = record { machine = m; machines = x } }) machines
      ∙ (ap (λ (x : List ℕ). record p { at = whole.at; ends = x }) cuts
      ∙ (ap (λ (x : ℕ). record p { at = whole.at; ends = ends; edges = x }) count
      ∙ (ap (λ (x : ℕ). record p { at = whole.at; ends = ends; edges = whole.edges; draws = x }) drawn
      ∙ (ap (λ (x : List Edge). record p { at = whole.at; ends = ends; edges = whole.edges; draws = draws; scan = x })
      scan_is
      ∙ (ap (λ (x : List Edge). record p {
        at = whole.at;
        ends = ends;
        edges = whole.edges;
        draws = draws;
        scan = whole.scan;
        push = x;
      }) push_is
      ∙ (ap (λ (x : List Degree). record p {
        at = whole.at;
        ends = ends;
        edges = whole.edges;
        draws = draws;
        scan = whole.scan;
        push = whole.push;
        degrees = x;
      }) degrees_are
      ∙ (ap (λ (x : List (List ℕ)). record whole {
        refresh_to = x;
        refresh_of = p.refresh_of;
        push_to = p.push_to;
        push_of = p.push_of;
      }) to_is
      ∙ (ap (λ (x : List (List ℕ)). record whole { refresh_of = x; push_to = p.push_to; push_of = p.push_of }) of_is
      ∙ (ap (λ (x : List (List ℕ)). record whole { push_to = x; push_of = p.push_of }) push_to_is
      ∙ ap (λ (x : List (List ℕ)). record whole { push_of = x }) push_of_is))))))))))

-- lists that are made for other machines are as many as the machines
pub others_length : (lists : List (Vec VertexId Global)) (now : List (Vec VertexId Global)) (p m : ℕ) (f : ℕ → List ℕ)
    → now ≡ lists → lists_of lists ≡ for_others p m f → length now ≡ p
others_length lists now p m f same is =
    ap length same
    ∙ (sym (length-map lists (λ l. map (λ v. v.0) l.items))
    ∙ (ap length is ∙ length-map-range_with_len (λ k. if k == m then [] else f k) 0 p))

module _ (ends : List ℕ) (edges : List Edge) (are : AreEnds 64 ends) (below : AreBelow (vertices_of ends) edges)
    (m : ℕ) (here : m < length ends) where
  -- the vertices that were gathered from lists made of the scan are those that the machine knows
  pub known_is : (lists : List (List ℕ)) (xs : List Edge) (known : List VertexId) → xs ≡ scan_of ends edges m →
      lists ≡ for_others (length ends) m (λ k.
      ends_met target (vertices_of ends) (filter (λ e. lies_in ends k (target e)) xs)) →
      map (λ v. v.0) known ≡ flat_map (λ k. if k == m then chunk_vertices ends k else slice_index_or lists k [])
      (range_with_len 0 (length ends)) →
      map (λ v. v.0) known ≡ known_of ends edges m
  known_is lists xs known scan_is lists_are gathered =
      gathered
      ∙ known_made 64 ends edges are below m here lists
      (lists_are ∙ (ap (λ es. for_others (length ends) m (λ k.
      ends_met target (vertices_of ends) (filter (λ e. lies_in ends k (target e)) es))) scan_is
      ∙ refresh_of_made 64 ends edges are below m here))

  pub known_low : (known : List VertexId) → map (λ v. v.0) known ≡ known_of ends edges m →
      All (λ v. v.0 < vertices_of ends) known
  known_low known is =
      All-from_recursion (λ v. v.0 < vertices_of ends) known
      (all_from_map (λ v. v.0) (vertices_of ends) known
      (subst (λ (vs : List ℕ). AllByRecursion (λ v. v < vertices_of ends) vs) (sym is)
      (known_below 64 ends edges are below m here)))

  -- what is made step by step is the part
  module _ (draws : ℕ) (p : PlainPart) (xs ys : List Edge) (vs : List ℕ) (machine : p.at.machine ≡ m)
      (machines : p.at.machines ≡ length ends) (cuts : p.ends ≡ ends) (count : p.edges ≡ length edges)
      (drawn : p.draws ≡ draws) (scan_is : p.scan ≡ scan_of ends edges m)
      (push_is : p.push ≡ push_of ends edges m) where
    pub made_is : xs ≡ p.scan → ys ≡ p.push →
        p.refresh_of ≡ for_others (length ends) m (λ k. ends_met target (vertices_of ends) (filter (λ e. lies_in
        ends k (target e)) xs)) →
        p.push_to ≡ for_others (length ends) m (λ k. ends_met source (vertices_of ends) (filter (λ e. lies_in
        ends k (target e)) xs)) →
        p.refresh_to ≡ for_others (length ends) m (λ k. ends_met target (vertices_of ends) (filter (λ e. lies_in
        ends k (source e)) ys)) →
        p.push_of ≡ for_others (length ends) m (λ k. ends_met source (vertices_of ends) (filter (λ e. lies_in
        ends k (source e)) ys)) → vs ≡ known_of ends edges m → p.degrees ≡ map (degree_in edges edges) vs →
        p ≡ part_of ends draws edges m
    made_is xs_are ys_are of_is push_to_is to_is push_of_is known degrees_are =
        let scan_here = xs_are ∙ scan_is in
        let push_here = ys_are ∙ push_is in
        part_made ends draws edges m p machine machines cuts count drawn scan_is push_is
        (degrees_are ∙ ap (map (degree_in edges edges)) known)
        (to_is ∙ (ap (λ es. for_others (length ends) m (λ k.
        ends_met target (vertices_of ends) (filter (λ e. lies_in ends k (source e)) es))) push_here
        ∙ refresh_to_made 64 ends edges are below m here))
        (of_is ∙ (ap (λ es. for_others (length ends) m (λ k.
        ends_met target (vertices_of ends) (filter (λ e. lies_in ends k (target e)) es))) scan_here
        ∙ refresh_of_made 64 ends edges are below m here))
        (push_to_is ∙ (ap (λ es. for_others (length ends) m (λ k.
        ends_met source (vertices_of ends) (filter (λ e. lies_in ends k (target e)) es))) scan_here
        ∙ push_to_made 64 ends edges are below m here))
        (push_of_is ∙ (ap (λ es. for_others (length ends) m (λ k.
        ends_met source (vertices_of ends) (filter (λ e. lies_in ends k (source e)) es))) push_here
        ∙ push_of_made 64 ends edges are below m here))
