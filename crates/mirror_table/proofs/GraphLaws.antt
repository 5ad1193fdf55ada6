-- The parts by the edges of a table are those by the edges of the file.
use Rattle.std.proofs.Common.{◌≡◌, ℕ, ◌<◌, Bool, true, ◌&&◌, List, length, map, refl, ap, sym, subst, ◌∙◌}
use Rattle.std.specs.Prelude.{◌==◌, if◌then◌else◌}
use Rattle.std.specs.List.{AllByRecursion, filter, range_with_len}
use Rattle.std.proofs.lemmas.List.Elements.{recursion_from_All}
use Rattle.vert_base.specs.declared.graph.Edge.{Edge}
use Rattle.vert_base.specs.Neighbours.{AreBelow, source, target, in_order}
use Rattle.edge_reader.specs.EdgeList.{Graph}
use Rattle.graph_table.specs.Tables.{IsTableOf, by_target}
use Rattle.graph_table.proofs.OrderLaws.{bucket-in_order, filter-in_order, in_order_by_buckets, in_order_twice}
use Rattle.graph_table.proofs.TableLaws.{by_target_length}
use Rattle.chunk_split.specs.Chunks.{vertices_of}
use Rattle.circulant_plan.specs.Ring.{lies_in}
use Rattle.symple_face.specs.Parts.{chunk_vertices, degree_in, push_list, refresh_list}
use Rattle.symple_face.specs.PartsOf.{known_of, part_of, parts_of, push_of, scan_of}
use Rattle.graph_table.proofs.FilterLaws.{all_true, filter_all, flat_map_same, map_same}
use Rattle.mirror_table.proofs.MovedLaws.{two_count, two_filter, two_keys}
use Rattle.mirror_table.proofs.PartLaws.{orders_twice, others_same}
use Rattle.mirror_table.proofs.PartsMade.{part_made}

-- the order by source, then target, of edges in order of target
orders_over : {X : Type 0} (major minor : X → ℕ) (n : ℕ) (xs : List X) →
    in_order major n (in_order minor n (in_order minor n (in_order major n xs)))
    ≡ in_order major n (in_order minor n xs)
orders_over major minor n xs =
    in_order_by_buckets major n (in_order minor n (in_order minor n (in_order major n xs))) (in_order minor n xs)
    (λ v lt.
    filter-in_order (λ e. major e == v) minor n (in_order minor n (in_order major n xs))
    ∙ (ap (in_order minor n) (filter-in_order (λ e. major e == v) minor n (in_order major n xs)
    ∙ ap (in_order minor n) (bucket-in_order major v n xs lt))
    ∙ (in_order_twice minor n (filter (λ e. major e == v) xs)
    ∙ sym (filter-in_order (λ e. major e == v) minor n xs))))

module _ (ends : List ℕ) (edges : List Edge) (below : AreBelow (vertices_of ends) edges) where
  abbrev n : ℕ
  n = vertices_of ends

  abbrev list : List Edge
  list = by_target n edges

  sources : AllByRecursion (λ e. source e < n) edges
  sources = recursion_from_All (λ e. source e < n) edges (λ k d lt. (below k d lt).0)

  targets : AllByRecursion (λ e. target e < n) edges
  targets = recursion_from_All (λ e. target e < n) edges (λ k d lt. (below k d lt).1)

  scan_same : (m : ℕ) → scan_of ends list m ≡ scan_of ends edges m
  scan_same m =
      let p : Edge → Bool = λ e. lies_in ends m (source e) in
      ap (by_target n) (two_filter target source n p edges) ∙ orders_twice target source n (filter p edges)

  push_same : (m : ℕ) → push_of ends list m ≡ push_of ends edges m
  push_same m =
      let p : Edge → Bool = λ e. lies_in ends m (target e) in
      ap (λ es. in_order source n (in_order target n es)) (two_filter target source n p edges)
      ∙ orders_over source target n (filter p edges)

  whole : filter (λ e. true) edges ≡ edges
  whole = filter_all (λ e. true) edges (all_true (λ e. true ≡ true) (λ e. refl) edges)

  refresh_same : (k m : ℕ) → refresh_list ends k m list ≡ refresh_list ends k m edges
  refresh_same k m =
      let q : Edge → Bool = λ e. lies_in ends m (source e) && lies_in ends k (target e) in
      ap (λ es. refresh_list ends k m (by_target n es)) (sym whole)
      ∙ two_keys target source n target q (λ e. true) edges (λ e. refl) targets sources

  push_list_same : (m k : ℕ) → push_list ends m k list ≡ push_list ends m k edges
  push_list_same m k =
      let q : Edge → Bool = λ e. lies_in ends m (source e) && lies_in ends k (target e) in
      ap (λ es. push_list ends m k (by_target n es)) (sym whole)
      ∙ two_keys target source n source q (λ e. true) edges (λ e. refl) targets sources

  degree_same : (v : ℕ) → degree_in list list v ≡ degree_in edges edges v
  degree_same v =
      ap (λ x. record { id = record { 0 = v }; ins = x; outs = length (filter (λ e. source e == v) list) })
      (two_count target source n (λ e. target e == v) edges targets sources)
      ∙ ap (λ x. record { id = record { 0 = v }; ins = length (filter (λ e. target e == v) edges); outs = x })
      (two_count target source n (λ e. source e == v) edges targets sources)

  known_same : (m : ℕ) → known_of ends list m ≡ known_of ends edges m
  known_same m =
      flat_map_same (λ k. if k == m then chunk_vertices ends k else refresh_list ends k m list) (λ k.
      if k == m then chunk_vertices ends k else refresh_list ends k m edges) (range_with_len 0 (length ends))
      (all_true (λ k. (if k == m then chunk_vertices ends k else refresh_list ends k m list)
      ≡ (if k == m then chunk_vertices ends k else refresh_list ends k m edges))
      (λ k. ap (λ l. if k == m then chunk_vertices ends k else l) (refresh_same k m)) (range_with_len 0 (length ends)))

  part_same : (draws m : ℕ) → part_of ends draws list m ≡ part_of ends draws edges m
  part_same draws m =
      part_made ends draws edges m (part_of ends draws list m) refl refl refl
      (by_target_length n edges list below refl) refl (scan_same m) (push_same m)
      (map_same (degree_in list list) (degree_in edges edges) (known_of ends list m)
      (all_true (λ v. degree_in list list v ≡ degree_in edges edges v) degree_same (known_of ends list m))
      ∙ ap (map (degree_in edges edges)) (known_same m))
      (others_same (length ends) m (λ k. refresh_list ends m k list) (λ k. refresh_list ends m k edges) (λ k.
      refresh_same m k))
      (others_same (length ends) m (λ k. refresh_list ends k m list) (λ k. refresh_list ends k m edges) (λ k.
      refresh_same k m))
      (others_same (length ends) m (λ k. push_list ends m k list) (λ k. push_list ends m k edges) (λ k.
      push_list_same m k))
      (others_same (length ends) m (λ k. push_list ends k m list) (λ k. push_list ends k m edges) (λ k.
      push_list_same k m))

  pub parts_same : (draws : ℕ) → parts_of ends draws (by_target (vertices_of ends) edges) ≡ parts_of ends draws edges
  parts_same draws = map_same (part_of ends draws list) (part_of ends draws edges) (range_with_len 0 (length ends))
      (all_true (λ m. part_of ends draws list m ≡ part_of ends draws edges m) (part_same draws)
      (range_with_len 0 (length ends)))

-- the parts by a table's list are those by the edges of which it is the table
pub parts_of_table : (n : ℕ) (ends : List ℕ) (draws : ℕ) (edges : List Edge) (table : Graph) →
    vertices_of ends ≡ table.vertices → IsTableOf n edges table → AreBelow n edges →
    parts_of ends draws table.list ≡ parts_of ends draws edges
parts_of_table n ends draws edges table whole is below =
    let size : n ≡ vertices_of ends = sym is.vertices ∙ sym whole in
    ap (parts_of ends draws) (is.list ∙ ap (λ q. by_target q edges) size)
    ∙ parts_same ends edges (subst (λ (q : ℕ). AreBelow q edges) size below) draws
