-- What the machines work on, while each takes its lists out in turn.
use Rattle.std.proofs.Common.{◌≡◌, ◌≢◌, ℕ, ◌+◌, ◌-◌, ◌<◌, ◌≤◌, true, List, [], ◌∷◌, ◌++◌, length, get_or, set, take, map, ap, subst, sym, ◌∙◌, arith, get_or-set_other}
use Rattle.std.specs.Prelude.{slice_index}
use Rattle.std.specs.List.{All, filter, range_with_len}
use Rattle.std.specs.declared.alloc.Global.{Global}
use Rattle.std.specs.declared.vec.Vec.{Vec}
use Rattle.std.proofs.lemmas.List.{get_or-map, get_or_default, length-map, length-set, map-set}
use Rattle.std.proofs.lemmas.List.Elements.{recursion_from_All}
use Rattle.std.proofs.lemmas.List.FromFn.{get_or-map-range_with_len, length-map-range_with_len}
use Rattle.vert_base.specs.declared.graph.Edge.{Edge}
use Rattle.vert_base.specs.Neighbours.{source, target, in_order}
use Rattle.graph_table.specs.Tables.{by_target}
use Rattle.graph_table.proofs.OrderLaws.{filter-in_order, in_order_twice}
use Rattle.chunk_split.specs.Chunks.{AreEnds, Holds, vertices_of}
use Rattle.circulant_plan.specs.Ring.{lies_in}
use Rattle.graph_table.proofs.FilterLaws.{all_weaker, filter_all}
use Rattle.symple_face.proofs.ChunkLaws.{lies_is}
use Rattle.symple_face.specs.PartsOf.{push_of, scan_of}
use Rattle.mirror_table.proofs.DealLaws.{AreDealt, dealt_more}
use Rattle.mirror_table.proofs.OwnerLaws.{others_not, owner_lies}

-- of edges by target those from a chunk are its scan
scan_is : (ends : List ℕ) (edges : List Edge) (m : ℕ) → edges ≡ by_target (vertices_of ends) edges →
    filter (λ e. lies_in ends m (source e)) edges ≡ scan_of ends edges m
scan_is ends edges m order =
    let n = vertices_of ends in
    ap (filter (λ e. lies_in ends m (source e))) order
    ∙ (filter-in_order (λ e. lies_in ends m (source e)) target n (in_order source n edges)
    ∙ ap (in_order target n) (filter-in_order (λ e. lies_in ends m (source e)) source n edges))

-- and of these by source those into a chunk are its push
push_is : (ends : List ℕ) (edges outs : List Edge) (m : ℕ) → edges ≡ by_target (vertices_of ends) edges →
    outs ≡ in_order source (vertices_of ends) edges → filter (λ e. lies_in ends m (target e)) outs
    ≡ push_of ends edges m
push_is ends edges outs m order is =
    let n = vertices_of ends in
    let minor = in_order source n edges in
    let still : edges ≡ in_order target n edges =
    order ∙ (sym (in_order_twice target n minor) ∙ ap (in_order target n) (sym order)) in
    ap (filter (λ e. lies_in ends m (target e))) is
    ∙ (filter-in_order (λ e. lies_in ends m (target e)) source n edges
    ∙ ap (in_order source n) (ap (filter (λ e. lies_in ends m (target e))) still
    ∙ filter-in_order (λ e. lies_in ends m (target e)) target n edges))

-- from machine m on the lists are there
pub record AreLeft (ends : List ℕ) (edges : List Edge) (m : ℕ) (scans pushes : List (List Edge)) : Type 0 where
  pub scan_count : length scans ≡ length ends
  pub push_count : length pushes ≡ length ends
  pub scan_each : (k : ℕ) → m ≤ k → k < length ends → get_or scans k [] ≡ scan_of ends edges k
  pub push_each : (k : ℕ) → m ≤ k → k < length ends → get_or pushes k [] ≡ push_of ends edges k

module _ (n : ℕ) (ends : List ℕ) (edges ins outs : List Edge) (scans pushes : List (List Edge)) where
  pub all_left : vertices_of ends ≡ n → edges ≡ by_target n edges → ins ≡ edges →
      outs ≡ in_order source n edges →
      scans ≡ map (λ m. filter (λ e. lies_in ends m (source e)) ins) (range_with_len 0 (length ends)) →
      pushes ≡ map (λ m. filter (λ e. lies_in ends m (target e)) outs) (range_with_len 0 (length ends)) →
      AreLeft ends edges 0 scans pushes
  all_left size order ins_are outs_are scans_are pushes_are =
      let order' : edges ≡ by_target (vertices_of ends) edges = order ∙ ap (λ q. by_target q edges) (sym size) in
      let outs_are' : outs ≡ in_order source (vertices_of ends) edges =
      outs_are ∙ ap (λ q. in_order source q edges) (sym size) in
      let scan : ℕ → List Edge = λ m. filter (λ e. lies_in ends m (source e)) ins in
      let push : ℕ → List Edge = λ m. filter (λ e. lies_in ends m (target e)) outs in
      record {
        scan_count = ap length scans_are ∙ length-map-range_with_len scan 0 (length ends);
        push_count = ap length pushes_are ∙ length-map-range_with_len push 0 (length ends);
        scan_each = λ k low lt.
            ap (λ ls. get_or ls k []) scans_are
            ∙ (get_or-map-range_with_len scan 0 (length ends) k k [] lt (omega arith)
            ∙ (ap (filter (λ e. lies_in ends k (source e))) ins_are ∙ scan_is ends edges k order'));
        push_each = λ k low lt.
            ap (λ ls. get_or ls k []) pushes_are
            ∙ (get_or-map-range_with_len push 0 (length ends) k k [] lt (omega arith)
            ∙ push_is ends edges outs k order' outs_are');
      }

-- the lists of the later machines stay as they are
module _ (ends : List ℕ) (edges : List Edge) (m : ℕ) (scans pushes scans' pushes' : List (List Edge)) where
  pub fewer_left : scans' ≡ set scans m [] → pushes' ≡ set pushes m [] → AreLeft ends edges m scans pushes →
      AreLeft ends edges (m + 1) scans' pushes'
  fewer_left scans_are pushes_are h = record {
    scan_count = ap length scans_are ∙ (length-set scans m [] ∙ h.scan_count);
    push_count = ap length pushes_are ∙ (length-set pushes m [] ∙ h.push_count);
    scan_each = λ k low lt.
        let other : k ≢ m = omega arith in
        let from : m ≤ k = omega arith in
        ap (λ ls. get_or ls k []) scans_are ∙ (get_or-set_other scans m k [] [] other ∙ h.scan_each k from lt);
    push_each = λ k low lt.
        let other : k ≢ m = omega arith in
        let from : m ≤ k = omega arith in
        ap (λ ls. get_or ls k []) pushes_are ∙ (get_or-set_other pushes m k [] [] other ∙ h.push_each k from lt);
  }

-- the edges of lists
abbrev pub lists_in : List (Vec Edge Global) → List (List Edge)
lists_in lists = map (λ (l : Vec Edge Global). l.items) lists

-- a list that is replaced by one with other edges
pub replaced : (lists : List (Vec Edge Global)) (m : ℕ) (new : Vec Edge Global) (edges : List Edge) →
    new.items ≡ edges → lists_in (set lists m new) ≡ set (lists_in lists) m edges
replaced lists m new edges is =
    map-set (λ (l : Vec Edge Global). l.items) lists m new ∙ ap (λ ys. set (lists_in lists) m ys) is

-- all edges lie in the one chunk that there is
pub one_share : (ends : List ℕ) (key : Edge → ℕ) (edges : List Edge) → length ends ≡ 1 →
    All (λ e. key e < vertices_of ends) edges →
    edges ∷ [] ≡ map (λ m. filter (λ e. lies_in ends m (key e)) edges) (range_with_len 0 (length ends))
one_share ends key edges one below =
    let last : vertices_of ends ≡ slice_index ends 0 = ap (λ q. slice_index ends (q - 1)) one in
    let inside : (e : Edge) → key e < vertices_of ends → lies_in ends 0 (key e) ≡ true = λ e lt.
    let high : key e < slice_index ends 0 = omega (arith, last) in
    lies_is 0 (slice_index ends 0) (key e) (omega arith) high in
    let whole : filter (λ e. lies_in ends 0 (key e)) edges ≡ edges =
    filter_all (λ e. lies_in ends 0 (key e)) edges
    (all_weaker (λ e. key e < vertices_of ends) (λ e. lies_in ends 0 (key e) ≡ true) inside edges
    (recursion_from_All (λ e. key e < vertices_of ends) edges below)) in
    ap (λ ys. ys ∷ []) (sym whole) ∙ ap (λ q.
    map (λ m. filter (λ e. lies_in ends m (key e)) edges) (range_with_len 0 q)) (sym one)

-- one more edge goes to the owner of its end
module _ (ends : List ℕ) (key : Edge → ℕ) (edges : List Edge) (owners : List ℕ) (i v o : ℕ) (z : Edge)
    (lists : List (Vec Edge Global)) (found new : Vec Edge Global) (are : AreEnds 64 ends) where
  pub dealt_edge : i < length edges → All (λ e. key e < vertices_of ends) edges →
      ((u : ℕ) → u < vertices_of ends → Holds ends u (slice_index owners u)) → v ≡ key (get_or edges i z) →
      o ≡ slice_index owners v → found ≡ get_or lists o found →
      new.items ≡ found.items ++ get_or edges i z ∷ [] →
      AreDealt (λ m e. lies_in ends m (key e)) (length ends) (take i edges) (lists_in lists) →
      AreDealt (λ m e. lies_in ends m (key e)) (length ends) (take (i + 1) edges) (lists_in (set lists o new))
  dealt_edge lt below held end owner read pushed h =
      let x : Edge = get_or edges i z in
      let low : v < vertices_of ends = subst (λ (q : ℕ). q < vertices_of ends) (sym end) (below i z lt) in
      let holds : Holds ends v o = subst (λ (q : ℕ). Holds ends v q) (sym owner) (held v low) in
      let within : o < length lists = omega (
        arith,
        holds.0,
        h.len,
        length-map lists (λ (l : Vec Edge Global).
            l.items),
      )
      in
      let mine : found.items ≡ get_or (lists_in lists) o [] = ap (λ (l : Vec Edge Global). l.items) read
      ∙ sym (get_or-map (λ (l : Vec Edge Global). l.items) lists o found [] within) in
      dealt_more (λ m e. lies_in ends m (key e)) (length ends) edges i (lists_in lists) (lists_in (set lists o
      new)) o x
      lt (get_or_default edges i z x lt) holds.0
      (ap (lies_in ends o) (sym end) ∙ owner_lies ends v o holds)
      (λ m in_ends ne. ap (lies_in ends m) (sym end) ∙ others_not 64 ends v o m are holds in_ends ne)
      (replaced lists o new (get_or (lists_in lists) o [] ++ x ∷ []) (pushed ∙ ap (λ ys. ys ++ x ∷ []) mine)) h
