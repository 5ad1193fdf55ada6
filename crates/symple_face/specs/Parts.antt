-- A machine's part of a graph, as plain data.
use Rattle.std.specs.Prelude.{◌≡◌, ◌==◌, ◌≤◌, ◌-◌, ◌&&◌, ℕ, true, List, [], if◌then◌else◌, length, map, slice_index}
use Rattle.std.specs.declared.alloc.Global.{Global}
use Rattle.std.specs.declared.vec.Vec.{Vec}
use Rattle.std.specs.List.{All, filter, flat_map, list_any, range_with_len}
use Rattle.vert_base.specs.declared.graph.Edge.{Edge}
use Rattle.vert_base.specs.declared.graph.VertexId.{VertexId}
use Rattle.vert_base.specs.declared.limits.TheConstants.{EDGES, VERTICES}
use Rattle.vert_base.specs.Neighbours.{source, target, in_order}
use Rattle.vert_base.specs.Position.{Position}
use Rattle.graph_table.specs.Tables.{by_target}
use Rattle.chunk_split.specs.Chunks.{vertices_of}
use Rattle.circulant_plan.specs.Ring.{lies_in}
use Rattle.vert_base.specs.Ends.{start_of}
use Rattle.symple_face.specs.declared.degree.Degree.{Degree}

-- the vertices of chunk m
abbrev pub chunk_vertices : List ℕ → ℕ → List ℕ
chunk_vertices ends m = range_with_len (start_of ends m) (slice_index ends m - start_of ends m)

-- the edges from a vertex of chunk k into one of chunk m
abbrev pub edges_between : List ℕ → ℕ → ℕ → List Edge → List Edge
edges_between ends k m edges = filter (λ e. lies_in ends k (source e) && lies_in ends m (target e)) edges

-- the vertices below n that are an end of an edge, ascending, each once
abbrev pub ends_met : (Edge → ℕ) → ℕ → List Edge → List ℕ
ends_met end n edges = filter (λ v. list_any (λ e. end e == v) edges) (range_with_len 0 n)

-- R(k, m): the vertices of chunk k that have an edge from a vertex of chunk m
abbrev pub refresh_list : List ℕ → ℕ → ℕ → List Edge → List ℕ
refresh_list ends k m edges = ends_met target (vertices_of ends) (edges_between ends m k edges)

-- P(m, k): the vertices of chunk m that have an edge into chunk k
abbrev pub push_list : List ℕ → ℕ → ℕ → List Edge → List ℕ
push_list ends m k edges = ends_met source (vertices_of ends) (edges_between ends m k edges)

-- what f gives for each machine of p but m, and nothing for m itself
abbrev pub for_others : ℕ → ℕ → (ℕ → List ℕ) → List (List ℕ)
for_others p m f = map (λ k. if k == m then [] else f k) (range_with_len 0 p)

-- the edges by ascending source, equal sources by ascending target, equal edges as they stood
abbrev pub by_source : ℕ → List Edge → List Edge
by_source n edges = in_order source n (in_order target n edges)

-- a vertex with its counts of edges that lead to it and of edges that leave it
abbrev pub degree_in : List Edge → List Edge → ℕ → Degree
degree_in ins outs v = record {
  id = record { 0 = v };
  ins = length (filter (λ e. target e == v) ins);
  outs = length (filter (λ e. source e == v) outs);
}

-- a part without its memory
pub record PlainPart : Type 0 where
  pub at : Position
  pub ends : List ℕ
  pub edges : ℕ
  pub draws : ℕ
  pub scan : List Edge
  pub push : List Edge
  pub degrees : List Degree
  pub refresh_to : List (List ℕ)
  pub refresh_of : List (List ℕ)
  pub push_to : List (List ℕ)
  pub push_of : List (List ℕ)

-- the numbers in lists of vertices
abbrev pub lists_of : List (Vec VertexId Global) → List (List ℕ)
lists_of lists = map (λ list. map (λ v. v.0) list.items) lists

-- the vertices whose degrees a part holds, ascending: chunk by chunk, all vertices of the own one and
-- of the others those that have an edge from the own one
abbrev pub known_vertices : PlainPart → List ℕ
known_vertices p =
    flat_map (λ k. if k == p.at.machine then chunk_vertices p.ends k else refresh_list p.ends k p.at.machine p.scan)
    (range_with_len 0 p.at.machines)

-- what holds of every part: the chunks and limits, the orders and chunks of its edges, its lists of
-- vertices, and its degrees
pub record IsPart (p : PlainPart) : Type 0 where
  pub machine : p.at.machines ≡ length p.ends
  pub within : vertices_of p.ends ≤ VERTICES
  pub few : p.edges ≤ EDGES
  pub few_scan : length p.scan ≤ p.edges
  pub few_push : length p.push ≤ p.edges
  pub scan_order : p.scan ≡ by_target (vertices_of p.ends) p.scan
  pub push_order : p.push ≡ by_source (vertices_of p.ends) p.push
  pub scan_chunk : All (λ e. lies_in p.ends p.at.machine (source e) ≡ true) p.scan
  pub push_chunk : All (λ e. lies_in p.ends p.at.machine (target e) ≡ true) p.push
  pub refresh_to : p.refresh_to ≡ for_others p.at.machines p.at.machine (λ k. refresh_list p.ends p.at.machine k p.push)
  pub refresh_of : p.refresh_of ≡ for_others p.at.machines p.at.machine (λ k. refresh_list p.ends k p.at.machine p.scan)
  pub push_to : p.push_to ≡ for_others p.at.machines p.at.machine (λ k. push_list p.ends p.at.machine k p.scan)
  pub push_of : p.push_of ≡ for_others p.at.machines p.at.machine (λ k. push_list p.ends k p.at.machine p.push)
  pub known : map (λ d. d.id.0) p.degrees ≡ known_vertices p
  pub own : filter (λ d. lies_in p.ends p.at.machine d.id.0) p.degrees
      ≡ map (degree_in p.push p.scan) (chunk_vertices p.ends p.at.machine)
