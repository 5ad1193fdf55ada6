-- The parts of a graph, by the ends of its chunks.
use Rattle.std.specs.Prelude.{◌≡◌, ◌==◌, ◌<◌, ℕ, List, if◌then◌else◌, length, map}
use Rattle.std.specs.List.{filter, flat_map, range_with_len}
use Rattle.vert_base.specs.declared.graph.Edge.{Edge}
use Rattle.vert_base.specs.declared.message.Name.{Name}
use Rattle.vert_base.specs.Neighbours.{source, target}
use Rattle.graph_table.specs.Tables.{by_target}
use Rattle.chunk_split.specs.Chunks.{vertices_of}
use Rattle.circulant_plan.specs.Ring.{lies_in}
use Rattle.instrument.specs.declared.split.Split.{Split}
use Rattle.symple_face.specs.Parts.{PlainPart, by_source, chunk_vertices, degree_in, for_others, push_list, refresh_list}
use Rattle.symple_face.specs.Shapes.{shape_of}

-- the edges whose source lies in chunk m, in the order in which a loop over their targets reads them
abbrev pub scan_of : List ℕ → List Edge → ℕ → List Edge
scan_of ends edges m = by_target (vertices_of ends) (filter (λ e. lies_in ends m (source e)) edges)

-- the edges whose target lies in chunk m, in the order in which sends are worked
abbrev pub push_of : List ℕ → List Edge → ℕ → List Edge
push_of ends edges m = by_source (vertices_of ends) (filter (λ e. lies_in ends m (target e)) edges)

-- the vertices whose degrees machine m knows: its own ones, and of the other chunks those that have an edge from one
-- of them
abbrev pub known_of : List ℕ → List Edge → ℕ → List ℕ
known_of ends edges m = flat_map (λ k. if k == m then chunk_vertices ends k else refresh_list ends k m edges)
    (range_with_len 0 (length ends))

-- the part of machine m
abbrev pub part_of : List ℕ → ℕ → List Edge → ℕ → PlainPart
part_of ends draws edges m = record {
  at = record { machine = m; machines = length ends };
  ends = ends;
  edges = length edges;
  draws = draws;
  scan = scan_of ends edges m;
  push = push_of ends edges m;
  degrees = map (degree_in edges edges) (known_of ends edges m);
  refresh_to = for_others (length ends) m (λ k. refresh_list ends m k edges);
  refresh_of = for_others (length ends) m (λ k. refresh_list ends k m edges);
  push_to = for_others (length ends) m (λ k. push_list ends m k edges);
  push_of = for_others (length ends) m (λ k. push_list ends k m edges);
}

-- the parts of all machines, in order
abbrev pub parts_of : List ℕ → ℕ → List Edge → List PlainPart
parts_of ends draws edges = map (part_of ends draws edges) (range_with_len 0 (length ends))

-- the sender and the receiver of a message see one form of its body
abbrev pub ShapesAgree : Type 0
ShapesAgree =
    (split : Split) (ends : List ℕ) (draws : ℕ) (edges : List Edge) (x : Name) → x.from < length ends →
    x.to < length ends →
    shape_of split (part_of ends draws edges x.from) x ≡ shape_of split (part_of ends draws edges x.to) x
