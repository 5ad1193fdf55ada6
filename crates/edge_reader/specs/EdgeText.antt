-- What the entries of an edge file say: a graph, or the first fault and its place. A text's entries are its lines.
use Rattle.std.specs.Prelude.{ℕ, ◌+◌, nat_le, nat_lt, Bool, ◌||◌, if◌then◌else◌, List, [], ◌∷◌, ◌++◌, length, map, Option, Some, None, Result, Ok, Err}
use Rattle.std.specs.Option.{option_map}
use Rattle.vert_base.specs.declared.graph.Edge.{Edge}
use Rattle.vert_base.specs.declared.limits.TheConstants.{VERTICES, EDGES, GRAPH_BYTES}
use Rattle.edge_reader.specs.declared.entry.Entry.{Entry}
use Rattle.edge_reader.specs.declared.entry.Entry.TheVariants.{Skipped, Malformed, TooLarge, Read}
use Rattle.edge_reader.specs.declared.fault.EdgeFault.{EdgeFault}
use Rattle.edge_reader.specs.declared.fault.EdgeFault.TheVariants.{Line, Byte}
use Rattle.edge_reader.specs.EdgeList.{Graph, reversed, bound_of}
use Rattle.edge_reader.specs.Lines.{lines_of, entry_of_line}

-- ids are below this: the given number of vertices, or the most that a graph has
abbrev pub limit_of : Option ℕ → ℕ
limit_of None = VERTICES
limit_of (Some vertices) = vertices

-- the code of an id that isn't below it
abbrev pub limit_code : Option ℕ → ℕ
limit_code None = 4
limit_code (Some vertices) = 3

-- the edges of an entry: with `both`, each edge is followed by its reversal
abbrev pub edges_of : Bool → Entry → List Edge
edges_of both Skipped = []
edges_of both Malformed = []
edges_of both TooLarge = []
edges_of both (Read edge) = edge ∷ (if both then reversed edge ∷ [] else [])

-- the least code that refuses an entry after `count` edges, where one does:
-- 1 no two or three numbers, 2 a number too large, 3 and 4 an id too large for the graph, 5 too many edges
abbrev pub code_of : Option ℕ → Bool → ℕ → Entry → Option ℕ
code_of given both count Skipped = None
code_of given both count Malformed = Some 1
code_of given both count TooLarge = Some 2
code_of given both count (Read edge) =
    if nat_le (limit_of given) edge.from.0 || nat_le (limit_of given) edge.to.0 then Some (limit_code given)
    else if nat_lt EDGES (count + length (edges_of both (Read edge))) then Some 5
    else None

-- the fault where there is one, else the other result
abbrev pub unless : Option EdgeFault → Result (List Edge) EdgeFault → Result (List Edge) EdgeFault
unless (Some fault) result = Err fault
unless None result = result

-- the edges in front and then those of the entries, or the first fault
-- `number` is that of the first entry, and `fault` makes a fault of a code and the number of an entry
abbrev pub edges_from : Option ℕ → Bool → (ℕ → ℕ → EdgeFault) → ℕ → List Edge → List Entry →
    Result (List Edge) EdgeFault
edges_from given both fault number front [] = Ok front
edges_from given both fault number front (entry ∷ entries) =
    unless (option_map (λ code. fault code number) (code_of given both (length front) entry))
    (edges_from given both fault (number + 1) (front ++ edges_of both entry) entries)

-- the given number of vertices, or the least that the edges ask for
abbrev pub vertices_of : Option ℕ → List Edge → ℕ
vertices_of None edges = bound_of edges
vertices_of (Some vertices) edges = vertices

-- the graph of these edges
abbrev pub graph_of : Option ℕ → Result (List Edge) EdgeFault → Result Graph EdgeFault
graph_of given (Ok edges) = Ok (record { vertices = vertices_of given edges; list = edges })
graph_of given (Err fault) = Err fault

-- the reading of a text, its lines counted from 1
abbrev pub reading_of_text : Option ℕ → Bool → List ℕ → Result Graph EdgeFault
reading_of_text given both bytes =
    if nat_lt GRAPH_BYTES (length bytes) then Err (Byte 7 GRAPH_BYTES)
    else graph_of given (edges_from given both Line 1 [] (map entry_of_line (lines_of bytes)))
