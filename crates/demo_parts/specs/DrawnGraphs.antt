-- The graph that a seed draws.
use Rattle.std.specs.Prelude.{◌%◌, ◌*◌, ℕ, pos, List, [], ◌∷◌}
use Rattle.demo_parts.specs.WordStreams.{generator_on, words_of}
use Rattle.demo_parts.specs.declared.drawn.TheConstants.{DRAWN_EDGES, DRAWN_VERTICES}
use Rattle.edge_reader.specs.EdgeList.{Graph}
use Rattle.vert_base.specs.declared.graph.Edge.{Edge}

-- the edge of two words: its source is drawn first, and then its target
abbrev pub edge_of : ℕ → ℕ → Edge
edge_of from to = record {
  from = record { 0 = from % DRAWN_VERTICES };
  to = record { 0 = to % DRAWN_VERTICES };
  weight = pos 1;
}

-- the edges that the words are in turn, two words each
unfoldable pub edges_of : List ℕ → List Edge
edges_of [] = []
edges_of (from ∷ []) = []
edges_of (from ∷ (to ∷ words)) = edge_of from to ∷ edges_of words

-- the graph of a seed
abbrev pub drawn_graph : ℕ → Graph
drawn_graph seed = record {
  vertices = DRAWN_VERTICES;
  list = edges_of (words_of (2 * DRAWN_EDGES) (generator_on 7 seed));
}
