-- A scan goes from vertex to vertex.
use Rattle.std.specs.Prelude.{◌≡◌, ◌≤◌, ◌<◌, ◌+◌, ◌-◌, ℕ, List, [], ◌∷◌, length, map, slice_index, slice_index_or, slice_set, take}
use Rattle.std.specs.List.{All}
use Rattle.vert_base.specs.declared.graph.Edge.{Edge}
use Rattle.vert_base.specs.declared.limits.TheConstants.{EDGES}
use Rattle.vert_base.specs.Neighbours.{bucket, source, target}
use Rattle.vert_tree.specs.declared.program.Dense.{Dense}
use Rattle.vert_tree.specs.declared.program.Program.{Program}
use Rattle.vert_eval.specs.declared.environment.Env.{Env}
use Rattle.dep_layout.specs.Spelling.{State as LoopState}
use Rattle.body_shape.specs.Refresh.{row_at}
use Rattle.instrument.specs.declared.split.Split.{Split}
use Rattle.symple_face.specs.declared.degree.Degree.{Degree}
use Rattle.symple_face.specs.CoreScan.{Scanned, scanned}
use Rattle.symple_face.specs.CoreSight.{told_row}
use Rattle.symple_face.specs.Sight.{Sight}
use Rattle.machine_parts.specs.declared.spans.Span.{Span}
use Rattle.machine_parts.specs.Flat.{RowTable, StateTable, state_at, zip_with}
use Rattle.machine_parts.specs.Neighbours.{AreOwn, no_degree}
use Rattle.machine_parts.specs.Spans.{vertex_of}
use Rattle.machine_parts.proofs.SpanLaws.{no_span}

-- ---- what is at hand
-- the rows, degrees and edges of own vertices, which begin at a number
pub record AreOwnVertices (start : ℕ) (degrees : List Degree) (table : RowTable) (edges : List Edge) : Type 0 where
  pub wide : All (λ r. length r.words.items ≡ table.width) table.rows
  pub count : length degrees ≡ length table.rows
  pub own : AreOwn start (length degrees) (length table.rows) edges
  pub few : length edges ≤ EDGES

-- an environment has as many values and totals as a program, and a round within the limit
pub record IsOfRound (program : Program) (env : Env) : Type 0 where
  pub slots : length env.slots.items ≡ length program.slots.items
  pub totals : length env.totals.items ≡ length program.totals.items
  pub round : env.round ≤ 10000

-- each vertex has its place among so many from a number on
abbrev pub HavePlaces : ℕ → ℕ → List Span → Type 0
HavePlaces start count spans = All (λ s. (start ≤ vertex_of s) × (vertex_of s - start < count)) spans

-- a sight shows these degrees of some vertices, and the rows that stand in a refresh from a place on
pub record ShowsMirrors (g : Sight) (vertices : List ℕ) (degrees : List Degree) (width first : ℕ) (refresh : List ℕ)
    : Type 0 where
  pub row : (i : ℕ) → i < length vertices → told_row (row_at width (first + i) refresh) ≡ g.row (slice_index vertices i)
  pub ins : (i : ℕ) → i < length vertices →
      (slice_index_or degrees i no_degree).ins ≡ g.ins (slice_index vertices i)
  pub outs : (i : ℕ) → i < length vertices →
      (slice_index_or degrees i no_degree).outs ≡ g.outs (slice_index vertices i)

-- ---- what is scanned
-- what is scanned at a vertex, with these edges from own vertices, from a state
abbrev pub scanned_over : Split → Dense → Sight → ℕ → List Edge → ℕ → LoopState → Scanned
scanned_over split dense g key edges v st = scanned split dense g key (bucket target v edges) v st

-- at vertices one after another, each from the state in its place, the first of which is that of vertex `start`
abbrev pub scans : (ℕ → LoopState → Scanned) → ℕ → List ℕ → List LoopState → List Scanned
scans f start [] states = []
scans f start (v ∷ vs) states =
    f v (state_at states (v - start))
    ∷ scans f start vs (slice_set states (v - start) (f v (state_at states (v - start))).state)

-- the states that they leave
abbrev pub states_left : (ℕ → LoopState → Scanned) → ℕ → List ℕ → List LoopState → List LoopState
states_left f start [] states = states
states_left f start (v ∷ vs) states =
    states_left f start vs (slice_set states (v - start) (f v (state_at states (v - start))).state)

-- the sources of the first members of a vertex
abbrev pub read_first : List Edge → ℕ → ℕ → List ℕ
read_first edges v count = map source (take count (bucket target v edges))

-- what a scan of vertices leaves: their states, and how many members of each were read
pub record AreScanned (f : ℕ → LoopState → Scanned) (edges : List Edge) (start : ℕ) (vertices : List ℕ)
    (old new : StateTable) (counts : List ℕ) : Type 0 where
  pub states : new ≡ record old { states = states_left f start vertices old.states }
  pub reads : zip_with (read_first edges) vertices counts ≡ map (λ x. x.reads) (scans f start vertices old.states)

-- of no vertex were more read than it has
abbrev pub AreFew : List Edge → List Span → List ℕ → Type 0
AreFew edges spans counts = (i : ℕ) → i < length spans →
    slice_index counts i ≤ length (bucket target (vertex_of (slice_index_or spans i no_span)) edges)
