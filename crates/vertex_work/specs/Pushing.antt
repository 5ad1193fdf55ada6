-- What is pushed over edges: their receivers, and what they emit.
use Rattle.std.specs.Prelude.{if◌then◌else◌, ◌≡◌, ◌≤◌, ◌-◌, Bool, true, ℕ, ℤ, List, [], ◌∷◌, Option, None, Some, length, map, slice_index_or, slice_set}
use Rattle.std.specs.List.{All, filter, range_with_len}
use Rattle.vert_base.specs.declared.graph.Edge.{Edge}
use Rattle.vert_base.specs.declared.value.Row.{Row}
use Rattle.vert_base.specs.Neighbours.{in_order, source, target}
use Rattle.vert_tree.specs.declared.program.Sparse.{Sparse}
use Rattle.vert_tree.specs.Places.{Counts}
use Rattle.slot_merge.specs.declared.partial.Partial.{Partial}
use Rattle.slot_merge.specs.Combine.{Emission}
use Rattle.slot_merge.specs.Partials.{with_emissions}
use Rattle.vert_eval.specs.declared.environment.Env.{Env}
use Rattle.vert_eval.specs.Rounds.{row_at}
use Rattle.vert_code.specs.declared.instr.Instr.{Instr}
use Rattle.vert_code.specs.declared.instr.Block.TheVariants.{SparseBody}
use Rattle.vert_code.specs.Blocks.{list_of}
use Rattle.vert_code.specs.Machine.{run_code}
use Rattle.vert_code.specs.Valid.{list_names}
use Rattle.flat_table.specs.Grids.{Rows}
use Rattle.symple_face.specs.declared.degree.Degree.{Degree}
use Rattle.symple_face.specs.CoreSight.{is_within}
use Rattle.symple_face.specs.CoreSparse.{key_of}
use Rattle.symple_face.specs.Parts.{ends_met}
use Rattle.machine_parts.specs.declared.spans.Span.{Span}
use Rattle.machine_parts.specs.Counting.{own_counts}
use Rattle.machine_parts.specs.Entering.{entered}
use Rattle.vert_eval.specs.SourceRun.{with_row}
use Rattle.machine_parts.specs.Neighbours.{no_degree}
use Rattle.machine_parts.specs.Sending.{own_sends}
use Rattle.machine_parts.specs.Spans.{IsSpan, vertex_of}
use Rattle.vertex_work.specs.declared.receivers.Receivers.{Receivers}

-- what the receivers of edges go by: the code that they run, their rows and degrees, how many vertices the graph has,
-- and where the own ones begin and end
pub record Receiving : Type 0 where
  pub list : List Instr
  pub rows : List Row
  pub degrees : List Degree
  pub vertices : ℕ
  pub start : ℕ
  pub end : ℕ

abbrev pub receiving : Receivers → Receiving
receiving r = record {
  list = list_of r.code.now SparseBody;
  rows = r.rows.now.rows;
  degrees = r.degrees.now;
  vertices = r.vertices;
  start = r.start;
  end = r.end;
}

-- the key of an edge
abbrev pub key_in : Receiving → Edge → ℕ
key_in r e = key_of r.vertices r.end (source e)

-- the receiver of an edge, over what is sent, by an environment that has the numbers of the round
abbrev pub received_at : Receiving → Env → List ℤ → Edge → Env
received_at r env sends e =
    let place : ℕ = target e - r.start in
    record (entered (target e) (slice_index_or r.degrees place no_degree) (key_in r e)
    (with_row (row_at r.rows place) env)) {
      other = record { id = record { 0 = source e }; weight = e.weight; indeg = 0; outdeg = 0 };
      sends = record { items = sends };
    }

-- what it emits
abbrev pub emitted_at : Receiving → Env → List ℤ → Edge → List Emission
emitted_at r env sends e = (run_code r.list (received_at r env sends e)).emitted

-- the partials of the own vertices with what the receiver of an edge emits
abbrev pub edge_added : Receiving → Env → Edge → Option (List ℤ) → List (List Partial) → List (List Partial)
edge_added r env e None all = all
edge_added r env e (Some sends) all =
    let place : ℕ = target e - r.start in
    slice_set all place (with_emissions (key_in r e) (slice_index_or all place []) (emitted_at r env sends e))

-- edges in turn, each with what its source sends
abbrev pub edges_added : Receiving → Env → (ℕ → Option (List ℤ)) → List Edge → List (List Partial) →
    List (List Partial)
edges_added r env sends [] all = all
edges_added r env sends (e ∷ es) all = edges_added r env sends es (edge_added r env e (sends (source e)) all)

-- how many words of each kind an environment has at a receiver of so many sends
abbrev pub received_counts : ℕ → ℕ → Env → Counts
received_counts width sends env = record (own_counts width env) { sends = sends }

-- the senders among those of edges that pass a test, ascending, each with its edges, which stand in order
pub record AreSenders (n : ℕ) (edges : List Edge) (senders : List Span) : Type 0 where
  pub passes : ℕ → Bool
  pub vertices : map vertex_of senders ≡ filter passes (range_with_len 0 n)
  pub each : All (IsSpan source edges) senders
  pub order : edges ≡ in_order source n edges

-- an environment and partials with which receivers of so many sends can run
pub record CanReceive (r : Receivers) (sends : ℕ) (env : Env) (partials : Rows Partial) : Type 0 where
  pub names : list_names (received_counts r.rows.now.width sends env) (list_of r.code.now SparseBody) ≡ true
  pub round : env.round ≤ 10000
  pub slots : length env.slots.items ≤ partials.width
  pub each : All (λ ps. length ps ≡ partials.width) partials.rows
  pub count : length partials.rows ≡ length r.rows.now.rows

-- the own vertices begin and end here: of those that are a source of edges in order, each with its edges
pub record AreOwnSenders (n : ℕ) (range : ℕ × ℕ) (edges : List Edge) (senders : List Span) : Type 0 where
  pub vertices : map vertex_of senders ≡ filter (is_within range) (ends_met source n edges)
  pub each : All (IsSpan source edges) senders
  pub order : edges ≡ in_order source n edges

-- what an own vertex sends, and one of another chunk sends nothing
abbrev pub sent_within : Sparse → Receivers → Env → ℕ → Option (List ℤ)
sent_within sparse r env u =
    if is_within (r.start, r.end) u
    then own_sends sparse r.rows.now.rows r.degrees.now r.start env (u - r.start)
    else None
