-- What is counted of the own vertices.
use Rattle.std.specs.Prelude.{ℕ, ℤ, ◌+◌, List, IsTrue, if◌then◌else◌, length, map, slice_index_or}
use Rattle.std.specs.List.{All, range_with_len}
use Rattle.vert_base.specs.declared.value.Row.{Row}
use Rattle.vert_tree.specs.declared.program.TotalDecl.{TotalDecl}
use Rattle.vert_tree.specs.Places.{Counts, expr_placed}
use Rattle.slot_merge.specs.Combine.{combined_of, total_of}
use Rattle.vert_eval.specs.declared.environment.Env.{Env}
use Rattle.vert_eval.specs.Rounds.{row_at}
use Rattle.vert_eval.specs.Values.{value_of}
use Rattle.symple_face.specs.declared.degree.Degree.{Degree}
use Rattle.machine_parts.specs.Entering.{entered}
use Rattle.vert_eval.specs.SourceRun.{with_row}
use Rattle.machine_parts.specs.Flat.{zip_with}
use Rattle.machine_parts.specs.Neighbours.{no_degree}

-- the edges that leave the vertex at a place, where it is active
abbrev pub edges_at : List Row → List Degree → ℕ → ℕ
edges_at rows degrees place = if (row_at rows place).active then (slice_index_or degrees place no_degree).outs else 0

-- the environment of the own vertex at a place, by one that has the numbers of the round
abbrev pub own_env : List Row → List Degree → ℕ → Env → ℕ → Env
own_env rows degrees start env place = entered (start + place) (slice_index_or degrees place no_degree) 0
    (with_row (row_at rows place) env)

-- a total over the own vertices
abbrev pub own_total : List Row → List Degree → ℕ → Env → TotalDecl → ℤ
own_total rows degrees start env t =
    total_of t.op (map (λ i. value_of t.value (own_env rows degrees start env i)) (range_with_len 0 (length rows)))

-- totals with their values at one vertex more
abbrev pub values_added : Env → List TotalDecl → List ℤ → List ℤ
values_added env totals held = zip_with (λ t word. combined_of t.op word (value_of t.value env)) totals held

-- how many words an environment has of each kind at an own vertex
abbrev pub own_counts : ℕ → Env → Counts
own_counts width env = record {
  fields = width;
  locals = 0;
  sends = 0;
  slots = length env.slots.items;
  totals = length env.totals.items;
  other_fields = width;
}

-- each name of the expressions of totals has its place there
abbrev pub AreTotalsPlaced : ℕ → Env → List TotalDecl → Type 0
AreTotalsPlaced width env totals = All (λ t. IsTrue (expr_placed (own_counts width env) t.value)) totals
