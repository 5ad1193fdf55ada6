-- What the own vertices bring to a round, and the senders of a chunk.
use Rattle.std.specs.Prelude.{◌≡◌, ◌≤◌, ℕ, ℤ, None, List, filter, length, replicate, slice_index}
use Rattle.std.specs.List.{All}
use Rattle.vert_base.specs.Ends.{start_of}
use Rattle.flat_table.specs.Grids.{Rows}
use Rattle.slot_merge.specs.declared.partial.Partial.{Partial}
use Rattle.vert_eval.specs.declared.environment.Env.{Env}
use Rattle.chunk_split.specs.Chunks.{vertices_of}
use Rattle.instrument.specs.declared.split.Split.{Split}
use Rattle.symple_face.specs.CoreSight.{field_count, is_within, program_of, total_count}
use Rattle.symple_face.specs.CoreTakes.{slot_count}
use Rattle.symple_face.specs.Parts.{PlainPart, chunk_vertices}
use Rattle.machine_parts.specs.declared.spans.Span.{Span}
use Rattle.machine_parts.specs.Flat.{RowTable}
use Rattle.machine_parts.specs.Spans.{vertex_of}

-- the rows of the own vertices, each with a word for each field, and as many totals as the program has
pub record AreOwnRows (part : PlainPart) (split : Split) (totals : List ℤ) (rows : RowTable) : Type 0 where
  pub count : length rows.rows ≡ length (chunk_vertices part.ends part.at.machine)
  pub width : rows.width ≡ field_count split
  pub sums : length totals ≡ total_count split

-- the partials of the own vertices, each with at least one for each slot
pub record AreOwnPartials (part : PlainPart) (split : Split) (table : Rows Partial) : Type 0 where
  pub count : length table.rows ≡ length (chunk_vertices part.ends part.at.machine)
  pub each : All (λ ps. length ps ≡ table.width) table.rows
  pub slots : slot_count split ≤ table.width

-- an environment that has the numbers of a round, and no value of a slot
pub record HasNumbers (part : PlainPart) (split : Split) (round : ℕ) (totals : List ℤ) (env : Env) : Type 0 where
  pub n : env.n ≡ vertices_of part.ends
  pub at : env.round ≡ round
  pub draws : env.draws ≡ part.draws
  pub slots : env.slots.items ≡ replicate (length (program_of split).slots.items) None
  pub sums : env.totals.items ≡ totals

-- the spans of the vertices of a chunk
abbrev pub spans_in : List ℕ → ℕ → List Span → List Span
spans_in ends k spans = filter (λ s. is_within (start_of ends k, slice_index ends k) (vertex_of s)) spans
