-- The part of a table that a machine tells: the lines of its chunk, of machine 0 behind the header line.
use Rattle.std.specs.Prelude.{◌≡◌, ◌==◌, ◌++◌, ℕ, List, flat_map, if◌then◌else◌, length}
use Rattle.std.specs.List.{range_with_len}
use Rattle.vert_base.specs.declared.value.Row.{Row}
use Rattle.vert_tree.specs.declared.program.Program.{Program}
use Rattle.vert_eval.specs.Rounds.{row_at}
use Rattle.vert_eval.specs.SourceRun.{source_run}
use Rattle.array_text.specs.Tables.{header_text, row_text, table_text}
use Rattle.instrument.specs.declared.split.Split.{Split}
use Rattle.symple_face.specs.Cluster.{IsOneRun}
use Rattle.symple_face.specs.Parts.{PlainPart, chunk_vertices}
use Rattle.symple_face.specs.Source.{job_of}

-- the lines of the vertices of chunk m
abbrev pub chunk_lines : Program → List ℕ → List Row → ℕ → List ℕ
chunk_lines program ends rows m = flat_map (λ v. row_text program v (row_at rows v)) (chunk_vertices ends m)

-- machine m's part of a table
abbrev pub chunk_text : Program → List ℕ → List Row → ℕ → List ℕ
chunk_text program ends rows m =
    if m == 0 then header_text program ++ chunk_lines program ends rows m else chunk_lines program ends rows m

-- the last rows of the run of a program on the graph of these parts
abbrev pub last_rows : Split → (parts : List PlainPart) → IsOneRun parts → List Row
last_rows split parts one = (source_run (job_of split one.ends one.draws one.edges)).last.rows

-- the parts of all machines, one behind another, are the table of the run
abbrev pub TablesAreOfChunks : Type 0
TablesAreOfChunks =
    (split : Split) (parts : List PlainPart) (one : IsOneRun parts) →
    flat_map (chunk_text split.program.program one.ends (last_rows split parts one)) (range_with_len 0 (length parts))
    ≡ table_text split.program.program (last_rows split parts one)
