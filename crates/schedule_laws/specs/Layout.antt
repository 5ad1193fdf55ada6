-- The text of a run by the worlds that its events leave, for machines of any kind.
use Rattle.std.specs.Prelude.{ℕ, nat_le, ◌==◌, Bool, List, [], ◌∷◌, ◌++◌, Option, None, Some, flat_map, if◌then◌else◌, length, map, slice_get}
use Rattle.std.specs.List.{range_with_len}
use Rattle.array_text.specs.Events.{event_line}
use Rattle.array_text.specs.Tables.{table_text}
use Rattle.plain_run.specs.Told.{Told, kept_reads}
use Rattle.symple_words.specs.declared.line.Lines.{Lines}
use Rattle.vert_base.specs.declared.message.Event.{Event}
use Rattle.vert_base.specs.declared.message.Event.TheVariants.{Go, Take}
use Rattle.vert_base.specs.declared.value.Row.{Row}
use Rattle.vert_base.specs.Letters.{Letter, found}
use Rattle.vert_eval.specs.Rounds.{empty_row}
use Rattle.chunk_split.specs.Chunks.{vertices_of}
use Rattle.circulant_plan.specs.declared.spot.Spot.{Spot}
use Rattle.circulant_plan.specs.declared.spot.Spot.TheVariants.{Tell, Judge, Begin, Scan, Close, Over}
use Rattle.circulant_plan.specs.Ring.{order_of}
use Rattle.symple_face.specs.declared.report.Report.{Report}
use Rattle.symple_face.specs.Cluster.{World, after, step}
use Rattle.symple_face.specs.Ideal.{owner_of}
use Rattle.symple_face.specs.State.{State}
use Rattle.symple_face.specs.Work.{Work}
use Rattle.schedule_laws.specs.Texts.{told_lines}

-- ---- the graph of a world, by its first machine
abbrev pub ends_with : Option State → List ℕ
ends_with None = []
ends_with (Some s) = s.part.ends

-- the ends of the chunks
abbrev pub ends_in : World → List ℕ
ends_in w = ends_with (slice_get w.sites 0)

-- the vertices, ascending
abbrev pub vertices_in : World → List ℕ
vertices_in w = range_with_len 0 (vertices_of (ends_in w))

-- ---- the table
abbrev pub row_with : Work → ℕ → Option State → Row
row_with work v None = empty_row
row_with work v (Some s) = work.row s v

-- the row of a vertex, which the machine of its chunk tells
abbrev pub row_in : Work → World → ℕ → Row
row_in work w v = row_with work v (slice_get w.sites (owner_of (ends_in w) v))

abbrev pub table_with : Work → World → Option State → List ℕ
table_with work w None = []
table_with work w (Some s) = table_text s.split.program.program (map (row_in work w) (vertices_in w))

abbrev pub table_of : Work → World → List ℕ
table_of work w = table_with work w (slice_get w.sites 0)

-- ---- what was read
abbrev pub reads_with : Work → ℕ → Option State → List ℕ
reads_with work v None = []
reads_with work v (Some s) = work.reads s v

-- what a vertex of chunk c read in the last round, by the machines of the steps in turn
abbrev pub reads_by_steps : Work → World → ℕ → ℕ → List ℕ
reads_by_steps work w c v =
    flat_map (λ step. reads_with work v (slice_get w.sites (order_of c step (length w.sites))))
    (range_with_len 0 (length w.sites))

abbrev pub reads_in : Work → World → ℕ → List ℕ
reads_in work w v = reads_by_steps work w (owner_of (ends_in w) v) v

-- ---- a round that was judged
-- what is told of it, by the report and the reads of the world behind the judge
abbrev pub told_in : Bool → Work → World → Report → Told
told_in kept work w report = record {
  round = report.round;
  ruling = report.ruling;
  active = report.active;
  edges = report.edges;
  read = report.reads;
  reads = kept_reads kept (map (reads_in work w) (vertices_in w));
}

-- the lines of a judge's go: none of round 0
abbrev pub judged_lines : Work → Lines → World → State → Spot → List ℕ
judged_lines work lines w s Tell = []
judged_lines work lines w s (Judge r) =
    if nat_le 1 r
    then told_lines lines (told_in lines.reads work (step work w (Go 0)) (work.report (work.go s)))
    else []
judged_lines work lines w s (Begin r) = []
judged_lines work lines w s (Scan r step h) = []
judged_lines work lines w s (Close r dense) = []
judged_lines work lines w s Over = []

abbrev pub gone_lines : Work → Lines → World → Option State → List ℕ
gone_lines work lines w None = []
gone_lines work lines w (Some s) = judged_lines work lines w s s.at.spot

-- the lines of the round that an event ends
abbrev pub round_lines : Work → Lines → World → Event → List ℕ
round_lines work lines w (Go m) = if m == 0 then gone_lines work lines w (slice_get w.sites 0) else []
round_lines work lines w (Take x) = []

-- ---- an event
-- the message that it takes
abbrev pub taken_in : World → Event → Option Letter
taken_in w (Go m) = None
taken_in w (Take x) = found x w.under_way

-- its own line, and then those of the round that it ends
abbrev pub event_lines : Work → Lines → World → Event → List ℕ
event_lines work lines w e =
    (if lines.log then event_line e (taken_in w e) else []) ++ round_lines work lines w e

-- ---- the whole
abbrev pub lines_of : Work → Lines → World → List Event → List ℕ
lines_of work lines w [] = []
lines_of work lines w (e ∷ es) = event_lines work lines w e ++ lines_of work lines (step work w e) es

-- the lines of the events, and then the table
abbrev pub text_of : Work → Lines → World → List Event → List ℕ
text_of work lines w es = lines_of work lines w es ++ table_of work (after work w es)
