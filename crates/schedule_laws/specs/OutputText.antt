-- The text of a run by the source's run and the list of its events.
use Rattle.std.specs.Prelude.{ℕ, nat_le, ◌==◌, List, [], ◌∷◌, ◌++◌, Option, None, Some, if◌then◌else◌, slice_get}
use Rattle.array_text.specs.Events.{event_line}
use Rattle.array_text.specs.Tables.{table_text}
use Rattle.plain_run.specs.Told.{told_played}
use Rattle.symple_words.specs.declared.line.Lines.{Lines}
use Rattle.vert_base.specs.declared.message.Event.{Event}
use Rattle.vert_base.specs.declared.message.Event.TheVariants.{Go, Take}
use Rattle.vert_base.specs.declared.value.Ruling.{Ruling}
use Rattle.vert_base.specs.Letters.{Letter}
use Rattle.vert_eval.specs.SourceRun.{Run, played_at, resumed_run}
use Rattle.circulant_plan.specs.declared.spot.Spot.{Spot}
use Rattle.circulant_plan.specs.declared.spot.Spot.TheVariants.{Tell, Judge, Begin, Scan, Close, Over}
use Rattle.circulant_plan.specs.Runs.{ruled}
use Rattle.circulant_plan.specs.Skeleton.{Skeleton, step_of}
use Rattle.circulant_plan.specs.Standing.{Standing}
use Rattle.symple_face.specs.Ideal.{ideal_body}
use Rattle.symple_face.specs.Source.{Source, stand}
use Rattle.schedule_laws.specs.Events.{ring_in}
use Rattle.schedule_laws.specs.Texts.{told_lines}

-- the rounds of a source from its first one on
abbrev pub run_of : Source → Run
run_of src = resumed_run src.job src.base src.from

abbrev pub rulings_of : Source → ℕ → Ruling
rulings_of src round = (stand src round).ruling

-- where the order of events stands behind an event, by the source's rulings
abbrev pub next_by : Source → Skeleton → Event → Skeleton
next_by src k e = step_of (ring_in src) (ruled (rulings_of src) k) e k

-- the message that an event takes, with its ideal body
abbrev pub ideal_taken : Source → Event → Option Letter
ideal_taken src (Go m) = None
ideal_taken src (Take x) = Some (record { name = x; body = ideal_body src x })

-- the lines of a round that is judged at this spot: none of round 0
abbrev pub lines_at : Lines → Source → Spot → List ℕ
lines_at lines src Tell = []
lines_at lines src (Judge r) =
    if nat_le 1 r then told_lines lines (told_played lines.reads (played_at src.job r (stand src r))) else []
lines_at lines src (Begin r) = []
lines_at lines src (Scan r step h) = []
lines_at lines src (Close r dense) = []
lines_at lines src Over = []

abbrev pub standing_lines : Lines → Source → Option Standing → List ℕ
standing_lines lines src None = []
standing_lines lines src (Some s) = lines_at lines src s.spot

-- the lines of the round that an event ends
abbrev pub ended_lines : Lines → Source → Skeleton → Event → List ℕ
ended_lines lines src k (Go m) = if m == 0 then standing_lines lines src (slice_get k.standings 0) else []
ended_lines lines src k (Take x) = []

-- the line of an event, and then those of the round that it ends
abbrev pub played_lines : Lines → Source → Skeleton → Event → List ℕ
played_lines lines src k e =
    (if lines.log then event_line e (ideal_taken src e) else []) ++ ended_lines lines src k e

abbrev pub schedule_lines : Lines → Source → Skeleton → List Event → List ℕ
schedule_lines lines src k [] = []
schedule_lines lines src k (e ∷ es) =
    played_lines lines src k e ++ schedule_lines lines src (next_by src k e) es

-- the lines of the events from a first state on, and then the table of the last rows
abbrev pub output_text : Lines → Source → Skeleton → List Event → List ℕ
output_text lines src k es =
    schedule_lines lines src k es ++ table_text src.job.program (run_of src).last.rows
