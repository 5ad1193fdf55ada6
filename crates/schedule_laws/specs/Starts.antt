-- The starts that a run leaves, and the runs that go on from them.
use Rattle.std.specs.Prelude.{◌≡◌, ◌≢◌, ◌<◌, ◌≤◌, ◌+◌, ◌-◌, ℕ, true, List, ◌++◌, Option, None, Some, flat_map, map, option_map, slice_get}
use Rattle.std.specs.List.{range_with_len}
use Rattle.plain_run.specs.Told.{told_played}
use Rattle.symple_words.specs.declared.line.Lines.{Lines}
use Rattle.vert_base.specs.declared.message.Event.{Event}
use Rattle.vert_base.specs.declared.message.Event.TheVariants.{Go}
use Rattle.vert_base.specs.declared.value.Row.{Row}
use Rattle.vert_base.specs.declared.value.Ruling.{Ruling}
use Rattle.vert_base.specs.declared.value.Ruling.TheVariants as ruling
use Rattle.vert_eval.specs.SourceRun.{played_at, source_run}
use Rattle.word_kinds.specs.Fits.{IsFitting}
use Rattle.circulant_plan.specs.declared.spot.Spot.TheVariants.{Judge}
use Rattle.instrument.specs.declared.split.Split.{Split}
use Rattle.symple_face.specs.Cluster.{IsOneRun, World, after, all_possible, first_world, possible, step}
use Rattle.symple_face.specs.CoreWork.{core_work}
use Rattle.symple_face.specs.Parts.{PlainPart}
use Rattle.symple_face.specs.Source.{Source, job_of, stand}
use Rattle.symple_face.specs.State.{State}
use Rattle.symple_face.specs.Work.{PlainAhead, PlainStart, Work}
use Rattle.schedule_laws.specs.Laws.{later_run, whole_run}
use Rattle.schedule_laws.specs.Layout.{row_in, vertices_in}
use Rattle.schedule_laws.specs.OutputText.{run_of}
use Rattle.schedule_laws.specs.Texts.{text_of_run, told_lines}

-- ---- what machines tell
abbrev pub start_with : List Row → PlainAhead → PlainStart
start_with rows ahead = record {
  round = ahead.round;
  ruling = ahead.ruling;
  active = ahead.active;
  edges = ahead.edges;
  rows = rows;
  totals = ahead.totals;
}

abbrev pub ahead_with : Work → Option State → Option PlainAhead
ahead_with work None = None
ahead_with work (Some s) = work.ahead s

-- the start that the machines of a world tell: machine 0 the round ahead, and each the rows of its vertices
abbrev pub start_told : Work → World → Option PlainStart
start_told work w =
    option_map (start_with (map (row_in work w) (vertices_in w))) (ahead_with work (slice_get w.sites 0))

-- ---- what the source's run says
-- what stands before a round
abbrev pub start_at : Source → ℕ → PlainStart
start_at src round = record {
  round = round;
  ruling = (stand src round).ruling;
  active = (stand src round).active;
  edges = (stand src round).edges;
  rows = (stand src round).rows;
  totals = (stand src round).totals;
}

-- a start where the round takes place
abbrev pub start_by : Ruling → PlainStart → Option PlainStart
start_by ruling.Stop start = None
start_by ruling.Dense start = Some start
start_by ruling.Sparse start = Some start

-- the rounds before this one take place
abbrev pub HasRounds : Source → ℕ → Type 0
HasRounds src round =
    (r : ℕ) → src.base ≤ r → r < round → (r ≤ src.job.program.limit) × ((stand src r).ruling ≢ ruling.Stop)

-- the lines of the rounds before this one
abbrev pub lines_before : Lines → Source → ℕ → List ℕ
lines_before lines src round =
    flat_map (λ r. told_lines lines (told_played lines.reads (played_at src.job r (stand src r))))
    (range_with_len src.base (round - src.base))

-- ---- laws
-- behind the judge of a round the machines tell what stands before the next one, and nothing where there is none
abbrev pub EveryStartIsTold : Type 0
EveryStartIsTold =
    (split : Split) (parts : List PlainPart) (one : IsOneRun parts) (es : List Event) (s : State) (r : ℕ) →
    IsFitting split.program.program → all_possible core_work (first_world core_work split parts) es ≡ true →
    let w : World = after core_work (first_world core_work split parts) es in
    let src : Source = whole_run split parts one in
    slice_get w.sites 0 ≡ Some s → s.at.spot ≡ Judge r → possible w (Go 0) ≡ true →
    start_told core_work (step core_work w (Go 0)) ≡ start_by (stand src (r + 1)).ruling (start_at src (r + 1))

-- a whole run prints the lines of the rounds before a start, and then what the run from the start prints
abbrev pub EveryRestIsPrinted : Type 0
EveryRestIsPrinted =
    (lines : Lines) (split : Split) (parts : List PlainPart) (one : IsOneRun parts) (round : ℕ) → 1 ≤ round →
    HasRounds (whole_run split parts one) round →
    lines_before lines (whole_run split parts one) round
    ++ text_of_run lines split.program.program
    (run_of (later_run split parts one (start_at (whole_run split parts one) round))) ≡
    text_of_run lines split.program.program (source_run (job_of split one.ends one.draws one.edges))
