-- The first worlds of runs by machines of a kind, what they tell of their events, and plain runs.
use Rattle.std.specs.Prelude.{◌≡◌, ◌==◌, ◌&&◌, nat_le, ℕ, Bool, false, List, [], ◌∷◌, Option, None, Some, drop, if◌then◌else◌, map, slice_get, take}
use Rattle.array_text.specs.Events.{event_line}
use Rattle.array_text.specs.Tables.{row_text, rows_text}
use Rattle.edge_reader.specs.EdgeList.{Graph}
use Rattle.instrument.specs.declared.split.Split.{Split}
use Rattle.schedule_laws.specs.Layout.{round_lines, row_in, table_of, taken_in, vertices_in}
use Rattle.symple_face.specs.Cluster.{IsPlainRun, World, first_world, step}
use Rattle.symple_face.specs.Parts.{PlainPart}
use Rattle.symple_face.specs.Work.{Work}
use Rattle.command_steps.specs.Leaves.{Leaves}
use Rattle.command_steps.specs.Notes.{Fault}
use Rattle.command_steps.specs.Orders.{Course, IsOver, NoTask, Play, Prints, follows}
use Rattle.machine_runs.specs.RunParts.{IsRunOf}
use Rattle.command_steps.specs.States.{Held, Kept, Left, outside}
use Rattle.symple_words.specs.declared.line.Lines.{Lines}
use Rattle.vert_tree.specs.declared.program.Program.{Program}
use Rattle.word_kinds.specs.Fits.{IsFitting}
use Rattle.vert_base.specs.declared.message.Event.{Event}
use Rattle.vert_base.specs.declared.message.Event.TheVariants.{Go, Take}
use Rattle.vert_base.specs.declared.value.Ruling.TheVariants.{Stop}
use Rattle.circulant_plan.specs.declared.spot.Spot.{Spot}
use Rattle.circulant_plan.specs.declared.spot.Spot.TheVariants.{Tell, Judge, Begin, Scan, Close, Over}
use Rattle.symple_face.specs.declared.report.Report.{Report}
use Rattle.symple_face.specs.State.{State}

-- whether an event is the one in which machine 0 judges a round that took place
abbrev pub is_late_judge : Spot → Bool
is_late_judge Tell = false
is_late_judge (Judge r) = nat_le 1 r
is_late_judge (Begin r) = false
is_late_judge (Scan r step h) = false
is_late_judge (Close r dense) = false
is_late_judge Over = false

abbrev pub judges_late : Option State → Bool
judges_late None = false
judges_late (Some s) = is_late_judge s.at.spot

abbrev pub ends_round : World → Event → Bool
ends_round w (Go m) = m == 0 && judges_late (slice_get w.sites 0)
ends_round w (Take x) = false

-- what machine 0 tells
abbrev pub report_with : Work → Option State → Report
report_with work None = record { round = 0; ruling = Stop; active = 0; edges = 0; reads = 0 }
report_with work (Some s) = work.report s

abbrev pub first_report : Work → World → Report
first_report work w = report_with work (slice_get w.sites 0)

-- the line of a vertex, and those of all
abbrev pub line_with : Work → World → ℕ → Option State → List ℕ
line_with work w v None = []
line_with work w v (Some s) = row_text s.split.program.program v (row_in work w v)

abbrev pub line_of : Work → World → ℕ → List ℕ
line_of work w v = line_with work w v (slice_get w.sites 0)

abbrev pub rows_with : Work → World → Option State → List ℕ
rows_with work w None = []
rows_with work w (Some s) = rows_text s.split.program.program 0 (map (row_in work w) (vertices_in w))

abbrev pub rows_of : Work → World → List ℕ
rows_of work w = rows_with work w (slice_get w.sites 0)

-- those of the first vertices, and those behind them
abbrev pub lines_to : Work → World → ℕ → Option State → List ℕ
lines_to work w k None = []
lines_to work w k (Some s) = rows_text s.split.program.program 0 (take k (map (row_in work w) (vertices_in w)))

abbrev pub lines_behind : Work → World → ℕ → Option State → List ℕ
lines_behind work w k None = []
lines_behind work w k (Some s) = rows_text s.split.program.program k (drop k (map (row_in work w) (vertices_in w)))

-- the line of an event, where it is asked for
abbrev pub log_line : Lines → World → Event → List ℕ
log_line lines w e = if lines.log then event_line e (taken_in w e) else []

-- the lines of the events from a world on, and then the table: of each event its own line before it is played, and
-- those of the round that it ends behind it
abbrev pub course_from : Work → Lines → World → List Event → Course
course_from work lines w [] = Prints (table_of work w) IsOver
course_from work lines w (e ∷ es) =
    Prints (log_line lines w e) (Prints (round_lines work lines w e) (course_from work lines (step work w e) es))

-- the world is that of machines of a kind before any event, each made of its part of the graph
pub record IsFirstWorld (work : Work) (program : Program) (graph : Graph) (machines draws : ℕ)
    (w : World) : Type 0 where
  pub split : Split
  pub program_is : split.program.program ≡ program
  pub fits : IsFitting split.program.program
  pub parts : List PlainPart
  pub of_graph : IsRunOf machines draws graph parts
  pub here : w ≡ first_world work split parts

-- The run is the plain one of machines of a kind; its course is told by the states that its events leave.
pub record IsPlainPlay (work : Work) (play : Play) (course : Course) : Type 0 where
  pub first : World
  pub is_first : IsFirstWorld work play.program play.graph play.machines play.draws first
  pub events : List Event
  pub plain : IsPlainRun work first events
  pub course_is : course ≡ course_from work play.lines first events

-- what a run leaves of a sink from a world on, and how it ends, whatever the shelf and the input
pub record GoesOn (work : Work) (lines : Lines) (w : World) (old new : Held) (outcome : Option Fault) : Type 0 where
  pub events : List Event
  pub plain : IsPlainRun work w events
  pub leaves : (shelf : Kept) (input : Left) → Leaves NoTask (follows (course_from work lines w events))
      (outside shelf old input) (outside shelf new input) outcome

-- a run that goes on behind some events, at a world and a sink, is one that goes on from before them
abbrev pub LeadsOn : Work → Lines → World → Held → World → Held → Type 0
LeadsOn work lines w old v new =
    (after : Held) (outcome : Option Fault) → GoesOn work lines v new after outcome →
    GoesOn work lines w old after outcome
