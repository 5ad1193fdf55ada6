-- The laws of whole runs by cores, under every schedule.
use Rattle.std.specs.Prelude.{◌≡◌, Bool, true, false, List, length}
use Rattle.std.specs.List.{All}
use Rattle.array_text.specs.Tables.{table_text}
use Rattle.plain_run.specs.Told.{rounds_told}
use Rattle.symple_words.specs.declared.line.Lines.{Lines}
use Rattle.vert_base.specs.declared.message.Event.{Event}
use Rattle.vert_eval.specs.SourceRun.{source_run}
use Rattle.word_kinds.specs.Fits.{IsFitting}
use Rattle.circulant_plan.specs.Skeleton.{first_skeleton, resumed_skeleton}
use Rattle.instrument.specs.declared.split.Split.{Split}
use Rattle.symple_face.specs.Cluster.{IsOneRun, after, all_possible, first_world, is_complete, restarted_world}
use Rattle.symple_face.specs.CoreWork.{core_work}
use Rattle.symple_face.specs.Parts.{PlainPart}
use Rattle.symple_face.specs.Restarts.{IsStart}
use Rattle.symple_face.specs.Source.{Source, fresh_source, job_of, resumed_source}
use Rattle.symple_face.specs.Work.{PlainStart}
use Rattle.schedule_laws.specs.Layout.{table_of, text_of}
use Rattle.schedule_laws.specs.OutputText.{output_text, run_of}
use Rattle.schedule_laws.specs.Texts.{text_of_run}
use Rattle.schedule_laws.specs.ToldRounds.{rounds_ended}
use Rattle.schedule_laws.specs.TrueWorlds.{IsTrueWorld}

-- the whole run on the graph of these parts
abbrev pub whole_run : Split → (parts : List PlainPart) → IsOneRun parts → Source
whole_run split parts one = fresh_source (job_of split one.ends one.draws one.edges) split

-- the run on it that goes on from a start
abbrev pub later_run : Split → (parts : List PlainPart) → IsOneRun parts → PlainStart → Source
later_run split parts one start = resumed_source (job_of split one.ends one.draws one.edges) split start

-- ---- the whole run
-- whatever events are possible in turn, they leave what the source's run says
abbrev pub EveryWorldIsTrue : Type 0
EveryWorldIsTrue =
    (split : Split) (parts : List PlainPart) (one : IsOneRun parts) (es : List Event) →
    IsFitting split.program.program → all_possible core_work (first_world core_work split parts) es ≡ true →
    IsTrueWorld (whole_run split parts one) (after core_work (first_world core_work split parts) es)

-- a complete run prints the rounds and the rows of the source's run
abbrev pub EverySchedule : Type 0
EverySchedule =
    (lines : Lines) (split : Split) (parts : List PlainPart) (one : IsOneRun parts) (es : List Event) →
    IsFitting split.program.program → is_complete core_work (first_world core_work split parts) es ≡ true →
    lines.log ≡ false →
    text_of core_work lines (first_world core_work split parts) es ≡
    text_of_run lines split.program.program (source_run (job_of split one.ends one.draws one.edges))

-- the rounds that its events end are those of the source's run
abbrev pub EveryRoundIsTold : Type 0
EveryRoundIsTold =
    (kept : Bool) (split : Split) (parts : List PlainPart) (one : IsOneRun parts) (es : List Event) →
    IsFitting split.program.program → is_complete core_work (first_world core_work split parts) es ≡ true →
    rounds_ended kept core_work (first_world core_work split parts) es ≡
    rounds_told kept (source_run (job_of split one.ends one.draws one.edges))

-- and the table of the machines at its end is that of the last rows
abbrev pub EveryTableIsTold : Type 0
EveryTableIsTold =
    (split : Split) (parts : List PlainPart) (one : IsOneRun parts) (es : List Event) →
    IsFitting split.program.program → is_complete core_work (first_world core_work split parts) es ≡ true →
    table_of core_work (after core_work (first_world core_work split parts) es) ≡
    table_text split.program.program (source_run (job_of split one.ends one.draws one.edges)).last.rows

-- and with the line of each event, the source's run between the events
abbrev pub EveryLog : Type 0
EveryLog =
    (lines : Lines) (split : Split) (parts : List PlainPart) (one : IsOneRun parts) (es : List Event) →
    IsFitting split.program.program → is_complete core_work (first_world core_work split parts) es ≡ true →
    text_of core_work lines (first_world core_work split parts) es ≡
    output_text lines (whole_run split parts one) (first_skeleton (length parts)) es

-- ---- a run that goes on from a start
abbrev pub EveryLaterWorldIsTrue : Type 0
EveryLaterWorldIsTrue =
    (split : Split) (parts : List PlainPart) (one : IsOneRun parts) (start : PlainStart) (es : List Event) →
    IsFitting split.program.program → All (λ part. IsStart part split start) parts →
    all_possible core_work (restarted_world core_work split parts start) es ≡ true →
    IsTrueWorld (later_run split parts one start) (after core_work (restarted_world core_work split parts start) es)

abbrev pub EveryLaterSchedule : Type 0
EveryLaterSchedule =
    (lines : Lines) (split : Split) (parts : List PlainPart) (one : IsOneRun parts) (start : PlainStart)
    (es : List Event) →
    IsFitting split.program.program → All (λ part. IsStart part split start) parts →
    is_complete core_work (restarted_world core_work split parts start) es ≡ true → lines.log ≡ false →
    text_of core_work lines (restarted_world core_work split parts start) es ≡
    text_of_run lines split.program.program (run_of (later_run split parts one start))

abbrev pub EveryLaterLog : Type 0
EveryLaterLog =
    (lines : Lines) (split : Split) (parts : List PlainPart) (one : IsOneRun parts) (start : PlainStart)
    (es : List Event) →
    IsFitting split.program.program → All (λ part. IsStart part split start) parts →
    is_complete core_work (restarted_world core_work split parts start) es ≡ true →
    text_of core_work lines (restarted_world core_work split parts start) es ≡
    output_text lines (later_run split parts one start) (resumed_skeleton (length parts) start.round start.ruling) es
