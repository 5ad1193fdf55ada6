-- Lines of rounds and of rows.
use Rattle.std.proofs.Common.{◌≡◌, ℕ, Bool, true, false, List, [], ◌++◌, map, refl, sym, ap, ◌∙◌}
use Rattle.std.specs.Prelude.{if◌then◌else◌}
use Rattle.array_text.specs.Rounds.{round_text}
use Rattle.array_text.specs.Tables.{row_text, rows_text}
use Rattle.plain_run.specs.Told.{kept_reads}
use Rattle.schedule_laws.specs.Layout.{reads_in, told_in, vertices_in}
use Rattle.schedule_laws.specs.Texts.{read_line, read_lines, told_lines}
use Rattle.symple_face.specs.declared.report.Report.{Report}
use Rattle.symple_face.specs.Cluster.{World}
use Rattle.symple_face.specs.Work.{Work}
use Rattle.symple_words.specs.declared.line.Lines.{Lines}
use Rattle.machine_runs.proofs.NumberedLaws.{AreNumbered}
use Rattle.vert_tree.specs.declared.program.Program.{Program}

-- a text that is asked for, and one that isn't
pub asked : (b : Bool) (text : List ℕ) → b ≡ true → text ≡ (if b then text else [])
asked b text is = sym (ap (λ (a : Bool). if a then text else []) is)

-- the lines of rows are numbered
pub rows_numbered : (p : Program) → AreNumbered (row_text p) (rows_text p)
rows_numbered p = record { none = λ v. refl; more = λ v row rows. refl }

-- and those of what vertices read
pub reads_numbered : (round : ℕ) → AreNumbered (read_line round) (read_lines round)
reads_numbered round = record { none = λ v. refl; more = λ v sources others. refl }

-- reads are kept where they are asked for
pub kept_asked : (b : Bool) (round : ℕ) (lists : List (List ℕ)) →
    (if b then read_lines round 0 lists else []) ≡ (if b then read_lines round 0 (kept_reads b lists) else [])
kept_asked true round lists = refl
kept_asked false round lists = refl

-- the lines of a report and of what was read are those of the round that is told
pub told_are : (lines : Lines) (work : Work) (w : World) (report first : Report) → report ≡ first →
    (if lines.rounds then round_text report.round report.ruling report.active report.edges report.reads else [])
    ++ (if lines.reads then read_lines report.round 0 (map (reads_in work w) (vertices_in w)) else [])
    ≡ told_lines lines (told_in lines.reads work w first)
told_are lines work w report first is =
    ap (λ (text : List ℕ).
    (if lines.rounds then round_text report.round report.ruling report.active report.edges report.reads else [])
    ++ text)
    (kept_asked lines.reads report.round (map (reads_in work w) (vertices_in w)))
    ∙ ap (λ (r : Report). told_lines lines (told_in lines.reads work w r)) is
