-- The demonstration: a run on a drawn graph, told in three lines.
use Rattle.std.specs.Prelude.{◌≡◌, ℕ, false, List, length, sum_by}
use Rattle.command_steps.specs.Orders.{Course, IsOver, Prints}
use Rattle.demo_parts.specs.DrawnGraphs.{drawn_graph}
use Rattle.demo_parts.specs.ShownTexts.{shown_text}
use Rattle.demo_program.specs.DemoText.{demo_text}
use Rattle.array_text.specs.Tables.{table_text}
use Rattle.plain_run.specs.Told.{Told, rounds_told}
use Rattle.program_reader.specs.Accepted.{Says}
use Rattle.schedule_laws.specs.Layout.{table_of}
use Rattle.schedule_laws.specs.ToldRounds.{rounds_ended}
use Rattle.sha2.specs.Sha256.{sha256}
use Rattle.symple_face.specs.Cluster.{IsPlainRun, World, after}
use Rattle.symple_face.specs.Work.{Work}
use Rattle.machine_runs.specs.PlainPlays.{IsFirstWorld}
use Rattle.symple_run.specs.SourceTexts.{job_of}
use Rattle.vert_base.specs.declared.message.Event.{Event}
use Rattle.vert_eval.specs.SourceRun.{Run, source_run}
use Rattle.vert_tree.specs.declared.program.Program.{Program}

-- how many sources were read in some rounds
abbrev pub reads_in_all : List Told → ℕ
reads_in_all rounds = sum_by (λ (told : Told). told.read) rounds

-- the lines of a run with these rounds and this table
abbrev pub shown_course : ℕ → List Told → List ℕ → Course
shown_course machines rounds table =
    Prints (shown_text machines (length rounds) (reads_in_all rounds) (sha256 table)) IsOver

-- the plain run of machines of a kind on the graph of the seed, by the states that its events leave
pub record IsShow (work : Work) (seed machines : ℕ) (course : Course) : Type 0 where
  pub program : Program
  pub says : Says demo_text program
  pub first : World
  pub is_first : IsFirstWorld work program (drawn_graph seed) machines 0 first
  pub events : List Event
  pub plain : IsPlainRun work first events
  pub course_is : course ≡ shown_course machines (rounds_ended false work first events)
      (table_of work (after work first events))

-- the source's run on that graph
abbrev pub shown_run : ℕ → ℕ → Program → Run
shown_run seed machines program = source_run (job_of machines 0 program (drawn_graph seed))

-- the lines of the source's run
pub record IsSourceShow (seed machines : ℕ) (course : Course) : Type 0 where
  pub program : Program
  pub says : Says demo_text program
  pub course_is : course ≡ shown_course machines (rounds_told false (shown_run seed machines program))
      (table_text program (shown_run seed machines program).last.rows)
