-- What `run --image` leaves, from what the order of its words leaves.
use Rattle.std.proofs.Common.{◌≡◌, ◌⊎◌, inl, inr, ℕ, List, Option, Some, Result, Ok, Err, refl, sym, subst}
use Rattle.command_steps.specs.declared.status.Status.{Status}
use Rattle.command_steps.specs.declared.status.Status.TheVariants as status
use Rattle.command_steps.specs.Commands.{asked_by, edge_fault, graph_of, image_order, of_graph, order_of, origin_of, play_of, too_long_graph, too_long_program}
use Rattle.command_steps.specs.Leaves.{CannotLoad, HasFailed, IsAbsent, IsLong, IsProgram, IsRefused, IsUnder, Leaves, Loaded, NotLoaded, Ran, Refused, WantsAtJudging, WantsAtLoad, WantsAtRefusal, WantsAtRun}
use Rattle.command_steps.specs.Notes as note
use Rattle.command_steps.specs.Orders.{Course, Imaged, Origin, Play, Runs, Task, follows}
use Rattle.command_steps.specs.States.{Kept, Outside}
use Rattle.edge_reader.specs.declared.fault.EdgeFault.{EdgeFault}
use Rattle.edge_reader.specs.declared.fault.EdgeFault.TheVariants.{Line, Byte, Want}
use Rattle.edge_reader.specs.EdgeList.{Graph}
use Rattle.program_reader.specs.Accepted.{Says}
use Rattle.symple_run.specs.Headline.{status_after}
use Rattle.symple_run.specs.Interrupted.{LeftImages, TellsImages}
use Rattle.symple_run.specs.KeptImages.{StoresImages}
use Rattle.symple_run.proofs.InterruptedLaws.{came_to}
use Rattle.symple_words.specs.Lines as words
use Rattle.vert_tree.specs.declared.program.Program.{Program}

-- ended well, or by a write
abbrev Wrote : Status → Type 0
Wrote result = (result ≡ status.Done) ⊎ (result ≡ status.WriteFault)

-- a fault of another kind
abbrev IsOther : note.Fault → Type 0
IsOther fault = Wrote (note.status_of fault) → ⊥

no_load : (name : List ℕ) → IsOther (note.NoLoad name)
no_load name (inl is) = cc
no_load name (inr is) = cc

no_memory : IsOther note.NoMemory
no_memory (inl is) = cc
no_memory (inr is) = cc

bad_graph : (why : EdgeFault) → IsOther (edge_fault why)
bad_graph (Line code line) (inl is) = cc
bad_graph (Line code line) (inr is) = cc
bad_graph (Byte code at) (inl is) = cc
bad_graph (Byte code at) (inr is) = cc
bad_graph Want (inl is) = cc
bad_graph Want (inr is) = cc

not_loaded : (name : List ℕ) (limit : ℕ) (too_long fault : note.Fault) (old new : Kept) → IsOther too_long →
    CannotLoad name limit too_long old new fault → IsOther fault
not_loaded name limit too_long fault old new long (IsAbsent told under same is) = subst IsOther (sym is) (no_load name)
not_loaded name limit too_long fault old new long (IsLong bytes under more same is) = subst IsOther (sym is) long
not_loaded name limit too_long fault old new long (HasFailed rose same is) = subst IsOther (sym is) (no_load name)

module _ (courses : Task → Course → Type 0) (stores : (play : Play) (origin : Origin) (image : List ℕ)
    (course : Course) → courses (Imaged play origin image) course → StoresImages image course) where
  module _ (job : words.PlainJob) (machines : ℕ) (image : List ℕ) (w new : Outside) (outcome : Option note.Fault)
      (wrote : Wrote (status_after outcome)) where
    abbrev Left : Type 0
    Left = LeftImages courses job machines image w new outcome

    other : (fault : note.Fault) → outcome ≡ Some fault → IsOther fault → Left
    other fault is differs = absurd (differs (subst (λ o. Wrote (status_after o)) is wrote))

    module _ (text : List ℕ) (program : Program) (says : Says text program)
        (program_under : IsUnder w.shelf.files job.program (Some text)) (bytes : List ℕ)
        (graph_under : IsUnder w.shelf.files job.graph (Some bytes)) where
      ran : (graph : Graph) → graph_of job.form bytes ≡ Ok graph →
          Leaves courses (Runs (Imaged (play_of job machines program graph) (origin_of job text bytes) image) follows) w
          new outcome → Left
      ran graph reads (Ran course is leaves) = record {
        text = text;
        program = program;
        bytes = bytes;
        graph = graph;
        says = says;
        program_under = program_under;
        reads = reads;
        graph_under = graph_under;
        course = course;
        is_course = is;
        came = came_to courses image course (stores _ _ image course is) w new outcome leaves;
      }
      ran graph reads (WantsAtRun wants) = other note.NoMemory wants.memory no_memory

      with_read : (read : Result Graph EdgeFault) → graph_of job.form bytes ≡ read →
          Leaves courses (of_graph read (λ graph.
          Runs (Imaged (play_of job machines program graph) (origin_of job text bytes) image) follows)) w new outcome →
          Left
      with_read (Ok graph) reads leaves = ran graph reads leaves
      with_read (Err why) reads (Refused ends) = other (edge_fault why) ends.fault_is (bad_graph why)
      with_read (Err why) reads (WantsAtRefusal wants) = other note.NoMemory wants.memory no_memory

    left : Leaves courses (image_order job machines image) w new outcome → Left
    left (Loaded text under within (IsProgram program says (Loaded bytes there most rest))) =
        with_read text program says under bytes there (graph_of job.form bytes) refl rest
    left (Loaded text under within (IsProgram program says (NotLoaded fault why same is))) =
        other fault is (not_loaded job.graph _ too_long_graph fault w.shelf new.shelf
        (λ wrote. elim wrote [ inl e ↦ cc | inr e ↦ cc ]) why)
    left (Loaded text under within (IsProgram program says (WantsAtLoad wants))) =
        other note.NoMemory wants.memory no_memory
    left (Loaded text under within (IsRefused refusal refuses ends)) =
        other (note.BadProgram refusal) ends.fault_is (λ wrote. elim wrote [ inl e ↦ cc | inr e ↦ cc ])
    left (Loaded text under within (WantsAtJudging wants)) = other note.NoMemory wants.memory no_memory
    left (NotLoaded fault why same is) =
        other fault is (not_loaded job.program _ too_long_program fault w.shelf new.shelf
        (λ wrote. elim wrote [ inl e ↦ cc | inr e ↦ cc ]) why)
    left (WantsAtLoad wants) = other note.NoMemory wants.memory no_memory

  pub tells_images : (texts : List (List ℕ)) (w new : Outside) (outcome : Option note.Fault) (result : Status) →
      Leaves courses (order_of texts) w new outcome → result ≡ status_after outcome →
      TellsImages courses texts w new result
  tells_images texts w new outcome result leaves is = λ job machines image line wrote.
      let P : Result words.PlainLine words.LineFault → Type 0 = λ r. Leaves courses (asked_by r) w new outcome in
      (outcome, is, left job machines image w new outcome (subst Wrote is wrote) (subst P line leaves))
