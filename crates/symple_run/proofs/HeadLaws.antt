-- What `symple` answers, from what the order of its words leaves.
use Rattle.std.proofs.Common.{◌≡◌, ◌⊎◌, inl, inr, ℕ, List, Option, Some, None, Result, Ok, Err, sym, ap, ◌∙◌, subst, arith}
use Rattle.std.specs.Prelude.{IsTrue}
use Rattle.array_text.specs.Writes.{Writes}
use Rattle.chunk_split.specs.Bounds.{ends_of}
use Rattle.command_steps.specs.declared.status.Status.{Status}
use Rattle.command_steps.specs.declared.status.Status.TheVariants as status
use Rattle.command_steps.specs.Commands.{asked_by, free_order, order_of}
use Rattle.command_steps.specs.Leaves.{Gained, IsProgram, IsRefused, Leaves, Loaded, NotLoaded, NotPut, PutFails, WantsAtJudging, WantsAtLoad, WantsAtPut}
use Rattle.command_steps.specs.Notes as note
use Rattle.command_steps.specs.Orders.{Course, Task}
use Rattle.command_steps.specs.States.{Outside, sink_state}
use Rattle.command_steps.proofs.ComesLaws.{IsOrWants}
use Rattle.command_steps.proofs.OrderLaws.{AreCourses, comes_or_wants}
use Rattle.order_free.specs.Free.{freedom_of, is_free}
use Rattle.order_laws.specs.OrderFree.{RunsAlike}
use Rattle.outside.specs.declared.sink.SinkFault.{SinkFault}
use Rattle.outside.specs.Bytes.{gained}
use Rattle.outside.specs.Files.{File}
use Rattle.program_reader.specs.Accepted.{Says}
use Rattle.symple_run.specs.Headline.{AlikeAtAllCounts, FreeAnswer, IsComplete, status_after}
use Rattle.symple_run.specs.SourceTexts.{job_of}
use Rattle.symple_words.specs.Lines as words
use Rattle.vert_eval.specs.SourceRun.{Job}
use Rattle.vert_tree.specs.declared.program.Program.{Program}
use Rattle.vert_tree.specs.Typed.{is_typed}

-- ---- the status

by_outcome : (result : Status) (outcome expected : Option note.Fault) → result ≡ status_after outcome →
    IsOrWants outcome expected → (result ≡ status_after expected) ⊎ (result ≡ status.Memory)
by_outcome result outcome expected is (inl same) = inl (is ∙ ap status_after same)
by_outcome result outcome expected is (inr wants) = inr (is ∙ ap status_after wants)

pub completes :
    (courses : Task → Course → Type 0) → AreCourses courses →
    (texts : List (List ℕ)) (w after : Outside) (outcome : Option note.Fault) (result : Status) →
    Leaves courses (order_of texts) w after outcome → result ≡ status_after outcome →
    IsComplete courses texts w after result
completes courses are texts w after outcome result leaves is = λ files expected told comes nothing.
    by_outcome result outcome expected is
    (comes_or_wants courses are texts w after outcome leaves files expected told comes nothing.no_load nothing.no_store
    nothing.no_take nothing.no_put)

-- a write that failed gives its status
pub written_by : (old new : Option (List File)) (fault : note.Fault) (result : Status) →
    (fault ≡ note.NoWrite) ⊎ (new ≡ old) → result ≡ note.status_of fault →
    (result ≡ status.Done) ⊎ ((result ≡ status.WriteFault) ⊎ (new ≡ old))
written_by old new fault result (inl blamed) is = inr (inl (is ∙ ap note.status_of blamed))
written_by old new fault result (inr same) is = inr (inr same)

-- ---- notes

-- a note is left whole, or a first part of it
pub noted_by :
    {S : Type 0} {held : S → Option (List ℕ)} {faults spare : S → ℕ} {old new : S} (text : List ℕ)
    (result : Result (Unit {0}) SinkFault) → Writes held faults spare old new text result →
    (held new ≡ gained (held old) text) ⊎ PutFails text (sink_state held faults spare old)
    (sink_state held faults spare new)
noted_by text (Ok done) w = inl w.whole
noted_by text (Err fault) w = inr (record { part = w.part; rose = w.failed; sure = omega (arith, w.sure) })

-- ---- what `free` says

-- a run that ended well had no fault
no_fault : {A : Type 0} (fault : note.Fault) → status.Done ≡ note.status_of fault → A
no_fault note.NoCommand is = cc
no_fault note.BadWords is = cc
no_fault (note.NoLoad name) is = cc
no_fault (note.BadProgram refusal) is = cc
no_fault (note.BadLine code line) is = cc
no_fault (note.BadByte code at) is = cc
no_fault note.BadHeader is = cc
no_fault (note.BadEventLine line) is = cc
no_fault note.LongSchedule is = cc
no_fault (note.BadEvent line why) is = cc
no_fault (note.NotTaken name) is = cc
no_fault (note.NotGone machine) is = cc
no_fault (note.BadPart code) is = cc
no_fault (note.BadMessage code at) is = cc
no_fault (note.EndsEarly name) is = cc
no_fault note.NoWrite is = cc
no_fault note.NoMemory is = cc

not_none : {A : Type 0} (fault : note.Fault) → None ≡ Some fault → A
not_none fault is = cc

module _ (courses : Task → Course → Type 0) where
  module _ (name : List ℕ) (w after : Outside) (law : (text : List ℕ) (p : Program) → Says text p →
      IsTrue (is_free (freedom_of p)) → AlikeAtAllCounts p) where
    freed : Leaves courses (free_order name) w after None → FreeAnswer w.shelf.files name w.out after.out
    freed (Loaded text under within (IsProgram program says (Gained spare spared done))) = record {
      text = text;
      program = program;
      under = under;
      says = says;
      printed = ap (λ (o : Outside). o.out.bytes) done.same;
      alike = law text program says;
    }
    freed (Loaded text under within (IsProgram program says (NotPut fails same is))) = not_none note.NoWrite is
    freed (Loaded text under within (IsProgram program says (WantsAtPut wants))) = not_none note.NoMemory wants.memory
    freed (Loaded text under within (IsRefused refusal refuses ends)) = not_none (note.BadProgram refusal) ends.fault_is
    freed (Loaded text under within (WantsAtJudging wants)) = not_none note.NoMemory wants.memory
    freed (NotLoaded fault why same is) = not_none fault is
    freed (WantsAtLoad wants) = not_none note.NoMemory wants.memory

    ended_well : (outcome : Option note.Fault) → status.Done ≡ status_after outcome →
        Leaves courses (free_order name) w after outcome → FreeAnswer w.shelf.files name w.out after.out
    ended_well None done leaves = freed leaves
    ended_well (Some fault) done leaves = no_fault fault done

  -- the words are `free` and a name, and the command ended well
  pub free_answer :
      (texts : List (List ℕ)) (w after : Outside) (outcome : Option note.Fault) (result : Status) →
      Leaves courses (order_of texts) w after outcome → result ≡ status_after outcome →
      ((text : List ℕ) (p : Program) → Says text p → IsTrue (is_free (freedom_of p)) → AlikeAtAllCounts p) →
      (name : List ℕ) → words.line_of texts ≡ Ok (words.FreeOf name) → result ≡ status.Done →
      FreeAnswer w.shelf.files name w.out after.out
  free_answer texts w after outcome result leaves is law name line done =
      let P : Result words.PlainLine words.LineFault → Type 0 = λ r. Leaves courses (asked_by r) w after outcome in
      ended_well name w after law outcome (sym done ∙ is) (subst P line leaves)

-- runs that are alike over every two lists of ends are so at every two machine counts
pub alike_by :
    ((job : Job) → IsTrue (is_typed job.program) → IsTrue (is_free (freedom_of job.program)) → RunsAlike job) →
    (text : List ℕ) (p : Program) → Says text p → IsTrue (is_free (freedom_of p)) → AlikeAtAllCounts p
alike_by law text p says free = λ graph draws first second.
    law (job_of first draws p graph) says.typed free (ends_of first graph.vertices graph.list)
    (ends_of second graph.vertices graph.list)
