-- A core that is served alone what its machine took in a complete run, in whatever order the events of the run come:
-- it writes what the machine sent there, and at its end it holds the rows of its chunk after the run.
use Rattle.std.specs.Prelude.{◌≡◌, ℕ, true, ◌++◌, List, Some, length, slice_get}
use Rattle.vert_base.specs.declared.message.Event.{Event}
use Rattle.vert_eval.specs.Rounds.{row_at}
use Rattle.vert_eval.specs.SourceRun.{source_run}
use Rattle.word_kinds.specs.Fits.{IsFitting}
use Rattle.circulant_plan.specs.Ring.{lies_in}
use Rattle.instrument.specs.declared.split.Split.{Split}
use Rattle.symple_face.specs.Cluster.{IsOneRun, World, first_world, is_complete}
use Rattle.symple_face.specs.Parts.{PlainPart}
use Rattle.symple_face.specs.Source.{job_of}
use Rattle.symple_face.specs.State.{State}
use Rattle.symple_face.specs.Work.{Work}
use Rattle.worker_stream.specs.Prompt.{sent_by, taken_by}
use Rattle.worker_stream.specs.Sent.{spelled_letters}
use Rattle.worker_stream.specs.Worker.{Finishes, worker}

-- of the bytes of the messages that machine m took, with more behind them, it uses these, writes the bytes of the
-- messages that the machine sent, and ends with the rows of the source's run
pub record IsServedAlone (work : Work) (split : Split) (parts : List PlainPart) (one : IsOneRun parts)
    (es : List Event) (m : ℕ) (part : PlainPart) (rest : List ℕ) : Type 0 where
  pub last : State
  pub served :
      let w : World = first_world work split parts in
      worker work part split (spelled_letters (taken_by work m w es) ++ rest) ≡ record {
        used = length (spelled_letters (taken_by work m w es));
        text = spelled_letters (sent_by work m w es);
        end = Finishes last;
      }
  pub part_is : last.part ≡ part
  pub split_is : last.split ≡ split
  pub rows : (v : ℕ) → lies_in one.ends m v ≡ true →
      work.row last v ≡ row_at (source_run (job_of split one.ends one.draws one.edges)).last.rows v

abbrev pub CompleteRunsAreServed : Work → Type 0
CompleteRunsAreServed work =
    (split : Split) (parts : List PlainPart) (one : IsOneRun parts) (es : List Event) (m : ℕ) (part : PlainPart)
    (rest : List ℕ) → IsFitting split.program.program → slice_get parts m ≡ Some part →
    is_complete work (first_world work split parts) es ≡ true → IsServedAlone work split parts one es m part rest
