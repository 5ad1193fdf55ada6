-- What one machine of a run takes and sends, and runs in which it acts before it takes.
use Rattle.std.specs.Prelude.{◌≡◌, ◌==◌, ℕ, true, if◌then◌else◌, Option, Some, None, List, [], ◌∷◌, ◌++◌, length, slice_get}
use Rattle.std.specs.List.{All, AllByRecursion}
use Rattle.vert_base.specs.declared.message.Event.{Event}
use Rattle.vert_base.specs.declared.message.Event.TheVariants.{Go, Take}
use Rattle.vert_base.specs.Letters.{Letter, found}
use Rattle.dep_message.specs.Laws.{AreBytes}
use Rattle.instrument.specs.declared.split.Split.{Split}
use Rattle.symple_face.specs.Cluster.{IsOneRun, IsPlainRun, World, after, all_possible, can_act, finished, first_world, step}
use Rattle.symple_face.specs.Lawful.{CanRun}
use Rattle.symple_face.specs.Parts.{PlainPart}
use Rattle.symple_face.specs.State.{State}
use Rattle.symple_face.specs.Work.{Work}
use Rattle.worker_stream.specs.Sent.{spelled_letters}
use Rattle.worker_stream.specs.Worker.{Finishes, worker}
use Rattle.cluster_run.specs.Sends.{sent_with}

-- the message that an event hands to machine m
abbrev pub handed : ℕ → Option Letter → List Letter
handed m None = []
handed m (Some l) = if l.name.to == m then l ∷ [] else []

abbrev pub taken_at : ℕ → World → Event → List Letter
taken_at m w (Go k) = []
taken_at m w (Take x) = handed m (found x w.under_way)

abbrev pub sent_at : Work → ℕ → World → Event → List Letter
sent_at work m w (Go k) = if k == m then sent_with work (slice_get w.sites m) else []
sent_at work m w (Take x) = []

-- those of a list of events, in order
abbrev pub taken_by : Work → ℕ → World → List Event → List Letter
taken_by work m w [] = []
taken_by work m w (e ∷ es) = taken_at m w e ++ taken_by work m (step work w e) es

abbrev pub sent_by : Work → ℕ → World → List Event → List Letter
sent_by work m w [] = []
sent_by work m w (e ∷ es) = sent_at work m w e ++ sent_by work m (step work w e) es

-- machine m takes nothing where it can act
abbrev pub IsPrompt : Work → ℕ → World → List Event → Type 0
IsPrompt work m w [] = Unit {0}
IsPrompt work m w (e ∷ es) =
    (can_act (slice_get w.sites m) ≡ true → taken_at m w e ≡ []) × IsPrompt work m (step work w e) es

-- a machine served alone does what it did in the run, whatever stands behind the messages that it took
pub record IsProjected (work : Work) (m : ℕ) (part : PlainPart) (split : Split) (w : World) (es : List Event)
    (rest : List ℕ) : Type 0 where
  pub last : State
  pub stands : slice_get (after work w es).sites m ≡ Some last
  pub served : worker work part split (spelled_letters (taken_by work m w es) ++ rest) ≡ record {
    used = length (spelled_letters (taken_by work m w es));
    text = spelled_letters (sent_by work m w es);
    end = Finishes last;
  }

-- in each complete run in which a machine acts before it takes
abbrev pub PromptRunsAreServed : Work → Type 0
PromptRunsAreServed work =
    (split : Split) (parts : List PlainPart) (es : List Event) (m : ℕ) (part : PlainPart) (rest : List ℕ) →
    IsOneRun parts → All (λ part. CanRun part split) parts → slice_get parts m ≡ Some part →
    let w = first_world work split parts in
    all_possible work w es ≡ true → finished (after work w es) ≡ true → IsPrompt work m w es →
    AllByRecursion (λ (l : Letter). AreBytes l.body) (taken_by work m w es) →
    IsProjected work m part split w es rest

-- the plain run is one, for each of its machines
abbrev pub PlainRunsArePrompt : Work → Type 0
PlainRunsArePrompt work = (m : ℕ) (w : World) (es : List Event) → IsPlainRun work w es → IsPrompt work m w es
