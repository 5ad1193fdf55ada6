-- One action or one message of a machine that serves a stream.
use Rattle.std.specs.Prelude.{◌≡◌, ◌+◌, ◌<◌, ◌≤◌, ◌⊎◌, ℕ, true, false, List, [], ◌++◌, length, Result, Ok, Err}
use Rattle.vert_base.specs.declared.message.Name.{Name}
use Rattle.vert_base.specs.Letters.{Letter}
use Rattle.outside.specs.Bytes.{GainedPart, gained, led_by}
use Rattle.outside.specs.Causes.{Rose}
use Rattle.double_buffer.specs.Held.{Held, with_letter}
use Rattle.instrument.specs.declared.split.Split.{Split}
use Rattle.symple_face.specs.Parts.{PlainPart}
use Rattle.symple_face.specs.State.{IsTakeable, State, shape_at}
use Rattle.symple_face.specs.Work.{Work}
use Rattle.worker_stream.specs.declared.fault.ServeFault.{ServeFault}
use Rattle.worker_stream.specs.declared.fault.ServeFault.TheVariants as serve
use Rattle.worker_stream.specs.declared.reading.ReadFault.{ReadFault}
use Rattle.worker_stream.specs.declared.reading.ReadFault.TheVariants.{Ended, Faulty, Source, Want}
use Rattle.worker_stream.specs.declared.sending.SendFault.{SendFault}
use Rattle.worker_stream.specs.declared.sending.SendFault.TheVariants as send
use Rattle.worker_stream.specs.Fronts.{IsRead, IsWrong, NoByte, front_of, read_of, told}
use Rattle.worker_stream.specs.Serving.{Streams}
use Rattle.worker_stream.specs.Walks.{IsLow, Stands, chances}
use Rattle.worker_stream.specs.Worker.{Lacks, Refuses, Served, behind_text, is_due, served_from, worker}
use Rattle.state_laws.specs.Letters.{bare}

-- the message of these bytes was taken, whatever stands behind them
pub record Takes (work : Work) (s : State) (names : Held) (front : List ℕ) (t : State) (after : Held) : Type 0 where
  pub letter : Letter
  pub takeable : IsTakeable s letter
  pub state : t ≡ work.take s letter
  pub names_are : after ≡ with_letter (bare letter.name) names
  pub due : is_due s letter.name ≡ true
  pub read : (behind : List ℕ) → IsRead (shape_at s) front letter behind

-- M5: the message of these bytes isn't due
pub record IsUndue (s : State) (front rest : List ℕ) (code : ℕ) : Type 0 where
  pub is : code ≡ 5
  pub letter : Letter
  pub read : IsRead (shape_at s) front letter rest
  pub undue : is_due s letter.name ≡ false

-- what taking the next message answers, given the bytes taken and those that are left
abbrev pub TakesNext : Work → State → Held → List ℕ → List ℕ → State → Held → Result ℕ ReadFault → Type 0
TakesNext work s names front rest t after (Ok size) =
    (size ≡ length front) × (size < 8589934592) × Takes work s names front t after
TakesNext work s names front rest t after (Err Ended) =
    (front_of (shape_at s) (front ++ rest) ≡ NoByte) × (length front ≡ 0)
TakesNext work s names front rest t after (Err (Faulty code)) =
    IsWrong (shape_at s) front rest code ⊎ IsUndue s front rest code
TakesNext work s names front rest t after (Err Source) = length front ≤ read_of (shape_at s) (front ++ rest)
TakesNext work s names front rest t after (Err Want) = length front ≤ read_of (shape_at s) (front ++ rest)

-- a step was made: these bytes were read and this text was written
pub record Goes (work : Work) (sound : State → Type 0) (at : ℕ) (s : State) (names : Held) (old new : Streams)
    (t : State) (after : Held) (size : ℕ) : Type 0 where
  pub front : List ℕ
  pub text : List ℕ
  pub size_is : size ≡ length front
  pub left : old.left ≡ led_by front new.left
  pub held : new.held ≡ gained old.held text
  pub takes : new.takes ≡ old.takes
  pub puts : new.puts ≡ old.puts
  pub spared : old.spare ≤ new.spare + length text
  pub serves : (behind : List ℕ) → served_from work at s (front ++ behind)
      ≡ behind_text text (served_from work (at + size) t behind)
  pub stands : Stands sound t after
  pub same_part : t.part ≡ s.part
  pub same_split : t.split ≡ s.split
  pub less : chances t after < chances s names
  pub small : size < 8589934592
  pub low : IsLow s names at → IsLow t after (at + size)

-- the machine ended at a message: these bytes were read, and nothing was written
pub record Halts (at : ℕ) (front : List ℕ) (w : Served) (old new : Streams) : Type 0 where
  pub left : old.left ≡ led_by front new.left
  pub used : w.used ≡ at + length front
  pub text : w.text ≡ []
  pub same : new.held ≡ old.held
  pub takes : new.takes ≡ old.takes
  pub puts : new.puts ≡ old.puts
  pub spared : old.spare ≤ new.spare

-- a step broke off
pub record Breaks (at : ℕ) (front : List ℕ) (w : Served) (old new : Streams) : Type 0 where
  pub left : old.left ≡ led_by front new.left
  pub within : at + length front ≤ w.used
  pub part : GainedPart old.held new.held w.text

abbrev pub StepFails : ℕ → List ℕ → Served → Streams → Streams → ServeFault → Type 0
StepFails at front w old new (serve.Message code place) = (w.end ≡ Refuses code place) × Halts at front w old new
StepFails at front w old new (serve.Ended x) = (w.end ≡ Lacks x) × Halts at front w old new
StepFails at front w old new serve.Source =
    Breaks at front w old new × Rose old.takes new.takes × (new.puts ≡ old.puts)
StepFails at front w old new serve.Sink =
    Breaks at front w old new × Rose old.puts new.puts × (old.spare ≤ length w.text) × (new.takes ≡ old.takes)
StepFails at front w old new serve.Want =
    Breaks at front w old new × (new.takes ≡ old.takes) × (new.puts ≡ old.puts)

-- the fault of a step, by that of reading or of writing
abbrev pub unread : ReadFault → Name → ℕ → ServeFault
unread Ended waited at = serve.Ended waited
unread (Faulty code) waited at = serve.Message code at
unread Source waited at = serve.Source
unread Want waited at = serve.Want

abbrev pub unsent : SendFault → ServeFault
unsent send.Sink = serve.Sink
unsent send.Want = serve.Want

-- what a step answers
abbrev pub Steps : Work → (State → Type 0) → ℕ → State → Held → Streams → Streams → State → Held →
    Result ℕ ServeFault → Type 0
Steps work sound at s names old new t after (Ok size) = Goes work sound at s names old new t after size
Steps work sound at s names old new t after (Err fault) =
    (front : List ℕ) × StepFails at front (served_from work at s (front ++ told new.left)) old new fault

-- so far these bytes were read and this text was written
pub record IsAlong (work : Work) (sound : State → Type 0) (part : PlainPart) (split : Split) (old now : Streams)
    (at : ℕ) (s : State) (names : Held) : Type 0 where
  pub read : List ℕ
  pub text : List ℕ
  pub at_is : at ≡ length read
  pub left : old.left ≡ led_by read now.left
  pub held : now.held ≡ gained old.held text
  pub takes : now.takes ≡ old.takes
  pub puts : now.puts ≡ old.puts
  pub spared : old.spare ≤ now.spare + length text
  pub serves : (behind : List ℕ) → worker work part split (read ++ behind)
      ≡ behind_text text (served_from work at s behind)
  pub stands : Stands sound s names
  pub low : IsLow s names at
