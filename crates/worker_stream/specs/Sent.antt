-- The bytes of messages, one after another, and what writing them does to a sink.
use Rattle.std.specs.Prelude.{◌≡◌, ◌+◌, ◌<◌, ◌≤◌, ◌^◌, ℕ, true, List, length, Option, Result, Err, OnErr, OnOk}
use Rattle.std.specs.List.{flat_map}
use Rattle.vert_base.specs.HeaderBytes.{spelled_message}
use Rattle.vert_base.specs.Letters.{Letter}
use Rattle.body_shape.specs.declared.shape.BodyShape.{BodyShape}
use Rattle.body_shape.specs.Fit.{is_fit}
use Rattle.body_shape.specs.Shapes.{longest_of}
use Rattle.outside.specs.Bytes.{GainedPart, gained}
use Rattle.outside.specs.Causes.{Rose}
use Rattle.worker_stream.specs.declared.sending.SendFault.{SendFault}
use Rattle.worker_stream.specs.declared.sending.SendFault.TheVariants.{Sink, Want}

abbrev pub spelled_letter : Letter → List ℕ
spelled_letter l = spelled_message l.name l.body

abbrev pub spelled_letters : List Letter → List ℕ
spelled_letters ls = flat_map spelled_letter ls

-- the body fits a form whose bodies are short
pub record IsShort (l : Letter) : Type 0 where
  pub shape : BodyShape
  pub fits : is_fit shape l.body ≡ true
  pub short : longest_of shape < 2 ^ 32

-- what a call that writes such a text does to a sink
pub record Sends {S : Type 0} (held : S → Option (List ℕ)) (faults spare : S → ℕ) (old new : S) (text : List ℕ)
    (result : Result (Unit {0}) SendFault) : Type 0 where
  -- on Ok the sink gained the text, else a first part of it
  pub whole : OnOk result (held new ≡ gained (held old) text)
  pub part : OnErr result (GainedPart (held old) (held new) text)
  -- the count rose where a put failed, and nowhere else; none fails where the sink is sure to take the text
  pub counted : OnOk result (faults new ≡ faults old)
  pub want : result ≡ Err Want → faults new ≡ faults old
  pub failed : result ≡ Err Sink → Rose (faults old) (faults new) × (spare old ≤ length text)
  pub spared : OnOk result (spare old ≤ spare new + length text)
