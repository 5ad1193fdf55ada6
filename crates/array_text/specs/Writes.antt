-- What a call that writes a text does to a sink.
use Rattle.std.specs.Prelude.{◌≡◌, ◌+◌, ◌<◌, ◌≤◌, ℕ, List, length, Option, Result, OnOk, OnErr}
use Rattle.outside.specs.Bytes.{gained, GainedPart}
use Rattle.outside.specs.Causes.{Rose}
use Rattle.outside.specs.declared.sink.SinkFault.{SinkFault}

pub record Writes {S : Type 0} (held : S → Option (List ℕ)) (faults spare : S → ℕ) (old new : S) (text : List ℕ)
    (result : Result (Unit {0}) SinkFault) : Type 0 where
  -- on Ok the sink gained the text, and its count stays
  pub whole : OnOk result (held new ≡ gained (held old) text)
  pub counted : OnOk result (faults new ≡ faults old)
  -- else it gained a first part of the text, and its count rose
  pub part : OnErr result (GainedPart (held old) (held new) text)
  pub failed : OnErr result (Rose (faults old) (faults new))
  pub later : faults old ≤ faults new
  -- a sink that is sure to take the whole text fails at no piece of it
  pub sure : OnErr result (spare old < length text)
  pub spared : spare old ≤ spare new + length text
