-- The states of the sinks in memory.
use Rattle.std.specs.Prelude.{ℕ, ◌+◌, List, ◌++◌, length, nat_le, Bool}
use Rattle.outside.specs.Calls.{Calls, one_more}

-- the bytes held, how many there is room for, and the count of faults
pub record Room : Type 0 where
  pub bytes : List ℕ
  pub room : ℕ
  pub faults : ℕ

-- a sink whose puts fail at some of its calls
pub record Counted : Type 0 where
  pub held : Room
  pub calls : Calls

-- there is room for the whole piece
abbrev pub fits : Room → List ℕ → Bool
fits held piece = nat_le (length held.bytes + length piece) held.room

-- after it took these bytes
abbrev pub with_bytes : List ℕ → Room → Room
with_bytes more held = record held { bytes = held.bytes ++ more }

-- after a put failed
abbrev pub with_fault : Room → Room
with_fault held = record held { faults = one_more held.faults }
