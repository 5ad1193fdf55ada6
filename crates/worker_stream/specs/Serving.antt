-- What serving leaves of an input and of a sink, and what it answers.
use Rattle.std.specs.Prelude.{◌≡◌, ◌+◌, ◌≤◌, ℕ, List, drop, length, Option, option_map, Result, Ok, Err}
use Rattle.outside.specs.Bytes.{GainedPart, gained}
use Rattle.outside.specs.Causes.{Rose}
use Rattle.symple_face.specs.State.{State}
use Rattle.worker_stream.specs.declared.fault.ServeFault.{ServeFault}
use Rattle.worker_stream.specs.declared.fault.ServeFault.TheVariants.{Message, Ended, Source, Sink, Want}
use Rattle.worker_stream.specs.Worker.{Finishes, Lacks, Refuses, Served}

-- the bytes left of an input with the count of its faults, and those of a sink with its count and how many bytes it
-- is sure to take
pub record Streams : Type 0 where
  pub left : Option (List ℕ)
  pub takes : ℕ
  pub held : Option (List ℕ)
  pub puts : ℕ
  pub spare : ℕ

-- the streams, by the ghost members of their types
abbrev pub streams : {I O : Type 0} → (I → Option (List ℕ)) → (I → ℕ) → (O → Option (List ℕ)) → (O → ℕ) → (O → ℕ) →
    I → O → Streams
streams left takes held puts spare input out = record {
  left = left input;
  takes = takes input;
  held = held out;
  puts = puts out;
  spare = spare out;
}

-- the input lost what was used, the sink gained the text, and no count rose
pub record IsServed (w : Served) (old new : Streams) : Type 0 where
  pub left : new.left ≡ option_map (drop w.used) old.left
  pub held : new.held ≡ gained old.held w.text
  pub takes : new.takes ≡ old.takes
  pub puts : new.puts ≡ old.puts
  pub spared : old.spare ≤ new.spare + length w.text

-- the input lost a front of what would be used, and the sink gained a first part of the text
pub record IsServedPart (w : Served) (old new : Streams) : Type 0 where
  pub size : ℕ
  pub within : size ≤ w.used
  pub lost : new.left ≡ option_map (drop size) old.left
  pub part : GainedPart old.held new.held w.text

-- by what the machine does of the bytes
abbrev pub Serves : {S : Type 0} → (S → State) → Served → Streams → Streams → Result S ServeFault → Type 0
Serves state w old new (Ok site) = (w.end ≡ Finishes (state site)) × IsServed w old new
Serves state w old new (Err (Message code at)) = (w.end ≡ Refuses code at) × IsServed w old new
Serves state w old new (Err (Ended x)) = (w.end ≡ Lacks x) × IsServed w old new
Serves state w old new (Err Source) =
    IsServedPart w old new × Rose old.takes new.takes × (new.puts ≡ old.puts)
Serves state w old new (Err Sink) =
    IsServedPart w old new × Rose old.puts new.puts × (old.spare ≤ length w.text) × (new.takes ≡ old.takes)
Serves state w old new (Err Want) =
    IsServedPart w old new × (new.takes ≡ old.takes) × (new.puts ≡ old.puts)
