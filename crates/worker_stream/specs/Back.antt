-- Part files that are read back.
use Rattle.std.specs.Prelude.{◌≡◌, ℕ, ◌<◌, ◌^◌, List, Result, Ok, Err}
use Rattle.std.specs.List.{All}
use Rattle.word_kinds.specs.Fits.{HaveWeights}
use Rattle.chunk_split.specs.Chunks.{AreEnds}
use Rattle.program_reader.specs.Accepted.{Says}
use Rattle.program_reader.specs.Laws.{IsAccepted}
use Rattle.symple_face.specs.declared.part.Part.{Part}
use Rattle.symple_face.specs.Lawful.{AreCounts}
use Rattle.symple_face.specs.Parts.{IsPart, PlainPart}
use Rattle.symple_face.specs.PartViews.{plain_of}
use Rattle.worker_stream.specs.declared.fault.PartFault.{PartFault}
use Rattle.worker_stream.specs.declared.fault.PartFault.TheVariants.{Magic, Length, Number, Text, Want}

-- a part of numbers that fit their bytes, as each part in memory is, and the text of a program
pub record IsWritable (part : PlainPart) (program : List ℕ) : Type 0 where
  pub whole : IsPart part
  pub ends : AreEnds 64 part.ends
  pub place : part.at.machine < part.at.machines
  pub draws : part.draws < 2 ^ 64
  pub scan : HaveWeights part.scan
  pub push : HaveWeights part.push
  pub degrees : All AreCounts part.degrees
  pub accepted : IsAccepted program

-- it is read back: the same part, with the program that the text says
abbrev pub IsReadBack : PlainPart → List ℕ → Result Part PartFault → Type 0
IsReadBack part program (Ok read) = (plain_of read ≡ part) × Says program read.split.value.program.program
IsReadBack part program (Err Magic) = ⊥
IsReadBack part program (Err Length) = ⊥
IsReadBack part program (Err Number) = ⊥
IsReadBack part program (Err Text) = ⊥
IsReadBack part program (Err Want) = Unit {0}
