-- The course of `worker`: a part file is judged, its machine serves the input, and its rows are kept.
use Rattle.std.specs.Prelude.{◌≡◌, ◌≢◌, ◌==◌, ◌++◌, ℕ, List, flat_map, if◌then◌else◌, Some, Err}
use Rattle.array_text.specs.Tables.{header_text, row_text}
use Rattle.command_steps.specs.Notes.{BadMessage, BadPart, EndsEarly, Fault, NoMemory}
use Rattle.command_steps.specs.Orders.{Course, Fails, IsOver, Keeps, Takes}
use Rattle.instrument.specs.declared.split.Split.{Split}
use Rattle.program_reader.specs.Accepted.{Says}
use Rattle.symple_face.specs.Parts.{PlainPart, chunk_vertices}
use Rattle.symple_face.specs.State.{State, machine}
use Rattle.symple_face.specs.Work.{Work}
use Rattle.word_kinds.specs.Fits.{IsFitting}
use Rattle.worker_stream.specs.declared.fault.PartFault.{PartFault}
use Rattle.worker_stream.specs.declared.fault.PartFault.TheVariants.{Magic, Length, Number, Text, Want}
use Rattle.worker_stream.specs.Answers.{Begins, ReadsPart}
use Rattle.worker_stream.specs.PartFiles.{IsSound, file_of, part_in}
use Rattle.worker_stream.specs.Sections.{Sections, sections_of}
use Rattle.worker_stream.specs.Worker.{End, Finishes, Lacks, Refuses, worker}

-- ---- the part file

-- the bytes are the file of this part, and their text says the program of this split, whose literals fit 64 bits
pub record IsPartFile (bytes : List ℕ) (part : PlainPart) (split : Split) : Type 0 where
  pub begins : Begins bytes
  pub sections : Sections
  pub cut : sections_of bytes ≡ Some sections
  pub sound : IsSound (file_of sections)
  pub part_is : part ≡ part_in (file_of sections)
  pub says : Says sections.program split.program.program
  pub fits : IsFitting split.program.program

-- K1 to K4
abbrev pub part_fault : PartFault → Fault
part_fault Magic = BadPart 1
part_fault Length = BadPart 2
part_fault Number = BadPart 3
part_fault Text = BadPart 4
part_fault Want = NoMemory

-- ---- what is kept

-- the line of an own vertex
abbrev pub own_line : Work → State → ℕ → List ℕ
own_line work s v = row_text s.split.program.program v (work.row s v)

-- the lines of the vertices of the machine's chunk
abbrev pub own_lines : Work → State → List ℕ
own_lines work s = flat_map (own_line work s) (chunk_vertices s.part.ends (machine s))

-- of machine 0 behind the header line
abbrev pub rows_file : Work → State → List ℕ
rows_file work s =
    if machine s == 0 then header_text s.split.program.program ++ own_lines work s else own_lines work s

-- ---- the course

-- how it goes on behind the input
abbrev pub course_after : Work → List ℕ → End → Course
course_after work rows (Finishes last) = Keeps rows (rows_file work last) IsOver
course_after work rows (Refuses code at) = Fails (BadMessage code at)
course_after work rows (Lacks name) = Fails (EndsEarly name)

-- the machine of a part does what **Worker** says of each input
abbrev pub serving : Work → PlainPart → Split → List ℕ → Course
serving work part split rows =
    Takes (λ bytes. (worker work part split bytes).used) (λ bytes. (worker work part split bytes).text)
    (λ bytes. course_after work rows (worker work part split bytes).end)

-- the bytes are refused by their first fault of K1 to K4, or the machine of their part serves
pub data IsServing (work : Work) (bytes rows : List ℕ) (course : Course) : Type 0 where
  IsRefused : (why : PartFault) → why ≢ Want → ReadsPart bytes (Err why) → course ≡ Fails (part_fault why)
      → IsServing work bytes rows course
  IsPart : (part : PlainPart) (split : Split) → IsPartFile bytes part split → course ≡ serving work part split rows
      → IsServing work bytes rows course
