-- What the sections answer the bytes answer.
use Rattle.std.proofs.Common.{◌≡◌, ℕ, List, Some, Ok, Err}
use Rattle.std.specs.Prelude.{Result}
use Rattle.symple_face.specs.declared.part.Part.{Part}
use Rattle.worker_stream.specs.declared.fault.PartFault.{PartFault}
use Rattle.worker_stream.specs.declared.fault.PartFault.TheVariants.{Magic, Length, Number, Text, Want}
use Rattle.worker_stream.specs.Answers.{Begins, ReadsPart, ReadsSections}
use Rattle.worker_stream.specs.Sections.{Sections, sections_of}

pub read_sections : (bytes : List ℕ) (s : Sections) (r : Result Part PartFault) → Begins bytes →
    sections_of bytes ≡ Some s → ReadsSections s r → ReadsPart bytes r
read_sections bytes s (Ok part) begins cut given = (begins, (s, cut, given))
read_sections bytes s (Err Magic) begins cut given = absurd given
read_sections bytes s (Err Length) begins cut given = absurd given
read_sections bytes s (Err Number) begins cut given = (begins, (s, cut, given))
read_sections bytes s (Err Text) begins cut given = (begins, (s, cut, given))
read_sections bytes s (Err Want) begins cut given = tt
