-- What is written and read.
use Rattle.std.specs.Prelude.{◌≡◌, ◌<◌, ◌^◌, ℕ, List, length}
use Rattle.dep_layout.specs.Laws.{AreBytes}
use Rattle.chunk_split.specs.Chunks.{vertices_of}
use Rattle.instrument.specs.declared.split.Split.{Split}
use Rattle.symple_face.specs.Parts.{PlainPart}
use Rattle.symple_face.specs.Restarts.{IsStart}
use Rattle.symple_face.specs.Work.{PlainStart}
use Rattle.check_point.specs.Images.{image_bytes, start_in}
use Rattle.check_point.specs.Judgement.{IsOwn, IsWholeOf}

-- the start of a run's program and vertices that bytes tell
abbrev pub told_start : Split → ℕ → List ℕ → PlainStart
told_start split vertices bytes =
    start_in (length split.program.program.fields.items) vertices (length split.program.program.totals.items) bytes

-- an image that is written of a start with which a run goes on is read as that start
abbrev pub ImageReadsBack : Type 0
ImageReadsBack =
    (whole : PlainPart) (split : Split) (key : List ℕ) (start : PlainStart) → length key ≡ 32 →
    start.round < 2 ^ 32 → vertices_of whole.ends < 2 ^ 32 → IsStart whole split start →
    IsWholeOf split (vertices_of whole.ends) (image_bytes key start) ×
    IsOwn split (vertices_of whole.ends) key (image_bytes key start) ×
    (told_start split (vertices_of whole.ends) (image_bytes key start) ≡ start)

-- a run goes on with the start that is read
abbrev pub StartIsReady : Type 0
StartIsReady =
    (whole : PlainPart) (split : Split) (key bytes : List ℕ) → IsOwn split (vertices_of whole.ends) key bytes →
    IsStart whole split (told_start split (vertices_of whole.ends) bytes)

-- bytes that are whole and a run's own are the image of the start that they tell, so no two images tell one start
abbrev pub StartIsSpelled : Type 0
StartIsSpelled =
    (split : Split) (vertices : ℕ) (key bytes : List ℕ) → AreBytes bytes → IsWholeOf split vertices bytes →
    IsOwn split vertices key bytes → image_bytes key (told_start split vertices bytes) ≡ bytes
