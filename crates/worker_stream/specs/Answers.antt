-- What reading a part file answers.
use Rattle.std.specs.Prelude.{◌≡◌, ◌==◌, ℕ, ◌<◌, ◌≤◌, true, if◌then◌else◌, List, [], length, nat_eq, slice_index_or, Result, Ok, Err, None, Some}
use Rattle.std.specs.List.{flat_map, list_all, range_with_len, starts_with}
use Rattle.vert_base.specs.declared.graph.Edge.{Edge}
use Rattle.vert_base.specs.declared.limits.TheConstants.{EDGES, VERTICES}
use Rattle.vert_base.specs.Position.{Position}
use Rattle.chunk_split.specs.Chunks.{AreEnds, vertices_of}
use Rattle.program_reader.specs.declared.refusal.Refusal.{Refusal}
use Rattle.program_reader.specs.Accepted.{Refuses, Says}
use Rattle.instrument.specs.declared.split.Split.{Split}
use Rattle.symple_face.specs.declared.degree.Degree.{Degree}
use Rattle.symple_face.specs.declared.part.Part.{Part}
use Rattle.symple_face.specs.Parts.{chunk_vertices}
use Rattle.symple_face.specs.PartViews.{plain_of}
use Rattle.worker_stream.specs.declared.fault.PartFault.{PartFault}
use Rattle.worker_stream.specs.declared.fault.PartFault.TheVariants.{Magic, Length, Number, Text, Want}
use Rattle.worker_stream.specs.Sections.{Sections, magic, sections_of}
use Rattle.worker_stream.specs.PartFiles.{IsSound, PartFile, file_of, part_in}
use Rattle.worker_stream.specs.Degrees.{are_known, is_counted}
use Rattle.worker_stream.specs.Orders.{are_edges_behind}

-- the value is there where some numbers have their form, else the numbers are at fault; memory may want at any time
abbrev pub Finds : {X : Type 0} → Type 0 → (X → Type 0) → Result X PartFault → Type 0
Finds form is (Ok x) = form × is x
Finds form is (Err Magic) = ⊥
Finds form is (Err Length) = ⊥
Finds form is (Err Number) = form → ⊥
Finds form is (Err Text) = ⊥
Finds form is (Err Want) = Unit {0}

-- the program that a text says, where it says one
abbrev pub FindsProgram : List ℕ → Result Split PartFault → Type 0
FindsProgram text (Ok split) = Says text split.program.program
FindsProgram text (Err Magic) = ⊥
FindsProgram text (Err Length) = ⊥
FindsProgram text (Err Number) = ⊥
FindsProgram text (Err Text) = (refusal : Refusal) × Refuses text refusal
FindsProgram text (Err Want) = Unit {0}

-- ---- the forms of the numbers, one after another
abbrev pub IsPlace : Position → Type 0
IsPlace at = (at.machine < at.machines) × (at.machines ≤ 64)

pub record AreCuts (vertices : ℕ) (ends : List ℕ) : Type 0 where
  pub rise : AreEnds 64 ends
  pub last : vertices_of ends ≡ vertices
  pub within : vertices ≤ VERTICES

pub record AreEdges (ends : List ℕ) (m : ℕ) (major minor : Edge → ℕ) (most : ℕ) (edges : List Edge) : Type 0 where
  pub few : length edges ≤ most
  pub placed : are_edges_behind ends m major minor (0, 0) edges ≡ true

pub record AreDegrees (ends : List ℕ) (m : ℕ) (lists : List (List ℕ)) (scan push : List Edge) (degrees : List Degree)
    : Type 0 where
  pub known : are_known degrees (flat_map (λ k. if k == m then chunk_vertices ends k else slice_index_or lists k [])
      (range_with_len 0 (length ends))) ≡ true
  pub counted : list_all (is_counted ends m push scan) degrees ≡ true

-- the numbers that stand once
pub record IsFrame (f : PartFile) : Type 0 where
  pub place : IsPlace (record { machine = f.machine; machines = f.machines })
  pub cuts : AreCuts f.vertices f.ends
  pub few : f.edges ≤ EDGES

-- ---- the answers
-- K3 and K4
abbrev pub ReadsSections : Sections → Result Part PartFault → Type 0
ReadsSections s (Ok part) =
    IsSound (file_of s) × (plain_of part ≡ part_in (file_of s)) × Says s.program part.split.value.program.program
ReadsSections s (Err Magic) = ⊥
ReadsSections s (Err Length) = ⊥
ReadsSections s (Err Number) = IsSound (file_of s) → ⊥
ReadsSections s (Err Text) = IsSound (file_of s) × ((refusal : Refusal) × Refuses s.program refusal)
ReadsSections s (Err Want) = Unit {0}

abbrev pub Begins : List ℕ → Type 0
Begins bytes = starts_with nat_eq bytes magic ≡ true

-- K1, then K2, then those of the sections; the part is the one that the file says
abbrev pub ReadsPart : List ℕ → Result Part PartFault → Type 0
ReadsPart bytes (Err Magic) = Begins bytes → ⊥
ReadsPart bytes (Err Length) = Begins bytes × (sections_of bytes ≡ None)
ReadsPart bytes (Ok part) = Begins bytes × ((s : Sections) × (sections_of bytes ≡ Some s) × ReadsSections s (Ok part))
ReadsPart bytes (Err Number) =
    Begins bytes × ((s : Sections) × (sections_of bytes ≡ Some s) × ReadsSections s (Err Number))
ReadsPart bytes (Err Text) =
    Begins bytes × ((s : Sections) × (sections_of bytes ≡ Some s) × ReadsSections s (Err Text))
ReadsPart bytes (Err Want) = Unit {0}
