-- What a part file says, which parts are written so, and which files are read.
use Rattle.std.specs.Prelude.{◌≡◌, ℕ, ◌<◌, ◌++◌, List, ◌∷◌, length, map, slice_index, drop}
use Rattle.std.specs.Int.{w32, w64, cast_signed, cast_unsigned, to_le_bytes}
use Rattle.std.specs.List.{flat_map}
use Rattle.byteorder.specs.Endian.{little_number}
use Rattle.vert_base.specs.HeaderBytes.{four_bytes}
use Rattle.vert_base.specs.declared.graph.Edge.{Edge}
use Rattle.vert_base.specs.Neighbours.{source, target}
use Rattle.chunk_split.specs.Chunks.{AreEnds, vertices_of}
use Rattle.edge_reader.specs.EdgePairs.{units_of}
use Rattle.symple_face.specs.declared.degree.Degree.{Degree}
use Rattle.symple_face.specs.Parts.{IsPart, PlainPart, for_others, push_list, refresh_list}
use Rattle.worker_stream.specs.Sections.{Sections}

-- the numbers and the text of a part file
pub record PartFile : Type 0 where
  pub machine : ℕ
  pub machines : ℕ
  pub draws : ℕ
  pub vertices : ℕ
  pub edges : ℕ
  pub ends : List ℕ
  pub program : List ℕ
  pub scan : List Edge
  pub push : List Edge
  pub degrees : List Degree

-- an edge and a degree of twelve bytes
abbrev pub edge_in : List ℕ → Edge
edge_in unit = record {
  from = record { 0 = little_number 4 unit };
  to = record { 0 = little_number 4 (drop 4 unit) };
  weight = cast_signed w32 (little_number 4 (drop 8 unit));
}

abbrev pub degree_of_unit : List ℕ → Degree
degree_of_unit unit = record {
  id = record { 0 = little_number 4 unit };
  ins = little_number 4 (drop 4 unit);
  outs = little_number 4 (drop 8 unit);
}

-- what the sections say
abbrev pub file_of : Sections → PartFile
file_of s = record {
  machine = slice_index s.head 4;
  machines = slice_index s.head 5;
  draws = little_number 8 (drop 6 s.head);
  vertices = little_number 4 (drop 14 s.head);
  edges = little_number 4 (drop 18 s.head);
  ends = map (little_number 4) (units_of 4 s.ends);
  program = s.program;
  scan = map edge_in (units_of 12 s.scan);
  push = map edge_in (units_of 12 s.push);
  degrees = map degree_of_unit (units_of 12 s.degrees);
}

-- the part that a file says: its lists of vertices follow from its edges
abbrev pub part_in : PartFile → PlainPart
part_in f = record {
  at = record { machine = f.machine; machines = f.machines };
  ends = f.ends;
  edges = f.edges;
  draws = f.draws;
  scan = f.scan;
  push = f.push;
  degrees = f.degrees;
  refresh_to = for_others f.machines f.machine (λ k. refresh_list f.ends f.machine k f.push);
  refresh_of = for_others f.machines f.machine (λ k. refresh_list f.ends k f.machine f.scan);
  push_to = for_others f.machines f.machine (λ k. push_list f.ends f.machine k f.scan);
  push_of = for_others f.machines f.machine (λ k. push_list f.ends k f.machine f.push);
}

-- the numbers are those of a part
pub record IsSound (f : PartFile) : Type 0 where
  pub place : f.machine < f.machines
  pub ends : AreEnds 64 f.ends
  pub last : vertices_of f.ends ≡ f.vertices
  pub part : IsPart (part_in f)

-- ---- the bytes of a part
-- eight bytes, the low one first
unfoldable pub eight_bytes : ℕ → List ℕ
eight_bytes n = to_le_bytes w64 n

abbrev pub edge_bytes : Edge → List ℕ
edge_bytes e = four_bytes (source e) ++ (four_bytes (target e) ++ four_bytes (cast_unsigned w32 e.weight))

abbrev pub degree_bytes : Degree → List ℕ
degree_bytes d = four_bytes d.id.0 ++ (four_bytes d.ins ++ four_bytes d.outs)

abbrev pub head_bytes : PlainPart → List ℕ
head_bytes p = 83 ∷ 71 ∷ 80 ∷ 49 ∷ p.at.machine ∷ p.at.machines ∷ (eight_bytes p.draws
    ++ (four_bytes (vertices_of p.ends) ++ four_bytes p.edges))

-- items behind their count
abbrev pub behind_count : ℕ → List ℕ → List ℕ
behind_count count items = four_bytes count ++ items

-- the part file of a part and its program's text
abbrev pub spelled_part : PlainPart → List ℕ → List ℕ
spelled_part p program =
    head_bytes p ++ (flat_map four_bytes p.ends ++ (behind_count (length program) program
    ++ (behind_count (length p.scan) (flat_map edge_bytes p.scan)
    ++ (behind_count (length p.push) (flat_map edge_bytes p.push)
    ++ behind_count (length p.degrees) (flat_map degree_bytes p.degrees)))))
