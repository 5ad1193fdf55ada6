-- The receivers of a part.
use Rattle.std.specs.Prelude.{◌≡◌, slice_index}
use Rattle.vert_base.specs.Ends.{start_of}
use Rattle.vert_code.specs.declared.code.Code.{Code}
use Rattle.chunk_split.specs.Chunks.{vertices_of}
use Rattle.symple_face.specs.Parts.{PlainPart, chunk_vertices}
use Rattle.machine_parts.specs.Flat.{RowTable}
use Rattle.vertex_work.specs.declared.receivers.Receivers.{Receivers}
use Rattle.vertex_work.specs.Known.{AreDegreesOf}

-- they run this code over the edges of a part, and have these rows
pub record IsReceiving (part : PlainPart) (whole : Code) (own : RowTable) (rs : Receivers) : Type 0 where
  pub code : rs.code.now ≡ whole
  pub edges : rs.edges.now ≡ part.push
  pub rows : rs.rows.now ≡ own
  pub degrees : AreDegreesOf part (chunk_vertices part.ends part.at.machine) rs.degrees.now
  pub vertices : rs.vertices ≡ vertices_of part.ends
  pub start : rs.start ≡ start_of part.ends part.at.machine
  pub end : rs.end ≡ slice_index part.ends part.at.machine
