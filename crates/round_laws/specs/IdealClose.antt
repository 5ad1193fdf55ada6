-- The rows that a close makes of ideal contents are the source's.
use Rattle.std.specs.Prelude.{◌≡◌, ◌≢◌, ◌≤◌, ◌<◌, ◌+◌, ℕ, Some, true, false, is_some, map}
use Rattle.vert_base.specs.declared.value.Ruling.TheVariants as ruling
use Rattle.vert_base.specs.Letters.{found}
use Rattle.vert_tree.specs.declared.program.Dense.{Dense}
use Rattle.vert_tree.specs.declared.program.Sparse.{Sparse}
use Rattle.vert_eval.specs.Rounds.{row_at}
use Rattle.chunk_split.specs.Chunks.{AreEnds, vertices_of}
use Rattle.circulant_plan.specs.declared.spot.Spot.TheVariants.{Close}
use Rattle.circulant_plan.specs.Names.{push_name, update_name}
use Rattle.circulant_plan.specs.Ring.{order_of}
use Rattle.instrument.specs.Continued.{IsSplit}
use Rattle.symple_face.specs.CoreClose.{closed_rows}
use Rattle.symple_face.specs.CoreSight.{known, program_of}
use Rattle.symple_face.specs.Ideal.{block_env, machines_of}
use Rattle.symple_face.specs.Parts.{chunk_vertices}
use Rattle.symple_face.specs.Source.{Source, stand}
use Rattle.symple_face.specs.State.{State}
use Rattle.round_laws.specs.IdealScans.{RunsDense}
use Rattle.round_laws.specs.IsIdeal.{IsIdeal}

-- the machine closes this dense round, of which it knows the totals and has taken every update
pub record ClosesDenseRound (src : Source) (m round : ℕ) (s : State) : Type 0 where
  pub spot : s.at ≡ record { spot = Close round true; round = round }
  pub dense : (stand src round).ruling ≡ ruling.Dense
  pub begun : src.base ≤ round
  pub knows : known s ≡ true
  pub taken : (step half : ℕ) → step + 1 < machines_of src → half ≤ 1 →
      is_some (found (update_name round step half (order_of m step (machines_of src)) m) s.held) ≡ true

abbrev pub DenseRowsAreIdeal : Type 0
DenseRowsAreIdeal =
    (src : Source) (d : Dense) (most m round : ℕ) (s : State) → RunsDense src d → AreEnds most src.job.graph.ends →
    most ≤ 64 →
    src.job.graph.vertices ≡ vertices_of src.job.graph.ends → m < machines_of src →
    ((v : ℕ) → v < src.job.graph.vertices → IsSplit src.job.program d (block_env src round v)) →
    IsIdeal src m s → ClosesDenseRound src m round s →
    closed_rows s round true ≡ map (row_at (stand src (round + 1)).rows) (chunk_vertices src.job.graph.ends m)

-- and so of a sparse round, of which every push was taken
pub record ClosesSparseRound (src : Source) (m round : ℕ) (s : State) : Type 0 where
  pub spot : s.at ≡ record { spot = Close round false; round = round }
  pub sparse : (stand src round).ruling ≡ ruling.Sparse
  pub begun : src.base ≤ round
  pub knows : known s ≡ true
  pub taken : (k : ℕ) → k < machines_of src → k ≢ m → is_some (found (push_name round k m) s.held) ≡ true

abbrev pub SparseRowsAreIdeal : Type 0
SparseRowsAreIdeal =
    (src : Source) (sparse : Sparse) (most m round : ℕ) (s : State) → program_of src.split ≡ src.job.program →
    src.job.program.sparse ≡ Some sparse → AreEnds most src.job.graph.ends →
    src.job.graph.vertices ≡ vertices_of src.job.graph.ends → m < machines_of src →
    IsIdeal src m s → ClosesSparseRound src m round s →
    closed_rows s round false ≡ map (row_at (stand src (round + 1)).rows) (chunk_vertices src.job.graph.ends m)
