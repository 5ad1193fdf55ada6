-- The close of a round leaves a machine as the source's run says: at the begin of the next one, and machine 0 at the
-- judge.
use Rattle.std.specs.Prelude.{◌≡◌, ◌≢◌, ◌≤◌, ◌+◌, ℕ, Bool, true, false, map}
use Rattle.vert_base.specs.declared.value.Ruling.TheVariants as ruling
use Rattle.vert_eval.specs.Rounds.{row_at}
use Rattle.chunk_split.specs.Chunks.{AreEnds}
use Rattle.circulant_plan.specs.declared.spot.Spot.TheVariants.{Close}
use Rattle.symple_face.specs.CoreClose.{closed_rows}
use Rattle.symple_face.specs.CoreWork.{core_go}
use Rattle.symple_face.specs.Ideal.{ideal_reads}
use Rattle.symple_face.specs.Parts.{chunk_vertices}
use Rattle.symple_face.specs.Source.{Source, stand}
use Rattle.symple_face.specs.State.{State}
use Rattle.round_laws.specs.IsIdeal.{IsIdeal, reads_held}

-- its reads of the round are ideal, and its rows after it the source's: then it is ideal at the next begin
abbrev pub ClosesAndGoesOn : Type 0
ClosesAndGoesOn =
    (src : Source) (m round : ℕ) (dense : Bool) (s : State) → m ≢ 0 → IsIdeal src m s →
    s.at ≡ record { spot = Close round dense; round = round } →
    closed_rows s round dense ≡ map (row_at (stand src (round + 1)).rows) (chunk_vertices src.job.graph.ends m) →
    ((v : ℕ) → reads_held src m s.at v ≡ ideal_reads src round m v) →
    IsIdeal src m (core_go s)

-- machine 0 is ideal at the judge
abbrev pub ClosesToJudge : Type 0
ClosesToJudge =
    (src : Source) (round : ℕ) (dense : Bool) (s : State) → IsIdeal src 0 s →
    s.at ≡ record { spot = Close round dense; round = round } →
    closed_rows s round dense ≡ map (row_at (stand src (round + 1)).rows) (chunk_vertices src.job.graph.ends 0) →
    ((v : ℕ) → reads_held src 0 s.at v ≡ ideal_reads src round 0 v) →
    IsIdeal src 0 (core_go s)

-- at the close of a dense round, and of a sparse one, the reads held are those of the round
abbrev pub DenseReadsAreIdeal : Type 0
DenseReadsAreIdeal =
    (src : Source) (most m round v : ℕ) → AreEnds most src.job.graph.ends → most ≤ 64 → src.base ≤ round →
    (stand src round).ruling ≡ ruling.Dense →
    reads_held src m (record { spot = Close round true; round = round }) v ≡ ideal_reads src round m v

abbrev pub SparseReadsAreIdeal : Type 0
SparseReadsAreIdeal =
    (src : Source) (m round v : ℕ) → src.base ≤ round → (stand src round).ruling ≡ ruling.Sparse →
    reads_held src m (record { spot = Close round false; round = round }) v ≡ ideal_reads src round m v
