-- A machine that scans a half of a chunk goes on as the source's run says.
use Rattle.std.specs.Prelude.{◌≡◌, ◌<◌, ◌≤◌, ℕ, true}
use Rattle.vert_base.specs.declared.value.Ruling.TheVariants as ruling
use Rattle.vert_tree.specs.declared.program.Dense.{Dense}
use Rattle.vert_eval.specs.Rounds.{row_at}
use Rattle.chunk_split.specs.Chunks.{AreEnds, vertices_of}
use Rattle.circulant_plan.specs.declared.spot.Spot.TheVariants.{Scan}
use Rattle.circulant_plan.specs.Ring.{lies_in}
use Rattle.instrument.specs.Continued.{IsSplit}
use Rattle.body_shape.specs.Refresh.{HasFields, plain_row}
use Rattle.dep_layout.specs.Spelling.{IsState}
use Rattle.symple_face.specs.declared.action.Action.TheVariants.{Ready}
use Rattle.symple_face.specs.CoreSight.{field_count, known}
use Rattle.symple_face.specs.CoreWork.{core_go}
use Rattle.symple_face.specs.Ideal.{block_env, machines_of, state_at}
use Rattle.symple_face.specs.Source.{Source, stand}
use Rattle.symple_face.specs.State.{State, action_of}
use Rattle.round_laws.specs.IdealScans.{RunsDense}
use Rattle.round_laws.specs.IsIdeal.{IsIdeal}
use Rattle.round_laws.specs.Scans.{width_of}

-- a dense round of the source's run on at most 64 machines, whose rows and loop states are words of their types
pub record IsDenseRound (src : Source) (d : Dense) (most round : ℕ) : Type 0 where
  pub runs : RunsDense src d
  pub ends : AreEnds most src.job.graph.ends
  pub few : most ≤ 64
  pub sized : src.job.graph.vertices ≡ vertices_of src.job.graph.ends
  pub dense : (stand src round).ruling ≡ ruling.Dense
  pub split : (v : ℕ) → v < src.job.graph.vertices → IsSplit src.job.program d (block_env src round v)
  pub rows : (v : ℕ) → v < src.job.graph.vertices →
      HasFields (field_count src.split) (plain_row (row_at (stand src round).rows v))
  pub bools : ℕ
  pub states : (v c count : ℕ) → lies_in src.job.graph.ends c v ≡ true →
      IsState (width_of src.split) bools (state_at src round v c count)

-- machine m stands at a scan of the round, knows its ruling and totals, and has taken what it needs
pub record StandsAtScan (src : Source) (m round step h : ℕ) (s : State) : Type 0 where
  pub machine : m < machines_of src
  pub early : step < machines_of src
  pub half : h ≤ 1
  pub at : s.at ≡ record { spot = Scan round step h; round = round }
  pub knows : known s ≡ true
  pub ready : action_of s ≡ Ready

abbrev pub ScansAndGoesOn : Type 0
ScansAndGoesOn =
    (src : Source) (d : Dense) (most m round step h : ℕ) (s : State) → IsDenseRound src d most round →
    StandsAtScan src m round step h s → IsIdeal src m s → IsIdeal src m (core_go s)
