-- Machine 0 that judges a round goes on as the source's run says.
use Rattle.std.specs.Prelude.{◌≡◌, ◌<◌, ◌≤◌, ◌+◌, ◌^◌, ℕ, true, length}
use Rattle.vert_tree.specs.Typed.{is_typed}
use Rattle.vert_eval.specs.SourceRun.{standing_after}
use Rattle.chunk_split.specs.Chunks.{AreEnds, vertices_of}
use Rattle.circulant_plan.specs.declared.spot.Spot.TheVariants.{Judge}
use Rattle.body_shape.specs.Tally.{IsCounted}
use Rattle.symple_face.specs.declared.action.Action.TheVariants.{Ready}
use Rattle.symple_face.specs.CoreSight.{program_of, total_count}
use Rattle.symple_face.specs.CoreWork.{core_go}
use Rattle.symple_face.specs.Ideal.{ideal_count, machines_of}
use Rattle.symple_face.specs.Source.{Source, stand}
use Rattle.symple_face.specs.State.{State, action_of}
use Rattle.round_laws.specs.IsIdeal.{IsIdeal}

-- a round of the source's run, at whose end the counts of the machines fit their bytes; what stands before the next
-- round is what follows of its rows
pub record IsCountedRound (src : Source) (most round : ℕ) : Type 0 where
  pub program : program_of src.split ≡ src.job.program
  pub typed : is_typed src.job.program ≡ true
  pub ends : AreEnds most src.job.graph.ends
  pub sized : src.job.graph.vertices ≡ vertices_of src.job.graph.ends
  pub base : 1 ≤ src.base
  pub after : stand src (round + 1) ≡ standing_after src.job round (stand src (round + 1)).rows
  pub rows : length (stand src (round + 1)).rows ≡ src.job.graph.vertices
  pub counted : (k : ℕ) → k < machines_of src → IsCounted (2 ^ 64) (total_count src.split) (ideal_count src round k)

-- the judge of the round, who has taken every tally
abbrev pub JudgesAndGoesOn : Type 0
JudgesAndGoesOn =
    (src : Source) (most round : ℕ) (s : State) → IsCountedRound src most round → IsIdeal src 0 s →
    s.at ≡ record { spot = Judge round; round = round } → action_of s ≡ Ready → IsIdeal src 0 (core_go s)
