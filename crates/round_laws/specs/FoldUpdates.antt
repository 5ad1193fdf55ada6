-- A take of an ideal update leaves a machine as the source's run says.
use Rattle.std.specs.Prelude.{◌≡◌, ◌≢◌, ◌≤◌, ◌<◌, ◌+◌, ℕ, true, List, None, length, map}
use Rattle.vert_base.specs.declared.value.Ruling.TheVariants as ruling
use Rattle.vert_base.specs.Letters.{Letter, found}
use Rattle.vert_tree.specs.declared.program.Dense.{Dense}
use Rattle.chunk_split.specs.Chunks.{AreEnds, vertices_of}
use Rattle.circulant_plan.specs.Names.{update_name}
use Rattle.circulant_plan.specs.Ring.{order_of}
use Rattle.instrument.specs.Continued.{IsSplit}
use Rattle.body_shape.specs.Update.{SuitsUpdate}
use Rattle.symple_face.specs.CoreSight.{those_within}
use Rattle.symple_face.specs.CoreTakes.{slot_count}
use Rattle.symple_face.specs.CoreWork.{core_take}
use Rattle.symple_face.specs.Ideal.{block_env, ideal_body, ideal_sent, machines_of}
use Rattle.symple_face.specs.Parts.{refresh_list}
use Rattle.symple_face.specs.Shapes.{half_in, reduced_in}
use Rattle.symple_face.specs.Source.{Source, stand}
use Rattle.symple_face.specs.State.{State}
use Rattle.round_laws.specs.IdealScans.{RunsDense}
use Rattle.round_laws.specs.IsIdeal.{IsIdeal, is_open}

-- the vertices of a half of chunk m that have members with machine k
abbrev pub updated_list : Source → ℕ → ℕ → ℕ → List ℕ
updated_list src m k h = those_within (half_in src.job.graph.ends m h)
    (refresh_list src.job.graph.ends m k src.job.graph.edges)

-- the message is the update of a step and a half that wasn't taken yet, in a dense round that is open
pub record IsUpdate (src : Source) (m : ℕ) (s : State) (l : Letter) : Type 0 where
  pub step : ℕ
  pub half : ℕ
  pub early : step + 1 < machines_of src
  pub halves : half ≤ 1
  pub name : l.name ≡ update_name s.at.round step half (order_of m step (machines_of src)) m
  pub other : order_of m step (machines_of src) ≢ m
  pub new : found l.name s.held ≡ None
  pub going : is_open s.at.spot ≡ true
  pub dense : (stand src s.at.round).ruling ≡ ruling.Dense
  -- what the source sends fits the form of the body
  pub suits : SuitsUpdate (length (updated_list src m (order_of m step (machines_of src)) half)) (slot_count src.split)
      (length (reduced_in src.split.dense))
      (map (λ v. ideal_sent src s.at.round v m step) (updated_list src m (order_of m step (machines_of src)) half))

-- the words of an update are merged under the key of its step, and no body is kept
abbrev pub TakesUpdates : Type 0
TakesUpdates =
    (src : Source) (d : Dense) (most m : ℕ) (s : State) (l : Letter) → RunsDense src d →
    AreEnds most src.job.graph.ends →
    src.job.graph.vertices ≡ vertices_of src.job.graph.ends → m < machines_of src →
    ((v : ℕ) → v < src.job.graph.vertices → IsSplit src.job.program d (block_env src s.at.round v)) →
    IsIdeal src m s → IsUpdate src m s l → l.body ≡ ideal_body src l.name → IsIdeal src m (core_take s l)
