-- A machine's scan of a half is ideal.
use Rattle.std.specs.Prelude.{◌≡◌, ◌≢◌, ◌<◌, ◌+◌, ◌-◌, ℕ, true, is_some, map}
use Rattle.std.specs.List.{AllByRecursion}
use Rattle.vert_tree.specs.declared.program.Dense.{Dense}
use Rattle.chunk_split.specs.Chunks.{AreEnds}
use Rattle.dep_layout.specs.Spelling.{IsState}
use Rattle.circulant_plan.specs.Names.{dep_name}
use Rattle.circulant_plan.specs.Ring.{before_machine, chunk_of, lies_in}
use Rattle.instrument.specs.Continued.{IsSplit}
use Rattle.symple_face.specs.CoreDense.{scanned_at}
use Rattle.symple_face.specs.CoreScan.{Scanned}
use Rattle.symple_face.specs.CoreSight.{held_body, is_within}
use Rattle.symple_face.specs.Ideal.{block_env, ideal_body, machines_of, state_at, vertices_within}
use Rattle.symple_face.specs.Plans.{loop_carry}
use Rattle.symple_face.specs.Shapes.{half_in}
use Rattle.symple_face.specs.Source.{Source, scene}
use Rattle.symple_face.specs.State.{State}
use Rattle.round_laws.specs.IdealScans.{IsIdealScan, RunsDense}
use Rattle.round_laws.specs.Scans.{width_of}
use Rattle.round_laws.specs.Sights.{IsTold, StandsIn}

-- what machine m holds where it scans a half of chunk c in a step: its own rows, those that it was told of the chunk,
-- and the ring states of the machine before it, all of them the source's
pub record ScansHalf (src : Source) (m round step h : ℕ) (s : State) : Type 0 where
  pub step_low : step < machines_of src
  pub split : s.split ≡ src.split
  pub stands : StandsIn m s (scene src round)
  pub told : chunk_of m step (machines_of src) ≢ m → IsTold m (chunk_of m step (machines_of src)) s (scene src round)
  pub dep : is_some (loop_carry src.split.dense) ≡ true → 0 < step →
      held_body s (dep_name round (step - 1) h (before_machine m (machines_of src)) m) ≡
      ideal_body src (dep_name round (step - 1) h (before_machine m (machines_of src)) m)
  pub bools : ℕ
  -- the ring states are words of their types
  pub words : AllByRecursion (IsState (width_of src.split) bools)
      (map (λ v. state_at src round v (chunk_of m step (machines_of src)) step)
      (vertices_within (half_in src.job.graph.ends (chunk_of m step (machines_of src)) h)))

-- then at each vertex of the half the scan sends and reads what the source's run says, and in a loop with a carry it
-- hands on the ideal ring state
abbrev pub MachineScansAreIdeal : Type 0
MachineScansAreIdeal =
    (src : Source) (d : Dense) (most m round step h v : ℕ) (s : State) → RunsDense src d →
    AreEnds most src.job.graph.ends →
    IsSplit src.job.program d (block_env src round v) → ScansHalf src m round step h s →
    let c : ℕ = chunk_of m step (machines_of src) in
    let got : Scanned = scanned_at s round step h v in
    lies_in src.job.graph.ends c v ≡ true → is_within (half_in src.job.graph.ends c h) v ≡ true →
    IsIdealScan src round v c step got
    × (is_some (loop_carry src.split.dense) ≡ true → got.state ≡ state_at src round v c (step + 1))
