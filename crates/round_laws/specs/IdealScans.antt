-- A scan at a vertex is ideal: it hands on, sends and reads what the source's run says.
use Rattle.std.specs.Prelude.{◌≡◌, ◌+◌, ℕ, List, None, Some}
use Rattle.vert_base.specs.declared.graph.Edge.{Edge}
use Rattle.vert_tree.specs.declared.program.Dense.{Dense}
use Rattle.circulant_plan.specs.Ring.{members_with, order_of}
use Rattle.instrument.specs.Continued.{IsSplit}
use Rattle.instrument.specs.Loops.{loop_split}
use Rattle.symple_face.specs.CoreScan.{Scanned, fresh, scanned}
use Rattle.symple_face.specs.CoreSight.{program_of}
use Rattle.symple_face.specs.Ideal.{block_env, ideal_ran, ideal_sent, machines_of, members_in, state_at}
use Rattle.symple_face.specs.Sight.{Sight}
use Rattle.symple_face.specs.Source.{Source, scene}
use Rattle.round_laws.specs.Scans.{Sees}

-- the members of a vertex that the machine of a step on chunk c reads
abbrev pub step_members : Source → ℕ → ℕ → ℕ → List Edge
step_members src v c step = members_with src.job.graph.ends (order_of c step (machines_of src)) (members_in src v)

-- what is sent and read is ideal
pub record IsIdealScan (src : Source) (round v c step : ℕ) (got : Scanned) : Type 0 where
  pub sent : got.sent ≡ ideal_sent src round v c step
  pub reads : got.reads ≡ (ideal_ran src round v c step).reads

-- the run is of the split's own program, which has this dense block
pub record RunsDense (src : Source) (d : Dense) : Type 0 where
  pub program : program_of src.split ≡ src.job.program
  pub dense : src.job.program.dense ≡ Some d

-- from an ideal loop state
abbrev pub ScansAreIdeal : Type 0
ScansAreIdeal =
    (src : Source) (d : Dense) (g : Sight) (round v c step key : ℕ) → RunsDense src d →
    IsSplit src.job.program d (block_env src round v) → Sees g (scene src round) v (step_members src v c step) →
    let got : Scanned = scanned src.split d g key (step_members src v c step) v (state_at src round v c step) in
    (got.state ≡ state_at src round v c (step + 1)) × IsIdealScan src round v c step got

-- in a loop without a carry, from one that isn't started
abbrev pub FreshScansAreIdeal : Type 0
FreshScansAreIdeal =
    (src : Source) (d : Dense) (g : Sight) (round v c step key : ℕ) → RunsDense src d →
    IsSplit src.job.program d (block_env src round v) → Sees g (scene src round) v (step_members src v c step) →
    (loop_split d).carry ≡ None →
    IsIdealScan src round v c step (scanned src.split d g key (step_members src v c step) v (fresh src.split))
