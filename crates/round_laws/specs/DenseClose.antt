-- The close of a dense round at a vertex.
use Rattle.std.specs.Prelude.{◌≡◌, ◌⊎◌, ◌<◌, ◌+◌, ℕ, List, None, if◌then◌else◌}
use Rattle.vert_base.specs.declared.value.Ruling.TheVariants as ruling
use Rattle.vert_base.specs.Neighbours.{ins_of}
use Rattle.vert_tree.specs.declared.program.Dense.{Dense}
use Rattle.slot_merge.specs.declared.partial.Partial.{Partial}
use Rattle.slot_merge.specs.Filled.{AreFilled}
use Rattle.dep_layout.specs.Spelling.{State as LoopState}
use Rattle.vert_eval.specs.declared.environment.Env.{Env}
use Rattle.vert_eval.specs.Rounds.{Scene, env_at, members_of, row_after}
use Rattle.vert_eval.specs.Runs.{Ran, leaves}
use Rattle.vert_eval.specs.Values.{value_of}
use Rattle.vert_eval.specs.Words.{is_set}
use Rattle.circulant_plan.specs.Ring.{AreEndsUpTo, IsInChunk}
use Rattle.instrument.specs.declared.split.Split.{Split}
use Rattle.instrument.specs.Continued.{IsSplit}
use Rattle.instrument.specs.Loops.{loop_split}
use Rattle.symple_face.specs.CoreClose.{closed_row, tail_at}
use Rattle.symple_face.specs.CoreSight.{none, program_of}
use Rattle.symple_face.specs.Ideal.{told_state}
use Rattle.symple_face.specs.Ring.{machine_ran}
use Rattle.symple_face.specs.Sight.{Sight}
use Rattle.round_laws.specs.Partials.{partial_ops, step_buckets}
use Rattle.round_laws.specs.Scans.{ring_after, width_of}
use Rattle.round_laws.specs.Seen.{SeesScene, SeesVertex}

-- what the machine of a step does at a vertex of chunk c of p: nothing where the test is false
abbrev pub ran_at : Scene → Dense → Env → ℕ → ℕ → ℕ → ℕ → Ran
ran_at s d env p c v step =
    if is_set (value_of d.when_test env)
    then machine_ran s d env s.graph.ends p c (ins_of s.graph.vertices s.graph.edges v) step
    else leaves env

-- where the partials of a vertex have what the machines of all steps sent, and its loop state is that behind all
-- members, the close makes the source's row of it; in a loop without a carry the loop state doesn't count
abbrev pub ClosesDense : Type 0
ClosesDense =
    (split : Split) (d : Dense) (g : Sight) (s : Scene) (p c v : ℕ) (ps : List Partial) (st : LoopState) →
    let env : Env = env_at s v (none split) in
    IsSplit (program_of split) d env → SeesScene g s → SeesVertex g s v →
    AreEndsUpTo s.graph.vertices p s.graph.ends → c < p → IsInChunk s.graph.ends c v →
    AreFilled 0 (partial_ops split) (step_buckets split d (ran_at s d env p c v) p) (p + 1) ps →
    ((loop_split d).carry ≡ None) ⊎ (st ≡ told_state (width_of split) (ring_after s d env (members_of s.graph v))) →
    closed_row split g (tail_at split d g p ps st v) v ≡ row_after (program_of split) ruling.Dense s v
