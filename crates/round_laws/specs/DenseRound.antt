-- A dense round at a vertex, by the machines of its chunk and by the source.
use Rattle.std.specs.Prelude.{◌≡◌, ◌<◌, ◌==◌, nat_lt, ℕ, ◌+◌, ℤ, true, List, [], if◌then◌else◌, option_to_list}
use Rattle.vert_base.specs.declared.value.Combine.{Combine}
use Rattle.vert_base.specs.declared.value.Ruling.TheVariants as ruling
use Rattle.vert_base.specs.Neighbours.{ins_of}
use Rattle.vert_tree.specs.declared.program.Dense.{Dense}
use Rattle.vert_tree.specs.declared.program.Program.{Program}
use Rattle.slot_merge.specs.declared.partial.Partial.{Partial}
use Rattle.slot_merge.specs.Combine.{combined, words_for}
use Rattle.slot_merge.specs.Filled.{Filled}
use Rattle.vert_eval.specs.declared.environment.Env.{Env}
use Rattle.vert_eval.specs.Rounds.{Scene, env_at, gathered, members_of, no_values, slot_ops}
use Rattle.vert_eval.specs.Runs.{Ran, run}
use Rattle.vert_eval.specs.Values.{value_of}
use Rattle.vert_eval.specs.Words.{is_set}
use Rattle.circulant_plan.specs.Ring.{AreEndsUpTo, IsInChunk}
use Rattle.instrument.specs.Continued.{IsSplit, whole}
use Rattle.symple_face.specs.Ring.{machine_ran}

-- the words for a slot under each key: one from the machine of each step, and then those of the tail
abbrev pub dense_bucket : Combine → ℕ → Scene → Dense → Env → ℕ → ℕ → ℕ → ℕ → List ℤ
dense_bucket op slot s d env p c v key =
    let ran : ℕ → Ran = machine_ran s d env s.graph.ends p c (ins_of s.graph.vertices s.graph.edges v) in
    if nat_lt key p then option_to_list (combined op (words_for slot (ran key).emitted))
    else if key == p then words_for slot (run d.tail.items (whole s d env (members_of s.graph v)).env).emitted
    else []

-- a partial whose buckets are those of the machines of the steps, and of the tail, has what the source combines
abbrev pub RoundByMachines : Type 0
RoundByMachines =
    (program : Program) (d : Dense) (s : Scene) (p c v : ℕ) →
    let env : Env = env_at s v (no_values (slot_ops program)) in
    IsSplit program d env → is_set (value_of d.when_test env) ≡ true →
    AreEndsUpTo s.graph.vertices p s.graph.ends → c < p → IsInChunk s.graph.ends c v →
    (op : Combine) (slot : ℕ) (q : Partial) → Filled op (dense_bucket op slot s d env p c v) (p + 1) q →
    q.value ≡ combined op (words_for slot (gathered program ruling.Dense s v).emitted)
