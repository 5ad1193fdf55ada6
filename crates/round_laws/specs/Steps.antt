-- The loop of a vertex, one machine after another.
use Rattle.std.specs.Prelude.{◌≡◌, ℕ, List, ◌++◌, None}
use Rattle.std.specs.List.{flat_map, range_with_len}
use Rattle.vert_base.specs.declared.graph.Edge.{Edge}
use Rattle.vert_tree.specs.declared.program.Dense.{Dense}
use Rattle.vert_tree.specs.declared.program.Program.{Program}
use Rattle.vert_eval.specs.declared.environment.Env.{Env}
use Rattle.vert_eval.specs.Rounds.{Scene}
use Rattle.circulant_plan.specs.Ring.{members_by_steps}
use Rattle.instrument.specs.Continued.{IsSplit, whole}
use Rattle.instrument.specs.Loops.{loop_split}
use Rattle.symple_face.specs.Ring.{Fresh, machine_ran, state_of, step_ran, step_state}

-- one machine more: what it hands on is the state of the loop behind its members, and what it emits and reads comes
-- behind what was emitted and read before
pub record Grows (s : Scene) (d : Dense) (env : Env) (before members : List Edge) : Type 0 where
  pub state : step_state s d env members (state_of s d env before) ≡ state_of s d env (before ++ members)
  pub emitted : (whole s d env (before ++ members)).emitted ≡
      (whole s d env before).emitted ++ (step_ran s d env members (state_of s d env before)).emitted
  pub reads : (whole s d env (before ++ members)).reads ≡
      (whole s d env before).reads ++ (step_ran s d env members (state_of s d env before)).reads

abbrev pub GrowsByMachines : Type 0
GrowsByMachines =
    (p : Program) (d : Dense) (s : Scene) (env : Env) → IsSplit p d env →
    (before members : List Edge) → Grows s d env before members

-- the loop over the members of the first steps emits and reads what their machines do, one after another
pub record ByMachines (s : Scene) (d : Dense) (env : Env) (ends : List ℕ) (p c count : ℕ) (members : List Edge) :
    Type 0 where
  pub emitted : (whole s d env (members_by_steps ends p c 0 count members)).emitted ≡
      flat_map (λ step. (machine_ran s d env ends p c members step).emitted) (range_with_len 0 count)
  pub reads : (whole s d env (members_by_steps ends p c 0 count members)).reads ≡
      flat_map (λ step. (machine_ran s d env ends p c members step).reads) (range_with_len 0 count)

abbrev pub ComesByMachines : Type 0
ComesByMachines =
    (p : Program) (d : Dense) (s : Scene) (env : Env) → IsSplit p d env →
    (ends : List ℕ) (machines c count : ℕ) (members : List Edge) → ByMachines s d env ends machines c count members

-- in a loop without a carry a machine does the same whatever came before
abbrev pub BeginsAfresh : Type 0
BeginsAfresh =
    (p : Program) (d : Dense) (s : Scene) (env : Env) → IsSplit p d env → (loop_split d).carry ≡ None →
    (before members : List Edge) →
    step_ran s d env members (state_of s d env before) ≡ step_ran s d env members Fresh
