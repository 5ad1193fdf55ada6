-- The lets at the end of a loop whose members lie with several machines.
use Rattle.std.specs.Prelude.{◌≡◌, ℕ, List}
use Rattle.vert_base.specs.declared.graph.Edge.{Edge}
use Rattle.vert_tree.specs.declared.program.Dense.{Dense}
use Rattle.vert_tree.specs.declared.program.Program.{Program}
use Rattle.vert_eval.specs.declared.environment.Env.{Env}
use Rattle.vert_eval.specs.Rounds.{Scene}
use Rattle.vert_eval.specs.Runs.{Ran}
use Rattle.circulant_plan.specs.Ring.{members_by_steps}
use Rattle.instrument.specs.Continued.{IsSplit, whole}
use Rattle.instrument.specs.Loops.{loop_split}
use Rattle.instrument.specs.Segments.{given, own_words}
use Rattle.symple_face.specs.Ring.{closing, operands_by_steps}

-- the lets that the loop leaves are those that the owner makes of what the machines sent
abbrev pub LetsByMachines : Type 0
LetsByMachines =
    (p : Program) (d : Dense) (s : Scene) (env : Env) → IsSplit p d env → env.touched ≡ 0 →
    (ends : List ℕ) (machines c count : ℕ) (members : List Edge) →
    let looped : Ran = whole s d env (members_by_steps ends machines c 0 count members) in
    looped.env.locals.items ≡
    closing (loop_split d).classes.locals.items (own_words d.lets.items env) (given (loop_split d) looped.env)
    (operands_by_steps s d env ends machines c members count)
