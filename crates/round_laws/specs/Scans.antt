-- A scan at a vertex does what the machine of a step does by the source.
use Rattle.std.specs.Prelude.{◌≡◌, ℕ, List, [], ◌∷◌, ◌++◌, None, if◌then◌else◌, ⊤}
use Rattle.vert_base.specs.declared.graph.Edge.{Edge}
use Rattle.vert_tree.specs.declared.program.Dense.{Dense}
use Rattle.vert_eval.specs.declared.environment.Env.{Env}
use Rattle.vert_eval.specs.Rounds.{Scene, env_at}
use Rattle.vert_eval.specs.Runs.{Ran, leaves}
use Rattle.vert_eval.specs.Values.{value_of}
use Rattle.vert_eval.specs.Words.{is_set}
use Rattle.instrument.specs.declared.split.Split.{Split}
use Rattle.instrument.specs.Continued.{IsSplit}
use Rattle.instrument.specs.Loops.{loop_split}
use Rattle.symple_face.specs.CoreSight.{none, program_of}
use Rattle.symple_face.specs.CoreScan.{Scanned, fresh, scanned, sent_by_segment}
use Rattle.symple_face.specs.Ideal.{told_state}
use Rattle.symple_face.specs.Plans.{loop_carry}
use Rattle.symple_face.specs.Ring.{RingState, Fresh, state_of, step_ran}
use Rattle.symple_face.specs.Shapes.{words_in}
use Rattle.symple_face.specs.Sight.{Sight}
use Rattle.round_laws.specs.Seen.{SeesScene, SeesSources, SeesVertex}

-- how far the loop of a vertex has come after some members: not begun where the test is false
abbrev pub ring_after : Scene → Dense → Env → List Edge → RingState
ring_after s d env members = if is_set (value_of d.when_test env) then state_of s d env members else Fresh

-- what a machine does on its members behind those before: nothing where the test is false
abbrev pub ran_behind : Scene → Dense → Env → List Edge → List Edge → Ran
ran_behind s d env before members =
    if is_set (value_of d.when_test env) then step_ran s d env members (state_of s d env before) else leaves env

-- how many words a loop state has
abbrev pub width_of : Split → ℕ
width_of split = words_in (loop_carry split.dense)

-- the sight has what a loop over members of a vertex looks at
pub record SeesLoop (g : Sight) (s : Scene) (v : ℕ) (members : List Edge) : Type 0 where
  pub scene : SeesScene g s
  pub vertex : SeesVertex g s v
  pub sources : SeesSources g s members

-- the same of a scan, which looks at nothing where there are no members
abbrev pub Sees : Sight → Scene → ℕ → List Edge → Type 0
Sees g s v [] = ⊤
Sees g s v (e ∷ es) = SeesLoop g s v (e ∷ es)

-- what a scan sends and reads is that of this run
pub record ScansAs (split : Split) (d : Dense) (got : Scanned) (ran : Ran) : Type 0 where
  pub sent : got.sent ≡ sent_by_segment split d ran
  pub reads : got.reads ≡ ran.reads

-- begun with the state of the loop before, a scan hands on the state of the loop behind its members, and sends and
-- reads what the machine of the step does
abbrev pub ScansTheRing : Type 0
ScansTheRing =
    (split : Split) (d : Dense) (g : Sight) (s : Scene) (key v : ℕ) (before members : List Edge) →
    let env : Env = env_at s v (none split) in
    let got : Scanned =
    scanned split d g key members v (told_state (width_of split) (ring_after s d env before)) in
    IsSplit (program_of split) d env → Sees g s v members →
    (got.state ≡ told_state (width_of split) (ring_after s d env (before ++ members)))
    × ScansAs split d got (ran_behind s d env before members)

-- in a loop without a carry it sends and reads that whatever came before
abbrev pub ScansAfresh : Type 0
ScansAfresh =
    (split : Split) (d : Dense) (g : Sight) (s : Scene) (key v : ℕ) (before members : List Edge) →
    let env : Env = env_at s v (none split) in
    IsSplit (program_of split) d env → Sees g s v members → (loop_split d).carry ≡ None →
    ScansAs split d (scanned split d g key members v (fresh split)) (ran_behind s d env before members)
