-- The loop of a vertex over the neighbours that lie with a machine.
use Rattle.std.specs.Prelude.{◌≡◌, ◌<◌, ◌||◌, not, ℕ, Bool, Some, List, length, map, slice_set, take}
use Rattle.std.specs.List.{All}
use Rattle.vert_base.specs.declared.graph.Edge.{Edge}
use Rattle.vert_base.specs.declared.value.Row.{Row}
use Rattle.vert_base.specs.Neighbours.{source}
use Rattle.vert_tree.specs.declared.program.Dense.{Dense}
use Rattle.vert_eval.specs.declared.environment.Env.{Env}
use Rattle.vert_eval.specs.Runs.{Ran}
use Rattle.vert_eval.specs.Values.{value_of}
use Rattle.vert_eval.specs.Words.{is_set}
use Rattle.slot_merge.specs.declared.partial.Partial.{Partial}
use Rattle.vert_code.specs.declared.code.Code.{Code}
use Rattle.vert_code.specs.declared.instr.Block.TheVariants.{Loop}
use Rattle.vert_code.specs.Blocks.{Names, RunsAs, list_of}
use Rattle.vert_vm.specs.Segments.{Member, loop_code}
use Rattle.dep_layout.specs.declared.state.Mark.{Mark}
use Rattle.dep_layout.specs.Spelling.{State as LoopState}
use Rattle.instrument.specs.declared.split.Split.{Split}
use Rattle.instrument.specs.declared.split.SplitLoop.{SplitLoop}
use Rattle.instrument.specs.Segments.{begun, given}
use Rattle.body_shape.specs.Update.{Sent}
use Rattle.symple_face.specs.declared.degree.Degree.{Degree}
use Rattle.symple_face.specs.CoreScan.{Scanned, is_broken, mark_after, told_words}
use Rattle.symple_face.specs.CoreSight.{none, program_of}
use Rattle.symple_face.specs.Ring.{operands as operands_of}
use Rattle.symple_face.specs.Sight.{Sight, seen_env, seen_neighbour}
use Rattle.machine_parts.specs.Flat.{StateTable}
use Rattle.machine_parts.specs.Neighbours.{member_in}

-- the dense block of a program with its split loop, and code that does what the loop body does
pub record IsLoopOf (code : Code) (split : Split) (dense : Dense) (parts : SplitLoop) : Type 0 where
  pub block : (program_of split).dense ≡ Some dense
  pub loop : split.dense ≡ Some parts
  pub placed : Names (program_of split) code Loop
  pub runs : RunsAs (program_of split) code Loop

-- a segment over neighbours that are fed, which begins with the state received
abbrev pub segment_fed : Code → Dense → SplitLoop → List Member → LoopState → Env → Ran
segment_fed code dense parts members st env =
    loop_code (list_of code Loop) members (begun parts dense.lets.items (told_words st) env)

-- the state that a segment hands on
abbrev pub state_left : SplitLoop → Ran → LoopState
state_left parts ran = record { mark = mark_after ran.flow; words = given parts ran.env }

-- what the environments of all vertices of a round have in common
pub record SameRound (old new : Env) : Type 0 where
  pub n : new.n ≡ old.n
  pub round : new.round ≡ old.round
  pub draws : new.draws ≡ old.draws
  pub totals : new.totals ≡ old.totals
  pub slots : new.slots ≡ old.slots

-- a member of the neighbours as it is seen
abbrev pub seen_member : Sight → Edge → Member
seen_member g e = (seen_neighbour g (source e) e.weight, g.row (source e))

-- a sight shows the vertex that the environment has entered, and the sources of some edges among the own vertices,
-- which begin at a number
pub record ShowsVertex (split : Split) (g : Sight) (start : ℕ) (degrees : List Degree) (rows : List Row)
    (members : List Edge) (env : Env) : Type 0 where
  pub some : 0 < length members
  pub here : env ≡ seen_env g env.id.0 env.key (none split)
  pub there : All (λ e. member_in start degrees rows e ≡ seen_member g e) members

-- what is at hand behind a vertex is what is scanned there: the state in its place, the values of the slots, the words
-- of the reduced lets, and how many members were read
pub record IsScanned (scan : Scanned) (parts : SplitLoop) (members : List Edge) (place : ℕ) (old new : StateTable)
    (emits : List Partial) (env : Env) (count : ℕ) : Type 0 where
  pub state : new ≡ record old { states = slice_set old.states place scan.state }
  pub values : map (λ p. p.value) emits ≡ scan.sent.values
  pub operands : operands_of parts.reduced.items env ≡ scan.sent.operands
  pub reads : map source (take count members) ≡ scan.reads

-- whether a state is passed on, where the loop broke or the test is false
abbrev pub passes : Dense → Mark → Env → Bool
passes dense mark env = is_broken mark || not (is_set (value_of dense.when_test env))

-- behind a vertex its state is in its place, and what is sent of it and read there is as it is scanned
pub record IsVisited (scan : Scanned) (members : List Edge) (place : ℕ) (old new : StateTable) (told : Sent) (count : ℕ)
    : Type 0 where
  pub state : new ≡ record old { states = slice_set old.states place scan.state }
  pub sent : told ≡ scan.sent
  pub reads : map source (take count members) ≡ scan.reads
