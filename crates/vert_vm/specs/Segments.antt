-- The loop over neighbours with code in the place of the loop body.
use Rattle.std.specs.Prelude.{◌≡◌, ℕ, List, ◌++◌, length, map}
use Rattle.vert_base.specs.declared.graph.Neighbour.{Neighbour}
use Rattle.vert_base.specs.declared.value.Row.{Row}
use Rattle.vert_tree.specs.Places.{Counts}
use Rattle.vert_eval.specs.declared.environment.Env.{Env}
use Rattle.vert_eval.specs.Rounds.{reading}
use Rattle.vert_eval.specs.Runs.{Act, in_turn}
use Rattle.vert_eval.specs.Values.{counts_of}
use Rattle.vert_code.specs.declared.instr.Instr.{Instr}
use Rattle.vert_code.specs.Machine.{run_code}

-- a neighbour and its row
abbrev pub Member : Type 0
Member = Neighbour × Row

abbrev pub id_of : Member → ℕ
id_of member = member.0.id.0

-- the environment at a neighbour
abbrev pub at_neighbour : Member → Env → Env
at_neighbour member env = record env { other = member.0; other_row = member.1 }

-- the code of the loop body on one neighbour, which is read
abbrev pub member_code : List Instr → Member → Act
member_code list member env = reading (id_of member) (run_code list (at_neighbour member env))

-- the loop over a list of neighbours, up to a break
abbrev pub loop_code : List Instr → List Member → Act
loop_code list members = in_turn (map (member_code list) members)

-- how many words of each kind an environment has at a neighbour, whose row is as long as its own
abbrev pub counts_at : Env → Counts
counts_at env = record (counts_of env) { other_fields = length env.row.words.items }

-- a row has a word for each field
abbrev pub IsWide : Env → Member → Type 0
IsWide env member = length member.1.words.items ≡ length env.row.words.items

-- a feed has given exactly the neighbours with these ids, and the rest is left
pub record Fed (given left new_given new_left : List Member) (reads : List ℕ) : Type 0 where
  pub read : List Member
  pub now_given : new_given ≡ given ++ read
  pub now_left : left ≡ read ++ new_left
  pub ids : map id_of read ≡ reads
