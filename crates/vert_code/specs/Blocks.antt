-- The blocks of a program, and their lists.
use Rattle.std.specs.Prelude.{◌≡◌, ℕ, true, List, [], ◌∷◌, map, length, Option, None, Some, slice_index_or}
use Rattle.vert_tree.specs.declared.program.Dense.{Dense}
use Rattle.vert_tree.specs.declared.program.Program.{Program}
use Rattle.vert_tree.specs.declared.program.Sparse.{Sparse}
use Rattle.vert_tree.specs.declared.statement.Stmt.{Stmt}
use Rattle.vert_tree.specs.Places.{Counts, round_counts}
use Rattle.vert_eval.specs.declared.environment.Env.{Env}
use Rattle.vert_eval.specs.Runs.{run}
use Rattle.vert_code.specs.declared.code.Code.{Code}
use Rattle.vert_code.specs.declared.instr.Block.{Block}
use Rattle.vert_code.specs.declared.instr.Block.TheVariants.{Loop, Tail, SparseBody, UpdateBody}
use Rattle.vert_code.specs.declared.instr.Instr.{Instr}
use Rattle.vert_code.specs.Listing.{block_code}
use Rattle.vert_code.specs.Machine.{run_code}
use Rattle.vert_code.specs.Valid.{list_names}

-- the lists of a code
abbrev pub lists_of : Code → List (List Instr)
lists_of code = map (λ list. list.items) code.blocks.items

abbrev pub place_of : Block → ℕ
place_of Loop = 0
place_of Tail = 1
place_of SparseBody = 2
place_of UpdateBody = 3

abbrev pub list_of : Code → Block → List Instr
list_of code block = slice_index_or (lists_of code) (place_of block) []

abbrev pub loop_body : Option Dense → List Stmt
loop_body None = []
loop_body (Some dense) = dense.body.items

abbrev pub tail_body : Option Dense → List Stmt
tail_body None = []
tail_body (Some dense) = dense.tail.items

abbrev pub sparse_body : Option Sparse → List Stmt
sparse_body None = []
sparse_body (Some sparse) = sparse.body.items

-- the statements of a block, none where the program hasn't the block
abbrev pub statements_of : Program → Block → List Stmt
statements_of p Loop = loop_body p.dense
statements_of p Tail = tail_body p.dense
statements_of p SparseBody = sparse_body p.sparse
statements_of p UpdateBody = p.update.items

abbrev pub lets_in : Option Dense → ℕ
lets_in None = 0
lets_in (Some dense) = length dense.lets.items

abbrev pub sends_in : Option Sparse → ℕ
sends_in None = 0
sends_in (Some sparse) = length sparse.sends.items

-- how many names of each kind a block may name
abbrev pub counts_in : Program → Block → Counts
counts_in p Loop = record (round_counts p) { locals = lets_in p.dense }
counts_in p Tail = record (round_counts p) { locals = lets_in p.dense }
counts_in p SparseBody = record (round_counts p) { sends = sends_in p.sparse }
counts_in p UpdateBody = round_counts p

-- the code of a program
abbrev pub code_of : Program → List (List Instr)
code_of p = map (λ block. block_code (statements_of p block)) (Loop ∷ Tail ∷ SparseBody ∷ UpdateBody ∷ [])

-- a list names only what there is for its block
abbrev pub Names : Program → Code → Block → Type 0
Names p code block = list_names (counts_in p block) (list_of code block) ≡ true

-- a list does what one run of its block does
abbrev pub RunsAs : Program → Code → Block → Type 0
RunsAs p code block = (env : Env) → run_code (list_of code block) env ≡ run (statements_of p block) env
