-- Programs whose runs don't depend on the order of neighbours, and so not on the ends of the chunks.
use Rattle.std.specs.Prelude.{◌≡◌, ℕ, Bool, true, false, not, ◌&&◌, IsTrue, List, map, Option, Some, None, ⊤, slice_get}
use Rattle.std.specs.List.{list_all}
use Rattle.vert_base.specs.declared.value.Combine.{Combine}
use Rattle.vert_base.specs.declared.value.Combine.TheVariants.{First}
use Rattle.vert_tree.specs.declared.name.What.{What}
use Rattle.vert_tree.specs.declared.name.What.TheVariants as what
use Rattle.vert_tree.specs.declared.statement.Stmt.{Stmt}
use Rattle.vert_tree.specs.declared.statement.Stmt.TheOpen.{Stmt-F, Assign, SetActive, If, Emit, Break}
use Rattle.vert_tree.specs.declared.statement.Stmt.TheFolds.{fold-Stmt}
use Rattle.vert_tree.specs.declared.program.Dense.{Dense}
use Rattle.vert_tree.specs.declared.program.Program.{Program}
use Rattle.vert_tree.specs.Places.{all_true, option_all, tests_of}
use Rattle.vert_tree.specs.Typed.{is_typed}
use Rattle.vert_eval.specs.Rounds.{slot_ops}
use Rattle.vert_eval.specs.SourceRun.{Job, Run, Standing, resumed_run, source_run}
use Rattle.order_laws.specs.Agreement.{LoopAgrees}

-- ---- slots of kind first
abbrev pub is_first : Option Combine → Bool
is_first (Some First) = true
is_first _ = false

-- whether a name stands for a slot of kind first
abbrev pub names_first : List Combine → What → Bool
names_first ops (what.Slot i) = is_first (slice_get ops i)
names_first ops _ = false

-- one statement, with the tests of its inner statements in their place
abbrev pub level_no_first : List Combine → Stmt-F Bool → Bool
level_no_first ops (Assign target op e) = true
level_no_first ops (SetActive _ e) = true
level_no_first ops (If _ test held otherwise) = all_true held.items && all_true (tests_of otherwise)
level_no_first ops (Emit _ slot e) = not (names_first ops slot.what)
level_no_first ops (Break _) = true

abbrev pub stmt_no_first : List Combine → Stmt → Bool
stmt_no_first ops = fold-Stmt Bool (level_no_first ops)

-- no `emit` of a block names a slot of kind first
abbrev pub no_first : List Combine → List Stmt → Bool
no_first ops body = list_all (stmt_no_first ops) body

-- neither in the loop body nor in the sparse body
abbrev pub program_no_first : Program → Bool
program_no_first p =
    option_all (λ d. no_first (slot_ops p) d.body.items) p.dense
    && option_all (λ s. no_first (slot_ops p) s.body.items) p.sparse

-- ---- programs
-- there is no loop, or it agrees over every order
abbrev pub AnyLoopAgrees : Option Dense → Type 0
AnyLoopAgrees None = ⊤
AnyLoopAgrees (Some d) = LoopAgrees d.body.items

-- a typed program that emits to no slot of kind first per neighbour, and whose loop agrees
pub record IsOrderFree (p : Program) : Type 0 where
  pub typed : IsTrue (is_typed p)
  pub slots : IsTrue (program_no_first p)
  pub loop : AnyLoopAgrees p.dense

-- ---- runs
-- a job whose vertices are cut into chunks with these ends
abbrev pub with_ends : List ℕ → Job → Job
with_ends ends job = record job { graph = record job.graph { ends = ends } }

-- a run without its reads: the rounds with what stood before each, and what stands after the last
pub record Told : Type 0 where
  pub rounds : List (ℕ × Standing)
  pub last : Standing

abbrev pub told : Run → Told
told run = record { rounds = map (λ p. (p.round, p.before)) run.rounds; last = run.last }

-- the runs over every two lists of ends are alike
abbrev pub RunsAlike : Job → Type 0
RunsAlike job = (first second : List ℕ) →
    told (source_run (with_ends first job)) ≡ told (source_run (with_ends second job))

-- and so are the runs that go on at a round before which the same stands
abbrev pub ResumesAlike : Job → Type 0
ResumesAlike job =
    (round : ℕ) (standing : Standing) (first second : List ℕ) →
    told (resumed_run (with_ends first job) round standing) ≡ told (resumed_run (with_ends second job) round standing)
