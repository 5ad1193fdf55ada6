-- The close of a round at own vertices, by their rows, degrees, partials and ring states.
use Rattle.std.specs.Prelude.{◌≡◌, ◌≤◌, ◌+◌, ◌-◌, ◌^◌, ℕ, Bool, true, false, List, [], ◌∷◌, Option, None, Some, length, slice_index_or}
use Rattle.vert_base.specs.declared.value.Row.{Row}
use Rattle.vert_tree.specs.declared.program.Dense.{Dense}
use Rattle.vert_tree.specs.declared.statement.Stmt.{Stmt}
use Rattle.slot_merge.specs.declared.partial.Partial.{Partial}
use Rattle.dep_layout.specs.Spelling.{State as LoopState}
use Rattle.vert_eval.specs.declared.environment.Env.{Env}
use Rattle.vert_eval.specs.Rounds.{row_at}
use Rattle.vert_code.specs.declared.code.Code.{Code}
use Rattle.instrument.specs.declared.split.Split.{Split}
use Rattle.symple_face.specs.declared.degree.Degree.{Degree}
use Rattle.symple_face.specs.CoreClose.{close_go, closed_row, tail_at}
use Rattle.symple_face.specs.CoreScan.{fresh}
use Rattle.symple_face.specs.CoreSight.{field_count, program_of, total_count}
use Rattle.symple_face.specs.Sight.{Sight}
use Rattle.symple_face.specs.State.{State}
use Rattle.machine_parts.specs.Neighbours.{no_degree}
use Rattle.vertex_work.specs.Tails.{IsCodeOf}

-- what is seen by own rows and degrees, which begin at a number, and by the numbers of an environment
abbrev pub own_view : List Row → List Degree → ℕ → Env → Sight
own_view rows degrees start env = record {
  n = env.n;
  round = env.round;
  draws = env.draws;
  totals = env.totals.items;
  row = λ v. row_at rows (v - start);
  ins = λ v. (slice_index_or degrees (v - start) no_degree).ins;
  outs = λ v. (slice_index_or degrees (v - start) no_degree).outs;
}

-- two sights see the same of a vertex
pub record SeesAlike (g h : Sight) (v : ℕ) : Type 0 where
  pub n : g.n ≡ h.n
  pub round : g.round ≡ h.round
  pub draws : g.draws ≡ h.draws
  pub totals : g.totals ≡ h.totals
  pub row : g.row v ≡ h.row v
  pub ins : g.ins v ≡ h.ins v
  pub outs : g.outs v ≡ h.outs v

-- the partials of a vertex with those of the tail of a block, where there is one
abbrev pub with_block : Option Dense → Split → Sight → ℕ → List Partial → LoopState → ℕ → List Partial
with_block None split g key ps st v = ps
with_block (Some dense) split g key ps st v = tail_at split dense g key ps st v

-- and where the tail runs
abbrev pub ending_partials : Bool → Split → Sight → ℕ → List Partial → LoopState → ℕ → List Partial
ending_partials true split g key ps st v = with_block (program_of split).dense split g key ps st v
ending_partials false split g key ps st v = ps

-- the row of a vertex at the end of the round
abbrev pub ended_row : Bool → Split → Sight → ℕ → List Partial → LoopState → ℕ → Row
ended_row tail split g key ps st v = closed_row split g (ending_partials tail split g key ps st v) v

-- the same by the partials and states of all own vertices
abbrev pub ended_at : Bool → Split → Sight → ℕ → ℕ → List (List Partial) → List LoopState → ℕ → Row
ended_at tail split g key start partials states v =
    ended_row tail split g key (slice_index_or partials (v - start) [])
    (slice_index_or states (v - start) (fresh split)) v

-- whether the tail of a block does anything
abbrev pub has_statements : List Stmt → Bool
has_statements [] = false
has_statements (s ∷ ss) = true

abbrev pub has_tail : Option Dense → Bool
has_tail None = false
has_tail (Some dense) = has_statements dense.tail.items

-- what the close of a round leaves of a state
pub record Closes (s : State) (r : ℕ) (dense : Bool) (own : List Row) (came : List (List Partial))
    (loops : List LoopState) : Type 0 where
  pub rows : own ≡ (close_go s r dense).rows
  pub partials : came ≡ (close_go s r dense).partials
  pub ring : loops ≡ (close_go s r dense).ring

-- code, tables of so many own vertices and an environment by which a round of a program can be closed
pub record CanClose (program : Split) (lists : Code) (start count many wide : ℕ) (env : Env) : Type 0 where
  pub code : IsCodeOf (program_of program) lists
  pub each : many ≡ count
  pub width : wide ≡ field_count program
  pub totals : length env.totals.items ≡ total_count program
  pub round : env.round ≤ 10000
  pub ids : start + count ≤ 2 ^ 24
