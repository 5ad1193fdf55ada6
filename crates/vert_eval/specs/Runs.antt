-- One run of a list of statements, and the loop over neighbours.
use Rattle.std.specs.Prelude.{ℕ, ℤ, ◌^◌, List, [], ◌∷◌, ◌++◌, map, Option, Some, None, bit_or, if◌then◌else◌}
use Rattle.std.specs.declared.alloc.Global.{Global}
use Rattle.std.specs.declared.vec.Vec.{Vec}
use Rattle.arrayvec.specs.ArrayVec.{with_item}
use Rattle.vert_tree.specs.declared.statement.AssignOp.{AssignOp}
use Rattle.vert_tree.specs.declared.statement.AssignOp.TheVariants as assign
use Rattle.vert_tree.specs.declared.name.What.{What}
use Rattle.vert_tree.specs.declared.name.What.TheVariants as what
use Rattle.vert_tree.specs.declared.statement.Stmt.{Stmt}
use Rattle.vert_tree.specs.declared.statement.Stmt.TheOpen.{Stmt-F, Assign, SetActive, If, Emit, Break}
use Rattle.vert_tree.specs.declared.statement.Stmt.TheFolds.{fold-Stmt}
use Rattle.slot_merge.specs.Combine.{Emission}
use Rattle.vert_eval.specs.declared.environment.Env.{Env}
use Rattle.vert_eval.specs.declared.environment.Flow.{Flow}
use Rattle.vert_eval.specs.declared.environment.Flow.TheVariants.{Going, Broke}
use Rattle.vert_eval.specs.Words.{is_set, assigned}
use Rattle.vert_eval.specs.Values.{word_at, value_of}

-- what a run leaves, emits and reads, and how it ends
pub record Ran : Type 0 where
  pub env : Env
  pub emitted : List Emission
  pub reads : List ℕ
  pub flow : Flow

abbrev pub Act : Type 0
Act = Env → Ran

-- a run that emits and reads nothing and goes on
abbrev pub leaves : Env → Ran
leaves env = record { env = env; emitted = []; reads = []; flow = Going }

-- the second run, with the emissions and reads of the first in front
abbrev pub after : Ran → Ran → Ran
after first second = record second { emitted = first.emitted ++ second.emitted; reads = first.reads ++ second.reads }

abbrev pub by_flow : Flow → Ran → Ran → Ran
by_flow Broke broke going = broke
by_flow Going broke going = going

-- goes on unless it broke
abbrev pub followed_by : Ran → Act → Ran
followed_by r next = by_flow r.flow r (after r (next r.env))

-- one after another, up to a break
abbrev pub in_turn : List Act → Act
in_turn [] env = leaves env
in_turn (act ∷ acts) env = followed_by (act env) (in_turn acts)

-- an `op=` on a local is noted, a plain assignment isn't
abbrev pub noted : AssignOp → ℕ → ℕ → ℕ
noted assign.Set i touched = touched
noted _ i touched = bit_or touched (2 ^ i)

abbrev pub with_target : What → AssignOp → ℤ → Env → Env
with_target (what.Field i) op x env =
    record env {
      row = record env.row {
        words = with_item env.row.words i
            (assigned op (word_at env.row.words.items i) x);
      };
    }
with_target (what.Local i) op x env =
    record env {
      locals = with_item env.locals i (assigned op (word_at env.locals.items i) x);
      touched = noted op i env.touched;
    }
with_target _ op x env = env

abbrev pub emission : What → ℤ → List Emission
emission (what.Slot i) x = record { slot = i; word = x } ∷ []
emission _ x = []

-- the acts of a block that may be missing
abbrev pub acts_of : Option (Vec Act Global) → List Act
acts_of None = []
acts_of (Some acts) = acts.items

-- one statement, with what its inner statements do in their place
abbrev pub act_step : Stmt-F Act → Act
act_step (Assign target op e) env = leaves (with_target target.what op (value_of e env) env)
act_step (SetActive _ e) env = leaves (record env { next_active = is_set (value_of e env) })
act_step (If _ test held otherwise) env = if is_set (value_of test env) then in_turn held.items env
    else in_turn (acts_of otherwise) env
act_step (Emit _ slot e) env = record (leaves env) { emitted = emission slot.what (value_of e env) }
act_step (Break _) env = record (leaves env) { flow = Broke }

-- what a statement does
abbrev pub act_of : Stmt → Act
act_of = fold-Stmt Act act_step

-- one run of a list of statements
abbrev pub run : List Stmt → Act
run body = in_turn (map act_of body)
