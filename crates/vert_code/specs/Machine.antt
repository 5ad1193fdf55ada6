-- What a list of instructions does.
use Rattle.std.specs.Prelude.{ℕ, ℤ, zero, suc, ◌+◌, ◌-◌, pos, neg_ℤ, not, List, [], ◌∷◌, is_some, unwrap_or, if◌then◌else◌}
use Rattle.std.specs.Int.{int_min, int_max}
use Rattle.draw_source.specs.Draws.{draw_word}
use Rattle.vert_tree.specs.declared.name.What.TheVariants as what
use Rattle.vert_eval.specs.declared.environment.Env.{Env}
use Rattle.vert_eval.specs.declared.environment.Flow.TheVariants.{Broke}
use Rattle.vert_eval.specs.Runs.{Act, Ran, emission, followed_by, leaves, with_target}
use Rattle.vert_eval.specs.Values.{builtin, named, other_builtin, other_field, slot_value}
use Rattle.vert_eval.specs.Words.{binary, is_set, word_of, wrapped}
use Rattle.vert_code.specs.declared.instr.Instr.{Instr}
use Rattle.vert_code.specs.declared.instr.Instr.TheVariants.{Push, Word, Field, Local, Sent, Total, Got, Value, OtherField, OtherWord, Draw, Neg, Not, Op, Least, Greatest, ToLocal, ToField, ToActive, Emit, Jump, JumpUnless, Break}

-- the topmost value of a stack, or 0 where it is empty
abbrev pub top : List ℤ → ℤ
top [] = pos 0
top (x ∷ stack) = x

-- the stack without it
abbrev pub under : List ℤ → List ℤ
under [] = []
under (x ∷ stack) = stack

-- what one instruction leaves: how many instructions are passed over next, the stack and the run
pub record Step : Type 0 where
  pub over : ℕ
  pub stack : List ℤ
  pub ran : Ran

-- on to the next instruction
abbrev pub onward : List ℤ → Ran → Step
onward stack ran = record { over = 0; stack = stack; ran = ran }

-- one more value
abbrev pub gives : ℤ → List ℤ → Env → Step
gives x stack env = onward (x ∷ stack) (leaves env)

-- how many instructions a jump passes over
abbrev pub passed : ℕ → ℕ → ℕ
passed place target = target - (place + 1)

-- what an instruction at a place leaves
abbrev pub step : Instr → ℕ → List ℤ → Env → Step
step (Push x) place stack env = gives x stack env
step (Word w) place stack env = gives (builtin w env) stack env
step (Field i) place stack env = gives (named (what.Field i) env) stack env
step (Local i) place stack env = gives (named (what.Local i) env) stack env
step (Sent i) place stack env = gives (named (what.Send i) env) stack env
step (Total i) place stack env = gives (named (what.Total i) env) stack env
step (Got i) place stack env = gives (word_of (is_some (slot_value (what.Slot i) env))) stack env
step (Value i) place stack env = gives (unwrap_or (slot_value (what.Slot i) env) (pos 0)) stack env
step (OtherField i) place stack env = gives (other_field (what.Field i) env) stack env
step (OtherWord w) place stack env = gives (other_builtin w env) stack env
step (Draw k) place stack env = gives (pos (draw_word env.draws env.round env.id.0 k)) stack env
step Neg place stack env = gives (wrapped (neg_ℤ (top stack))) (under stack) env
step Not place stack env = gives (word_of (not (is_set (top stack)))) (under stack) env
step (Op op) place stack env = gives (binary op (top (under stack)) (top stack)) (under (under stack)) env
step Least place stack env = gives (int_min (top (under stack)) (top stack)) (under (under stack)) env
step Greatest place stack env = gives (int_max (top (under stack)) (top stack)) (under (under stack)) env
step (ToLocal op i) place stack env = onward (under stack) (leaves (with_target (what.Local i) op (top stack) env))
step (ToField op i) place stack env = onward (under stack) (leaves (with_target (what.Field i) op (top stack) env))
step ToActive place stack env = onward (under stack) (leaves (record env { next_active = is_set (top stack) }))
step (Emit i) place stack env = onward (under stack)
    (record (leaves env) { emitted = emission (what.Slot i) (top stack) })
step (Jump target) place stack env = record { over = passed place target; stack = stack; ran = leaves env }
step (JumpUnless target) place stack env =
    record { over = if is_set (top stack) then 0 else passed place target; stack = under stack; ran = leaves env }
step Break place stack env = onward stack (record (leaves env) { flow = Broke })

-- the instructions from a place on, passing over so many first
abbrev pub goes_on : ℕ → List Instr → ℕ → List ℤ → Act
goes_on place [] over stack env = leaves env
goes_on place (i ∷ rest) (suc over) stack env = goes_on (place + 1) rest over stack env
goes_on place (i ∷ rest) zero stack env =
    let s = step i place stack env in followed_by s.ran (goes_on (place + 1) rest s.over s.stack)

-- the run of a list from a place in it on, with this stack
abbrev pub run_from : List Instr → ℕ → List ℤ → Act
run_from list place stack env = goes_on 0 list place stack env

-- the run of a whole list
abbrev pub run_code : List Instr → Act
run_code list = run_from list 0 []
