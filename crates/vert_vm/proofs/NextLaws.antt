-- What a step does to the run of what is left, and what a load does, whose value the next instruction takes.
use Rattle.std.proofs.Common.{◌≡◌, ℕ, ℤ, suc, ◌+◌, ◌<◌, ◌≤◌, List, [], ◌∷◌, drop, get_or, length, sym, ap, ◌∙◌, subst, arith, length-drop}
use Rattle.std.specs.Prelude.{Option, None, Some, IfSome}
use Rattle.slot_merge.specs.declared.partial.Partial.{Partial}
use Rattle.slot_merge.specs.Partials.{with_emissions}
use Rattle.vert_eval.specs.declared.environment.Env.{Env}
use Rattle.vert_eval.specs.declared.environment.Flow.TheVariants.{Going}
use Rattle.vert_eval.specs.Runs.{followed_by}
use Rattle.vert_code.specs.declared.instr.Instr.{Instr}
use Rattle.vert_code.specs.Machine.{Step, gives, goes_on, step}
use Rattle.vert_vm.specs.Ends.{SameEnd, rest_of}
use Rattle.vert_vm.specs.Steps.{IsEntered}
use Rattle.vert_vm.proofs.EndLaws.{going_ends}
use Rattle.vert_vm.proofs.StepLaws.{entered_at, low_entry, step_at, within_at}

-- two facts of an answer, where there is one
pub if_both : (P Q R : ℕ → Type 0) (r : Option ℕ) → IfSome r P → IfSome r Q → ((n : ℕ) → P n → Q n → R n) → IfSome r R
if_both P Q R None p q f = p
if_both P Q R (Some n) p q f = f n p q

-- a list that is entered with a value goes on
some_left : (place height : ℕ) (list : List Instr) → IsEntered place (suc height) list → 0 < length list
some_left place height [] e = let none : 0 ≡ suc height = e.entry in absurd (omega arith)
some_left place height (i ∷ list) e = omega arith

-- a step that left this stack, environment and partials
module _ (list : List Instr) (place : ℕ) (i : Instr) (lt : place < length list) (is : i ≡ get_or list place i)
    (stack left_stack : List ℤ) (env left : Env) (ps qs : List Partial)
    (entered : IsEntered place (length stack) (drop place list))
    (same_stack : left_stack ≡ (step i place stack env).stack)
    (same_env : left ≡ (step i place stack env).ran.env)
    (same_partials : qs ≡ with_emissions env.key ps (step i place stack env).ran.emitted) where
  whole_is : (next : ℕ) → next ≡ place + 1 + (step i place stack env).over →
      rest_of list place stack env ≡ followed_by (step i place stack env).ran (rest_of list next left_stack)
  whole_is next to =
      let s = step i place stack env in
      step_at list place i lt is stack env next to entered ∙ ap (λ (xs : List ℤ). followed_by s.ran (goes_on next
      (drop next list) 0 xs)) (sym same_stack)

  pub next_ends : left.key ≡ env.key → (next : ℕ) → next ≡ place + 1 + (step i place stack env).over → Going ≡
      (step i place stack env).ran.flow →
      SameEnd left.key qs (rest_of list next left_stack left) env.key ps (rest_of list place stack env)
  next_ends same_key next to going =
      let s = step i place stack env in
      going_ends env.key ps qs s.ran (rest_of list next left_stack) _ left (whole_is next to) same_env going
      same_partials same_key

  pub next_entered : (next : ℕ) → next ≡ place + 1 + (step i place stack env).over → IsEntered next (length
      left_stack) (drop next list)
  next_entered next to =
      subst (λ (xs : List ℤ). IsEntered next (length xs) (drop next list)) (sym same_stack) (entered_at list place
      i lt is stack env next to entered)

  pub next_within : (next : ℕ) → next ≡ place + 1 + (step i place stack env).over → next ≤ length list
  next_within next to = within_at list place i lt is stack env next to entered

-- an instruction that loads a value, which then lies on the stack
module _ (list : List Instr) (place : ℕ) (i : Instr) (lt : place < length list) (is : i ≡ get_or list place i)
    (value : ℤ) (stack : List ℤ) (env : Env)
    (loads : step i place stack env ≡ gives value stack env) (entered : IsEntered place (length stack) (drop place
    list)) where
  to_next : place + 1 ≡ place + 1 + (step i place stack env).over
  to_next = let none : (step i place stack env).over ≡ 0 = ap (λ (s : Step). s.over) loads in omega arith

  pub load_is : rest_of list place stack env ≡ rest_of list (place + 1) (value ∷ stack) env
  load_is =
      step_at list place i lt is stack env (place + 1) to_next entered
      ∙ ap (λ (s : Step). followed_by s.ran (goes_on (place + 1) (drop (place + 1) list) 0 s.stack)) loads

  pub load_entered : IsEntered (place + 1) (length (value ∷ stack)) (drop (place + 1) list)
  load_entered =
      subst (λ (s : Step). IsEntered (place + 1) (length s.stack) (drop (place + 1) list)) loads (entered_at list
      place i lt is stack env (place + 1) to_next entered)

  -- so the list goes on
  pub load_more : place + 1 < length list
  load_more = omega (
    arith,
    some_left (place + 1) (length stack) (drop (place + 1) list) load_entered,
    length-drop
        (place + 1) list,
  )

  pub load_low : length stack < 64
  load_low = omega (arith, low_entry (place + 1) (length (value ∷ stack)) (drop (place + 1) list) load_entered)
