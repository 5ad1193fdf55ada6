-- One step of the machine in a list that is level.
use Rattle.std.proofs.Common.{◌≡◌, ℕ, ℤ, zero, suc, ◌+◌, ◌-◌, ◌<◌, ◌≤◌, Bool, true, false, ◌&&◌, List, [], ◌∷◌, drop, get_or, length, refl, sym, ap, ◌∙◌, subst, arith, add-one, drop-cons, length-drop}
use Rattle.std.specs.Prelude.{◌==◌, nat_le, nat_lt, slice_index, slice_index_or, if◌then◌else◌}
use Rattle.std.specs.List.{list_all}
use Rattle.std.proofs.Math.Seq.{drop-nil}
use Rattle.std.proofs.lemmas.Bool.{and_parts, eqb-true, leb-true, ltb-true}
use Rattle.vert_tree.specs.Places.{Counts}
use Rattle.vert_eval.specs.declared.environment.Env.{Env}
use Rattle.vert_eval.specs.Runs.{Act, followed_by}
use Rattle.vert_eval.specs.Words.{is_set}
use Rattle.vert_code.specs.Blocks.{place_of}
use Rattle.vert_code.specs.declared.instr.Block.{Block}
use Rattle.vert_code.specs.declared.instr.Block.TheVariants.{Loop, Tail, SparseBody, UpdateBody}
use Rattle.vert_code.specs.declared.instr.Instr.{Instr}
use Rattle.vert_code.specs.declared.instr.Instr.TheVariants.{Push, Word, Field, Local, Sent, Total, Got, Value, OtherField, OtherWord, Draw, Neg, Not, Op, Least, Greatest, ToLocal, ToField, ToActive, Emit, Jump, JumpUnless, Break}
use Rattle.vert_code.specs.Machine.{Step, goes_on, passed, step, top, under}
use Rattle.vert_code.specs.Valid.{Way, Onward, Leap, Fork, has_names, heights, is_level, breaks_where, is_list, is_target, is_valid, leads_well, list_names, most, way_of}
use Rattle.vert_code.proofs.Levels.{length-heights}
use Rattle.vert_vm.specs.Steps.{CanStep, IsEntered}

length-under : (stack : List ℤ) → length (under stack) ≡ length stack - 1
length-under [] = refl
length-under (x ∷ stack) = omega arith

-- the heights behind some instructions
heights-drop : (n : ℕ) (place : ℕ) (list : List Instr) → n ≤ length list →
    slice_index (heights place list) n ≡ slice_index (heights (place + n) (drop n list)) 0
heights-drop zero place list within = let same : place ≡ place + 0 = omega arith in
    ap (λ (q : ℕ). slice_index (heights q list) 0) same
heights-drop (suc n) place [] within = absurd (omega arith)
heights-drop (suc n) place (i ∷ rest) within =
    let same : place + 1 + n ≡ place + suc n = omega arith in
    let less : n ≤ length rest = omega arith in
    heights-drop n (place + 1) rest less ∙ ap (λ (q : ℕ). slice_index (heights q (drop n rest)) 0) same

-- what a level list says of its first instruction
record Opened (place height : ℕ) (i : Instr) (rest : List Instr) : Type 0 where
  low : height ≤ 64
  well : leads_well (way_of i) place height (heights (place + 1) rest) ≡ true
  level : is_level (place + 1) rest ≡ true

opened : (place height : ℕ) (i : Instr) (rest : List Instr) → IsEntered place height (i ∷ rest) →
    Opened place height i rest
opened place height i rest e =
    let at = slice_index (heights place (i ∷ rest)) 0 in
    let one = and_parts (nat_le at 64) (leads_well (way_of i) place at (heights (place + 1) rest)
    && is_level (place + 1) rest) e.level in
    let two = and_parts (leads_well (way_of i) place at (heights (place + 1) rest)) (is_level (place + 1) rest) one.1 in
    record {
      low = leb-true height 64 (ap (λ (h : ℕ). nat_le h 64) (sym e.entry) ∙ one.0);
      well = ap (λ (h : ℕ). leads_well (way_of i) place h (heights (place + 1) rest)) (sym e.entry) ∙ two.0;
      level = two.1;
    }

level-drop : (n : ℕ) (place : ℕ) (list : List Instr) → n ≤ length list → is_level place list ≡ true →
    is_level (place + n) (drop n list) ≡ true
level-drop zero place list within h = let same : place + 0 ≡ place = omega arith in
    ap (λ (q : ℕ). is_level q list) same ∙ h
level-drop (suc n) place [] within h = absurd (omega arith)
level-drop (suc n) place (i ∷ rest) within h =
    let same : place + suc n ≡ place + 1 + n = omega arith in
    let less : n ≤ length rest = omega arith in
    ap (λ (q : ℕ). is_level q (drop n rest)) same
    ∙ level-drop n (place + 1) rest less
    (opened place (slice_index (heights place (i ∷ rest)) 0) i rest (record { entry = refl; level = h })).level

-- no level list is entered above 64
pub low_entry : (place height : ℕ) (list : List Instr) → IsEntered place height list → height ≤ 64
low_entry place height [] e = let none : 0 ≡ height = e.entry in omega arith
low_entry place height (i ∷ rest) e = (opened place height i rest e).low

-- the list at the target of a jump
record Landed (place target height : ℕ) (rest : List Instr) : Type 0 where
  ahead : place < target
  within : passed place target ≤ length rest
  entered : IsEntered (place + 1 + passed place target) height (drop (passed place target) rest)

landed : (place target height : ℕ) (rest : List Instr) → is_target place target (heights (place + 1) rest) height
    ≡ true → is_level (place + 1) rest ≡ true → Landed place target height rest
landed place target height rest h level =
    let n = passed place target in
    let behind = heights (place + 1) rest in
    let one = and_parts (nat_lt place target) (nat_lt n (length behind) && (slice_index behind n == height)) h in
    let two = and_parts (nat_lt n (length behind)) (slice_index behind n == height) one.1 in
    let short = ltb-true n (length behind) two.0 in
    let inside : n ≤ length rest = omega (arith, length-heights rest (place + 1)) in
    record {
      ahead = ltb-true place target one.0;
      within = inside;
      entered = record {
        entry = sym (heights-drop n (place + 1) rest inside) ∙ eqb-true (slice_index behind n) height two.1;
        level = level-drop n (place + 1) rest inside level;
      };
    }

-- behind an instruction that leads on
entered_onward : (i : Instr) (takes gives place height : ℕ) (rest : List Instr) → way_of i ≡ Onward takes gives →
    IsEntered place height (i ∷ rest) →
    (takes ≤ height) × IsEntered (place + 1) (height - takes + gives) rest
entered_onward i takes gives place height rest way e =
    let o = opened place height i rest e in
    let behind = heights (place + 1) rest in
    let well : leads_well (Onward takes gives) place height behind ≡ true =
    ap (λ (w : Way). leads_well w place height behind) (sym way) ∙ o.well in
    let two = and_parts (nat_le takes height) (slice_index behind 0 == height - takes + gives) well in (
      leb-true takes height two.0,
      record {
        entry = eqb-true (slice_index behind 0) (height - takes + gives) two.1;
        level = o.level;
      },
    )

entered_leap : (target place height : ℕ) (rest : List Instr) → IsEntered place height (Jump target ∷ rest) →
    Landed place target height rest
entered_leap target place height rest e = let o = opened place height (Jump target) rest e in
    landed place target height rest o.well o.level

record Forked (place target height : ℕ) (rest : List Instr) : Type 0 where
  some : 1 ≤ height
  next : IsEntered (place + 1) (height - 1) rest
  other : Landed place target (height - 1) rest

entered_fork : (target place height : ℕ) (rest : List Instr) → IsEntered place height (JumpUnless target ∷ rest) →
    Forked place target height rest
entered_fork target place height rest e =
    let o = opened place height (JumpUnless target) rest e in
    let behind = heights (place + 1) rest in
    let one = and_parts (nat_le 1 height) ((slice_index behind 0 == height - 1)
    && is_target place target behind (height - 1)) o.well in
    let two = and_parts (slice_index behind 0 == height - 1) (is_target place target behind (height - 1)) one.1 in
    record {
      some = leb-true 1 height one.0;
      next = record { entry = eqb-true (slice_index behind 0) (height - 1) two.0; level = o.level };
      other = landed place target (height - 1) rest two.1 o.level;
    }

can_way : (i : Instr) (w : Way) (place height : ℕ) (rest : List Instr) → way_of i ≡ w →
    IsEntered place height (i ∷ rest) → CanStep w place height
can_way i (Onward takes gives) place height rest way e =
    let a = entered_onward i takes gives place height rest way e in
    (a.0, low_entry place height (i ∷ rest) e, low_entry (place + 1) (height - takes + gives) rest a.1)
can_way i (Leap target) place height rest way e =
    let o = opened place height i rest e in
    (landed place target height rest (ap (λ (w : Way). leads_well w place height (heights (place + 1) rest)) (sym way)
    ∙ o.well) o.level).ahead
can_way i (Fork target) place height rest way e =
    let o = opened place height i rest e in
    let behind = heights (place + 1) rest in
    let well = ap (λ (w : Way). leads_well w place height behind) (sym way) ∙ o.well in
    let one = and_parts (nat_le 1 height) ((slice_index behind 0 == height - 1)
    && is_target place target behind (height - 1)) well in
    let two = and_parts (slice_index behind 0 == height - 1) (is_target place target behind (height - 1)) one.1 in
    (leb-true 1 height one.0, (landed place target (height - 1) rest two.1 o.level).ahead)

pub can_step : (i : Instr) (place height : ℕ) (rest : List Instr) → IsEntered place height (i ∷ rest) →
    CanStep (way_of i) place height
can_step i place height rest e = can_way i (way_of i) place height rest refl e

-- where a step leads
pub record Goes (place : ℕ) (rest : List Instr) (s : Step) : Type 0 where
  pub within : s.over ≤ length rest
  pub entered : IsEntered (place + 1 + s.over) (length s.stack) (drop s.over rest)

module _ (i : Instr) (takes gives place : ℕ) (rest : List Instr) (stack : List ℤ) (env : Env) (s : Step) where
  onward_goes : way_of i ≡ Onward takes gives → IsEntered place (length stack) (i ∷ rest) → s.over ≡ 0 →
      length s.stack ≡ length stack - takes + gives → Goes place rest s
  onward_goes way e none size =
      let a = entered_onward i takes gives place (length stack) rest way e in
      let same : place + 1 ≡ place + 1 + s.over = omega arith in
      record {
        within = omega arith;
        entered = subst (λ (q : ℕ). IsEntered q (length s.stack) (drop s.over rest)) same
            (subst (λ (n : ℕ). IsEntered (place + 1) (length s.stack) (drop n rest)) (sym none)
            (subst (λ (h : ℕ). IsEntered (place + 1) h rest) (sym size) a.1));
      }

module _ (place : ℕ) (rest : List Instr) (stack : List ℤ) (env : Env) where
  load_goes : (i : Instr) → way_of i ≡ Onward 0 1 → IsEntered place (length stack) (i ∷ rest) → (x : ℤ) → (s : Step) →
      s.over ≡ 0 → s.stack ≡ x ∷ stack → Goes place rest s
  load_goes i way e x s none is = onward_goes i 0 1 place rest stack env s way e none (let size = ap length is in
      omega arith)

  one_goes : (i : Instr) → way_of i ≡ Onward 1 1 → IsEntered place (length stack) (i ∷ rest) → (x : ℤ) → (s : Step) →
      s.over ≡ 0 → s.stack ≡ x ∷ under stack → Goes place rest s
  one_goes i way e x s none is = onward_goes i 1 1 place rest stack env s way e none (let size = ap length is in
      omega (arith, length-under stack))

  two_goes : (i : Instr) → way_of i ≡ Onward 2 1 → IsEntered place (length stack) (i ∷ rest) → (x : ℤ) → (s : Step) →
      s.over ≡ 0 → s.stack ≡ x ∷ under (under stack) → Goes place rest s
  two_goes i way e x s none is = onward_goes i 2 1 place rest stack env s way e none (let size = ap length is in
      omega (arith, length-under stack, length-under (under stack)))

  take_goes : (i : Instr) → way_of i ≡ Onward 1 0 → IsEntered place (length stack) (i ∷ rest) → (s : Step) →
      s.over ≡ 0 → s.stack ≡ under stack → Goes place rest s
  take_goes i way e s none is = onward_goes i 1 0 place rest stack env s way e none (let size = ap length is in
      omega (arith, length-under stack))

  fork_goes : (target : ℕ) (b : Bool) → IsEntered place (length stack) (JumpUnless target ∷ rest) → (s : Step) →
      s.over ≡ (if b then 0 else passed place target) → s.stack ≡ under stack → Goes place rest s
  fork_goes target true e s over is =
      let f = entered_fork target place (length stack) rest e in
      let same : place + 1 ≡ place + 1 + s.over = omega arith in
      let size : length stack - 1 ≡ length s.stack = let l = ap length is in omega (arith, length-under stack) in
      record {
        within = omega arith;
        entered = subst (λ (q : ℕ). IsEntered q (length s.stack) (drop s.over rest)) same
            (subst (λ (n : ℕ). IsEntered (place + 1) (length s.stack) (drop n rest)) (sym over)
            (subst (λ (h : ℕ). IsEntered (place + 1) h rest) size f.next));
      }
  fork_goes target false e s over is =
      let f = (entered_fork target place (length stack) rest e).other in
      let size : length stack - 1 ≡ length s.stack = let l = ap length is in omega (arith, length-under stack) in
      record {
        within = subst (λ (n : ℕ). n ≤ length rest) (sym over) f.within;
        entered = subst (λ (n : ℕ). IsEntered (place + 1 + n) (length s.stack) (drop n rest)) (sym over)
            (subst (λ (h : ℕ). IsEntered (place + 1 + passed place target) h (drop (passed place target) rest)) size
            f.entered);
      }

  pub step_goes : (i : Instr) → IsEntered place (length stack) (i ∷ rest) → Goes place rest (step i place stack env)
  step_goes (Push x) e = load_goes (Push x) refl e _ _ refl refl
  step_goes (Word w) e = load_goes (Word w) refl e _ _ refl refl
  step_goes (Field k) e = load_goes (Field k) refl e _ _ refl refl
  step_goes (Local k) e = load_goes (Local k) refl e _ _ refl refl
  step_goes (Sent k) e = load_goes (Sent k) refl e _ _ refl refl
  step_goes (Total k) e = load_goes (Total k) refl e _ _ refl refl
  step_goes (Got k) e = load_goes (Got k) refl e _ _ refl refl
  step_goes (Value k) e = load_goes (Value k) refl e _ _ refl refl
  step_goes (OtherField k) e = load_goes (OtherField k) refl e _ _ refl refl
  step_goes (OtherWord w) e = load_goes (OtherWord w) refl e _ _ refl refl
  step_goes (Draw k) e = load_goes (Draw k) refl e _ _ refl refl
  step_goes Neg e = one_goes Neg refl e _ _ refl refl
  step_goes Not e = one_goes Not refl e _ _ refl refl
  step_goes (Op op) e = two_goes (Op op) refl e _ _ refl refl
  step_goes Least e = two_goes Least refl e _ _ refl refl
  step_goes Greatest e = two_goes Greatest refl e _ _ refl refl
  step_goes (ToLocal op k) e = take_goes (ToLocal op k) refl e _ refl refl
  step_goes (ToField op k) e = take_goes (ToField op k) refl e _ refl refl
  step_goes ToActive e = take_goes ToActive refl e _ refl refl
  step_goes (Emit k) e = take_goes (Emit k) refl e _ refl refl
  step_goes (Jump target) e = let l = entered_leap target place (length stack) rest e in
      record { within = l.within; entered = l.entered }
  step_goes (JumpUnless target) e = fork_goes target (is_set (top stack)) e _ refl refl
  step_goes Break e = onward_goes Break 0 0 place rest stack env (step Break place stack env) refl e refl (omega arith)

-- ---- the list from a place on
passing : (n place : ℕ) (list : List Instr) → n ≤ length list →
    goes_on place list n ≡ goes_on (place + n) (drop n list) 0
passing zero place list within = let same : place ≡ place + 0 = omega arith in ap (λ (q : ℕ). goes_on q list 0) same
passing (suc n) place [] within = absurd (omega arith)
passing (suc n) place (i ∷ rest) within =
    let same : place + 1 + n ≡ place + suc n = omega arith in
    let less : n ≤ length rest = omega arith in
    passing n (place + 1) rest less ∙ ap (λ (q : ℕ). goes_on q (drop n rest) 0) same

drop-drop : {X : Type 0} (n m : ℕ) (xs : List X) → drop m (drop n xs) ≡ drop (n + m) xs
drop-drop zero m xs = let same : m ≡ 0 + m = omega arith in ap (λ (k : ℕ). drop k xs) same
drop-drop {X} (suc n) m [] = drop-nil {A = X} m ∙ sym (drop-nil {A = X} (suc n + m))
drop-drop (suc n) m (x ∷ xs) = let same : suc (n + m) ≡ suc n + m = omega arith in
    drop-drop n m xs ∙ ap (λ (k : ℕ). drop k (x ∷ xs)) same

module _ (list : List Instr) (place : ℕ) (i : Instr) (lt : place < length list) (is : i ≡ get_or list place i) where
  pub head_at : drop place list ≡ i ∷ drop (place + 1) list
  head_at = drop-cons list place i lt ∙ ap (λ (y : Instr). y ∷ drop (suc place) list) (sym is)
      ∙ ap (λ (n : ℕ). i ∷ drop n list) (sym (add-one place))

  pub goes_at : (stack : List ℤ) (env : Env) → IsEntered place (length stack) (drop place list) →
      Goes place (drop (place + 1) list) (step i place stack env)
  goes_at stack env e = step_goes place (drop (place + 1) list) stack env i
      (subst (IsEntered place (length stack)) head_at e)

  pub can_at : (height : ℕ) → IsEntered place height (drop place list) → CanStep (way_of i) place height
  can_at height e = can_step i place height (drop (place + 1) list) (subst (IsEntered place height) head_at e)

  -- a step, and then what is left from where it leads
  pub step_at : (stack : List ℤ) (env : Env) (next : ℕ) → next ≡ place + 1 + (step i place stack env).over →
      IsEntered place (length stack) (drop place list) →
      goes_on place (drop place list) 0 stack env
      ≡ followed_by (step i place stack env).ran (goes_on next (drop next list) 0 (step i place stack env).stack)
  step_at stack env next to e =
      let s = step i place stack env in
      let rest = drop (place + 1) list in
      let go = goes_at stack env e in
      ap (λ (l : List Instr). goes_on place l 0 stack env) head_at
      ∙ ap (λ (f : List ℤ → Act). followed_by s.ran (f s.stack)) (passing s.over (place + 1) rest go.within)
      ∙ ap (λ (l : List Instr). followed_by s.ran (goes_on (place + 1 + s.over) l 0 s.stack))
      (drop-drop (place + 1) s.over list)
      ∙ ap (λ (n : ℕ). followed_by s.ran (goes_on n (drop n list) 0 s.stack)) (sym to)

  pub entered_at : (stack : List ℤ) (env : Env) (next : ℕ) → next ≡ place + 1 + (step i place stack env).over →
      IsEntered place (length stack) (drop place list) →
      IsEntered next (length (step i place stack env).stack) (drop next list)
  entered_at stack env next to e =
      let s = step i place stack env in
      subst (λ (n : ℕ). IsEntered n (length s.stack) (drop n list)) (sym to)
      (subst (IsEntered (place + 1 + s.over) (length s.stack)) (drop-drop (place + 1) s.over list)
      (goes_at stack env e).entered)

  -- and all of that for the stack that the step left
  pub within_at : (stack : List ℤ) (env : Env) (next : ℕ) → next ≡ place + 1 + (step i place stack env).over →
      IsEntered place (length stack) (drop place list) → next ≤ length list
  within_at stack env next to e =
      let size = ap length head_at in
      omega (arith, (goes_at stack env e).within, length-drop place list)

-- an instruction of a list that names only what there is
pub names_at : (c : Counts) (list : List Instr) (place : ℕ) (i : Instr) → place < length list →
    i ≡ get_or list place i → list_names c list ≡ true → has_names c i ≡ true
names_at c [] place i lt is h = absurd (omega arith)
names_at c (x ∷ xs) zero i lt is h = ap (has_names c) is ∙ (and_parts (has_names c x) (list_names c xs) h).0
names_at c (x ∷ xs) (suc n) i lt is h = names_at c xs n i (omega arith) is
    (and_parts (has_names c x) (list_names c xs) h).1

-- at the end the stack is empty
pub ended : (place : ℕ) (stack : List ℤ) → IsEntered place (length stack) [] → stack ≡ []
ended place [] e = refl
ended place (x ∷ stack) e = let none : 0 ≡ length (x ∷ stack) = e.entry in absurd (omega arith)

-- the lists of a code are entered with an empty stack
module _ (may : Bool) (list : List Instr) (h : is_list may list ≡ true) where
  list_entered : IsEntered 0 0 list
  list_entered =
      let rest = list_names most list && list_all (breaks_where may) list in
      let one = and_parts (slice_index (heights 0 list) 0 == 0) (is_level 0 list && rest) h in
      record {
        entry = eqb-true (slice_index (heights 0 list) 0) 0 one.0;
        level = (and_parts (is_level 0 list) rest one.1).0;
      }

pub code_entered : (lists : List (List Instr)) → is_valid lists ≡ true → (block : Block) →
    IsEntered 0 0 (slice_index_or lists (place_of block) [])
code_entered [] h block = cc
code_entered (a ∷ []) h block = cc
code_entered (a ∷ b ∷ []) h block = cc
code_entered (a ∷ b ∷ c ∷ []) h block = cc
code_entered (a ∷ b ∷ c ∷ d ∷ e ∷ more) h block = cc
code_entered (a ∷ b ∷ c ∷ d ∷ []) h Loop = list_entered true a
    (and_parts (is_list true a) (is_list false b && (is_list false c && is_list false d)) h).0
code_entered (a ∷ b ∷ c ∷ d ∷ []) h Tail =
    list_entered false b (and_parts (is_list false b) (is_list false c && is_list false d)
    (and_parts (is_list true a) (is_list false b && (is_list false c && is_list false d)) h).1).0
code_entered (a ∷ b ∷ c ∷ d ∷ []) h SparseBody =
    list_entered false c (and_parts (is_list false c) (is_list false d)
    (and_parts (is_list false b) (is_list false c && is_list false d)
    (and_parts (is_list true a) (is_list false b && (is_list false c && is_list false d)) h).1).1).0
code_entered (a ∷ b ∷ c ∷ d ∷ []) h UpdateBody =
    list_entered false d (and_parts (is_list false c) (is_list false d)
    (and_parts (is_list false b) (is_list false c && is_list false d)
    (and_parts (is_list true a) (is_list false b && (is_list false c && is_list false d)) h).1).1).1
