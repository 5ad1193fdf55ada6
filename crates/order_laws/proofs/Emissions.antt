-- What emissions make of the slots in every order, and to which slots a block emits.
use Rattle.std.proofs.Common.{◌≡◌, ◌≢◌, ◌==◌, ℕ, ℤ, suc, ◌+◌, Bool, true, false, cond, not, IsTrue, List, [], ◌∷◌, ◌++◌, map, filter, IsPermutation, refl, sym, ap, subst, ◌∙◌, arith, Option, Some, None, slice_get, true≢false}
use Rattle.std.specs.Prelude.{if◌then◌else◌}
use Rattle.std.specs.List.{AllByRecursion, flat_map, list_all}
use Rattle.std.proofs.lemmas.Bool.{and_parts, ne_eqb}
use Rattle.std.proofs.lemmas.List.Sorted.{IsPermutation-append_left}
use Rattle.vert_base.specs.declared.graph.Edge.{Edge}
use Rattle.vert_base.specs.declared.value.Combine.{Combine}
use Rattle.vert_base.specs.declared.value.Combine.TheVariants.{Min, Max, Sum, First}
use Rattle.vert_base.proofs.Orders.{all_append}
use Rattle.vert_tree.specs.declared.name.What.{What}
use Rattle.vert_tree.specs.declared.name.What.TheVariants as what
use Rattle.vert_tree.specs.declared.statement.Stmt.{Stmt, Stmt-F}
use Rattle.vert_tree.specs.declared.statement.Stmt.TheOpen as level
use Rattle.vert_tree.specs.declared.statement.Stmt.TheViews.{roll-Stmt}
use Rattle.vert_tree.specs.declared.statement.Stmt.TheFolds.{fold-roll-Stmt, ind-Stmt, map-Stmt}
use Rattle.slot_merge.specs.Combine.{Emission, combined, slot_values, words_for}
use Rattle.slot_merge.proofs.CombineLaws.{Max≢First, Min≢First, Sum≢First, combined-cons, joined, joined-comm}
use Rattle.slot_merge.proofs.Permutations.{IsKept, permutation-kept}
use Rattle.vert_eval.specs.declared.environment.Env.{Env}
use Rattle.vert_eval.specs.declared.environment.Flow.{Flow}
use Rattle.vert_eval.specs.declared.environment.Flow.TheVariants.{Going, Broke}
use Rattle.vert_eval.specs.Rounds.{Scene, loop, member_act}
use Rattle.vert_eval.specs.Runs.{Act, Ran, act_of, act_step, after, by_flow, emission, followed_by, in_turn, leaves, run}
use Rattle.vert_eval.specs.Values.{value_of}
use Rattle.vert_eval.specs.Words.{is_set}
use Rattle.order_laws.specs.OrderFree.{is_first, level_no_first, names_first, no_first, stmt_no_first}

-- ---- words in every order
combined_step : (op : Combine) (e : Emission) (es : List Emission) (b : Bool) →
    combined op (map (λ x. x.word) (cond b (e ∷ es) es)) ≡ cond b
    (joined op e.word (combined op (map (λ x. x.word) es))) (combined op (map (λ x. x.word) es))
combined_step op e es true = combined-cons op e.word (map (λ x. x.word) es)
combined_step op e es false = refl

module _ (op : Combine) (other : op ≢ First) (slot : ℕ) where
  abbrev value : List Emission → Option ℤ
  value es = combined op (words_for slot es)

  abbrev with_one : Emission → Option ℤ → Option ℤ
  with_one e o = cond (e.slot == slot) (joined op e.word o) o

  value-cons : (e : Emission) (es : List Emission) → value (e ∷ es) ≡ with_one e (value es)
  value-cons e es = combined_step op e (filter (λ x. x.slot == slot) es) (e.slot == slot)

  flip_words : (x y : ℤ) (o : Option ℤ) (b c : Bool) →
      cond b (joined op x (cond c (joined op y o) o)) (cond c (joined op y o) o) ≡ cond c
      (joined op y (cond b (joined op x o) o)) (cond b (joined op x o) o)
  flip_words x y o true true = joined-comm op other x y o
  flip_words x y o true false = refl
  flip_words x y o false true = refl
  flip_words x y o false false = refl

  kept : IsKept (λ es fs. value es ≡ value fs)
  kept = record {
    same = λ es. refl;
    under = λ e es fs h. value-cons e es ∙ ap (with_one e) h ∙ sym (value-cons e fs);
    flip = λ e f es.
        value-cons e (f ∷ es)
        ∙ ap (with_one e) (value-cons f es)
        ∙ flip_words e.word f.word (value es) (e.slot == slot) (f.slot == slot)
        ∙ sym (ap (with_one f) (value-cons e es))
        ∙ sym (value-cons f (e ∷ es));
    both = λ es fs gs h k. h ∙ k;
  }

  -- but for slots of kind first, a slot has the same value in every order of its words
  value-permutation : (es fs : List Emission) → IsPermutation es fs → value es ≡ value fs
  value-permutation es fs moved = permutation-kept (λ l k. value l ≡ value k) kept es fs moved

-- an emission that isn't to a slot of kind first, the slots being numbered from `at` on
abbrev pub Combines : ℕ → List Combine → Emission → Type 0
Combines at ops e = (j : ℕ) → e.slot ≡ at + j → is_first (slice_get ops j) ≡ false

combines_first : (at : ℕ) (ops : List Combine) (e : Emission) → Combines at (First ∷ ops) e → e.slot ≡ at → ⊥
combines_first at ops e h is = true≢false (h 0 (omega arith))

combines_later : (at : ℕ) (op : Combine) (ops : List Combine) (es : List Emission) →
    AllByRecursion (Combines at (op ∷ ops)) es → AllByRecursion (Combines (at + 1) ops) es
combines_later at op ops [] h = h
combines_later at op ops (e ∷ es) h = (λ j is. h.0 (suc j) (omega arith), combines_later at op ops es h.1)

words_behind : (at : ℕ) (ops : List Combine) (es tail : List Emission) → AllByRecursion (Combines at (First ∷ ops)) es →
    words_for at (es ++ tail) ≡ words_for at tail
words_behind at ops [] tail h = refl
words_behind at ops (e ∷ es) tail h =
    ap (λ b. map (λ x. x.word)
    (cond b (e ∷ filter (λ x. x.slot == at) (es ++ tail)) (filter (λ x. x.slot == at) (es ++ tail))))
    (ne_eqb e.slot at (combines_first at ops e h.0))
    ∙ words_behind at ops es tail h.1

module _ (at : ℕ) (ops : List Combine) (es fs tail : List Emission) where
  value-alike : (op : Combine) → AllByRecursion (Combines at (op ∷ ops)) es →
      AllByRecursion (Combines at (op ∷ ops)) fs → IsPermutation es fs →
      combined op (words_for at (es ++ tail)) ≡ combined op (words_for at (fs ++ tail))
  value-alike Min h k moved =
      value-permutation Min Min≢First at (es ++ tail) (fs ++ tail) (IsPermutation-append_left tail es fs moved)
  value-alike Max h k moved =
      value-permutation Max Max≢First at (es ++ tail) (fs ++ tail) (IsPermutation-append_left tail es fs moved)
  value-alike Sum h k moved =
      value-permutation Sum Sum≢First at (es ++ tail) (fs ++ tail) (IsPermutation-append_left tail es fs moved)
  value-alike First h k moved =
      ap (combined First) (words_behind at ops es tail h ∙ sym (words_behind at ops fs tail k))

-- the slots have the same values, whatever the order of the emissions in front, none of which is to a
-- slot of kind first
pub slot_values-alike : (at : ℕ) (ops : List Combine) (es fs tail : List Emission) →
    AllByRecursion (Combines at ops) es → AllByRecursion (Combines at ops) fs →
    IsPermutation es fs → slot_values at ops (es ++ tail) ≡ slot_values at ops (fs ++ tail)
slot_values-alike at [] es fs tail h k moved = refl
slot_values-alike at (op ∷ ops) es fs tail h k moved =
    ap (λ v. v ∷ slot_values (at + 1) ops (es ++ tail)) (value-alike at ops es fs tail op h k moved)
    ∙ ap (λ vs. combined op (words_for at (fs ++ tail)) ∷ vs)
    (slot_values-alike (at + 1) ops es fs tail (combines_later at op ops es h)
    (combines_later at op ops fs k) moved)

-- ---- what a block emits
pub all-flat_map : {X Y : Type 0} (P : Y → Type 0) (f : X → List Y) → ((x : X) → AllByRecursion P (f x)) →
    (xs : List X) → AllByRecursion P (flat_map f xs)
all-flat_map P f h [] = tt
all-flat_map P f h (x ∷ xs) = all_append P (f x) (flat_map f xs) (h x) (all-flat_map P f h xs)

module _ (ops : List Combine) where
  abbrev Fine : Ran → Type 0
  Fine r = AllByRecursion (Combines 0 ops) r.emitted

  abbrev Combining : Act → Type 0
  Combining act = (env : Env) → Fine (act env)

  fine_leaves : Combining leaves
  fine_leaves env = tt

  fine_by_flow : (flow : Flow) (r q : Ran) → Fine r → Fine q → Fine (by_flow flow r (after r q))
  fine_by_flow Broke r q h k = h
  fine_by_flow Going r q h k = all_append (Combines 0 ops) r.emitted q.emitted h k

  fine_next : (f g : Act) → Combining f → Combining g → Combining (λ env. followed_by (f env) g)
  fine_next f g p q env = fine_by_flow (f env).flow (f env) (g (f env).env) (p env) (q (f env).env)

  fine_choice : (b : Bool) (f g : Act) (env : Env) → Fine (f env) → Fine (g env) → Fine (if b then f env else g env)
  fine_choice true f g env p q = p
  fine_choice false f g env p q = q

  fine_if : (test : Env → Bool) (f g : Act) → Combining f → Combining g →
      Combining (λ env. if test env then f env else g env)
  fine_if test f g p q env = fine_choice (test env) f g env (p env) (q env)

  fine_emission : (w : What) (x : ℤ) → IsTrue (not (names_first ops w)) → AllByRecursion (Combines 0 ops) (emission w x)
  fine_emission what.Unread x h = tt
  fine_emission (what.Field i) x h = tt
  fine_emission (what.Slot i) x h =
      (λ j is. subst (λ k. is_first (slice_get ops k) ≡ false) (omega arith) (shut (is_first (slice_get ops i)) h), tt)
    where
      shut : (b : Bool) → IsTrue (not b) → b ≡ false
      shut true k = cc
      shut false k = refl
  fine_emission (what.Local i) x h = tt
  fine_emission (what.Send i) x h = tt
  fine_emission (what.Total i) x h = tt

  abbrev Held : Type 0
  Held = (s : Stmt) × (IsTrue (stmt_no_first ops s) → Combining (act_of s))

  abbrev stmts : List Held → List Stmt
  stmts ss = map (λ s. s.0) ss

  abbrev below : Stmt-F Held → Stmt-F Stmt
  below y = map-Stmt Held Stmt (λ s. s.0) y

  abbrev tests : List Held → Bool
  tests ss = list_all (λ b. b) (map (stmt_no_first ops) (stmts ss))

  all_fine : (ss : List Held) → IsTrue (tests ss) → Combining (in_turn (map act_of (stmts ss)))
  all_fine [] h = fine_leaves
  all_fine (s ∷ ss) h =
      fine_next (act_of s.0) (in_turn (map act_of (stmts ss))) (s.1 (and_parts (stmt_no_first ops s.0) (tests ss) h).0)
      (all_fine ss (and_parts (stmt_no_first ops s.0) (tests ss) h).1)

  level_fine : (y : Stmt-F Held) → IsTrue (level_no_first ops (map-Stmt Stmt Bool (stmt_no_first ops) (below y))) →
      Combining (act_step (map-Stmt Stmt Act act_of (below y)))
  level_fine (level.Assign t op e) h = λ env. tt
  level_fine (level.SetActive at e) h = λ env. tt
  level_fine (level.If at test held None) h =
      fine_if (λ env. is_set (value_of test env)) (in_turn (map act_of (stmts held.items))) leaves
      (all_fine held.items (and_parts (tests held.items) true h).0) fine_leaves
  level_fine (level.If at test held (Some body)) h =
      fine_if (λ env. is_set (value_of test env)) (in_turn (map act_of (stmts held.items)))
      (in_turn (map act_of (stmts body.items)))
      (all_fine held.items (and_parts (tests held.items) (tests body.items) h).0)
      (all_fine body.items (and_parts (tests held.items) (tests body.items) h).1)
  level_fine (level.Emit at slot e) h = λ env. fine_emission slot.what (value_of e env) h
  level_fine (level.Break at) h = λ env. tt

  act_fine : (s : Stmt) → IsTrue (stmt_no_first ops s) → Combining (act_of s)
  act_fine = ind-Stmt (λ s. IsTrue (stmt_no_first ops s) → Combining (act_of s)) (λ x y is.
      subst (λ z. IsTrue (stmt_no_first ops (roll-Stmt z)) → Combining (act_of (roll-Stmt z))) is
      (subst (λ t. IsTrue t → Combining (act_of (roll-Stmt (below y))))
      (sym (fold-roll-Stmt Bool (level_no_first ops) (below y)))
      (subst (λ act. IsTrue (level_no_first ops (map-Stmt Stmt Bool (stmt_no_first ops) (below y))) → Combining act)
      (sym (fold-roll-Stmt Act act_step (below y)))
      (level_fine y))))

  -- a block that names no slot of kind first emits to none
  pub run_fine : (body : List Stmt) → IsTrue (no_first ops body) → (env : Env) →
      AllByRecursion (Combines 0 ops) (run body env).emitted
  run_fine [] h = fine_leaves
  run_fine (s ∷ ss) h =
      fine_next (act_of s) (run ss) (act_fine s (and_parts (stmt_no_first ops s) (no_first ops ss) h).0)
      (run_fine ss (and_parts (stmt_no_first ops s) (no_first ops ss) h).1)

  pub loop_fine : (s : Scene) (body : List Stmt) → IsTrue (no_first ops body) → (members : List Edge) (env : Env) →
      AllByRecursion (Combines 0 ops) (loop s body members env).emitted
  loop_fine s body h [] env = tt
  loop_fine s body h (e ∷ es) env =
      fine_next (member_act s body e) (loop s body es) (λ a. run_fine body h _) (loop_fine s body h es) env
