-- A run of a loop body in two environments that differ in reduced lets alone: what the one does to its
-- words the other does to those combined with earlier ones.
use Rattle.std.proofs.Common.{◌≡◌, ◌≢◌, ◌^◌, ◌⊎◌, inl, inr, ℕ, zero, suc, ℤ, pos, Bool, true, false, not, List, [], ◌∷◌, ◌++◌, map, refl, sym, ap, subst, ◌∙◌, None, Some, arith}
use Rattle.std.specs.Prelude.{bit_or, if◌then◌else◌, is_some, neg_ℤ, slice_get, slice_set, unwrap_or}
use Rattle.std.specs.Int.{bit_at, int_min, int_max}
use Rattle.std.proofs.lemmas.Bool.{cases_eq}
use Rattle.std.proofs.lemmas.Nat.Bits.{bit_at_or, bit_at-pow_same, same_from_bits, bit_at-zero}
use Rattle.vert_base.specs.declared.graph.Edge.{Edge}
use Rattle.vert_base.specs.declared.value.Combine.{Combine}
use Rattle.vert_base.specs.declared.value.Combine.TheVariants as combine
use Rattle.vert_base.specs.Neighbours.{source}
use Rattle.vert_tree.specs.declared.expression.Builtin.{Builtin}
use Rattle.vert_tree.specs.declared.expression.Builtin.TheVariants as words
use Rattle.vert_tree.specs.declared.expression.Expr.{Expr}
use Rattle.vert_tree.specs.declared.expression.Node.{Node}
use Rattle.vert_tree.specs.declared.expression.Node.TheVariants as nodes
use Rattle.vert_tree.specs.declared.name.What.{What}
use Rattle.vert_tree.specs.declared.name.What.TheVariants as what
use Rattle.vert_tree.specs.declared.statement.AssignOp.{AssignOp}
use Rattle.vert_tree.specs.declared.statement.AssignOp.TheVariants as assign
use Rattle.vert_tree.specs.declared.statement.Stmt.{Stmt, Stmt-F}
use Rattle.vert_tree.specs.declared.statement.Stmt.TheOpen as level
use Rattle.vert_tree.specs.declared.statement.Stmt.TheViews.{roll-Stmt}
use Rattle.vert_tree.specs.declared.statement.Stmt.TheFolds.{fold-roll-Stmt, ind-Stmt, map-Stmt}
use Rattle.vert_tree.specs.declared.statement.Stmt.TheVariants.{rolls-Assign, rolls-SetActive, rolls-If, rolls-Emit}
use Rattle.carry_analysis.specs.declared.classes.Class.{Class}
use Rattle.carry_analysis.specs.declared.classes.Class.TheVariants.{Reduced}
use Rattle.slot_merge.specs.Combine.{neutral}
use Rattle.carry_analysis.specs.Classes.{body_marks, expr_marks, node_marks, statement_marks}
use Rattle.vert_eval.specs.declared.environment.Env.{Env}
use Rattle.vert_eval.specs.declared.environment.Flow.{Flow}
use Rattle.vert_eval.specs.declared.environment.Flow.TheVariants.{Going, Broke}
use Rattle.vert_eval.specs.Rounds.{Scene, at_member, loop, member_act, reading}
use Rattle.vert_eval.specs.Runs.{Act, Ran, act_of, act_step, after, by_flow, emission, followed_by, in_turn, leaves, noted, run, with_target}
use Rattle.vert_eval.specs.Values.{builtin, named, node_value, other_builtin, other_field, slot_value, value_of, word_at}
use Rattle.vert_eval.specs.Words.{assigned, binary, is_set, word_of, wrapped}
use Rattle.instrument.specs.Continued.{AreLeft, combined_words}
use Rattle.carry_analysis.proofs.StatementMarks.{marks-if, marks-if_else}
use Rattle.instrument.proofs.MarkLaws.{Allowed, allowed_first, allowed_second, assign_marks, assignable, read_marks, readable}
use Rattle.instrument.proofs.WordLaws.{assign_same, is_assignable, is_operator, left_after, read_same}

-- ---- marks of locals

pub or_assoc : (a b c : ℕ) → bit_or (bit_or a b) c ≡ bit_or a (bit_or b c)
or_assoc a b c = same_from_bits _ _
    (λ i. omega (arith, bit_at_or (bit_or a b) c i, bit_at_or a b i, bit_at_or a (bit_or b c) i, bit_at_or b c i))

pub or_nothing : (a : ℕ) → bit_or a 0 ≡ a
or_nothing a = same_from_bits _ _ (λ i. omega (arith, bit_at_or a 0 i, bit_at-zero i))

-- an operator marks its let
marks_own : (i touched : ℕ) → bit_at (bit_or touched (2 ^ i)) i ≡ 0 → ⊥
marks_own i touched clear = absurd (omega (arith, bit_at_or touched (2 ^ i) i, bit_at-pow_same i))

is_marked : (kind : Combine) (op : AssignOp) (i touched : ℕ) → is_operator kind op ≡ true →
    bit_at (noted op i touched) i ≡ 0 → ⊥
is_marked kind assign.Add i touched operator clear = marks_own i touched clear
is_marked kind assign.Least i touched operator clear = marks_own i touched clear
is_marked kind assign.Greatest i touched operator clear = marks_own i touched clear
is_marked combine.Sum assign.Set i touched operator clear = cc
is_marked combine.Min assign.Set i touched operator clear = cc
is_marked combine.Max assign.Set i touched operator clear = cc
is_marked combine.First assign.Set i touched operator clear = cc

-- what isn't marked wasn't marked before
was_clear : (op : AssignOp) (j i touched : ℕ) → bit_at (noted op j touched) i ≡ 0 → bit_at touched i ≡ 0
was_clear assign.Set j i touched clear = clear
was_clear assign.Add j i touched clear = omega (arith, bit_at_or touched (2 ^ j) i)
was_clear assign.Least j i touched clear = omega (arith, bit_at_or touched (2 ^ j) i)
was_clear assign.Greatest j i touched clear = omega (arith, bit_at_or touched (2 ^ j) i)

set_other : (xs : List ℤ) (i j : ℕ) (x : ℤ) → i ≢ j → word_at (slice_set xs j x) i ≡ word_at xs i
set_other [] i j x other = refl
set_other (y ∷ xs) zero zero x other = absurd (other refl)
set_other (y ∷ xs) zero (suc j) x other = refl
set_other (y ∷ xs) (suc i) zero x other = refl
set_other (y ∷ xs) (suc i) (suc j) x other = set_other xs i j x (λ same. other (ap suc same))

module _ (cs : List Class) where
  -- the environment with earlier words and marks of the locals behind its own
  abbrev pub over : List ℤ → ℕ → Env → Env
  over before marks env = record env {
    locals = record { items = combined_words cs before env.locals.items };
    touched = bit_or marks env.touched;
  }

  abbrev pub over_ran : List ℤ → ℕ → Ran → Ran
  over_ran before marks r = record r { env = over before marks r.env }

  -- ---- expressions

  name_same : (w : What) (before : List ℤ) (marks : ℕ) (env : Env) → Allowed cs (read_marks w) →
      named w (over before marks env) ≡ named w env
  name_same (what.Local i) before marks env p = read_same cs before env.locals.items i (readable cs i p)
  name_same (what.Field i) before marks env p = refl
  name_same (what.Send i) before marks env p = refl
  name_same (what.Total i) before marks env p = refl
  name_same (what.Slot i) before marks env p = refl
  name_same what.Unread before marks env p = refl

  word_same : (w : Builtin) (before : List ℤ) (marks : ℕ) (env : Env) →
      builtin w (over before marks env) ≡ builtin w env
  word_same words.Id before marks env = refl
  word_same words.Count before marks env = refl
  word_same words.Round before marks env = refl
  word_same words.InDeg before marks env = refl
  word_same words.OutDeg before marks env = refl
  word_same words.Active before marks env = refl
  word_same words.Weight before marks env = refl

  other_word_same : (w : Builtin) (before : List ℤ) (marks : ℕ) (env : Env) →
      other_builtin w (over before marks env) ≡ other_builtin w env
  other_word_same words.Id before marks env = refl
  other_word_same words.Count before marks env = refl
  other_word_same words.Round before marks env = refl
  other_word_same words.InDeg before marks env = refl
  other_word_same words.OutDeg before marks env = refl
  other_word_same words.Active before marks env = refl
  other_word_same words.Weight before marks env = refl

  slot_same : (w : What) (before : List ℤ) (marks : ℕ) (env : Env) →
      slot_value w (over before marks env) ≡ slot_value w env
  slot_same (what.Local i) before marks env = refl
  slot_same (what.Field i) before marks env = refl
  slot_same (what.Send i) before marks env = refl
  slot_same (what.Total i) before marks env = refl
  slot_same (what.Slot i) before marks env = refl
  slot_same what.Unread before marks env = refl

  other_field_same : (w : What) (before : List ℤ) (marks : ℕ) (env : Env) →
      other_field w (over before marks env) ≡ other_field w env
  other_field_same (what.Local i) before marks env = refl
  other_field_same (what.Field i) before marks env = refl
  other_field_same (what.Send i) before marks env = refl
  other_field_same (what.Total i) before marks env = refl
  other_field_same (what.Slot i) before marks env = refl
  other_field_same what.Unread before marks env = refl

  node_same : (n : Node) (before : List ℤ) (marks : ℕ) (env : Env) → Allowed cs (node_marks n) →
      node_value n (over before marks env) ≡ node_value n env
  node_same (nodes.Int x) before marks env p = refl
  node_same (nodes.Bool b) before marks env p = refl
  node_same (nodes.Word w) before marks env p = word_same w before marks env
  node_same (nodes.Name name) before marks env p = name_same name.what before marks env p
  node_same (nodes.Got name) before marks env p = ap (λ o. word_of (is_some o)) (slot_same name.what before marks env)
  node_same (nodes.Value name) before marks env p = ap (λ o. unwrap_or o (pos 0)) (slot_same name.what before marks env)
  node_same (nodes.OtherField name) before marks env p = other_field_same name.what before marks env
  node_same (nodes.OtherWord w) before marks env p = other_word_same w before marks env
  node_same (nodes.Draw at tag) before marks env p = refl
  node_same (nodes.Neg' _ _ a) before marks env p = ap (λ x. wrapped (neg_ℤ x)) (node_same a before marks env p)
  node_same (nodes.Not' _ _ a) before marks env p = ap (λ x. word_of (not (is_set x))) (node_same a before marks env p)
  node_same (nodes.Binary' op _ _ a _ _ b) before marks env p =
      ap (λ x. binary op x (node_value b (over before marks env)))
      (node_same a before marks env (allowed_first cs (node_marks a) (node_marks b) p))
      ∙ ap (binary op (node_value a env))
      (node_same b before marks env (allowed_second cs (node_marks a) (node_marks b) p))
  node_same (nodes.Cond' _ _ test _ _ a _ _ b) before marks env p =
      let t = node_same test before marks env (allowed_first cs (node_marks test) (node_marks a ++ node_marks b) p) in
      let q = allowed_second cs (node_marks test) (node_marks a ++ node_marks b) p in
      ap (λ x. if is_set x then node_value a (over before marks env) else node_value b (over before marks env)) t
      ∙ ap (λ x. if is_set (node_value test env) then x else node_value b (over before marks env))
      (node_same a before marks env (allowed_first cs (node_marks a) (node_marks b) q))
      ∙ ap (λ x. if is_set (node_value test env) then node_value a env else x)
      (node_same b before marks env (allowed_second cs (node_marks a) (node_marks b) q))
  node_same (nodes.Least' _ _ a _ _ b) before marks env p =
      ap (λ x. int_min x (node_value b (over before marks env)))
      (node_same a before marks env (allowed_first cs (node_marks a) (node_marks b) p))
      ∙ ap (int_min (node_value a env))
      (node_same b before marks env (allowed_second cs (node_marks a) (node_marks b) p))
  node_same (nodes.Greatest' _ _ a _ _ b) before marks env p =
      ap (λ x. int_max x (node_value b (over before marks env)))
      (node_same a before marks env (allowed_first cs (node_marks a) (node_marks b) p))
      ∙ ap (int_max (node_value a env))
      (node_same b before marks env (allowed_second cs (node_marks a) (node_marks b) p))
  node_same (nodes.Group' _ _ a) before marks env p = node_same a before marks env p

  pub value_same : (e : Expr) (before : List ℤ) (marks : ℕ) (env : Env) → Allowed cs (expr_marks e) →
      value_of e (over before marks env) ≡ value_of e env
  value_same e before marks env p = node_same e.node before marks env p

  -- ---- acts

  -- each reduced let that isn't marked has its neutral value
  pub record Quiet (env : Env) : Type 0 where
    pub each : (i : ℕ) (op : Combine) → slice_get cs i ≡ Some (Reduced op) → bit_at env.touched i ≡ 0 →
        word_at env.locals.items i ≡ neutral op

  -- An act that does the same with earlier words behind its own, leaves words from which a segment can
  -- go on, and marks each reduced let that it changes.
  pub record Steady (act : Act) : Type 0 where
    pub same : (before : List ℤ) (marks : ℕ) (env : Env) → act (over before marks env) ≡ over_ran before marks (act env)
    pub left : (own : List ℤ) (env : Env) → AreLeft cs own env.locals.items → AreLeft cs own (act env).env.locals.items
    pub quiet : (env : Env) → Quiet env → Quiet (act env).env

  steady_nothing : Steady leaves
  steady_nothing = record { same = λ before marks env. refl; left = λ own env p. p; quiet = λ env q. q }

  followed_same : (g : Act) (sg : Steady g) (before : List ℤ) (marks : ℕ) (flow : Flow) (r : Ran) →
      by_flow flow (over_ran before marks r)
      (after (over_ran before marks r) (g (over before marks r.env))) ≡ over_ran before marks
      (by_flow flow r (after r (g r.env)))
  followed_same g sg before marks Broke r = refl
  followed_same g sg before marks Going r = ap (λ q. after r q) (sg.same before marks r.env)

  followed_left : (g : Act) (sg : Steady g) (own : List ℤ) (flow : Flow) (r : Ran) → AreLeft cs own r.env.locals.items →
      AreLeft cs own (by_flow flow r (after r (g r.env))).env.locals.items
  followed_left g sg own Broke r p = p
  followed_left g sg own Going r p = sg.left own r.env p

  followed_quiet : (g : Act) (sg : Steady g) (flow : Flow) (r : Ran) → Quiet r.env →
      Quiet (by_flow flow r (after r (g r.env))).env
  followed_quiet g sg Broke r q = q
  followed_quiet g sg Going r q = sg.quiet r.env q

  steady_next : (f g : Act) → Steady f → Steady g → Steady (λ env. followed_by (f env) g)
  steady_next f g sf sg = record {
    same = λ before marks env. ap (λ r. followed_by r g) (sf.same before marks env)
        ∙ followed_same g sg before marks (f env).flow (f env);
    left = λ own env p. followed_left g sg own (f env).flow (f env) (sf.left own env p);
    quiet = λ env q. followed_quiet g sg (f env).flow (f env) (sf.quiet env q);
  }

  pub steady_all : {X : Type 0} (act : X → Act) (xs : List X) → ((x : X) → Steady (act x)) →
      Steady (in_turn (map act xs))
  steady_all act [] each = steady_nothing
  steady_all act (x ∷ xs) each = steady_next (act x) (in_turn (map act xs)) (each x) (steady_all act xs each)

  chosen_same : (b : Bool) (f g : Act) → Steady f → Steady g → (before : List ℤ) (marks : ℕ) (env : Env) →
      (if b then f (over before marks env) else g (over before marks env)) ≡ over_ran before marks
      (if b then f env else g env)
  chosen_same true f g sf sg before marks env = sf.same before marks env
  chosen_same false f g sf sg before marks env = sg.same before marks env

  chosen_left : (b : Bool) (f g : Act) → Steady f → Steady g → (own : List ℤ) (env : Env) →
      AreLeft cs own env.locals.items → AreLeft cs own (if b then f env else g env).env.locals.items
  chosen_left true f g sf sg own env p = sf.left own env p
  chosen_left false f g sf sg own env p = sg.left own env p

  chosen_quiet : (b : Bool) (f g : Act) → Steady f → Steady g → (env : Env) → Quiet env →
      Quiet (if b then f env else g env).env
  chosen_quiet true f g sf sg env q = sf.quiet env q
  chosen_quiet false f g sf sg env q = sg.quiet env q

  steady_choice : (test : Expr) (f g : Act) → Allowed cs (expr_marks test) → Steady f → Steady g →
      Steady (λ env. if is_set (value_of test env) then f env else g env)
  steady_choice test f g p sf sg = record {
    same = λ before marks env.
        ap (λ x. if is_set x then f (over before marks env) else g (over before marks env))
        (value_same test before marks env p)
        ∙ chosen_same (is_set (value_of test env)) f g sf sg before marks env;
    left = λ own env q. chosen_left (is_set (value_of test env)) f g sf sg own env q;
    quiet = λ env q. chosen_quiet (is_set (value_of test env)) f g sf sg env q;
  }

  -- ---- statements

  noted_same : (op : AssignOp) (i marks touched : ℕ) →
      noted op i (bit_or marks touched) ≡ bit_or marks (noted op i touched)
  noted_same assign.Set i marks touched = refl
  noted_same assign.Add i marks touched = or_assoc marks touched _
  noted_same assign.Least i marks touched = or_assoc marks touched _
  noted_same assign.Greatest i marks touched = or_assoc marks touched _

  target_same : (w : What) (op : AssignOp) (x : ℤ) → Allowed cs (assign_marks w op) →
      (before : List ℤ) (marks : ℕ) (env : Env) →
      with_target w op x (over before marks env) ≡ over before marks (with_target w op x env)
  target_same (what.Local i) op x p before marks env =
      let words = assign_same cs before env.locals.items i op x (assignable cs i op p) in
      λ j. record env { locals = record { items = words j }; touched = noted_same op i marks env.touched j }
  target_same (what.Field i) op x p before marks env = refl
  target_same (what.Send i) op x p before marks env = refl
  target_same (what.Total i) op x p before marks env = refl
  target_same (what.Slot i) op x p before marks env = refl
  target_same what.Unread op x p before marks env = refl

  target_left : (w : What) (op : AssignOp) (x : ℤ) → Allowed cs (assign_marks w op) → (own : List ℤ) (env : Env) →
      AreLeft cs own env.locals.items → AreLeft cs own (with_target w op x env).locals.items
  target_left (what.Local i) op x p own env q = left_after cs own env.locals.items i op x (assignable cs i op p) q
  target_left (what.Field i) op x p own env q = q
  target_left (what.Send i) op x p own env q = q
  target_left (what.Total i) op x p own env q = q
  target_left (what.Slot i) op x p own env q = q
  target_left what.Unread op x p own env q = q

  target_quiet : (w : What) (op : AssignOp) (x : ℤ) → Allowed cs (assign_marks w op) → (env : Env) → Quiet env →
      Quiet (with_target w op x env)
  target_quiet (what.Local j) op x p env q = record {
    each = λ i kind is clear. by i kind is clear (cases_eq i j);
  }
    where
      by : (i : ℕ) (kind : Combine) → slice_get cs i ≡ Some (Reduced kind) → bit_at (noted op j env.touched) i ≡ 0 →
          (i ≡ j) ⊎ (i ≢ j) →
          word_at (slice_set env.locals.items j (assigned op (word_at env.locals.items j) x)) i ≡ neutral kind
      by i kind is clear (inl same) =
          let at_i : is_assignable (slice_get cs i) op ≡ true =
          subst (λ k. is_assignable (slice_get cs k) op ≡ true) (sym same) (assignable cs j op p) in
          let operator : is_operator kind op ≡ true = sym (ap (λ c. is_assignable c op) is) ∙ at_i in
          absurd (is_marked kind op i env.touched operator
          (subst (λ k. bit_at (noted op k env.touched) i ≡ 0) (sym same) clear))
      by i kind is clear (inr other) =
          set_other env.locals.items i j (assigned op (word_at env.locals.items j) x) other
          ∙ q.each i kind is (was_clear op j i env.touched clear)
  target_quiet (what.Field i) op x p env q = record { each = q.each }
  target_quiet (what.Send i) op x p env q = q
  target_quiet (what.Total i) op x p env q = q
  target_quiet (what.Slot i) op x p env q = q
  target_quiet what.Unread op x p env q = q

  steady_assign : (w : What) (op : AssignOp) (e : Expr) → Allowed cs (expr_marks e) → Allowed cs (assign_marks w op) →
      Steady (λ env. leaves (with_target w op (value_of e env) env))
  steady_assign w op e p q = record {
    same = λ before marks env.
        ap (λ x. leaves (with_target w op x (over before marks env))) (value_same e before marks env p)
        ∙ ap leaves (target_same w op (value_of e env) q before marks env);
    left = λ own env r. target_left w op (value_of e env) q own env r;
    quiet = λ env r. target_quiet w op (value_of e env) q env r;
  }

  steady_active : (e : Expr) → Allowed cs (expr_marks e) →
      Steady (λ env. leaves (record env { next_active = is_set (value_of e env) }))
  steady_active e p = record {
    same = λ before marks env. ap (λ x. leaves (record (over before marks env) { next_active = is_set x }))
        (value_same e before marks env p);
    left = λ own env q. q;
    quiet = λ env q. record { each = q.each };
  }

  steady_emit : (w : What) (e : Expr) → Allowed cs (expr_marks e) →
      Steady (λ env. record (leaves env) { emitted = emission w (value_of e env) })
  steady_emit w e p = record {
    same = λ before marks env. ap (λ x. record (leaves (over before marks env)) { emitted = emission w x })
        (value_same e before marks env p);
    left = λ own env q. q;
    quiet = λ env q. q;
  }

  steady_break : Steady (λ env. record (leaves env) { flow = Broke })
  steady_break = record { same = λ before marks env. refl; left = λ own env q. q; quiet = λ env q. q }

  -- a statement whose marks are allowed
  abbrev Held : Type 0
  Held = (s : Stmt) × (Allowed cs (statement_marks s) → Steady (act_of s))

  abbrev stmts : List Held → List Stmt
  stmts ss = map (λ s. s.0) ss

  abbrev below : Stmt-F Held → Stmt-F Stmt
  below y = map-Stmt Held Stmt (λ s. s.0) y

  all_steady : (ss : List Held) → Allowed cs (body_marks (stmts ss)) → Steady (in_turn (map act_of (stmts ss)))
  all_steady [] p = steady_nothing
  all_steady (s ∷ ss) p =
      steady_next (act_of s.0) (in_turn (map act_of (stmts ss)))
      (s.1 (allowed_first cs (statement_marks s.0) (body_marks (stmts ss)) p))
      (all_steady ss (allowed_second cs (statement_marks s.0) (body_marks (stmts ss)) p))

  level_steady : (y : Stmt-F Held) → Allowed cs (statement_marks (roll-Stmt (below y))) →
      Steady (act_step (map-Stmt Stmt Act act_of (below y)))
  level_steady (level.Assign t op e) p =
      let q : Allowed cs (expr_marks e ++ assign_marks t.what op) =
      subst (λ s. Allowed cs (statement_marks s)) (rolls-Assign t op e) p in
      steady_assign t.what op e (allowed_first cs (expr_marks e) (assign_marks t.what op) q)
      (allowed_second cs (expr_marks e) (assign_marks t.what op) q)
  level_steady (level.SetActive at e) p =
      steady_active e (subst (λ s. Allowed cs (statement_marks s)) (rolls-SetActive at e) p)
  level_steady (level.If at test held None) p =
      let marks : statement_marks (roll-Stmt (below (level.If at test held None))) ≡ expr_marks test ++
      (body_marks (stmts held.items) ++ []) = ap statement_marks (rolls-If at test _ None) ∙ marks-if at test _ in
      let q : Allowed cs (expr_marks test ++ (body_marks (stmts held.items) ++ [])) = subst (Allowed cs) marks p in
      let inner : Allowed cs (body_marks (stmts held.items) ++ []) =
      allowed_second cs (expr_marks test) (body_marks (stmts held.items) ++ []) q in
      steady_choice test (in_turn (map act_of (stmts held.items))) leaves
      (allowed_first cs (expr_marks test) (body_marks (stmts held.items) ++ []) q)
      (all_steady held.items (allowed_first cs (body_marks (stmts held.items)) [] inner))
      steady_nothing
  level_steady (level.If at test held (Some body)) p =
      let marks : statement_marks (roll-Stmt (below (level.If at test held (Some body)))) ≡ expr_marks test ++
      (body_marks (stmts held.items) ++ body_marks (stmts body.items)) = ap statement_marks
      (rolls-If at test _ (Some _)) ∙ marks-if_else at test _ _ in
      let q : Allowed cs (expr_marks test ++ (body_marks (stmts held.items) ++ body_marks (stmts body.items))) =
      subst (Allowed cs) marks p in
      let inner : Allowed cs (body_marks (stmts held.items) ++ body_marks (stmts body.items)) =
      allowed_second cs (expr_marks test) (body_marks (stmts held.items) ++ body_marks (stmts body.items)) q in
      steady_choice test (in_turn (map act_of (stmts held.items))) (in_turn (map act_of (stmts body.items)))
      (allowed_first cs (expr_marks test) (body_marks (stmts held.items) ++ body_marks (stmts body.items)) q)
      (all_steady held.items (allowed_first cs (body_marks (stmts held.items)) (body_marks (stmts body.items)) inner))
      (all_steady body.items (allowed_second cs (body_marks (stmts held.items)) (body_marks (stmts body.items)) inner))
  level_steady (level.Emit at slot e) p =
      steady_emit slot.what e (subst (λ s. Allowed cs (statement_marks s)) (rolls-Emit at slot e) p)
  level_steady (level.Break at) p = steady_break

  stmt_steady : (s : Stmt) → Allowed cs (statement_marks s) → Steady (act_of s)
  stmt_steady = ind-Stmt (λ s. Allowed cs (statement_marks s) → Steady (act_of s)) (λ x y is.
      subst (λ z. Allowed cs (statement_marks (roll-Stmt z)) → Steady (act_of (roll-Stmt z))) is
      (λ p. subst Steady (sym (fold-roll-Stmt Act act_step (below y))) (level_steady y p)))

  pub run_steady : (body : List Stmt) → Allowed cs (body_marks body) → Steady (run body)
  run_steady [] p = steady_nothing
  run_steady (s ∷ ss) p =
      steady_next (act_of s) (run ss)
      (stmt_steady s (allowed_first cs (statement_marks s) (body_marks ss) p))
      (run_steady ss (allowed_second cs (statement_marks s) (body_marks ss) p))

  member_steady : (s : Scene) (body : List Stmt) → Allowed cs (body_marks body) → (e : Edge) →
      Steady (member_act s body e)
  member_steady s body p e =
      let steady = run_steady body p in
      record {
        same = λ before marks env. ap (reading (source e)) (steady.same before marks (at_member s e env));
        left = λ own env q. steady.left own (at_member s e env) q;
        quiet = λ env q. record { each = (steady.quiet (at_member s e env) (record { each = q.each })).each };
      }

  -- a loop whose body is allowed
  pub loop_steady : (s : Scene) (body : List Stmt) (members : List Edge) → Allowed cs (body_marks body) →
      Steady (loop s body members)
  loop_steady s body members p = steady_all (member_act s body) members (member_steady s body p)
