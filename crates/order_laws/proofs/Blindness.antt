-- Runs that don't read the neighbour at hand: an induction over expressions and statements.
use Rattle.std.proofs.Common.{◌≡◌, ℕ, ℤ, pos, Bool, true, false, ◌&&◌, IsTrue, List, [], ◌∷◌, ◌++◌, map, refl, sym, ap, subst, ◌∙◌, Some, None}
use Rattle.std.specs.Prelude.{if◌then◌else◌, is_some, unwrap_or, neg_ℤ, not}
use Rattle.std.specs.Int.{int_min, int_max}
use Rattle.std.specs.List.{list_all}
use Rattle.std.proofs.lemmas.Bool.{and_parts}
use Rattle.vert_base.specs.declared.graph.Neighbour.{Neighbour}
use Rattle.vert_base.specs.declared.text.Span.{Span}
use Rattle.vert_base.specs.declared.value.Row.{Row}
use Rattle.vert_tree.specs.declared.expression.Builtin.{Builtin}
use Rattle.vert_tree.specs.declared.expression.Builtin.TheVariants as word
use Rattle.vert_tree.specs.declared.expression.Expr.{Expr}
use Rattle.vert_tree.specs.declared.expression.Node.{Node}
use Rattle.vert_tree.specs.declared.expression.Node.TheVariants.{Int, Bool as Truth, Word, Name, Got, Value, OtherField, OtherWord, Draw, Neg', Not', Binary', Cond', Least', Greatest', Group'}
use Rattle.vert_tree.specs.declared.statement.AssignOp.{AssignOp}
use Rattle.vert_tree.specs.declared.name.What.{What}
use Rattle.vert_tree.specs.declared.name.What.TheVariants as what
use Rattle.vert_tree.specs.declared.statement.Stmt.{Stmt, Stmt-F}
use Rattle.vert_tree.specs.declared.statement.Stmt.TheOpen as level
use Rattle.vert_tree.specs.declared.statement.Stmt.TheViews.{roll-Stmt}
use Rattle.vert_tree.specs.declared.statement.Stmt.TheFolds.{fold-roll-Stmt, ind-Stmt, map-Stmt}
use Rattle.vert_tree.specs.Readable.{Readable, body_read, expr_read, in_tests, is_other_word, level_read, node_read, stmt_read, word_read}
use Rattle.vert_eval.specs.declared.environment.Env.{Env}
use Rattle.vert_eval.specs.declared.environment.Flow.{Flow}
use Rattle.vert_eval.specs.declared.environment.Flow.TheVariants.{Going, Broke}
use Rattle.vert_eval.specs.Runs.{Act, Ran, act_of, act_step, after, by_flow, emission, followed_by, in_turn, leaves, run, with_target}
use Rattle.vert_eval.specs.Values.{builtin, named, node_value, other_builtin, other_field, slot_value, value_of}
use Rattle.vert_eval.specs.Words.{binary, is_set, word_of, wrapped}
use Rattle.order_laws.specs.Agreement.{SameButNeighbour}

-- equal but for the marks of locals
abbrev pub SameButMarks : Env → Env → Type 0
SameButMarks a b = b ≡ record a { touched = b.touched }

-- an environment at another neighbour, with other marks
abbrev pub moved : Neighbour → Row → ℕ → Env → Env
moved o row t env = record env { other = o; other_row = row; touched = t }

-- ---- expressions
-- what an expression can read is the same in two environments
pub record SameLeaves (H : Bool → Type 0) (r : Readable) (a b : Env) : Type 0 where
  pub words : (w : Builtin) → H (word_read r w) → builtin w b ≡ builtin w a
  pub names : (w : What) → named w b ≡ named w a
  pub slots : H r.slots → (w : What) → slot_value w b ≡ slot_value w a
  pub fields : H r.others → (w : What) → other_field w b ≡ other_field w a
  pub others : (w : Builtin) → H (r.others && is_other_word w) → other_builtin w b ≡ other_builtin w a
  pub draws : H r.own → (at : Span) (tag : ℕ) → node_value (Draw at tag) b ≡ node_value (Draw at tag) a

module _ (H : Bool → Type 0) (r : Readable) (left : (t u : Bool) → H (t && u) → H t)
    (right : (t u : Bool) → H (t && u) → H u) (a b : Env) (same : SameLeaves H r a b) where
  -- an expression has the same value in both
  pub node_same : (n : Node) → H (node_read r n) → node_value n b ≡ node_value n a
  node_same (Int x) h = refl
  node_same (Truth t) h = refl
  node_same (Word w) h = same.words w h
  node_same (Name name) h = same.names name.what
  node_same (Got name) h = ap (λ o. word_of (is_some o)) (same.slots h name.what)
  node_same (Value name) h = ap (λ o. unwrap_or o (pos 0)) (same.slots h name.what)
  node_same (OtherField name) h = same.fields h name.what
  node_same (OtherWord w) h = same.others w h
  node_same (Draw at tag) h = same.draws h at tag
  node_same (Neg' _ _ x) h = ap (λ v. wrapped (neg_ℤ v)) (node_same x h)
  node_same (Not' _ _ x) h = ap (λ v. word_of (not (is_set v))) (node_same x h)
  node_same (Binary' op _ _ x _ _ y) h =
      ap (λ v. binary op v (node_value y b)) (node_same x (left (node_read r x) (node_read r y) h))
      ∙ ap (binary op (node_value x a)) (node_same y (right (node_read r x) (node_read r y) h))
  node_same (Cond' _ _ test _ _ x _ _ y) h =
      let both = right (node_read r test) (node_read r x && node_read r y) h in
      ap (λ v. if is_set v then node_value x b else node_value y b)
      (node_same test (left (node_read r test) (node_read r x && node_read r y) h))
      ∙ ap (λ v. if is_set (node_value test a) then v else node_value y b)
      (node_same x (left (node_read r x) (node_read r y) both))
      ∙ ap (λ v. if is_set (node_value test a) then node_value x a else v)
      (node_same y (right (node_read r x) (node_read r y) both))
  node_same (Least' _ _ x _ _ y) h =
      ap (λ v. int_min v (node_value y b)) (node_same x (left (node_read r x) (node_read r y) h))
      ∙ ap (int_min (node_value x a)) (node_same y (right (node_read r x) (node_read r y) h))
  node_same (Greatest' _ _ x _ _ y) h =
      ap (λ v. int_max v (node_value y b)) (node_same x (left (node_read r x) (node_read r y) h))
      ∙ ap (int_max (node_value x a)) (node_same y (right (node_read r x) (node_read r y) h))
  node_same (Group' _ _ x) h = node_same x h

pub names_moved : (o : Neighbour) (row : Row) (t : ℕ) (env : Env) (w : What) → named w (moved o row t env) ≡ named w env
names_moved o row t env what.Unread = refl
names_moved o row t env (what.Field i) = refl
names_moved o row t env (what.Slot i) = refl
names_moved o row t env (what.Local i) = refl
names_moved o row t env (what.Send i) = refl
names_moved o row t env (what.Total i) = refl

pub slots_moved : (o : Neighbour) (row : Row) (t : ℕ) (env : Env) (w : What) →
    slot_value w (moved o row t env) ≡ slot_value w env
slots_moved o row t env what.Unread = refl
slots_moved o row t env (what.Field i) = refl
slots_moved o row t env (what.Slot i) = refl
slots_moved o row t env (what.Local i) = refl
slots_moved o row t env (what.Send i) = refl
slots_moved o row t env (what.Total i) = refl

words_moved : (o : Neighbour) (row : Row) (t : ℕ) (env : Env) (w : Builtin) → IsTrue (word_read in_tests w) →
    builtin w (moved o row t env) ≡ builtin w env
words_moved o row t env word.Id h = refl
words_moved o row t env word.Count h = refl
words_moved o row t env word.Round h = refl
words_moved o row t env word.InDeg h = refl
words_moved o row t env word.OutDeg h = refl
words_moved o row t env word.Active h = refl
words_moved o row t env word.Weight h = cc

words_marked : (t : ℕ) (env : Env) (w : Builtin) → builtin w (moved env.other env.other_row t env) ≡ builtin w env
words_marked t env word.Id = refl
words_marked t env word.Count = refl
words_marked t env word.Round = refl
words_marked t env word.InDeg = refl
words_marked t env word.OutDeg = refl
words_marked t env word.Active = refl
words_marked t env word.Weight = refl

fields_marked : (t : ℕ) (env : Env) (w : What) → other_field w (moved env.other env.other_row t env) ≡ other_field w env
fields_marked t env what.Unread = refl
fields_marked t env (what.Field i) = refl
fields_marked t env (what.Slot i) = refl
fields_marked t env (what.Local i) = refl
fields_marked t env (what.Send i) = refl
fields_marked t env (what.Total i) = refl

others_marked : (t : ℕ) (env : Env) (w : Builtin) →
    other_builtin w (moved env.other env.other_row t env) ≡ other_builtin w env
others_marked t env word.Id = refl
others_marked t env word.Count = refl
others_marked t env word.Round = refl
others_marked t env word.InDeg = refl
others_marked t env word.OutDeg = refl
others_marked t env word.Active = refl
others_marked t env word.Weight = refl

leaves_moved : (o : Neighbour) (row : Row) (t : ℕ) (env : Env) → SameLeaves IsTrue in_tests env (moved o row t env)
leaves_moved o row t env = record {
  words = words_moved o row t env;
  names = names_moved o row t env;
  slots = λ h. absurd (false_holds h);
  fields = λ h. absurd (false_holds h);
  others = λ w h. absurd (false_holds h);
  draws = λ h at tag. refl;
}
  where
    false_holds : IsTrue false → ⊥
    false_holds h = cc

abbrev Always : Bool → Type 0
Always t = Unit {0}

leaves_marked : (r : Readable) (t : ℕ) (env : Env) → SameLeaves Always r env (moved env.other env.other_row t env)
leaves_marked r t env = record {
  words = λ w h. words_marked t env w;
  names = names_moved env.other env.other_row t env;
  slots = λ h. slots_moved env.other env.other_row t env;
  fields = λ h. fields_marked t env;
  others = λ w h. others_marked t env w;
  draws = λ h at tag. refl;
}

-- ---- runs
-- runs that leave environments so related, and do the same
pub record SameRun (R : Env → Env → Type 0) (x y : Ran) : Type 0 where
  pub env : R x.env y.env
  pub emitted : y.emitted ≡ x.emitted
  pub reads : y.reads ≡ x.reads
  pub flow : y.flow ≡ x.flow

-- a relation of environments in which the same expressions have the same values, and which
-- assignments keep
pub record IsBlind (R : Env → Env → Type 0) (H : Bool → Type 0) (r : Readable) : Type 0 where
  pub left : (t u : Bool) → H (t && u) → H t
  pub right : (t u : Bool) → H (t && u) → H u
  pub values : (e : Expr) → H (expr_read r e) → (a b : Env) → R a b → value_of e b ≡ value_of e a
  pub targets : (w : What) (op : AssignOp) (x : ℤ) (a b : Env) → R a b → R (with_target w op x a) (with_target w op x b)
  pub flags : (x : Bool) (a b : Env) → R a b → R (record a { next_active = x }) (record b { next_active = x })

module _ (R : Env → Env → Type 0) (H : Bool → Type 0) (r : Readable) (blind : IsBlind R H r) where
  abbrev Same : Act → Type 0
  Same act = (a b : Env) → R a b → SameRun R (act a) (act b)

  same_leaves : (a b : Env) → R a b → SameRun R (leaves a) (leaves b)
  same_leaves a b h = record { env = h; emitted = refl; reads = refl; flow = refl }

  same_after : (x y z w : Ran) → SameRun R x y → SameRun R z w → SameRun R (after x z) (after y w)
  same_after x y z w p q = record {
    env = q.env;
    emitted = ap (λ es. es ++ w.emitted) p.emitted ∙ ap (λ es. x.emitted ++ es) q.emitted;
    reads = ap (λ us. us ++ w.reads) p.reads ∙ ap (λ us. x.reads ++ us) q.reads;
    flow = q.flow;
  }

  same_by_flow : (flow : Flow) (x y z w : Ran) → SameRun R x y → SameRun R z w →
      SameRun R (by_flow flow x (after x z)) (by_flow flow y (after y w))
  same_by_flow Broke x y z w p q = p
  same_by_flow Going x y z w p q = same_after x y z w p q

  same_followed : (x y : Ran) (f : Act) → Same f → SameRun R x y → SameRun R (followed_by x f) (followed_by y f)
  same_followed x y f q p =
      subst (λ flow. SameRun R (followed_by x f) (by_flow flow y (after y (f y.env)))) (sym p.flow)
      (same_by_flow x.flow x y (f x.env) (f y.env) p (q x.env y.env p.env))

  same_next : (f g : Act) → Same f → Same g → Same (λ env. followed_by (f env) g)
  same_next f g p q a b k = same_followed (f a) (f b) g q (p a b k)

  same_choice : (t : Bool) (f g : Act) → Same f → Same g → (a b : Env) → R a b →
      SameRun R (if t then f a else g a) (if t then f b else g b)
  same_choice true f g p q = p
  same_choice false f g p q = q

  same_if : (e : Expr) (f g : Act) → H (expr_read r e) → Same f → Same g →
      Same (λ env. if is_set (value_of e env) then f env else g env)
  same_if e f g h p q a b k =
      subst (λ v. SameRun R (if is_set (value_of e a) then f a else g a) (if is_set v then f b else g b))
      (sym (blind.values e h a b k))
      (same_choice (is_set (value_of e a)) f g p q a b k)

  abbrev Held : Type 0
  Held = (s : Stmt) × (H (stmt_read r s) → Same (act_of s))

  abbrev stmts : List Held → List Stmt
  stmts ss = map (λ s. s.0) ss

  abbrev below : Stmt-F Held → Stmt-F Stmt
  below y = map-Stmt Held Stmt (λ s. s.0) y

  all_same : (ss : List Held) → H (list_all (λ b. b) (map (stmt_read r) (stmts ss))) →
      Same (in_turn (map act_of (stmts ss)))
  all_same [] h = same_leaves
  all_same (s ∷ ss) h =
      let first = blind.left (stmt_read r s.0) (list_all (λ b. b) (map (stmt_read r) (stmts ss))) h in
      let others = blind.right (stmt_read r s.0) (list_all (λ b. b) (map (stmt_read r) (stmts ss))) h in
      same_next (act_of s.0) (in_turn (map act_of (stmts ss))) (s.1 first) (all_same ss others)

  level_same : (y : Stmt-F Held) → H (level_read r (map-Stmt Stmt Bool (stmt_read r) (below y))) →
      Same (act_step (map-Stmt Stmt Act act_of (below y)))
  level_same (level.Assign t op e) h = λ a b k. record {
    env = subst (λ v. R (with_target t.what op (value_of e a) a) (with_target t.what op v b))
        (sym (blind.values e h a b k)) (blind.targets t.what op (value_of e a) a b k);
    emitted = refl;
    reads = refl;
    flow = refl;
  }
  level_same (level.SetActive at e) h = λ a b k. record {
    env = subst (λ v. R (record a { next_active = is_set (value_of e a) }) (record b { next_active = is_set v }))
        (sym (blind.values e h a b k)) (blind.flags (is_set (value_of e a)) a b k);
    emitted = refl;
    reads = refl;
    flow = refl;
  }
  level_same (level.If at test held None) h =
      same_if test (in_turn (map act_of (stmts held.items))) leaves
      (blind.left (expr_read r test) _ h)
      (all_same held.items (blind.left (list_all (λ b. b) (map (stmt_read r) (stmts held.items))) true
      (blind.right (expr_read r test) _ h)))
      same_leaves
  level_same (level.If at test held (Some body)) h =
      let both = blind.right (expr_read r test)
      (list_all (λ b. b) (map (stmt_read r) (stmts held.items))
      && list_all (λ b. b) (map (stmt_read r) (stmts body.items))) h in
      same_if test (in_turn (map act_of (stmts held.items))) (in_turn (map act_of (stmts body.items)))
      (blind.left (expr_read r test)
      (list_all (λ b. b) (map (stmt_read r) (stmts held.items))
      && list_all (λ b. b) (map (stmt_read r) (stmts body.items))) h)
      (all_same held.items (blind.left (list_all (λ b. b) (map (stmt_read r) (stmts held.items)))
      (list_all (λ b. b) (map (stmt_read r) (stmts body.items))) both))
      (all_same body.items (blind.right (list_all (λ b. b) (map (stmt_read r) (stmts held.items)))
      (list_all (λ b. b) (map (stmt_read r) (stmts body.items))) both))
  level_same (level.Emit at slot e) h = λ a b k. record {
    env = k;
    emitted = ap (emission slot.what) (blind.values e h a b k);
    reads = refl;
    flow = refl;
  }
  level_same (level.Break at) h = λ a b k. record { env = k; emitted = refl; reads = refl; flow = refl }

  act_same : (s : Stmt) → H (stmt_read r s) → Same (act_of s)
  act_same = ind-Stmt (λ s. H (stmt_read r s) → Same (act_of s)) (λ x y is.
      subst (λ z. H (stmt_read r (roll-Stmt z)) → Same (act_of (roll-Stmt z))) is
      (subst (λ t. H t → Same (act_of (roll-Stmt (below y)))) (sym (fold-roll-Stmt Bool (level_read r) (below y)))
      (subst (λ act. H (level_read r (map-Stmt Stmt Bool (stmt_read r) (below y))) → Same act)
      (sym (fold-roll-Stmt Act act_step (below y)))
      (level_same y))))

  pub run_same : (body : List Stmt) → H (body_read r body) → Same (run body)
  run_same [] h = same_leaves
  run_same (s ∷ ss) h =
      same_next (act_of s) (run ss) (act_same s (blind.left (stmt_read r s) (body_read r ss) h))
      (run_same ss (blind.right (stmt_read r s) (body_read r ss) h))

-- ---- at another neighbour
target_moved : (w : What) (op : AssignOp) (x : ℤ) (a : Env) (o : Neighbour) (row : Row) (t : ℕ) →
    SameButNeighbour (with_target w op x a) (with_target w op x (moved o row t a))
target_moved what.Unread op x a o row t = refl
target_moved (what.Field i) op x a o row t = refl
target_moved (what.Slot i) op x a o row t = refl
target_moved (what.Local i) op x a o row t = refl
target_moved (what.Send i) op x a o row t = refl
target_moved (what.Total i) op x a o row t = refl

pub tests_blind : IsBlind SameButNeighbour IsTrue in_tests
tests_blind = record {
  left = λ t u h. (and_parts t u h).0;
  right = λ t u h. (and_parts t u h).1;
  values = λ e h a b k. ap (value_of e) k
      ∙ node_same IsTrue in_tests (λ t u r. (and_parts t u r).0) (λ t u r. (and_parts t u r).1) a
      (moved b.other b.other_row b.touched a) (leaves_moved b.other b.other_row b.touched a) e.node h;
  targets = λ w op x a b k. subst (λ c. SameButNeighbour (with_target w op x a) (with_target w op x c)) (sym k)
      (target_moved w op x a b.other b.other_row b.touched);
  flags = λ x a b k. ap (λ c. let left : Env = record c { next_active = x } in left) k;
}

-- statements that read no neighbour do the same at any other one
pub run_blind : (body : List Stmt) → IsTrue (body_read in_tests body) → (a b : Env) → SameButNeighbour a b →
    SameRun SameButNeighbour (run body a) (run body b)
run_blind = run_same SameButNeighbour IsTrue in_tests tests_blind

-- ---- with other marks
target_marked : (w : What) (op : AssignOp) (x : ℤ) (a : Env) (t : ℕ) →
    SameButMarks (with_target w op x a) (with_target w op x (moved a.other a.other_row t a))
target_marked what.Unread op x a t = refl
target_marked (what.Field i) op x a t = refl
target_marked (what.Slot i) op x a t = refl
target_marked (what.Local i) op x a t = refl
target_marked (what.Send i) op x a t = refl
target_marked (what.Total i) op x a t = refl

marks_blind : IsBlind SameButMarks Always in_tests
marks_blind = record {
  left = λ t u h. tt;
  right = λ t u h. tt;
  values = λ e h a b k. ap (value_of e) k
      ∙ node_same Always in_tests (λ t u h. tt) (λ t u h. tt) a (moved a.other a.other_row b.touched a)
      (leaves_marked in_tests b.touched a) e.node tt;
  targets = λ w op x a b k. subst (λ c. SameButMarks (with_target w op x a) (with_target w op x c)) (sym k)
      (target_marked w op x a b.touched);
  flags = λ x a b k. ap (λ c. let left : Env = record c { next_active = x } in left) k;
}

-- no statement reads the marks
pub run_unmarked : (body : List Stmt) (a b : Env) → SameButMarks a b → SameRun SameButMarks (run body a) (run body b)
run_unmarked body = run_same SameButMarks Always in_tests marks_blind body tt
