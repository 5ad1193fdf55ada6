-- A let that a loop reduces is an Int: only an Int is the target of `+=`, `min=` and `max=`.
use Rattle.std.proofs.Common.{◌≡◌, ◌+◌, ◌==◌, ℕ, zero, suc, Bool, true, false, ◌&&◌, List, [], ◌∷◌, ◌++◌, map, refl, sym, ap, subst, ◌∙◌, None, Some, arith}
use Rattle.std.specs.Prelude.{◌||◌, not, if◌then◌else◌, slice_get}
use Rattle.std.specs.List.{list_all}
use Rattle.std.proofs.lemmas.Option.{same_Some}
use Rattle.std.proofs.lemmas.List.Folds.{list_all-append}
use Rattle.std.proofs.lemmas.Bool.{and_from, and_parts, eqb-true, true≢false}
use Rattle.vert_base.specs.declared.value.Combine.{Combine}
use Rattle.vert_base.specs.declared.value.Combine.TheVariants as combine
use Rattle.vert_base.specs.declared.value.ValueType.{ValueType}
use Rattle.vert_base.specs.declared.value.ValueType.TheVariants as kind
use Rattle.vert_tree.specs.declared.expression.Expr.{Expr}
use Rattle.vert_tree.specs.declared.expression.Node.{Node}
use Rattle.vert_tree.specs.declared.expression.Node.TheVariants as nodes
use Rattle.vert_tree.specs.declared.name.What.{What}
use Rattle.vert_tree.specs.declared.name.What.TheVariants as what
use Rattle.vert_tree.specs.declared.program.Decl.{Decl}
use Rattle.vert_tree.specs.declared.statement.AssignOp.{AssignOp}
use Rattle.vert_tree.specs.declared.statement.AssignOp.TheVariants as assign
use Rattle.vert_tree.specs.declared.statement.Stmt.{Stmt, Stmt-F}
use Rattle.vert_tree.specs.declared.statement.Stmt.TheOpen as level
use Rattle.vert_tree.specs.declared.statement.Stmt.TheVariants.{rolls-Assign, rolls-SetActive, rolls-If, rolls-Emit, rolls-Break}
use Rattle.vert_tree.specs.declared.statement.Stmt.TheViews.{roll-Stmt}
use Rattle.vert_tree.specs.declared.statement.Stmt.TheFolds.{fold-roll-Stmt, ind-Stmt, map-Stmt}
use Rattle.vert_tree.specs.Kinds.{Kinds, assign_typed, body_typed, expr_has, has_kind, level_typed, name_kind, node_kind, stmt_typed}
use Rattle.carry_analysis.specs.declared.classes.Class.{Class}
use Rattle.carry_analysis.specs.declared.classes.Class.TheVariants.{Constant, Reduced, Carried}
use Rattle.carry_analysis.specs.Classes.{Mark, Breaks, body_marks, class_of, expr_marks, is_added, is_lowered, is_raised, is_read, let_classes, node_marks, statement_marks, uses_of}
use Rattle.carry_analysis.proofs.StatementMarks.{marks-if, marks-if_else, uses-append}
use Rattle.instrument.proofs.MarkLaws.{assign_marks, read_marks}
use Rattle.value_laws.proofs.Values.{kind_is}

-- a let that isn't an Int is the target of no operator
abbrev Calm : Kinds → List Mark → Type 0
Calm k ms = (i : ℕ) → has_kind kind.Int (slice_get k.locals i) ≡ false →
    list_all (λ u. not (is_added u || (is_lowered u || is_raised u))) (uses_of i ms) ≡ true

tests_both : {U : Type 0} (test : U → Bool) (all a b : List U) → all ≡ a ++ b → list_all test a ≡ true →
    list_all test b ≡ true →
    list_all test all ≡ true
tests_both test all a b e p q = ap (list_all test) e ∙ list_all-append test a b ∙ and_from (list_all test a)
    (list_all test b) p q

one_use : {U : Type 0} (test : U → Bool) (b : Bool) (u : U) → (b ≡ true → test u ≡ true) →
    list_all test (if b then u ∷ [] else []) ≡ true
one_use test true u h = ap (λ t. t && true) (h refl)
one_use test false u h = refl

module _ (k : Kinds) where
  both : (a b : List Mark) → Calm k a → Calm k b → Calm k (a ++ b)
  both a b p q i h =
      tests_both (λ u. not (is_added u || (is_lowered u || is_raised u))) _ (uses_of i a) (uses_of i b)
      (uses-append i a b) (p i h) (q i h)

  none : Calm k []
  none i h = refl

  name_fits : (w : What) → Calm k (read_marks w)
  name_fits (what.Local j) i h = one_use (λ u. not (is_added u || (is_lowered u || is_raised u))) (i == j) _ (λ e. refl)
  name_fits (what.Field j) i h = refl
  name_fits (what.Slot j) i h = refl
  name_fits (what.Send j) i h = refl
  name_fits (what.Total j) i h = refl
  name_fits what.Unread i h = refl

  -- an expression reads alone
  node_reads : (n : Node) → Calm k (node_marks n)
  node_reads (nodes.Int x) = none
  node_reads (nodes.Bool b) = none
  node_reads (nodes.Word w) = none
  node_reads (nodes.Name name) = name_fits name.what
  node_reads (nodes.Got name) = none
  node_reads (nodes.Value name) = none
  node_reads (nodes.OtherField name) = none
  node_reads (nodes.OtherWord w) = none
  node_reads (nodes.Draw at tag) = none
  node_reads (nodes.Neg' _ _ a) = node_reads a
  node_reads (nodes.Not' _ _ a) = node_reads a
  node_reads (nodes.Binary' op _ _ a _ _ b) = both (node_marks a) (node_marks b) (node_reads a) (node_reads b)
  node_reads (nodes.Cond' _ _ test _ _ a _ _ b) =
      both (node_marks test) (node_marks a ++ node_marks b) (node_reads test)
      (both (node_marks a) (node_marks b) (node_reads a) (node_reads b))
  node_reads (nodes.Least' _ _ a _ _ b) = both (node_marks a) (node_marks b) (node_reads a) (node_reads b)
  node_reads (nodes.Greatest' _ _ a _ _ b) = both (node_marks a) (node_marks b) (node_reads a) (node_reads b)
  node_reads (nodes.Group' _ _ a) = node_reads a

  reads : (e : Expr) → Calm k (expr_marks e)
  reads e = node_reads e.node

  int_target : (i j : ℕ) (value : Bool) → (has_kind kind.Int (slice_get k.locals j) && value) ≡ true →
      has_kind kind.Int (slice_get k.locals i) ≡ false → (i == j) ≡ true → ⊥
  int_target i j value h other e =
      let int = (and_parts (has_kind kind.Int (slice_get k.locals j)) value h).0 in
      true≢false (sym int ∙ ap (λ n. has_kind kind.Int (slice_get k.locals n)) (sym (eqb-true i j e)) ∙ other)

  target_fits : (w : What) (op : AssignOp) (e : Expr) → assign_typed op (name_kind k w) (node_kind k e.node) ≡ true →
      Calm k (assign_marks w op)
  target_fits (what.Local j) assign.Set e h i other =
      one_use (λ u. not (is_added u || (is_lowered u || is_raised u))) (i == j) _ (λ same. refl)
  target_fits (what.Local j) assign.Add e h i other =
      one_use (λ u. not (is_added u || (is_lowered u || is_raised u))) (i == j) _
      (λ same. absurd (int_target i j (has_kind kind.Int (node_kind k e.node)) h other same))
  target_fits (what.Local j) assign.Least e h i other =
      one_use (λ u. not (is_added u || (is_lowered u || is_raised u))) (i == j) _
      (λ same. absurd (int_target i j (has_kind kind.Int (node_kind k e.node)) h other same))
  target_fits (what.Local j) assign.Greatest e h i other =
      one_use (λ u. not (is_added u || (is_lowered u || is_raised u))) (i == j) _
      (λ same. absurd (int_target i j (has_kind kind.Int (node_kind k e.node)) h other same))
  target_fits (what.Field j) op e h i other = refl
  target_fits (what.Slot j) op e h i other = refl
  target_fits (what.Send j) op e h i other = refl
  target_fits (what.Total j) op e h i other = refl
  target_fits what.Unread op e h i other = refl

  abbrev Held : Type 0
  Held = (s : Stmt) × (stmt_typed k s ≡ true → Calm k (statement_marks s))

  abbrev stmts : List Held → List Stmt
  stmts ss = map (λ s. s.0) ss

  abbrev below : Stmt-F Held → Stmt-F Stmt
  below y = map-Stmt Held Stmt (λ s. s.0) y

  abbrev typed_all : List Stmt → Bool
  typed_all ss = list_all (λ b. b) (map (stmt_typed k) ss)

  all_fit : (ss : List Held) → typed_all (stmts ss) ≡ true → Calm k (body_marks (stmts ss))
  all_fit [] h = none
  all_fit (s ∷ ss) h =
      let typed = and_parts (stmt_typed k s.0) (typed_all (stmts ss)) h in
      both (statement_marks s.0) (body_marks (stmts ss)) (s.1 typed.0) (all_fit ss typed.1)

  abbrev level_marks : Stmt-F Stmt → List Mark
  level_marks (level.Assign t op e) = expr_marks e ++ assign_marks t.what op
  level_marks (level.SetActive at e) = expr_marks e
  level_marks (level.If at test held None) = expr_marks test ++ (body_marks held.items ++ [])
  level_marks (level.If at test held (Some other)) =
      expr_marks test ++ (body_marks held.items ++ body_marks other.items)
  level_marks (level.Emit at slot e) = expr_marks e
  level_marks (level.Break at) = Breaks ∷ []

  rolled_marks : (z : Stmt-F Stmt) → statement_marks (roll-Stmt z) ≡ level_marks z
  rolled_marks (level.Assign t op e) = ap statement_marks (rolls-Assign t op e)
  rolled_marks (level.SetActive at e) = ap statement_marks (rolls-SetActive at e)
  rolled_marks (level.If at test held None) = ap statement_marks (rolls-If at test held None) ∙ marks-if at test held
  rolled_marks (level.If at test held (Some other)) =
      ap statement_marks (rolls-If at test held (Some other)) ∙ marks-if_else at test held other
  rolled_marks (level.Emit at slot e) = ap statement_marks (rolls-Emit at slot e)
  rolled_marks (level.Break at) = ap statement_marks (rolls-Break at)

  level_fit : (y : Stmt-F Held) → level_typed k (map-Stmt Stmt Bool (stmt_typed k) (below y)) ≡ true →
      Calm k (level_marks (below y))
  level_fit (level.Assign t op e) h =
      both (expr_marks e) (assign_marks t.what op) (reads e) (target_fits t.what op e h)
  level_fit (level.SetActive at e) h = reads e
  level_fit (level.If at test held None) h =
      let typed = and_parts (expr_has k kind.Bool test) (typed_all (stmts held.items) && true) h in
      both (expr_marks test) (body_marks (stmts held.items) ++ []) (reads test)
      (both (body_marks (stmts held.items)) []
      (all_fit held.items (and_parts (typed_all (stmts held.items)) true typed.1).0) none)
  level_fit (level.If at test held (Some other)) h =
      let typed = and_parts (expr_has k kind.Bool test) (typed_all (stmts held.items) && typed_all (stmts other.items))
      h in
      let each = and_parts (typed_all (stmts held.items)) (typed_all (stmts other.items)) typed.1 in
      both (expr_marks test) (body_marks (stmts held.items) ++ body_marks (stmts other.items)) (reads test)
      (both (body_marks (stmts held.items)) (body_marks (stmts other.items)) (all_fit held.items each.0)
      (all_fit other.items each.1))
  level_fit (level.Emit at slot e) h = reads e
  level_fit (level.Break at) h = λ i other. refl

  stmt_fit : (s : Stmt) → stmt_typed k s ≡ true → Calm k (statement_marks s)
  stmt_fit = ind-Stmt (λ s. stmt_typed k s ≡ true → Calm k (statement_marks s)) (λ x y is.
      subst (λ z. stmt_typed k (roll-Stmt z) ≡ true → Calm k (statement_marks (roll-Stmt z))) is
      (subst (λ t. t ≡ true → Calm k (statement_marks (roll-Stmt (below y))))
      (sym (fold-roll-Stmt Bool (level_typed k) (below y)))
      (λ h. subst (Calm k) (sym (rolled_marks (below y))) (level_fit y h))))

  body_fit : (body : List Stmt) → body_typed k body ≡ true → Calm k (body_marks body)
  body_fit [] h = none
  body_fit (s ∷ ss) h =
      let typed = and_parts (stmt_typed k s) (body_typed k ss) h in
      both (statement_marks s) (body_marks ss) (stmt_fit s typed.0) (body_fit ss typed.1)

-- ---- classes
no_use : {U : Type 0} (read add calm : U → Bool) (uses : List U) → ((u : U) → calm u ≡ true → add u ≡ true → ⊥) →
    list_all calm uses ≡ true → list_all read uses ≡ false → list_all add uses ≡ true → ⊥
no_use read add calm [] apart all some added = true≢false some
no_use read add calm (u ∷ us) apart all some added =
    apart u (and_parts (calm u) (list_all calm us) all).0 (and_parts (add u) (list_all add us) added).0

calm_add : (a b c : Bool) → not (a || (b || c)) ≡ true → a ≡ true → ⊥
calm_add true b c h e = true≢false (sym h)
calm_add false b c h e = true≢false (sym e)

calm_low : (a b c : Bool) → not (a || (b || c)) ≡ true → b ≡ true → ⊥
calm_low true b c h e = true≢false (sym h)
calm_low false true c h e = true≢false (sym h)
calm_low false false c h e = true≢false (sym e)

calm_raise : (a b c : Bool) → not (a || (b || c)) ≡ true → c ≡ true → ⊥
calm_raise true b c h e = true≢false (sym h)
calm_raise false true c h e = true≢false (sym h)
calm_raise false false true h e = true≢false (sym h)
calm_raise false false false h e = true≢false (sym e)

module _ {U : Type 0} (read add low raise : U → Bool) (uses : List U) (op : Combine)
    (calm : list_all (λ u. not (add u || (low u || raise u))) uses ≡ true) where
  no_class : (a b c d : Bool) → list_all read uses ≡ a → list_all add uses ≡ b →
      (list_all low uses ≡ c) × (list_all raise uses ≡ d) →
      (if a then Constant else if b then Reduced combine.Sum else if c then Reduced combine.Min else if d then
      Reduced combine.Max else Carried) ≡ Reduced op → ⊥
  no_class true b c d ea eb others is = cc
  no_class false true c d ea eb others is =
      no_use read add (λ u. not (add u || (low u || raise u))) uses (λ u. calm_add (add u) (low u) (raise u)) calm
      ea eb
  no_class false false true d ea eb others is =
      no_use read low (λ u. not (add u || (low u || raise u))) uses (λ u. calm_low (add u) (low u) (raise u)) calm
      ea others.0
  no_class false false false true ea eb others is =
      no_use read raise (λ u. not (add u || (low u || raise u))) uses (λ u. calm_raise (add u) (low u) (raise u))
      calm ea
      others.1
  no_class false false false false ea eb others is = cc

class_at : (j : ℕ) (ds : List Decl) (ms : List Mark) (i : ℕ) (c : Class) → slice_get (let_classes j ds ms) i ≡ Some c →
    class_of (uses_of (j + i) ms) ≡ c
class_at j [] ms i c e = cc
class_at j (d ∷ ds) ms zero c e =
    ap (λ n. class_of (uses_of n ms)) (omega arith) ∙ same_Some (class_of (uses_of j ms)) c e
class_at j (d ∷ ds) ms (suc i) c e =
    ap (λ n. class_of (uses_of n ms)) (omega arith) ∙ class_at (j + 1) ds ms i c e

-- the lets of these classes that are reduced are Ints
abbrev pub AreInts : List Class → List ValueType → Type 0
AreInts cs kinds = (i : ℕ) (op : Combine) → slice_get cs i ≡ Some (Reduced op) → slice_get kinds i ≡ Some kind.Int

pub reduced_are_ints : (k : Kinds) (ds : List Decl) (body : List Stmt) → body_typed k body ≡ true →
    AreInts (let_classes 0 ds (body_marks body)) k.locals
reduced_are_ints k ds body typed i op e = by (has_kind kind.Int (slice_get k.locals i)) refl
  where
    is : class_of (uses_of i (body_marks body)) ≡ Reduced op
    is = ap (λ n. class_of (uses_of n (body_marks body))) (omega arith) ∙ class_at 0 ds (body_marks body) i
        (Reduced op) e

    by : (b : Bool) → has_kind kind.Int (slice_get k.locals i) ≡ b → slice_get k.locals i ≡ Some kind.Int
    by true int = kind_is kind.Int (slice_get k.locals i) int
    by false other =
        absurd (no_class is_read is_added is_lowered is_raised (uses_of i (body_marks body)) op
        (body_fit k body typed i other)
        _ _ _ _ refl refl (refl, refl) is)
