-- A loop that ends at a neighbour, in either form, agrees over every order.
use Rattle.std.proofs.Common.{◌≡◌, ℕ, Bool, true, false, not, ◌&&◌, IsTrue, List, [], ◌∷◌, ◌++◌, map, refl, sym, ap, subst, ◌∙◌, Option, Some, None}
use Rattle.std.specs.Prelude.{if◌then◌else◌}
use Rattle.std.specs.List.{list_all}
use Rattle.std.specs.Global.{Vec}
use Rattle.std.proofs.lemmas.List.{append-nil}
use Rattle.std.proofs.lemmas.Bool.{and_from, and_parts}
use Rattle.vert_base.specs.declared.text.Span.{Span}
use Rattle.vert_tree.specs.declared.name.What.{What}
use Rattle.vert_tree.specs.declared.name.What.TheVariants as what
use Rattle.vert_tree.specs.declared.expression.BinOp.TheVariants as op
use Rattle.vert_tree.specs.declared.expression.Expr.{Expr}
use Rattle.vert_tree.specs.declared.expression.Node.{Node}
use Rattle.vert_tree.specs.declared.expression.Node.TheVariants as nodes
use Rattle.vert_tree.specs.declared.program.Decl.{Decl}
use Rattle.vert_tree.specs.declared.statement.AssignOp.TheVariants as assign
use Rattle.vert_tree.specs.declared.statement.Stmt.{Stmt, Stmt-F}
use Rattle.vert_tree.specs.declared.statement.Stmt.TheOpen as level
use Rattle.vert_tree.specs.declared.statement.Stmt.TheViews.{out-Stmt}
use Rattle.vert_tree.specs.declared.statement.Stmt.TheFolds.{fold_out-Stmt, map-Stmt}
use Rattle.vert_tree.specs.Places.{Counts, all_true, body_placed, expr_placed, level_placed, loop_rights, stmt_placed}
use Rattle.vert_tree.specs.Readable.{body_read, expr_read, in_tests, level_read, node_read, stmt_read}
use Rattle.carry_analysis.specs.declared.classes.Class.{Class}
use Rattle.carry_analysis.specs.Classes.{body_marks, expr_marks, let_classes, statement_marks}
use Rattle.vert_eval.specs.declared.environment.Env.{Env}
use Rattle.vert_eval.specs.declared.environment.Flow.{Flow}
use Rattle.vert_eval.specs.declared.environment.Flow.TheVariants.{Going, Broke}
use Rattle.vert_eval.specs.Runs.{Act, Ran, act_of, act_step, after, by_flow, followed_by, in_turn, leaves, run}
use Rattle.vert_eval.specs.Values.{node_value}
use Rattle.vert_eval.specs.Words.{is_set}
use Rattle.order_laws.specs.Agreement.{LoopAgrees}
use Rattle.order_free.specs.Fixed.{is_fixed, is_known, reads_known}
use Rattle.order_free.specs.Forms.{counter_of, counts_in, counts_members, counts_up, ends_loop, finds_one, is_bound, is_break, is_found_one, is_last_step, is_let, is_reach_a_count, names_counter, stops_at_bound, stops_counter}
use Rattle.order_free.proofs.Blind.{Alike, run_blind}
use Rattle.order_free.proofs.ClassLaws.{unassigned_idle}
use Rattle.order_free.proofs.Counted.{counted}
use Rattle.order_free.proofs.Keeps.{run_keeps}
use Rattle.order_free.proofs.Uses.{Idle, idle_left, idle_right}
use Rattle.carry_analysis.proofs.StatementMarks.{marks-if}
use Rattle.order_free.proofs.Statements.{shut}

-- ---- what reads no neighbour
abbrev reads_alone : Stmt-F Stmt → Bool
reads_alone z = level_read in_tests (map-Stmt Stmt Bool (stmt_read in_tests) z)

opened : (s : Stmt) → IsTrue (reads_alone (out-Stmt s)) → IsTrue (stmt_read in_tests s)
opened s h = fold_out-Stmt Bool (level_read in_tests) s ∙ h

all_mapped : {X : Type 0} (p : X → Bool) (xs : List X) → all_true (map p xs) ≡ list_all p xs
all_mapped p [] = refl
all_mapped p (x ∷ xs) = ap (λ b. p x && b) (all_mapped p xs)

break_reads : (z : Stmt-F Stmt) → IsTrue (is_break z) → IsTrue (reads_alone z)
break_reads (level.Assign t o e) h = cc
break_reads (level.SetActive at e) h = cc
break_reads (level.If at test held otherwise) h = cc
break_reads (level.Emit at slot e) h = cc
break_reads (level.Break at) h = refl

module _ (classes : List Class) where
  step_reads : (counter : Option ℕ) (z : Stmt-F Stmt) → IsTrue (is_last_step classes counter z) → IsTrue (reads_alone z)
  step_reads counter (level.Assign t assign.Set e) h =
      (and_parts (node_read in_tests e.node) (reads_known classes counter e.node)
      (and_parts (not (names_counter counter t.what)) (is_fixed classes counter e.node) h).1).0
  step_reads counter (level.Assign t assign.Add e) h = cc
  step_reads counter (level.Assign t assign.Least e) h = cc
  step_reads counter (level.Assign t assign.Greatest e) h = cc
  step_reads counter (level.SetActive at e) h = cc
  step_reads counter (level.If at test held otherwise) h = cc
  step_reads counter (level.Emit at slot e) h =
      (and_parts (node_read in_tests e.node) (reads_known classes counter e.node) h).0
  step_reads counter (level.Break at) h = cc

  end_reads : (counter : Option ℕ) (body : List Stmt) → IsTrue (ends_loop classes counter body) →
      IsTrue (body_read in_tests body)
  end_reads counter [] h = cc
  end_reads counter (s ∷ []) h = and_from (stmt_read in_tests s) true (opened s (break_reads (out-Stmt s) h)) refl
  end_reads counter (s ∷ t ∷ more) h =
      and_from (stmt_read in_tests s) (body_read in_tests (t ∷ more))
      (opened s (step_reads counter (out-Stmt s)
      (and_parts (is_last_step classes counter (out-Stmt s)) (ends_loop classes counter (t ∷ more)) h).0))
      (end_reads counter (t ∷ more)
      (and_parts (is_last_step classes counter (out-Stmt s)) (ends_loop classes counter (t ∷ more)) h).1)

  let_reads : (c : ℕ) (e : Node) → IsTrue (is_let c e) → IsTrue (node_read in_tests e)
  let_reads c (nodes.Int x) h = cc
  let_reads c (nodes.Bool b) h = cc
  let_reads c (nodes.Word w) h = cc
  let_reads c (nodes.Name name) h = refl
  let_reads c (nodes.Got name) h = cc
  let_reads c (nodes.Value name) h = cc
  let_reads c (nodes.OtherField name) h = cc
  let_reads c (nodes.OtherWord w) h = cc
  let_reads c (nodes.Draw at tag) h = cc
  let_reads c (nodes.Neg' _ _ a) h = cc
  let_reads c (nodes.Not' _ _ a) h = cc
  let_reads c (nodes.Binary' o _ _ a _ _ b) h = cc
  let_reads c (nodes.Cond' _ _ test _ _ a _ _ b) h = cc
  let_reads c (nodes.Least' _ _ a _ _ b) h = cc
  let_reads c (nodes.Greatest' _ _ a _ _ b) h = cc
  let_reads c (nodes.Group' _ _ a) h = cc

  bound_reads : (c : ℕ) (e : Node) → IsTrue (is_bound classes c e) → IsTrue (node_read in_tests e)
  bound_reads c (nodes.Int x) h = cc
  bound_reads c (nodes.Bool b) h = cc
  bound_reads c (nodes.Word w) h = cc
  bound_reads c (nodes.Name name) h = cc
  bound_reads c (nodes.Got name) h = cc
  bound_reads c (nodes.Value name) h = cc
  bound_reads c (nodes.OtherField name) h = cc
  bound_reads c (nodes.OtherWord w) h = cc
  bound_reads c (nodes.Draw at tag) h = cc
  bound_reads c (nodes.Neg' _ _ a) h = cc
  bound_reads c (nodes.Not' _ _ a) h = cc
  bound_reads c (nodes.Binary' op.Add _ _ a _ _ b) h = cc
  bound_reads c (nodes.Binary' op.Sub _ _ a _ _ b) h = cc
  bound_reads c (nodes.Binary' op.Mul _ _ a _ _ b) h = cc
  bound_reads c (nodes.Binary' op.Div _ _ a _ _ b) h = cc
  bound_reads c (nodes.Binary' op.Rem _ _ a _ _ b) h = cc
  bound_reads c (nodes.Binary' op.Eq _ _ a _ _ b) h = cc
  bound_reads c (nodes.Binary' op.Ne _ _ a _ _ b) h = cc
  bound_reads c (nodes.Binary' op.Lt _ _ a _ _ b) h = cc
  bound_reads c (nodes.Binary' op.Le _ _ a _ _ b) h = cc
  bound_reads c (nodes.Binary' op.Gt _ _ a _ _ b) h = cc
  bound_reads c (nodes.Binary' op.Ge _ _ a _ _ b) h =
      and_from (node_read in_tests a) (node_read in_tests b)
      (let_reads c a (and_parts (is_let c a) (is_fixed classes None b) h).0)
      (and_parts (node_read in_tests b) (reads_known classes None b)
      (and_parts (is_let c a) (is_fixed classes None b) h).1).0
  bound_reads c (nodes.Binary' op.And _ _ a _ _ b) h = cc
  bound_reads c (nodes.Binary' op.Or _ _ a _ _ b) h = cc
  bound_reads c (nodes.Cond' _ _ test _ _ a _ _ b) h = cc
  bound_reads c (nodes.Least' _ _ a _ _ b) h = cc
  bound_reads c (nodes.Greatest' _ _ a _ _ b) h = cc
  bound_reads c (nodes.Group' _ _ a) h = cc

  stop_reads : (c : ℕ) (z : Stmt-F Stmt) → IsTrue (stops_at_bound classes c z) → IsTrue (reads_alone z)
  stop_reads c (level.Assign t o e) h = cc
  stop_reads c (level.SetActive at e) h = cc
  stop_reads c (level.If at test held None) h =
      let ends = (and_parts (is_bound classes c test.node) (ends_loop classes (Some c) held.items) h).1 in
      and_from (expr_read in_tests test) _
      (bound_reads c test.node
      (and_parts (is_bound classes c test.node) (ends_loop classes (Some c) held.items) h).0)
      (and_from (all_true (map (stmt_read in_tests) held.items)) true
      (all_mapped (stmt_read in_tests) held.items ∙ end_reads (Some c) held.items ends) refl)
  stop_reads c (level.If at test held (Some body)) h = cc
  stop_reads c (level.Emit at slot e) h = cc
  stop_reads c (level.Break at) h = cc

  -- `c += K;`
  count_reads : (z : Stmt-F Stmt) (c : ℕ) → counter_of classes z ≡ Some c → IsTrue (reads_alone z)
  count_reads (level.Assign t assign.Add e) c h = by_target t.what h
    where
      by_fixed : (b : Bool) (i : ℕ) → is_fixed classes None e.node ≡ b → (if b then Some i else None) ≡ Some c →
          IsTrue (node_read in_tests e.node)
      by_fixed true i fixed k = (and_parts (node_read in_tests e.node) (reads_known classes None e.node) fixed).0
      by_fixed false i fixed k = cc

      by_target : (w : What) → counts_in classes w e.node ≡ Some c → IsTrue (node_read in_tests e.node)
      by_target (what.Local i) k = by_fixed (is_fixed classes None e.node) i refl k
      by_target what.Unread k = cc
      by_target (what.Field i) k = cc
      by_target (what.Slot i) k = cc
      by_target (what.Send i) k = cc
      by_target (what.Total i) k = cc
  count_reads (level.Assign t assign.Set e) c h = cc
  count_reads (level.Assign t assign.Least e) c h = cc
  count_reads (level.Assign t assign.Greatest e) c h = cc
  count_reads (level.SetActive at e) c h = cc
  count_reads (level.If at test held otherwise) c h = cc
  count_reads (level.Emit at slot e) c h = cc
  count_reads (level.Break at) c h = cc

  count_up_reads : (body : List Stmt) → IsTrue (counts_up classes body) → IsTrue (body_read in_tests body)
  count_up_reads [] h = cc
  count_up_reads (s ∷ []) h = cc
  count_up_reads (s ∷ t ∷ []) h = by_counter (counter_of classes (out-Stmt s)) refl h
    where
      by_counter : (o : Option ℕ) → counter_of classes (out-Stmt s) ≡ o →
          IsTrue (stops_counter classes o (out-Stmt t)) → IsTrue (body_read in_tests (s ∷ t ∷ []))
      by_counter None e k = cc
      by_counter (Some c) e k =
          and_from (stmt_read in_tests s) (body_read in_tests (t ∷ [])) (opened s (count_reads (out-Stmt s) c e))
          (and_from (stmt_read in_tests t) true (opened t (stop_reads c (out-Stmt t) k)) refl)
  count_up_reads (s ∷ t ∷ u ∷ more) h = cc

-- ---- the loop of an `if`
ended : (v : Flow) (r : Ran) → r.flow ≡ v → Alike r (by_flow v r (after r (leaves r.env)))
ended Going r e = record { env = refl; emitted = append-nil r.emitted; flow = sym e }
ended Broke r e = record { env = refl; emitted = refl; flow = refl }

module _ (ds : List Decl) (c : Counts) (s : Stmt) (at : Span) (test : Expr) (held : Vec Stmt)
    (is : out-Stmt s ≡ level.If at test held None) where
  abbrev classes : List Class
  classes = let_classes 0 ds (body_marks (s ∷ []))

  abbrev choice : Act
  choice env = if is_set (node_value test.node env) then run held.items env else leaves env

  act_is : (env : Env) → act_of s env ≡ choice env
  act_is env = ap (λ f. f env) (fold_out-Stmt Act act_step s) ∙ ap (λ z. act_step (map-Stmt Stmt Act act_of z) env) is

  body_is : (env : Env) → Alike (choice env) (run (s ∷ []) env)
  body_is env = subst (λ r. Alike (choice env) (followed_by r (in_turn []))) (sym (act_is env))
      (ended (choice env).flow (choice env) refl)

  held_placed : IsTrue (body_placed loop_rights c (s ∷ [])) → IsTrue (body_placed loop_rights c held.items)
  held_placed h =
      let here = (and_parts (stmt_placed loop_rights c s) true h).0 in
      let open_here : IsTrue
      (level_placed loop_rights c (map-Stmt Stmt Bool (stmt_placed loop_rights c) (level.If at test held None))) =
      sym (fold_out-Stmt Bool (level_placed loop_rights c) s
      ∙ ap (λ z. level_placed loop_rights c (map-Stmt Stmt Bool (stmt_placed loop_rights c) z)) is) ∙ here in
      let all = all_true (map (stmt_placed loop_rights c) held.items) in
      sym (all_mapped (stmt_placed loop_rights c) held.items)
      ∙ (and_parts all true (and_parts (expr_placed c test) (all && true) open_here).1).0

  held_idle : (i : ℕ) → IsTrue (is_known classes None i) → Idle i (body_marks held.items)
  held_idle i h =
      let whole : Idle i (statement_marks s ++ []) = unassigned_idle ds (body_marks (s ∷ [])) i h in
      let marks : statement_marks s ≡ expr_marks test ++ (body_marks held.items ++ []) =
      ap statement_marks (shut s at test held None is) ∙ marks-if at test held in
      idle_left i (body_marks held.items) []
      (idle_right i (expr_marks test) (body_marks held.items ++ [])
      (subst (Idle i) marks (idle_left i (statement_marks s) [] whole)))

  pub if_agrees : IsTrue (body_placed loop_rights c (s ∷ [])) → IsTrue (reads_known classes None test.node) →
      IsTrue (body_read in_tests held.items) → LoopAgrees (s ∷ [])
  if_agrees placed reads blind scene members others env same =
      let kept = run_keeps c held.items in
      counted scene (s ∷ []) test.node (run held.items) (is_known classes None) body_is
      (run_blind held.items blind) reads (kept.rest (held_placed placed))
      (λ a. record { same = λ i h. kept.words i (held_idle i h) a }) env members others same

-- ---- the two forms
module _ (ds : List Decl) (c : Counts) where
  found_at : (s : Stmt) (z : Stmt-F Stmt) → out-Stmt s ≡ z → IsTrue (body_placed loop_rights c (s ∷ [])) →
      IsTrue (finds_one (let_classes 0 ds (body_marks (s ∷ []))) z) → LoopAgrees (s ∷ [])
  found_at s (level.If at test held None) is placed h =
      let classes = let_classes 0 ds (body_marks (s ∷ [])) in
      if_agrees ds c s at test held is placed
      (and_parts (reads_known classes None test.node) (ends_loop classes None held.items) h).0
      (end_reads classes None held.items
      (and_parts (reads_known classes None test.node) (ends_loop classes None held.items) h).1)
  found_at s (level.If at test held (Some body)) is placed h = cc
  found_at s (level.Assign t o e) is placed h = cc
  found_at s (level.SetActive at e) is placed h = cc
  found_at s (level.Emit at slot e) is placed h = cc
  found_at s (level.Break at) is placed h = cc

  pub found_agrees : (body : List Stmt) → IsTrue (body_placed loop_rights c body) →
      IsTrue (is_found_one (let_classes 0 ds (body_marks body)) body) → LoopAgrees body
  found_agrees [] placed h = cc
  found_agrees (s ∷ []) placed h = found_at s (out-Stmt s) refl placed h
  found_agrees (s ∷ t ∷ more) placed h = cc

  count_at : (s : Stmt) (z : Stmt-F Stmt) → out-Stmt s ≡ z → IsTrue (body_placed loop_rights c (s ∷ [])) →
      IsTrue (counts_members (let_classes 0 ds (body_marks (s ∷ []))) z) → LoopAgrees (s ∷ [])
  count_at s (level.If at test held None) is placed h =
      let classes = let_classes 0 ds (body_marks (s ∷ [])) in
      if_agrees ds c s at test held is placed
      (and_parts (reads_known classes None test.node) (counts_up classes held.items) h).0
      (count_up_reads classes held.items
      (and_parts (reads_known classes None test.node) (counts_up classes held.items) h).1)
  count_at s (level.If at test held (Some body)) is placed h = cc
  count_at s (level.Assign t o e) is placed h = cc
  count_at s (level.SetActive at e) is placed h = cc
  count_at s (level.Emit at slot e) is placed h = cc
  count_at s (level.Break at) is placed h = cc

  pub count_agrees : (body : List Stmt) → IsTrue (body_placed loop_rights c body) →
      IsTrue (is_reach_a_count (let_classes 0 ds (body_marks body)) body) → LoopAgrees body
  count_agrees [] placed h = cc
  count_agrees (s ∷ []) placed h = count_at s (out-Stmt s) refl placed h
  count_agrees (s ∷ t ∷ more) placed h = cc
