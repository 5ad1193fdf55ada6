-- What holds of each statement of a loop body, by its rights and by what stands in it.
use Rattle.std.proofs.Common.{◌≡◌, Bool, true, ◌&&◌, List, [], ◌∷◌, ◌++◌, map, sym, ap, subst, ◌∙◌, Option, Some, None}
use Rattle.std.specs.Prelude.{if◌then◌else◌}
use Rattle.std.specs.List.{list_all}
use Rattle.std.specs.Global.{Vec}
use Rattle.vert_base.specs.declared.text.Span.{Span}
use Rattle.vert_tree.specs.declared.name.Ident.{Ident}
use Rattle.vert_tree.specs.declared.expression.Expr.{Expr}
use Rattle.vert_tree.specs.declared.statement.AssignOp.{AssignOp}
use Rattle.vert_tree.specs.declared.statement.Stmt.{Stmt, Stmt-F}
use Rattle.vert_tree.specs.declared.statement.Stmt as statements
use Rattle.vert_tree.specs.declared.statement.Stmt.TheOpen as level
use Rattle.vert_tree.specs.declared.statement.Stmt.TheVariants.{rolls-Assign, rolls-SetActive, rolls-If, rolls-Emit, rolls-Break}
use Rattle.vert_tree.specs.declared.statement.Stmt.TheViews.{out-Stmt, roll-Stmt, roll-out-Stmt}
use Rattle.vert_tree.specs.declared.statement.Stmt.TheFolds.{fold-roll-Stmt, ind-Stmt, map-Stmt}
use Rattle.vert_tree.specs.Places.{Counts, Rights, body_placed, expr_placed, level_placed, stmt_placed}
use Rattle.carry_analysis.specs.Classes.{Mark, body_marks, expr_marks, statement_marks}
use Rattle.carry_analysis.proofs.StatementMarks.{marks-if, marks-if_else}
use Rattle.vert_eval.specs.Runs.{Act, act_of, act_step, followed_by, in_turn, leaves, run}
use Rattle.vert_eval.specs.Values.{node_value}
use Rattle.vert_eval.specs.Words.{is_set}

-- the statement that opens as this `if`
pub shut : (stmt : Stmt) (s : Span) (test : Expr) (held : Vec Stmt) (otherwise : Option (Vec Stmt)) →
    out-Stmt stmt ≡ level.If s test held otherwise → stmt ≡ statements.If s test held otherwise
shut stmt s test held otherwise e = sym (roll-out-Stmt stmt) ∙ ap roll-Stmt e ∙ rolls-If s test held otherwise

-- ---- the induction
-- what holds of runs one after another and of a choice, by a test and by marks
pub record Closed (r : Rights) (c : Counts) (P : Bool → List Mark → Act → Type 0) : Type 0 where
  pub nothing : P true [] leaves
  pub next : (t u : Bool) (ms ns : List Mark) (f g : Act) → P t ms f → P u ns g →
      P (t && u) (ms ++ ns) (λ env. followed_by (f env) g)
  pub choice : (t u : Bool) (test : Expr) (ms ns : List Mark) (f g : Act) → P t ms f → P u ns g →
      P (expr_placed c test && (t && u)) (expr_marks test ++ (ms ++ ns))
      (λ env. if is_set (node_value test.node env) then f env else g env)
  pub assign : (target : Ident) (op : AssignOp) (e : Expr) →
      P (level_placed r c (level.Assign target op e)) (statement_marks (statements.Assign target op e))
      (act_step (level.Assign target op e))
  pub active : (s : Span) (e : Expr) →
      P (level_placed r c (level.SetActive s e)) (statement_marks (statements.SetActive s e))
      (act_step (level.SetActive s e))
  pub emits : (s : Span) (slot : Ident) (e : Expr) →
      P (level_placed r c (level.Emit s slot e)) (statement_marks (statements.Emit s slot e))
      (act_step (level.Emit s slot e))
  pub breaks : (s : Span) →
      P (level_placed r c (level.Break s)) (statement_marks (statements.Break s)) (act_step (level.Break s))

module _ (r : Rights) (c : Counts) (P : Bool → List Mark → Act → Type 0) (closed : Closed r c P) where
  abbrev Held : Type 0
  Held = (s : Stmt) × P (stmt_placed r c s) (statement_marks s) (act_of s)

  abbrev stmts : List Held → List Stmt
  stmts ss = map (λ s. s.0) ss

  abbrev below : Stmt-F Held → Stmt-F Stmt
  below y = map-Stmt Held Stmt (λ s. s.0) y

  all_hold : (ss : List Held) →
      P (list_all (λ b. b) (map (stmt_placed r c) (stmts ss))) (body_marks (stmts ss)) (in_turn (map act_of (stmts ss)))
  all_hold [] = closed.nothing
  all_hold (s ∷ ss) =
      closed.next (stmt_placed r c s.0) (list_all (λ b. b) (map (stmt_placed r c) (stmts ss))) (statement_marks s.0)
      (body_marks (stmts ss)) (act_of s.0) (in_turn (map act_of (stmts ss))) s.1 (all_hold ss)

  -- the same at the statement, given its marks
  rolled : (z : Stmt-F Stmt) (ms : List Mark) → statement_marks (roll-Stmt z) ≡ ms →
      P (level_placed r c (map-Stmt Stmt Bool (stmt_placed r c) z)) ms (act_step (map-Stmt Stmt Act act_of z)) →
      P (stmt_placed r c (roll-Stmt z)) (statement_marks (roll-Stmt z)) (act_of (roll-Stmt z))
  rolled z ms is h =
      subst (λ t. P t (statement_marks (roll-Stmt z)) (act_of (roll-Stmt z)))
      (sym (fold-roll-Stmt Bool (level_placed r c) z))
      (subst (P (level_placed r c (map-Stmt Stmt Bool (stmt_placed r c) z)) (statement_marks (roll-Stmt z)))
      (sym (fold-roll-Stmt Act act_step z))
      (subst (λ l. P (level_placed r c (map-Stmt Stmt Bool (stmt_placed r c) z)) l
      (act_step (map-Stmt Stmt Act act_of z))) (sym is) h))

  level_holds : (y : Stmt-F Held) →
      P (stmt_placed r c (roll-Stmt (below y))) (statement_marks (roll-Stmt (below y))) (act_of (roll-Stmt (below y)))
  level_holds (level.Assign t op e) =
      rolled (level.Assign t op e) _ (ap statement_marks (rolls-Assign t op e)) (closed.assign t op e)
  level_holds (level.SetActive s e) =
      rolled (level.SetActive s e) _ (ap statement_marks (rolls-SetActive s e)) (closed.active s e)
  level_holds (level.If s test held None) =
      rolled (below (level.If s test held None)) _ (ap statement_marks (rolls-If s test _ None) ∙ marks-if s test _)
      (closed.choice _ true test _ [] (in_turn (map act_of (stmts held.items))) leaves
      (all_hold held.items) closed.nothing)
  level_holds (level.If s test held (Some body)) =
      rolled (below (level.If s test held (Some body))) _
      (ap statement_marks (rolls-If s test _ (Some _)) ∙ marks-if_else s test _ _)
      (closed.choice _ _ test _ _ (in_turn (map act_of (stmts held.items))) (in_turn (map act_of (stmts body.items)))
      (all_hold held.items) (all_hold body.items))
  level_holds (level.Emit s slot e) =
      rolled (level.Emit s slot e) _ (ap statement_marks (rolls-Emit s slot e)) (closed.emits s slot e)
  level_holds (level.Break s) = rolled (level.Break s) _ (ap statement_marks (rolls-Break s)) (closed.breaks s)

  pub act_holds : (s : Stmt) → P (stmt_placed r c s) (statement_marks s) (act_of s)
  act_holds = ind-Stmt (λ s. P (stmt_placed r c s) (statement_marks s) (act_of s)) (λ x y is.
      subst (λ z. P (stmt_placed r c (roll-Stmt z)) (statement_marks (roll-Stmt z)) (act_of (roll-Stmt z))) is
      (level_holds y))

  pub run_holds : (body : List Stmt) → P (body_placed r c body) (body_marks body) (run body)
  run_holds [] = closed.nothing
  run_holds (s ∷ ss) = closed.next (stmt_placed r c s) (body_placed r c ss) (statement_marks s) (body_marks ss)
      (act_of s) (run ss) (act_holds s) (run_holds ss)
