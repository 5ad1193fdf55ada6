-- A block of a loop body changes locals alone, and of these only those that it assigns.
use Rattle.std.proofs.Common.{◌≡◌, ◌==◌, ℕ, zero, suc, ℤ, Bool, true, false, ◌&&◌, IsTrue, List, [], ◌∷◌, ◌++◌, set, refl, ap, ◌∙◌}
use Rattle.std.specs.Prelude.{if◌then◌else◌}
use Rattle.std.proofs.lemmas.Bool.{and_parts, eq-eqb}
use Rattle.vert_base.specs.declared.text.Span.{Span}
use Rattle.vert_tree.specs.declared.name.Ident.{Ident}
use Rattle.vert_tree.specs.declared.name.What.{What}
use Rattle.vert_tree.specs.declared.name.What.TheVariants as what
use Rattle.vert_tree.specs.declared.expression.Expr.{Expr}
use Rattle.vert_tree.specs.declared.statement.AssignOp.{AssignOp}
use Rattle.vert_tree.specs.declared.statement.Stmt as statements
use Rattle.vert_tree.specs.declared.statement.Stmt.TheOpen as level
use Rattle.vert_tree.specs.declared.statement.Stmt.{Stmt}
use Rattle.vert_tree.specs.Places.{Counts, body_placed, expr_placed, level_placed, loop_rights}
use Rattle.carry_analysis.specs.Classes.{Mark, body_marks, expr_marks, is_read, statement_marks}
use Rattle.vert_eval.specs.declared.environment.Env.{Env}
use Rattle.vert_eval.specs.declared.environment.Flow.{Flow}
use Rattle.vert_eval.specs.declared.environment.Flow.TheVariants.{Going, Broke}
use Rattle.vert_eval.specs.Runs.{Act, Ran, act_step, after, by_flow, followed_by, leaves, run}
use Rattle.vert_eval.specs.Values.{node_value, word_at}
use Rattle.vert_eval.specs.Words.{is_set}
use Rattle.order_free.proofs.Statements.{Closed, run_holds}
use Rattle.order_free.proofs.Uses.{Idle, idle_left, idle_right, refused}
use Rattle.order_free.proofs.Values.{relet}

-- ---- words
pub word_other : (l : List ℤ) (i j : ℕ) (x : ℤ) → (j ≡ i → ⊥) → word_at (set l i x) j ≡ word_at l j
word_other [] i j x ne = refl
word_other (y ∷ l) zero zero x ne = absurd (ne refl)
word_other (y ∷ l) zero (suc j) x ne = refl
word_other (y ∷ l) (suc i) zero x ne = refl
word_other (y ∷ l) (suc i) (suc j) x ne = word_other l i j x (λ e. ne (ap suc e))

-- ---- blocks
-- what an act with these marks leaves, where its test is true
pub record Keeps (t : Bool) (ms : List Mark) (f : Act) : Type 0 where
  pub rest : IsTrue t → (a : Env) → (f a).env ≡ relet (f a).env.locals (f a).env.touched a
  pub words : (i : ℕ) → Idle i ms → (a : Env) → word_at (f a).env.locals.items i ≡ word_at a.locals.items i

keeps_leaves : Keeps true [] leaves
keeps_leaves = record { rest = λ h a. refl; words = λ i h a. refl }

next_rest : (v : Flow) (a : Env) (x y : Ran) → x.env ≡ relet x.env.locals x.env.touched a →
    y.env ≡ relet y.env.locals y.env.touched x.env →
    (by_flow v x (after x y)).env ≡ relet (by_flow v x (after x y)).env.locals (by_flow v x (after x y)).env.touched a
next_rest Going a x y p q = q ∙ ap (relet y.env.locals y.env.touched) p
next_rest Broke a x y p q = p

next_word : (v : Flow) (i : ℕ) (a : Env) (x y : Ran) → word_at x.env.locals.items i ≡ word_at a.locals.items i →
    word_at y.env.locals.items i ≡ word_at x.env.locals.items i →
    word_at (by_flow v x (after x y)).env.locals.items i ≡ word_at a.locals.items i
next_word Going i a x y p q = q ∙ p
next_word Broke i a x y p q = p

keeps_next : (t u : Bool) (ms ns : List Mark) (f g : Act) → Keeps t ms f → Keeps u ns g →
    Keeps (t && u) (ms ++ ns) (λ env. followed_by (f env) g)
keeps_next t u ms ns f g p q = record {
  rest = λ h a. next_rest (f a).flow a (f a) (g (f a).env) (p.rest (and_parts t u h).0 a)
      (q.rest (and_parts t u h).1 (f a).env);
  words = λ i h a. next_word (f a).flow i a (f a) (g (f a).env) (p.words i (idle_left i ms ns h) a)
      (q.words i (idle_right i ms ns h) (f a).env);
}

choice_rest : (b : Bool) (f g : Act) (a : Env) → (f a).env ≡ relet (f a).env.locals (f a).env.touched a →
    (g a).env ≡ relet (g a).env.locals (g a).env.touched a →
    (if b then f a else g a).env ≡ relet (if b then f a else g a).env.locals (if b then f a else g a).env.touched a
choice_rest true f g a p q = p
choice_rest false f g a p q = q

choice_word : (b : Bool) (i : ℕ) (f g : Act) (a : Env) → word_at (f a).env.locals.items i ≡ word_at a.locals.items i →
    word_at (g a).env.locals.items i ≡ word_at a.locals.items i →
    word_at (if b then f a else g a).env.locals.items i ≡ word_at a.locals.items i
choice_word true i f g a p q = p
choice_word false i f g a p q = q

module _ (c : Counts) where
  module _ (t u : Bool) (test : Expr) (ms ns : List Mark) (f g : Act) where
    keeps_choice : Keeps t ms f → Keeps u ns g →
        Keeps (expr_placed c test && (t && u)) (expr_marks test ++ (ms ++ ns)) (λ env. if is_set (node_value
        test.node env) then f env else g env)
    keeps_choice p q = record {
      rest = λ h a.
          let both = (and_parts (expr_placed c test) (t && u) h).1 in
          choice_rest (is_set (node_value test.node a)) f g a (p.rest (and_parts t u both).0 a)
          (q.rest (and_parts t u both).1 a);
      words = λ i h a.
          let both = idle_right i (expr_marks test) (ms ++ ns) h in
          choice_word (is_set (node_value test.node a)) i f g a (p.words i (idle_left i ms ns both) a)
          (q.words i (idle_right i ms ns both) a);
    }

  differs : (i j : ℕ) → i == j ≡ false → i ≡ j → ⊥
  differs i j ne e = let same = eq-eqb i j e in cc

  keeps_assign : (at : Span) (n : ℕ) (w : What) (op : AssignOp) (e : Expr) →
      let target : Ident = record { span = at; name = n; what = w } in
      Keeps (level_placed loop_rights c (level.Assign target op e)) (statement_marks (statements.Assign target op e))
      (act_step (level.Assign target op e))
  keeps_assign at n (what.Local j) op e = record {
    rest = λ h a. refl;
    words = λ i h a. word_other a.locals.items j i _
        (differs i j (refused is_read (i == j) _ refl (idle_right i (expr_marks e) _ h)));
  }
  keeps_assign at n (what.Field j) op e = record { rest = λ h a. cc; words = λ i h a. refl }
  keeps_assign at n what.Unread op e = record { rest = λ h a. refl; words = λ i h a. refl }
  keeps_assign at n (what.Slot j) op e = record { rest = λ h a. refl; words = λ i h a. refl }
  keeps_assign at n (what.Send j) op e = record { rest = λ h a. refl; words = λ i h a. refl }
  keeps_assign at n (what.Total j) op e = record { rest = λ h a. refl; words = λ i h a. refl }

  keeps : Closed loop_rights c Keeps
  keeps = record {
    nothing = keeps_leaves;
    next = keeps_next;
    choice = keeps_choice;
    assign = λ target op e. keeps_assign target.span target.name target.what op e;
    active = λ s e. record { rest = λ h a. cc; words = λ i h a. refl };
    emits = λ s slot e. record { rest = λ h a. refl; words = λ i h a. refl };
    breaks = λ s. record { rest = λ h a. refl; words = λ i h a. refl };
  }

  pub run_keeps : (body : List Stmt) → Keeps (body_placed loop_rights c body) (body_marks body) (run body)
  run_keeps body = run_holds loop_rights c Keeps keeps body
