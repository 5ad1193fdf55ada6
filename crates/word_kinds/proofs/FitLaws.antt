-- The literals of statements fit where those of their parts do, and lists of what fits, one element more.
use Rattle.std.proofs.Common.{◌≡◌, ◌<◌, ◌+◌, ℕ, Bool, true, List, map, length, take, get_or, Option, None, Some, refl, sym, ap, subst, ◌∙◌}
use Rattle.std.specs.List.{list_all}
use Rattle.std.specs.Global.{Vec}
use Rattle.std.proofs.lemmas.Bool.{and_from}
use Rattle.std.proofs.lemmas.List.Folds.{list_all-map, list_all_more}
use Rattle.vert_base.specs.declared.text.Span.{Span}
use Rattle.vert_tree.specs.declared.expression.Expr.{Expr}
use Rattle.vert_tree.specs.declared.statement.Stmt.{Stmt}
use Rattle.vert_tree.specs.declared.statement.Stmt as statements
use Rattle.vert_tree.specs.declared.statement.Stmt.TheOpen as level
use Rattle.vert_tree.specs.declared.statement.Stmt.TheFolds.{fold-roll-Stmt}
use Rattle.vert_tree.specs.declared.statement.Stmt.TheVariants.{rolls-If}
use Rattle.word_kinds.specs.Fits.{body_fits, expr_fits, level_fits, stmt_fits}

-- ---- lists
pub one_fits_more : {X : Type 0} (p : X → Bool) (xs : List X) (i : ℕ) (x : X) → i < length xs → x ≡ get_or xs i x →
    list_all p (take i xs) ≡ true → p x ≡ true → list_all p (take (i + 1) xs) ≡ true
one_fits_more p xs i x lt is before here =
    list_all_more p xs i x lt
    ∙ and_from (list_all p (take i xs)) (p (get_or xs i x)) before (subst (λ y. p y ≡ true) is here)

-- ---- the blocks of an `if`
held_fits : (held : Vec Stmt) → body_fits held.items ≡ true → list_all (λ b. b) (map stmt_fits held.items) ≡ true
held_fits held h = list_all-map (λ b. b) stmt_fits held.items ∙ h

module _ (s : Span) (test : Expr) (held : Vec Stmt) (otherwise : Option (Vec Stmt)) (stmt : Stmt)
    (body : List Stmt) where
  pub if_fits : stmt ≡ statements.If s test held otherwise → otherwise ≡ None → body ≡ held.items →
      expr_fits test ≡ true → body_fits body ≡ true → stmt_fits stmt ≡ true
  if_fits is none same first second =
      ap stmt_fits (is ∙ ap (statements.If s test held) none ∙ sym (rolls-If s test held None))
      ∙ fold-roll-Stmt Bool level_fits (level.If s test held None)
      ∙ and_from (expr_fits test) _ first (and_from _ true (held_fits held (ap body_fits (sym same) ∙ second)) refl)

module _ (s : Span) (test : Expr) (held : Vec Stmt) (otherwise : Option (Vec Stmt)) (others : Vec Stmt)
    (stmt : Stmt) (body rest : List Stmt) where
  pub if_else_fits : stmt ≡ statements.If s test held otherwise → otherwise ≡ Some others → body ≡ held.items →
      rest ≡ others.items → expr_fits test ≡ true → body_fits body ≡ true → body_fits rest ≡ true →
      stmt_fits stmt ≡ true
  if_else_fits is some same same_rest first second third =
      ap stmt_fits (is ∙ ap (statements.If s test held) some ∙ sym (rolls-If s test held (Some others)))
      ∙ fold-roll-Stmt Bool level_fits (level.If s test held (Some others))
      ∙ and_from (expr_fits test) _ first
      (and_from _ _ (held_fits held (ap body_fits (sym same) ∙ second))
      (held_fits others (ap body_fits (sym same_rest) ∙ third)))
