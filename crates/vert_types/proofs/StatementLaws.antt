-- The first fault of a statement and of a block, from those of the parts.
use Rattle.std.proofs.Common.{◌≡◌, ◌<◌, ◌+◌, ℕ, suc, List, ◌∷◌, ◌++◌, drop, length, get_or, Option, None, Some, sym, ap, ◌∙◌, add-one, drop-cons}
use Rattle.std.specs.Global.{Vec}
use Rattle.std.specs.declared.alloc.Global.{Global}
use Rattle.std.specs.declared.string.String.{String}
use Rattle.vert_base.specs.declared.text.Span.{Span}
use Rattle.vert_base.specs.declared.value.ValueType.TheVariants as kind
use Rattle.vert_tree.specs.declared.expression.Expr.{Expr}
use Rattle.vert_tree.specs.declared.statement.Stmt.{Stmt}
use Rattle.vert_tree.specs.declared.statement.Stmt as statements
use Rattle.vert_tree.specs.Places.{Rights}
use Rattle.vert_tree.specs.Trees.{Statement}
use Rattle.vert_tree.specs.Views.{view, view_block, view_statement}
use Rattle.vert_tree.proofs.Rows.{view-If, view-If_else}
use Rattle.vert_types.specs.declared.fault.Finding.{Finding}
use Rattle.vert_types.specs.Findings.{first_from}
use Rattle.vert_types.specs.Typing.{Dictionary, Place, block_faults, faults_as, statement_faults}
use Rattle.vert_types.proofs.Firsts.{first_from-append}

module _ (d : Dictionary) (r : Rights) (p : Place) (names : List (String Global)) where
  pub if_found :
      (s : Span) (test : Expr) (held : Vec Stmt) (otherwise : Option (Vec Stmt)) (stmt : Stmt) (body : List Stmt)
      (o a b : Option Finding) →
      stmt ≡ statements.If s test held otherwise → otherwise ≡ None → body ≡ held.items →
      a ≡ first_from o (faults_as d p kind.Bool (view names test)) →
      b ≡ first_from a (block_faults d r p (view_block names body)) →
      b ≡ first_from o (statement_faults d r p (view_statement names stmt))
  if_found s test held otherwise stmt body o a b is none same first second =
      let tests = faults_as d p kind.Bool (view names test) in
      let at : Statement → Option Finding = λ t. first_from o (statement_faults d r p t) in
      second
      ∙ ap (λ x. first_from x (block_faults d r p (view_block names body))) first
      ∙ ap (λ l. first_from (first_from o tests) (block_faults d r p (view_block names l))) same
      ∙ sym (first_from-append o tests (block_faults d r p (view_block names held.items)))
      ∙ sym (ap at (view-If names s test held))
      ∙ ap (λ x. at (view_statement names (statements.If s test held x))) (sym none)
      ∙ ap (λ x. at (view_statement names x)) (sym is)

  pub if_else_found :
      (s : Span) (test : Expr) (held : Vec Stmt) (otherwise : Option (Vec Stmt)) (other : Vec Stmt) (stmt : Stmt)
      (body rest : List Stmt) (o a b e : Option Finding) →
      stmt ≡ statements.If s test held otherwise → otherwise ≡ Some other → body ≡ held.items → rest ≡ other.items →
      a ≡ first_from o (faults_as d p kind.Bool (view names test)) →
      b ≡ first_from a (block_faults d r p (view_block names body)) →
      e ≡ first_from b (block_faults d r p (view_block names rest)) →
      e ≡ first_from o (statement_faults d r p (view_statement names stmt))
  if_else_found s test held otherwise other stmt body rest o a b e is some same same_rest first second third =
      let tests = faults_as d p kind.Bool (view names test) in
      let one = block_faults d r p (view_block names held.items) in
      let two = block_faults d r p (view_block names other.items) in
      let at : Statement → Option Finding = λ t. first_from o (statement_faults d r p t) in
      third
      ∙ ap (λ l. first_from b (block_faults d r p (view_block names l))) same_rest
      ∙ ap (λ x. first_from x two) (second ∙ ap (λ l. first_from a (block_faults d r p (view_block names l))) same)
      ∙ ap (λ x. first_from (first_from x one) two) first
      ∙ sym (first_from-append (first_from o tests) one two)
      ∙ sym (first_from-append o tests (one ++ two))
      ∙ sym (ap at (view-If_else names s test held other))
      ∙ ap (λ x. at (view_statement names (statements.If s test held x))) (sym some)
      ∙ ap (λ x. at (view_statement names x)) (sym is)

  pub block_turn :
      (body : List Stmt) (i : ℕ) (x : Stmt) → i < length body → x ≡ get_or body i x → (o a : Option Finding) →
      a ≡ first_from o (statement_faults d r p (view_statement names x)) →
      first_from a (block_faults d r p (view_block names (drop (i + 1) body)))
      ≡ first_from o (block_faults d r p (view_block names (drop i body)))
  block_turn body i x lt is o a first =
      let rest = drop (i + 1) body in
      let head : drop i body ≡ x ∷ rest = drop-cons body i x lt ∙ ap (λ (y : Stmt). y ∷ drop (suc i) body) (sym is)
      ∙ ap (λ (n : ℕ). x ∷ drop n body) (sym (add-one i)) in
      ap (λ y. first_from y (block_faults d r p (view_block names rest))) first
      ∙ sym (first_from-append o (statement_faults d r p (view_statement names x))
      (block_faults d r p (view_block names rest)))
      ∙ ap (λ l. first_from o (block_faults d r p (view_block names l))) (sym head)

-- ---- lists of parts
module _ {X : Type 0} (G : ℕ → List X → List Finding) (F : ℕ → X → List Finding) (step : (i : ℕ) (x : X) (xs : List X)
    → G i (x ∷ xs) ≡ F i x ++ G (i + 1) xs) where
  -- the faults found after one more part, and those of what is left
  pub turn : (xs : List X) (i : ℕ) (x : X) → i < length xs → x ≡ get_or xs i x → (o a : Option Finding) →
      a ≡ first_from o (F i x) → first_from a (G (i + 1) (drop (i + 1) xs)) ≡ first_from o (G i (drop i xs))
  turn xs i x lt is o a first =
      let rest = drop (i + 1) xs in
      let head : drop i xs ≡ x ∷ rest = drop-cons xs i x lt ∙ ap (λ (y : X). y ∷ drop (suc i) xs) (sym is)
      ∙ ap (λ (n : ℕ). x ∷ drop n xs) (sym (add-one i)) in
      ap (λ y. first_from y (G (i + 1) rest)) first
      ∙ sym (first_from-append o (F i x) (G (i + 1) rest))
      ∙ sym (ap (first_from o) (step i x rest))
      ∙ sym (ap (λ l. first_from o (G i l)) head)

-- these faults lead from one first fault to another
pub record Finds (before : Option Finding) (fs : List Finding) (after : Option Finding) : Type 0 where
  pub is : after ≡ first_from before fs

-- the faults of one part, and then those of another
pub then_finds : {o a b : Option Finding} {x y : List Finding} → Finds o x a → Finds a y b → Finds o (x ++ y) b
then_finds {o = o} {x = x} {y = y} p q = record {
  is = q.is ∙ ap (λ s. first_from s y) p.is
      ∙ sym (first_from-append o x y);
}
