-- The slots to which a body emits, and those to which the blocks of an `if` do.
use Rattle.std.proofs.Common.{◌≡◌, ◌+◌, ℕ, Bool, true, false, ◌||◌, List, [], ◌∷◌, ◌++◌, map, filter, cond, refl, sym, ap, ◌∙◌, Option, None, Some, append-nil, arith}
use Rattle.std.specs.List.{list_any, range_with_len}
use Rattle.std.proofs.lemmas.List.{map-id}
use Rattle.std.proofs.lemmas.List.FromFn.{filter_of_map_range_with_len_more}
use Rattle.std.specs.Global.{Vec}
use Rattle.std.proofs.Math.Bool.{or-false}
use Rattle.vert_base.specs.declared.text.Span.{Span}
use Rattle.vert_tree.specs.declared.expression.Expr.{Expr}
use Rattle.vert_tree.specs.declared.statement.Stmt.{Stmt}
use Rattle.vert_tree.specs.declared.statement.Stmt as statements
use Rattle.vert_tree.specs.declared.statement.Stmt.TheOpen as level
use Rattle.vert_tree.specs.declared.statement.Stmt.TheFolds.{fold-roll-Stmt}
use Rattle.vert_tree.specs.declared.statement.Stmt.TheVariants.{rolls-If}
use Rattle.instrument.specs.Loops.{any_true, body_emits, level_emits, stmt_emits}

any_of_map : {X : Type 0} (p : X → Bool) (xs : List X) → any_true (map p xs) ≡ list_any p xs
any_of_map p [] = refl
any_of_map p (x ∷ xs) = ap (λ b. p x || b) (any_of_map p xs)

emits-if : (slot : ℕ) (s : Span) (test : Expr) (held : Vec Stmt) →
    stmt_emits slot (statements.If s test held None) ≡ body_emits slot held.items
emits-if slot s test held =
    ap (stmt_emits slot) (sym (rolls-If s test held None))
    ∙ fold-roll-Stmt Bool (level_emits slot) (level.If s test held None)
    ∙ or-false (any_true (map (stmt_emits slot) held.items)) ∙ any_of_map (stmt_emits slot) held.items

emits-if_else : (slot : ℕ) (s : Span) (test : Expr) (held others : Vec Stmt) →
    stmt_emits slot (statements.If s test held (Some others)) ≡
    (body_emits slot held.items || body_emits slot others.items)
emits-if_else slot s test held others =
    ap (stmt_emits slot) (sym (rolls-If s test held (Some others)))
    ∙ fold-roll-Stmt Bool (level_emits slot) (level.If s test held (Some others))
    ∙ ap (λ b. b || any_true (map (stmt_emits slot) others.items)) (any_of_map (stmt_emits slot) held.items)
    ∙ ap (λ b. body_emits slot held.items || b) (any_of_map (stmt_emits slot) others.items)

-- the first block emits to the slot
module _ (slot : ℕ) (s : Span) (test : Expr) (held : Vec Stmt) where
  pub held_emits : (otherwise : Option (Vec Stmt)) (stmt : Stmt) (body : List Stmt) →
      stmt ≡ statements.If s test held otherwise → body ≡ held.items → body_emits slot body ≡ true →
      true ≡ stmt_emits slot stmt
  held_emits None stmt body is same h =
      sym (ap (stmt_emits slot) is ∙ emits-if slot s test held ∙ sym (ap (body_emits slot) same) ∙ h)
  held_emits (Some others) stmt body is same h =
      sym (ap (stmt_emits slot) is ∙ emits-if_else slot s test held others
      ∙ ap (λ b. b || body_emits slot others.items) (sym (ap (body_emits slot) same) ∙ h))

-- the first block doesn't, and there is no other
module _ (slot : ℕ) (s : Span) (test : Expr) (held : Vec Stmt) (otherwise : Option (Vec Stmt)) (stmt : Stmt)
    (body : List Stmt) where
  pub none_emits : stmt ≡ statements.If s test held otherwise → otherwise ≡ None → body ≡ held.items →
      body_emits slot body ≡ false → false ≡ stmt_emits slot stmt
  none_emits is none same h =
      sym (ap (stmt_emits slot) (is ∙ ap (statements.If s test held) none) ∙ emits-if slot s test held
      ∙ sym (ap (body_emits slot) same) ∙ h)

-- the first block doesn't, and the other may
module _ (slot : ℕ) (s : Span) (test : Expr) (held : Vec Stmt) (otherwise : Option (Vec Stmt))
    (others : Vec Stmt) (stmt : Stmt) (body rest : List Stmt) where
  pub others_emit : stmt ≡ statements.If s test held otherwise → otherwise ≡ Some others → body ≡ held.items →
      rest ≡ others.items → body_emits slot body ≡ false → body_emits slot rest ≡ stmt_emits slot stmt
  others_emit is some same same_rest h =
      sym (ap (stmt_emits slot) (is ∙ ap (statements.If s test held) some) ∙ emits-if_else slot s test held others
      ∙ ap (λ b. b || body_emits slot others.items) (sym (ap (body_emits slot) same) ∙ h)
      ∙ ap (body_emits slot) (sym same_rest))

-- one slot more
pub one_slot : (test : ℕ → Bool) (n : ℕ) →
    filter test (range_with_len 0 (n + 1)) ≡ filter test (range_with_len 0 n) ++ cond (test n) (n ∷ []) []
one_slot test n =
    ap (filter test) (sym (map-id (range_with_len 0 (n + 1))))
    ∙ filter_of_map_range_with_len_more test (λ i. i) 0 n n (omega arith)
    ∙ ap (λ l. filter test l ++ cond (test n) (n ∷ []) []) (map-id (range_with_len 0 n))

module _ (test : ℕ → Bool) (n : ℕ) (b : Bool) (before now : List ℕ) where
  pub slot_taken : before ≡ filter test (range_with_len 0 n) → b ≡ test n → b ≡ true → now ≡ before ++ n ∷ [] →
      now ≡ filter test (range_with_len 0 (n + 1))
  slot_taken e is holds h =
      h ∙ ap (λ l. l ++ n ∷ []) e
      ∙ ap (λ t. filter test (range_with_len 0 n) ++ cond t (n ∷ []) []) (sym (sym is ∙ holds))
      ∙ sym (one_slot test n)

  pub slot_left : before ≡ filter test (range_with_len 0 n) → b ≡ test n → b ≡ false → now ≡ before →
      now ≡ filter test (range_with_len 0 (n + 1))
  slot_left e is fails h =
      h ∙ e ∙ sym (append-nil (filter test (range_with_len 0 n)))
      ∙ ap (λ t. filter test (range_with_len 0 n) ++ cond t (n ∷ []) []) (sym (sym is ∙ fails))
      ∙ sym (one_slot test n)
