-- A statement and a block are filled, and tell the same, where their parts are and do.
use Rattle.std.proofs.Common.{◌≡◌, ◌<◌, ◌≤◌, ◌+◌, ℕ, zero, suc, Bool, true, false, ◌&&◌, List, [], ◌∷◌, length, map, get_or, set, take, Option, None, Some, refl, sym, ap, ◌∙◌, arith, get_or-set_other}
use Rattle.std.specs.Prelude.{option_map}
use Rattle.std.specs.List.{list_all}
use Rattle.std.specs.Global.{Vec}
use Rattle.std.specs.declared.alloc.Global.{Global}
use Rattle.std.specs.declared.string.String.{String}
use Rattle.std.proofs.lemmas.Bool.{and_parts, and_from}
use Rattle.std.proofs.lemmas.List.{take_more_set, length-set}
use Rattle.std.proofs.lemmas.List.Folds.{list_all-append, list_all-map}
use Rattle.vert_base.specs.declared.text.Span.{Span}
use Rattle.vert_tree.specs.declared.expression.Expr.{Expr}
use Rattle.vert_tree.specs.declared.name.What.{What}
use Rattle.vert_tree.specs.declared.statement.Stmt.{Stmt}
use Rattle.vert_tree.specs.declared.statement.Stmt as statements
use Rattle.vert_tree.specs.declared.statement.Stmt.TheFolds.{fold-roll-Stmt}
use Rattle.vert_tree.specs.declared.statement.Stmt.TheOpen as level
use Rattle.vert_tree.specs.declared.statement.Stmt.TheVariants.{rolls-If}
use Rattle.vert_tree.specs.Places.{option_all}
use Rattle.vert_tree.specs.Trees.{More}
use Rattle.vert_tree.specs.Views.{if_of, view, view_block, view_statement}
use Rattle.vert_tree.proofs.Rows.{view-If, view-If_else}
use Rattle.vert_types.specs.Filled.{body_filled, expr_filled, level_filled, stmt_filled}

-- ---- lists
module _ {X : Type 0} (p : X → Bool) where
  pub all_at : (xs : List X) (i : ℕ) (d : X) → i < length xs → list_all p xs ≡ true → p (get_or xs i d) ≡ true
  all_at [] i d lt h = absurd (omega arith)
  all_at (x ∷ xs) zero d lt h = (and_parts (p x) (list_all p xs) h).0
  all_at (x ∷ xs) (suc i) d lt h = all_at xs i d (omega arith) (and_parts (p x) (list_all p xs) h).1

  pub all_with : (xs : List X) (i : ℕ) (x : X) → i < length xs → list_all p (take i xs) ≡ true → p x ≡ true →
      list_all p (take (i + 1) (set xs i x)) ≡ true
  all_with xs i x lt before here =
      ap (list_all p) (take_more_set xs i x lt) ∙ list_all-append p (take i xs) (x ∷ [])
      ∙ and_from (list_all p (take i xs)) (p x && true) before (and_from (p x) true here refl)

-- from i on, the second list is the first
abbrev pub IsUnvisited : {X : Type 0} → ℕ → List X → List X → Type 0
IsUnvisited {X} i xs ys = (length xs ≡ length ys) × ((k : ℕ) (d : X) → i ≤ k → get_or xs k d ≡ get_or ys k d)

module _ {X : Type 0} (xs ys : List X) (i : ℕ) (x : X) where
  -- a write at i leaves what comes behind as it was
  pub unvisited_after :
      (length xs ≡ length ys) × ((k : ℕ) (d : X) → i ≤ k → get_or xs k d ≡ get_or ys k d) →
      (length (set xs i x) ≡ length ys) × ((k : ℕ) (d : X) → i + 1 ≤ k → get_or (set xs i x) k d ≡ get_or ys k d)
  unvisited_after h = (
    length-set xs i x ∙ h.0,
    λ k d le. let other : k ≡ i → ⊥ = λ e. omega arith in
        get_or-set_other xs i k x d other ∙ h.1 k d (omega arith),
  )

module _ {X Y : Type 0} (f : X → Y) where
  -- a write of what tells the same
  pub map_set : (xs : List X) (i : ℕ) (x d : X) → i < length xs → f x ≡ f (get_or xs i d) →
      map f (set xs i x) ≡ map f xs
  map_set [] i x d lt same = absurd (omega arith)
  map_set (y ∷ ys) zero x d lt same = ap (λ s. s ∷ map f ys) same
  map_set (y ∷ ys) (suc i) x d lt same = ap (λ l. f y ∷ l) (map_set ys i x d (omega arith) same)

-- ---- statements
pub view_set : (names : List (String Global)) (xs : List Stmt) (i : ℕ) (x d : Stmt) → i < length xs →
    view_statement names x ≡ view_statement names (get_or xs i d) → view_block names (set xs i x) ≡ view_block names xs
view_set names [] i x d lt same = absurd (omega arith)
view_set names (y ∷ ys) zero x d lt same = ap (λ s. More s (view_block names ys)) same
view_set names (y ∷ ys) (suc i) x d lt same = ap (More (view_statement names y))
    (view_set names ys i x d (omega arith) same)

-- an `if` as its parts
if_as : (names : List (String Global)) (s : Span) (test : Expr) (held : Vec Stmt) (otherwise : Option (Vec Stmt)) →
    view_statement names (statements.If s test held otherwise)
    ≡ if_of s (view names test) (view_block names held.items) (option_map (λ b. view_block names b.items) otherwise)
if_as names s test held None = view-If names s test held
if_as names s test held (Some otherwise) = view-If_else names s test held otherwise

pub if_same :
    (names : List (String Global)) (s s' : Span) (test test' : Expr) (held held' : Vec Stmt)
    (otherwise otherwise' : Option (Vec Stmt)) (stmt : Stmt) →
    stmt ≡ statements.If s test held otherwise → s' ≡ s → view names test' ≡ view names test →
    view_block names held'.items ≡ view_block names held.items →
    option_map (λ b. view_block names b.items) otherwise' ≡ option_map (λ b. view_block names b.items) otherwise →
    view_statement names (statements.If s' test' held' otherwise') ≡ view_statement names stmt
if_same names s s' test test' held held' otherwise otherwise' stmt is at tests helds others =
    if_as names s' test' held' otherwise'
    ∙ ap (λ x. if_of x (view names test') (view_block names held'.items)
    (option_map (λ b. view_block names b.items) otherwise')) at
    ∙ ap (λ x. if_of s x (view_block names held'.items) (option_map (λ b. view_block names b.items) otherwise')) tests
    ∙ ap (λ x. if_of s (view names test) x (option_map (λ b. view_block names b.items) otherwise')) helds
    ∙ ap (if_of s (view names test) (view_block names held.items)) others
    ∙ sym (if_as names s test held otherwise)
    ∙ ap (view_statement names) (sym is)

module _ (w : ℕ → Option What) where
  pub if_filled :
      (s : Span) (test : Expr) (held : Vec Stmt) (otherwise : Option (Vec Stmt)) →
      expr_filled w test ≡ true → body_filled w held.items ≡ true → option_all (λ b. body_filled w b.items) otherwise
      ≡ true →
      stmt_filled w (statements.If s test held otherwise) ≡ true
  if_filled s test held None tests helds others =
      ap (stmt_filled w) (sym (rolls-If s test held None))
      ∙ fold-roll-Stmt Bool (level_filled w) (level.If s test held None)
      ∙ and_from _ _ tests (and_from _ _ (list_all-map (λ b. b) (stmt_filled w) held.items ∙ helds) refl)
  if_filled s test held (Some otherwise) tests helds others =
      ap (stmt_filled w) (sym (rolls-If s test held (Some otherwise)))
      ∙ fold-roll-Stmt Bool (level_filled w) (level.If s test held (Some otherwise))
      ∙ and_from _ _ tests (and_from _ _ (list_all-map (λ b. b) (stmt_filled w) held.items ∙ helds)
      (list_all-map (λ b. b) (stmt_filled w) otherwise.items ∙ others))
