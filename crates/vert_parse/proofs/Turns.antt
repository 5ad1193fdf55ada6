-- The names of statements and of declarations are entered one after the other.
use Rattle.std.proofs.Common.{◌≡◌, ◌<◌, ◌≤◌, ◌+◌, ℕ, List, [], ◌∷◌, ◌++◌, drop, length, get_or, map, Option, None, Some, refl, sym, ap, ◌∙◌, add-one, drop-cons}
use Rattle.std.specs.Prelude.{flat_map}
use Rattle.std.specs.Global.{Vec}
use Rattle.std.specs.declared.alloc.Global.{Global}
use Rattle.std.specs.declared.string.String.{String}
use Rattle.std.proofs.lemmas.List.{drop_all}
use Rattle.vert_base.specs.declared.text.Span.{Span}
use Rattle.vert_tree.specs.declared.expression.Expr.{Expr}
use Rattle.vert_tree.specs.declared.statement.Stmt.{Stmt}
use Rattle.vert_tree.specs.declared.statement.Stmt as statements
use Rattle.vert_tree.specs.Trees.{Statement}
use Rattle.vert_tree.specs.Views.{view, view_block, view_statement}
use Rattle.vert_parse.specs.Entered.{enter, enter_all}
use Rattle.vert_parse.specs.Names.{Texts, block_names, statement_names, tree_names}
use Rattle.vert_parse.proofs.Adding.{enter_both, enter_more, enter_none}
use Rattle.tree_reader.proofs.Blocks.{if_view}

-- ---- a name
pub named_turn : (a b e : Texts) (text : List ℕ) (more : Texts) → b ≡ enter a text → e ≡ enter_all b more →
    e ≡ enter_all a (text ∷ more)
named_turn a b e text more f g = g ∙ ap (λ t. enter_all t more) f ∙ sym (enter_more a text more)

pub only_name : (a b : Texts) (text : List ℕ) → b ≡ enter a text → b ≡ enter_all a (text ∷ [])
only_name a b text f = named_turn a b b text [] f (sym (enter_none b))

-- ---- the items of a list
pub through_map : {X Y : Type 0} (f : Y → Texts) (g : X → Y) (xs : List X) →
    flat_map (λ d. f (g d)) xs ≡ flat_map f (map g xs)
through_map f g [] = refl
through_map f g (x ∷ xs) = ap (λ t. f (g x) ++ t) (through_map f g xs)

module _ {X : Type 0} (f : X → Texts) where
  drop_turn : (xs : List X) (i : ℕ) (d : X) → i < length xs → drop i xs ≡ get_or xs i d ∷ drop (i + 1) xs
  drop_turn xs i d lt = rw (add-one, drop-cons xs i d) refl

  pub list_at : (xs : List X) (i : ℕ) (d : X) → i < length xs → (a b : Texts) → b ≡ enter_all a (f (get_or xs i d)) →
      enter_all b (flat_map f (drop (i + 1) xs)) ≡ enter_all a (flat_map f (drop i xs))
  list_at xs i d lt a b e =
      let after = flat_map f (drop (i + 1) xs) in
      ap (λ t. enter_all t after) e ∙ sym (enter_both a (f (get_or xs i d)) after)
      ∙ ap (λ l. enter_all a (flat_map f l)) (sym (drop_turn xs i d lt))

  pub list_turn : (xs : List X) (i : ℕ) (d : X) → i < length xs → d ≡ get_or xs i d → (a b : Texts) →
      b ≡ enter_all a (f d) → enter_all b (flat_map f (drop (i + 1) xs)) ≡ enter_all a (flat_map f (drop i xs))
  list_turn xs i d lt is a b e = list_at xs i d lt a b (e ∙ ap (λ y. enter_all a (f y)) is)

  pub list_end : (xs : List X) (i : ℕ) → length xs ≤ i → (a b : Texts) →
      enter_all b (flat_map f (drop i xs)) ≡ enter_all a (flat_map f xs) → b ≡ enter_all a (flat_map f xs)
  list_end xs i le a b h = sym (enter_none b) ∙ ap (λ l. enter_all b (flat_map f l)) (sym (drop_all i xs le)) ∙ h

module _ (names : List (String Global)) where
  abbrev names_of : Stmt → Texts
  names_of s = statement_names (view_statement names s)

  block_is : (xs : List Stmt) → block_names (view_block names xs) ≡ flat_map names_of xs
  block_is [] = refl
  block_is (x ∷ xs) = ap (λ t. names_of x ++ t) (block_is xs)

  pub block_turn : (xs : List Stmt) (i : ℕ) (d : Stmt) → i < length xs → d ≡ get_or xs i d → (a b : Texts) →
      b ≡ enter_all a (statement_names (view_statement names d))
      → enter_all b (block_names (view_block names (drop (i + 1) xs)))
      ≡ enter_all a (block_names (view_block names (drop i xs)))
  block_turn xs i d lt is a b e =
      ap (enter_all b) (block_is (drop (i + 1) xs)) ∙ list_turn names_of xs i d lt is a b e
      ∙ ap (enter_all a) (sym (block_is (drop i xs)))

  pub block_end : (xs : List Stmt) (i : ℕ) → length xs ≤ i → (a b : Texts) →
      enter_all b (block_names (view_block names (drop i xs))) ≡ enter_all a (block_names (view_block names xs)) →
      b ≡ enter_all a (block_names (view_block names xs))
  block_end xs i le a b h =
      list_end names_of xs i le a b (ap (enter_all b) (sym (block_is (drop i xs))) ∙ h
      ∙ ap (enter_all a) (block_is xs)) ∙ ap (enter_all a) (sym (block_is xs))

  -- ---- an `if`
  pub if_turn :
      (s : Span) (test : Expr) (held : Vec Stmt) (otherwise : Option (Vec Stmt)) (stmt : Stmt) (body : List Stmt)
      (o a b : Texts) →
      stmt ≡ statements.If s test held otherwise → otherwise ≡ None → body ≡ held.items →
      a ≡ enter_all o (tree_names (view names test)) →
      b ≡ enter_all a (block_names (view_block names body)) →
      b ≡ enter_all o (statement_names (view_statement names stmt))
  if_turn s test held otherwise stmt body o a b is none same first second =
      let at : Statement → Texts = λ t. enter_all o (statement_names t) in
      second
      ∙ ap (λ x. enter_all x (block_names (view_block names body))) first
      ∙ ap (λ l. enter_all (enter_all o (tree_names (view names test))) (block_names (view_block names l))) same
      ∙ sym (enter_both o (tree_names (view names test)) (block_names (view_block names held.items)))
      ∙ sym (ap at (if_view names s test held None))
      ∙ ap (λ x. at (view_statement names (statements.If s test held x))) (sym none)
      ∙ ap (λ x. at (view_statement names x)) (sym is)

  pub if_else_turn :
      (s : Span) (test : Expr) (held : Vec Stmt) (otherwise : Option (Vec Stmt)) (other : Vec Stmt) (stmt : Stmt)
      (body rest : List Stmt) (o a b e : Texts) →
      stmt ≡ statements.If s test held otherwise → otherwise ≡ Some other → body ≡ held.items → rest ≡ other.items →
      a ≡ enter_all o (tree_names (view names test)) →
      b ≡ enter_all a (block_names (view_block names body)) →
      e ≡ enter_all b (block_names (view_block names rest)) →
      e ≡ enter_all o (statement_names (view_statement names stmt))
  if_else_turn s test held otherwise other stmt body rest o a b e is some same same_rest first second third =
      let tests = tree_names (view names test) in
      let one = block_names (view_block names held.items) in
      let two = block_names (view_block names other.items) in
      let at : Statement → Texts = λ t. enter_all o (statement_names t) in
      third
      ∙ ap (λ l. enter_all b (block_names (view_block names l))) same_rest
      ∙ ap (λ x. enter_all x two) (second ∙ ap (λ l. enter_all a (block_names (view_block names l))) same)
      ∙ ap (λ x. enter_all (enter_all x one) two) first
      ∙ sym (enter_both (enter_all o tests) one two)
      ∙ sym (enter_both o tests (one ++ two))
      ∙ sym (ap at (if_view names s test held (Some other)))
      ∙ ap (λ x. at (view_statement names (statements.If s test held x))) (sym some)
      ∙ ap (λ x. at (view_statement names x)) (sym is)
