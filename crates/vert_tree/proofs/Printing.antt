-- The text of the statements of a block, and of an `if`.
use Rattle.std.proofs.Common.{◌≡◌, List, [], ◌∷◌, ◌++◌, Option, Some, None, ℕ, sym, ap, ◌∙◌, append_assoc, codes, map, flat_map, cond, Result, Ok, Err, is_ok, OnOk}
use Rattle.std.proofs.lemmas.List.{append-nil, flat_map_more, map-append}
use Rattle.std.specs.Global.{Vec}
use Rattle.std.specs.declared.alloc.Global.{Global}
use Rattle.std.specs.declared.string.String.{String}
use Rattle.vert_base.specs.declared.text.Span.{Span}
use Rattle.vert_tree.specs.declared.expression.Expr.{Expr}
use Rattle.vert_tree.specs.declared.statement.Stmt.{Stmt}
use Rattle.vert_tree.specs.declared.statement.Stmt as statements
use Rattle.vert_tree.specs.Printed.{printed_opening, printed_statement, printed_block}
use Rattle.vert_tree.specs.Views.{view, view_statement, view_block}
use Rattle.vert_tree.proofs.Rows.{view-If, view-If_else}

block_more : (names : List (String Global)) (ss : List Stmt) (s : Stmt) →
    printed_block (view_block names (ss ++ s ∷ [])) ≡ printed_block (view_block names ss)
    ++ printed_statement (view_statement names s)
block_more names [] s = append-nil (printed_statement (view_statement names s))
block_more names (x ∷ ss) s =
    ap (λ l. printed_statement (view_statement names x) ++ l) (block_more names ss s)
    ∙ sym (append_assoc (printed_statement (view_statement names x)) (printed_block (view_block names ss))
    (printed_statement (view_statement names s)))

-- one more statement is printed
module _ (names : List (String Global)) (all ss : List Stmt) (s : Stmt) (a b c : List ℕ) where
  pub one_more : all ≡ ss ++ s ∷ [] → b ≡ a ++ printed_block (view_block names ss) →
      c ≡ b ++ printed_statement (view_statement names s) → c ≡ a ++ printed_block (view_block names all)
  one_more e f g =
      g ∙ ap (λ l. l ++ printed_statement (view_statement names s)) f
      ∙ append_assoc a (printed_block (view_block names ss)) (printed_statement (view_statement names s))
      ∙ ap (λ l. a ++ l) (sym (ap (λ x. printed_block (view_block names x)) e ∙ block_more names ss s))

-- an `if` without `else`
pub if_text : (names : List (String Global)) (statement : Stmt) (s : Span) (test : Expr) (held : Vec Stmt)
    (otherwise : Option (Vec Stmt)) → statement ≡ statements.If s test held otherwise → otherwise ≡ None
    → printed_statement (view_statement names statement) ≡ printed_opening (codes "if ") (view names test)
    ++ (printed_block (view_block names held.items) ++ codes "}\n")
if_text names statement s test held otherwise e f =
    ap (λ x. printed_statement (view_statement names x)) (e ∙ ap (λ o. statements.If s test held o) f)
    ∙ ap printed_statement (view-If names s test held)

-- an `if` with `else`
module _ (names : List (String Global)) (statement : Stmt) (s : Span) (test : Expr) (held : Vec Stmt)
    (otherwise : Option (Vec Stmt)) (others : Vec Stmt) where
  pub if_else_text : statement ≡ statements.If s test held otherwise → otherwise ≡ Some others →
      printed_statement (view_statement names statement) ≡ printed_opening (codes "if ") (view names test) ++
      (printed_block (view_block names held.items) ++ (codes "}\nelse {\n" ++ (printed_block (view_block names
      others.items) ++ codes "}\n")))
  if_else_text e f =
      ap (λ x. printed_statement (view_statement names x)) (e ∙ ap (λ o. statements.If s test held o) f)
      ∙ ap printed_statement (view-If_else names s test held others)

-- one more of a list is printed
module _ {A B : Type 0} (f : B → List ℕ) (v : A → B) (all xs : List A) (x : A) (a b c : List ℕ) where
  pub more_of : all ≡ xs ++ x ∷ [] → b ≡ a ++ flat_map f (map v xs) → c ≡ b ++ f (v x) →
      c ≡ a ++ flat_map f (map v all)
  more_of e g h =
      h ∙ ap (λ l. l ++ f (v x)) g ∙ flat_map_more f a (map v xs) (v x)
      ∙ ap (λ l. a ++ flat_map f l) (sym (ap (map v) e ∙ map-append v xs (x ∷ [])))

-- a text with another behind it, and what follows the two
pub ahead : (a b x rest d : List ℕ) → b ≡ a ++ x → d ≡ b ++ rest → d ≡ a ++ (x ++ rest)
ahead a b x rest d e f = f ∙ ap (λ l. l ++ rest) e ∙ append_assoc a x rest

-- a last text that may not be written
pub at_last : {T E : Type 0} (r : Result T E) (was now x : List ℕ) → now ≡ cond (is_ok r) (was ++ x) was →
    OnOk r (now ≡ was ++ x)
at_last (Ok t) was now x e = e
at_last (Err t) was now x e = tt
