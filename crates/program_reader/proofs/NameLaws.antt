-- Names that are among the first n, and of which nothing is said, are among the first n.
use Rattle.std.proofs.Common.{◌≡◌, ℕ, Bool, true, ◌&&◌, List, [], ◌∷◌, map, Option, Some, None, refl, sym, subst, ◌∙◌}
use Rattle.std.specs.List.{list_all}
use Rattle.std.proofs.lemmas.Bool.{and_parts}
use Rattle.vert_tree.specs.declared.name.Ident.{Ident}
use Rattle.vert_tree.specs.declared.expression.Expr.{Expr}
use Rattle.vert_tree.specs.declared.expression.Node.{Node}
use Rattle.vert_tree.specs.declared.expression.Node.TheVariants as nodes
use Rattle.vert_tree.specs.declared.statement.Stmt.{Stmt, Stmt-F}
use Rattle.vert_tree.specs.declared.statement.Stmt.TheOpen as level
use Rattle.vert_tree.specs.declared.statement.Stmt.TheViews.{roll-Stmt}
use Rattle.vert_tree.specs.declared.statement.Stmt.TheFolds.{fold-roll-Stmt, ind-Stmt, map-Stmt}
use Rattle.vert_tree.specs.declared.program.Program.{Program}
use Rattle.vert_tree.specs.Places.{option_all}
use Rattle.vert_parse.specs.Idents.{body_all, expr_all, level_all, node_all, program_all, stmt_all}
use Rattle.vert_parse.specs.Parsing.{is_fresh, is_unread}
use Rattle.vert_types.specs.Parsed.{body_known, expr_known, level_known, name_known, node_known, program_known, stmt_known}

-- one test gives another
abbrev Gives : Bool → Bool → Type 0
Gives a b = a ≡ true → b ≡ true

both_give : (a b x y : Bool) → Gives a x → Gives b y → Gives (a && b) (x && y)
both_give a b x y f g h =
    let parts = and_parts a b h in
    subst (λ z. (z && y) ≡ true) (sym (f parts.0)) (g parts.1)

module _ (a b c x y z : Bool) where
  three_give : Gives a x → Gives b y → Gives c z → Gives (a && (b && c)) (x && (y && z))
  three_give f g h = both_give a (b && c) x (y && z) f (both_give b c y z g h)

all_give : {X : Type 0} (p q : X → Bool) (xs : List X) → ((x : X) → Gives (p x) (q x)) →
    Gives (list_all p xs) (list_all q xs)
all_give p q [] f h = refl
all_give p q (x ∷ xs) f h = both_give (p x) (list_all p xs) (q x) (list_all q xs) (f x) (all_give p q xs f) h

given_gives : {X : Type 0} (p q : X → Bool) (o : Option X) → ((x : X) → Gives (p x) (q x)) →
    Gives (option_all p o) (option_all q o)
given_gives p q None f h = refl
given_gives p q (Some x) f h = f x h

module _ (n : ℕ) where
  name_gives : (x : Ident) → Gives (is_fresh n x) (name_known n x)
  name_gives x h = (and_parts (name_known n x) (is_unread x.what) h).0

  node_gives : (x : Node) → Gives (node_all (is_fresh n) x) (node_known n x)
  node_gives (nodes.Int value) h = refl
  node_gives (nodes.Bool value) h = refl
  node_gives (nodes.Word word) h = refl
  node_gives (nodes.Name name) h = name_gives name h
  node_gives (nodes.Got name) h = name_gives name h
  node_gives (nodes.Value name) h = name_gives name h
  node_gives (nodes.OtherField name) h = name_gives name h
  node_gives (nodes.OtherWord word) h = refl
  node_gives (nodes.Draw at number) h = refl
  node_gives (nodes.Neg' _ _ a) h = node_gives a h
  node_gives (nodes.Not' _ _ a) h = node_gives a h
  node_gives (nodes.Binary' op _ _ a _ _ b) h = both_give _ _ _ _ (node_gives a) (node_gives b) h
  node_gives (nodes.Cond' _ _ test _ _ a _ _ b) h = three_give _ _ _ _ _ _ (node_gives test) (node_gives a)
      (node_gives b) h
  node_gives (nodes.Least' _ _ a _ _ b) h = both_give _ _ _ _ (node_gives a) (node_gives b) h
  node_gives (nodes.Greatest' _ _ a _ _ b) h = both_give _ _ _ _ (node_gives a) (node_gives b) h
  node_gives (nodes.Group' _ _ a) h = node_gives a h

  expr_gives : (e : Expr) → Gives (expr_all (is_fresh n) e) (expr_known n e)
  expr_gives e = node_gives e.node

  abbrev Kept : Stmt → Type 0
  Kept s = Gives (stmt_all (is_fresh n) s) (stmt_known n s)

  abbrev Held : Type 0
  Held = (s : Stmt) × Kept s

  abbrev stmts : List Held → List Stmt
  stmts ss = map (λ s. s.0) ss

  abbrev below : Stmt-F Held → Stmt-F Stmt
  below y = map-Stmt Held Stmt (λ s. s.0) y

  row_gives : (ss : List Held) → Gives (list_all (λ b. b) (map (stmt_all (is_fresh n)) (stmts ss)))
      (list_all (λ b. b) (map (stmt_known n) (stmts ss)))
  row_gives [] h = refl
  row_gives (s ∷ ss) h = both_give _ _ _ _ s.1 (row_gives ss) h

  level_gives : (y : Stmt-F Held) → Gives (level_all (is_fresh n)
      (map-Stmt Stmt Bool (stmt_all (is_fresh n)) (below y)))
      (level_known n (map-Stmt Stmt Bool (stmt_known n) (below y)))
  level_gives (level.Assign target op e) = both_give _ _ _ _ (name_gives target) (expr_gives e)
  level_gives (level.SetActive s e) = expr_gives e
  level_gives (level.If s test held None) = three_give _ _ _ _ _ _ (expr_gives test) (row_gives held.items) (λ h. h)
  level_gives (level.If s test held (Some body)) = three_give _ _ _ _ _ _ (expr_gives test) (row_gives held.items)
      (row_gives body.items)
  level_gives (level.Emit s slot e) = both_give _ _ _ _ (name_gives slot) (expr_gives e)
  level_gives (level.Break s) = λ h. h

  stmt_gives : (s : Stmt) → Kept s
  stmt_gives = ind-Stmt Kept (λ x y is.
      subst (λ z. Kept (roll-Stmt z)) is
      (λ h. fold-roll-Stmt Bool (level_known n) (below y)
      ∙ level_gives y (sym (fold-roll-Stmt Bool (level_all (is_fresh n)) (below y)) ∙ h)))

  body_gives : (ss : List Stmt) → Gives (body_all (is_fresh n) ss) (body_known n ss)
  body_gives ss = all_give _ _ ss stmt_gives

  pub program_gives : (p : Program) → Gives (program_all (is_fresh n) p) (program_known n p)
  program_gives p =
      both_give _ _ _ _ (all_give _ _ p.fields.items (λ d. both_give _ _ _ _ (name_gives d.name) (expr_gives d.value)))
      (both_give _ _ _ _ (all_give _ _ p.slots.items (λ d. name_gives d.name))
      (both_give _ _ _ _ (all_give _ _ p.totals.items (λ d. both_give _ _ _ _ (name_gives d.name) (expr_gives d.value)))
      (both_give _ _ _ _ (expr_gives p.start)
      (both_give _ _ _ _
      (given_gives _ _ p.dense (λ d. both_give _ _ _ _ (expr_gives d.when_test)
      (three_give _ _ _ _ _ _ (all_give _ _ d.lets.items (λ l.
      both_give _ _ _ _ (name_gives l.name) (expr_gives l.value))) (body_gives d.body.items)
      (body_gives d.tail.items))))
      (both_give _ _ _ _
      (given_gives _ _ p.sparse (λ d. three_give _ _ _ _ _ _ (expr_gives d.when_test)
      (all_give _ _ d.sends.items (λ l. both_give _ _ _ _ (name_gives l.name) (expr_gives l.value)))
      (body_gives d.body.items)))
      (both_give _ _ _ _ (body_gives p.update.items)
      (given_gives _ _ p.stop expr_gives)))))))
