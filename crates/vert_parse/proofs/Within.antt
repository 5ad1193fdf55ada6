-- A test of the texts of a program's names is a test of its names.
use Rattle.std.proofs.Common.{◌≡◌, ℕ, Bool, true, false, ◌&&◌, List, [], ◌∷◌, ◌++◌, map, Option, Some, None, refl, sym, ap, subst, ◌∙◌}
use Rattle.std.specs.Prelude.{flat_map, option_map}
use Rattle.std.specs.List.{list_all}
use Rattle.std.specs.declared.alloc.Global.{Global}
use Rattle.std.specs.declared.string.String.{String}
use Rattle.std.proofs.lemmas.List.Folds.{list_all-append}
use Rattle.vert_base.specs.declared.text.Span.{Span}
use Rattle.vert_tree.specs.declared.name.Ident.{Ident}
use Rattle.vert_tree.specs.declared.expression.Expr.{Expr}
use Rattle.vert_tree.specs.declared.expression.Node.{Node}
use Rattle.vert_tree.specs.declared.expression.Node.TheVariants as nodes
use Rattle.vert_tree.specs.declared.statement.Stmt.{Stmt, Stmt-F}
use Rattle.vert_tree.specs.declared.statement.Stmt.TheOpen as level
use Rattle.vert_tree.specs.declared.statement.Stmt.TheViews.{roll-Stmt}
use Rattle.vert_tree.specs.declared.statement.Stmt.TheFolds.{fold-roll-Stmt, ind-Stmt, map-Stmt}
use Rattle.vert_tree.specs.declared.statement.Stmt.TheVariants.{rolls-Assign, rolls-SetActive, rolls-If, rolls-Emit, rolls-Break}
use Rattle.vert_tree.specs.declared.program.Decl.{Decl}
use Rattle.vert_tree.specs.declared.program.SlotDecl.{SlotDecl}
use Rattle.vert_tree.specs.declared.program.TotalDecl.{TotalDecl}
use Rattle.vert_tree.specs.declared.program.Dense.{Dense}
use Rattle.vert_tree.specs.declared.program.Sparse.{Sparse}
use Rattle.vert_tree.specs.declared.program.Program.{Program}
use Rattle.vert_tree.specs.Places.{option_all}
use Rattle.vert_tree.specs.Views.{text_of, view, view_block, view_declaration, view_dense, view_node, view_slot, view_sparse, view_statement, view_total}
use Rattle.vert_parse.specs.Idents.{body_all, decl_all, dense_all, expr_all, level_all, node_all, program_all, slot_all, sparse_all, stmt_all, total_all}
use Rattle.vert_parse.specs.Names.{Texts, block_names, declaration_names, dense_names, given_names, program_names, slot_names, sparse_names, statement_names, total_names, tree_names}
use Rattle.tree_reader.specs.Programs.{view_named}
use Rattle.tree_reader.proofs.Blocks.{if_view}

module _ (q : List ℕ → Bool) (names : List (String Global)) where
  abbrev p : Ident → Bool
  p name = q (text_of names name.name)

  one : (b : Bool) → (b && true) ≡ b
  one true = refl
  one false = refl

  two : (xs ys : Texts) (a b : Bool) → list_all q xs ≡ a → list_all q ys ≡ b → list_all q (xs ++ ys) ≡ (a && b)
  two xs ys a b e f = list_all-append q xs ys ∙ ap (λ x. x && list_all q ys) e ∙ ap (λ y. a && y) f

  node_within : (s : Span) (n : Node) → list_all q (tree_names (view_node names s n)) ≡ node_all p n
  node_within s (nodes.Int value) = refl
  node_within s (nodes.Bool value) = refl
  node_within s (nodes.Word word) = refl
  node_within s (nodes.Name name) = one (p name)
  node_within s (nodes.Got name) = one (p name)
  node_within s (nodes.Value name) = one (p name)
  node_within s (nodes.OtherField name) = one (p name)
  node_within s (nodes.OtherWord word) = refl
  node_within s (nodes.Draw at number) = refl
  node_within s (nodes.Neg' _ t inner) = node_within t inner
  node_within s (nodes.Not' _ t inner) = node_within t inner
  node_within s (nodes.Binary' op _ t left _ u right) = two _ _ _ _ (node_within t left) (node_within u right)
  node_within s (nodes.Cond' _ t test _ u held _ v otherwise) = two _ _ _ _ (node_within t test)
      (two _ _ _ _ (node_within u held) (node_within v otherwise))
  node_within s (nodes.Least' _ t left _ u right) = two _ _ _ _ (node_within t left) (node_within u right)
  node_within s (nodes.Greatest' _ t left _ u right) = two _ _ _ _ (node_within t left) (node_within u right)
  node_within s (nodes.Group' _ t inner) = node_within t inner

  expr_within : (e : Expr) → list_all q (tree_names (view names e)) ≡ expr_all p e
  expr_within e = node_within e.span e.node

  -- ---- statements
  abbrev Within : Stmt → Type 0
  Within s = list_all q (statement_names (view_statement names s)) ≡ stmt_all p s

  abbrev Held : Type 0
  Held = (s : Stmt) × Within s

  abbrev stmts : List Held → List Stmt
  stmts ss = map (λ s. s.0) ss

  abbrev below : Stmt-F Held → Stmt-F Stmt
  below y = map-Stmt Held Stmt (λ s. s.0) y

  row_within : (ss : List Held) → list_all q (block_names (view_block names (stmts ss)))
      ≡ list_all (λ b. b) (map (stmt_all p) (stmts ss))
  row_within [] = refl
  row_within (s ∷ ss) = two _ _ _ _ s.1 (row_within ss)

  abbrev at : Stmt → Bool
  at s = list_all q (statement_names (view_statement names s))

  level_within : (y : Stmt-F Held) → at (roll-Stmt (below y)) ≡ level_all p (map-Stmt Stmt Bool (stmt_all p) (below y))
  level_within (level.Assign target op e) = ap at (rolls-Assign target op e) ∙ ap (λ b. p target && b) (expr_within e)
  level_within (level.SetActive s e) = ap at (rolls-SetActive s e) ∙ expr_within e
  level_within (level.If s test held None) =
      ap at (rolls-If s test _ None) ∙ ap (λ t. list_all q (statement_names t)) (if_view names s test _ None)
      ∙ two _ _ _ _ (expr_within test) (row_within held.items ∙ sym (one _))
  level_within (level.If s test held (Some body)) =
      ap at (rolls-If s test _ (Some _)) ∙ ap (λ t. list_all q (statement_names t)) (if_view names s test _ (Some _))
      ∙ two _ _ _ _ (expr_within test) (two _ _ _ _ (row_within held.items) (row_within body.items))
  level_within (level.Emit s slot e) = ap at (rolls-Emit s slot e) ∙ ap (λ b. p slot && b) (expr_within e)
  level_within (level.Break s) = ap at (rolls-Break s)

  stmt_within : (s : Stmt) → Within s
  stmt_within = ind-Stmt Within (λ x y is.
      subst (λ z. Within (roll-Stmt z)) is
      (level_within y ∙ sym (fold-roll-Stmt Bool (level_all p) (below y))))

  body_within : (ss : List Stmt) → list_all q (block_names (view_block names ss)) ≡ body_all p ss
  body_within [] = refl
  body_within (s ∷ ss) = two _ _ _ _ (stmt_within s) (body_within ss)

  -- ---- declarations and blocks
  list_within : {X Y : Type 0} (f : X → Y) (g : Y → Texts) (r : X → Bool) → ((x : X) → list_all q (g (f x)) ≡ r x) →
      (xs : List X) → list_all q (flat_map g (map f xs)) ≡ list_all r xs
  list_within f g r h [] = refl
  list_within f g r h (x ∷ xs) = two _ _ _ _ (h x) (list_within f g r h xs)

  given_within : {X Y : Type 0} (f : X → Y) (g : Y → Texts) (r : X → Bool) → ((x : X) → list_all q (g (f x)) ≡ r x) →
      (o : Option X) → list_all q (given_names g (option_map f o)) ≡ option_all r o
  given_within f g r h None = refl
  given_within f g r h (Some x) = h x

  decl_within : (d : Decl) → list_all q (declaration_names (view_declaration names d)) ≡ decl_all p d
  decl_within d = ap (λ b. p d.name && b) (expr_within d.value)

  slot_within : (d : SlotDecl) → list_all q (slot_names (view_slot names d)) ≡ slot_all p d
  slot_within d = one (p d.name)

  total_within : (d : TotalDecl) → list_all q (total_names (view_total names d)) ≡ total_all p d
  total_within d = ap (λ b. p d.name && b) (expr_within d.value)

  decls_within : (ds : List Decl) → list_all q (flat_map declaration_names (map (view_declaration names) ds))
      ≡ list_all (decl_all p) ds
  decls_within = list_within (view_declaration names) declaration_names (decl_all p) decl_within

  dense_within : (d : Dense) → list_all q (dense_names (view_dense names d)) ≡ dense_all p d
  dense_within d = two _ _ _ _ (expr_within d.when_test)
      (two _ _ _ _ (decls_within d.lets.items) (two _ _ _ _ (body_within d.body.items) (body_within d.tail.items)))

  sparse_within : (d : Sparse) → list_all q (sparse_names (view_sparse names d)) ≡ sparse_all p d
  sparse_within d = two _ _ _ _ (expr_within d.when_test)
      (two _ _ _ _ (decls_within d.sends.items) (body_within d.body.items))

  pub program_within : (d : Program) → list_all q (program_names (view_named names d)) ≡ program_all p d
  program_within d =
      two _ _ _ _ (decls_within d.fields.items)
      (two _ _ _ _ (list_within (view_slot names) slot_names (slot_all p) slot_within d.slots.items)
      (two _ _ _ _ (list_within (view_total names) total_names (total_all p) total_within d.totals.items)
      (two _ _ _ _ (expr_within d.start)
      (two _ _ _ _ (given_within (view_dense names) dense_names (dense_all p) dense_within d.dense)
      (two _ _ _ _ (given_within (view_sparse names) sparse_names (sparse_all p) sparse_within d.sparse)
      (two _ _ _ _ (body_within d.update.items)
      (given_within (view names) tree_names (expr_all p) expr_within d.stop)))))))
