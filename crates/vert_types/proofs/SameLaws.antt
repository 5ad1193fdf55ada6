-- What the limits of a program say of its trees without memory: programs that tell the same keep them.
use Rattle.std.proofs.Common.{◌≡◌, ◌==◌, ℕ, suc, ◌+◌, max, Bool, ◌&&◌, ◌||◌, List, [], ◌∷◌, length, map, Option, None, Some, refl, sym, ap, ◌∙◌, subst, arith, add-one}
use Rattle.std.specs.Prelude.{is_none, is_some, nat_le, option_map}
use Rattle.std.specs.List.{list_all}
use Rattle.std.specs.Global.{Vec}
use Rattle.std.specs.declared.alloc.Global.{Global}
use Rattle.std.specs.declared.string.String.{String}
use Rattle.std.proofs.Math.Nat.{max-zero}
use Rattle.std.proofs.lemmas.Bool.Decides.{nat_tests}
use Rattle.std.proofs.lemmas.List.{length-map}
use Rattle.vert_base.specs.declared.text.Span.{Span}
use Rattle.vert_tree.specs.declared.expression.Expr.{Expr}
use Rattle.vert_tree.specs.declared.expression.Node.{Node}
use Rattle.vert_tree.specs.declared.expression.Node.TheVariants as nodes
use Rattle.vert_tree.specs.declared.program.Decl.{Decl}
use Rattle.vert_tree.specs.declared.program.Dense.{Dense}
use Rattle.vert_tree.specs.declared.program.Program.{Program}
use Rattle.vert_tree.specs.declared.program.Sparse.{Sparse}
use Rattle.vert_tree.specs.declared.program.TotalDecl.{TotalDecl}
use Rattle.vert_tree.specs.declared.statement.Stmt.{Stmt, Stmt-F}
use Rattle.vert_tree.specs.declared.statement.Stmt.TheOpen as level
use Rattle.vert_tree.specs.declared.statement.Stmt.TheVariants.{rolls-Assign, rolls-SetActive, rolls-If, rolls-Emit, rolls-Break}
use Rattle.vert_tree.specs.declared.statement.Stmt.TheViews.{roll-Stmt}
use Rattle.vert_tree.specs.declared.statement.Stmt.TheFolds.{fold-roll-Stmt, ind-Stmt, map-Stmt}
use Rattle.vert_tree.specs.Limits.{body_shallow, decls_shallow, deepest, dense_shallow, expr_shallow, is_shallow, level_depth, node_depth, sparse_shallow, stmt_depth, version_stands}
use Rattle.vert_tree.specs.Places.{option_all}
use Rattle.vert_tree.specs.Readable.{is_total_op, totals_combine}
use Rattle.vert_tree.specs.Trees.{block_depth, depth, statement_depth}
use Rattle.vert_tree.specs.Views.{view, view_block, view_declaration, view_dense, view_node, view_program, view_sparse, view_statement, view_total}
use Rattle.vert_tree.proofs.Rows.{view-If, view-If_else}
use Rattle.vert_types.specs.Parsed.{are_shallow, are_totals, is_of_version, is_shallow_dense, is_shallow_program, is_shallow_sparse, is_shallow_tree}

-- ---- depth
module _ (names : List (String Global)) where
  one_deeper : (n m : ℕ) → n ≡ m → n + 1 ≡ suc m
  one_deeper n m e = add-one n ∙ ap suc e

  same_max : (a b c d : ℕ) → a ≡ c → b ≡ d → max a b ≡ max c d
  same_max a b c d p q = ap (λ x. max x b) p ∙ ap (max c) q

  pub node_same : (s : Span) (n : Node) → node_depth n ≡ depth (view_node names s n)
  node_same s (nodes.Int x) = refl
  node_same s (nodes.Bool b) = refl
  node_same s (nodes.Word w) = refl
  node_same s (nodes.Name name) = refl
  node_same s (nodes.Got name) = refl
  node_same s (nodes.Value name) = refl
  node_same s (nodes.OtherField name) = refl
  node_same s (nodes.OtherWord w) = refl
  node_same s (nodes.Draw at number) = refl
  node_same s (nodes.Neg' q t a) = one_deeper _ _ (node_same t a)
  node_same s (nodes.Not' q t a) = one_deeper _ _ (node_same t a)
  node_same s (nodes.Binary' op q t a r u b) = one_deeper _ _ (same_max _ _ _ _ (node_same t a) (node_same u b))
  node_same s (nodes.Cond' q t test r u a x v b) = one_deeper _ _
      (same_max _ _ _ _ (node_same t test) (same_max _ _ _ _ (node_same u a) (node_same v b)))
  node_same s (nodes.Least' q t a r u b) = one_deeper _ _ (same_max _ _ _ _ (node_same t a) (node_same u b))
  node_same s (nodes.Greatest' q t a r u b) = one_deeper _ _ (same_max _ _ _ _ (node_same t a) (node_same u b))
  node_same s (nodes.Group' q t a) = one_deeper _ _ (node_same t a)

  record IsSame (s : Stmt) : Type 0 where
    by : stmt_depth s ≡ statement_depth (view_statement names s)

  record AreSame (ss : List Stmt) : Type 0 where
    by : deepest (map stmt_depth ss) ≡ block_depth (view_block names ss)

  abbrev Held : Type 0
  Held = (s : Stmt) × IsSame s

  abbrev below : Stmt-F Held → Stmt-F Stmt
  below y = map-Stmt Held Stmt (λ s. s.0) y

  rolled : (z : Stmt-F Stmt) (s : Stmt) → roll-Stmt z ≡ s → level_depth (map-Stmt Stmt ℕ stmt_depth z)
      ≡ statement_depth (view_statement names s) → IsSame (roll-Stmt z)
  rolled z s is e = record {
    by = fold-roll-Stmt ℕ level_depth z ∙ e
        ∙ sym (ap (λ x. statement_depth (view_statement names x)) is);
  }

  if_same : (s : Span) (test : Expr) (held : Vec Stmt) → AreSame held.items →
      IsSame (roll-Stmt (level.If s test held None))
  if_same s test held h =
      rolled (level.If s test held None) _ (rolls-If s test held None)
      (one_deeper _ _ (same_max _ _ _ _ (node_same test.span test.node)
      (max-zero (deepest (map stmt_depth held.items)) ∙ h.by))
      ∙ sym (ap statement_depth (view-If names s test held)))

  if_else_same : (s : Span) (test : Expr) (held otherwise : Vec Stmt) → AreSame held.items → AreSame otherwise.items →
      IsSame (roll-Stmt (level.If s test held (Some otherwise)))
  if_else_same s test held otherwise h o =
      rolled (level.If s test held (Some otherwise)) _ (rolls-If s test held (Some otherwise))
      (one_deeper _ _ (same_max _ _ _ _ (node_same test.span test.node) (same_max _ _ _ _ h.by o.by))
      ∙ sym (ap statement_depth (view-If_else names s test held otherwise)))

  more_same : (s : Stmt) (ss : List Stmt) → IsSame s → AreSame ss → AreSame (s ∷ ss)
  more_same s ss h g = record { by = same_max _ _ _ _ h.by g.by }

  all_same : (ss : List Held) → AreSame (map (λ s. s.0) ss)
  all_same [] = record { by = refl }
  all_same (s ∷ ss) = more_same s.0 (map (λ s. s.0) ss) s.1 (all_same ss)

  level_same : (y : Stmt-F Held) → IsSame (roll-Stmt (below y))
  level_same (level.Assign target op e) = rolled (level.Assign target op e) _ (rolls-Assign target op e)
      (node_same e.span e.node)
  level_same (level.SetActive s e) = rolled (level.SetActive s e) _ (rolls-SetActive s e) (node_same e.span e.node)
  level_same (level.If s test held None) = if_same s test _ (all_same held.items)
  level_same (level.If s test held (Some otherwise)) = if_else_same s test _ _ (all_same held.items)
      (all_same otherwise.items)
  level_same (level.Emit s slot e) = rolled (level.Emit s slot e) _ (rolls-Emit s slot e) (node_same e.span e.node)
  level_same (level.Break s) = rolled (level.Break s) _ (rolls-Break s) refl

  pub stmt_same : (s : Stmt) → stmt_depth s ≡ statement_depth (view_statement names s)
  stmt_same s = (ind-Stmt IsSame (λ x y is. subst (λ z. IsSame (roll-Stmt z)) is (level_same y)) s).by

  max_below : (a b n : ℕ) → nat_le (max a b) n ≡ (nat_le a n && nat_le b n)
  max_below a b n = grind (arith, nat_tests)

  pub body_same : (ss : List Stmt) → body_shallow ss ≡ nat_le (block_depth (view_block names ss)) 64
  body_same [] = refl
  body_same (s ∷ ss) =
      ap (λ n. nat_le n 64 && body_shallow ss) (stmt_same s)
      ∙ ap (λ b. nat_le (statement_depth (view_statement names s)) 64 && b) (body_same ss)
      ∙ sym (max_below (statement_depth (view_statement names s)) (block_depth (view_block names ss)) 64)

  -- ---- parts
  expr_same : (e : Expr) → expr_shallow e ≡ is_shallow_tree (view names e)
  expr_same e = ap (λ n. nat_le n 64) (node_same e.span e.node)

  same_and : (a b c d : Bool) → a ≡ c → b ≡ d → (a && b) ≡ (c && d)
  same_and a b c d p q = ap (λ x. x && b) p ∙ ap (λ x. c && x) q

  decls_same : (ds : List Decl) → decls_shallow ds ≡ are_shallow (map (view_declaration names) ds)
  decls_same [] = refl
  decls_same (e ∷ es) = same_and _ _ _ _ (expr_same e.value) (decls_same es)

  totals_same : (ts : List TotalDecl) → list_all (λ t. expr_shallow t.value) ts
      ≡ list_all (λ e. is_shallow_tree e.value) (map (view_total names) ts)
  totals_same [] = refl
  totals_same (e ∷ es) = same_and _ _ _ _ (expr_same e.value) (totals_same es)

  dense_same : (o : Option Dense) → option_all dense_shallow o
      ≡ option_all is_shallow_dense (option_map (view_dense names) o)
  dense_same None = refl
  dense_same (Some b) =
      same_and _ _ _ _ (expr_same b.when_test)
      (same_and _ _ _ _ (decls_same b.lets.items)
      (same_and _ _ _ _ (body_same b.body.items) (body_same b.tail.items)))

  sparse_same : (o : Option Sparse) → option_all sparse_shallow o
      ≡ option_all is_shallow_sparse (option_map (view_sparse names) o)
  sparse_same None = refl
  sparse_same (Some b) = same_and _ _ _ _ (expr_same b.when_test)
      (same_and _ _ _ _ (decls_same b.sends.items) (body_same b.body.items))

  stop_same : (o : Option Expr) → option_all expr_shallow o ≡ option_all is_shallow_tree (option_map (view names) o)
  stop_same None = refl
  stop_same (Some e) = expr_same e

  ops_same : (ts : List TotalDecl) → list_all (λ t. is_total_op t.op) ts
      ≡ list_all (λ e. is_total_op e.op) (map (view_total names) ts)
  ops_same [] = refl
  ops_same (e ∷ es) = ap (λ b. is_total_op e.op && b) (ops_same es)

-- ---- programs
pub shallow_same : (p : Program) → is_shallow p ≡ is_shallow_program (view_program p)
shallow_same p =
    let names = p.names.items in
    same_and names _ _ _ _ (decls_same names p.fields.items)
    (same_and names _ _ _ _ (totals_same names p.totals.items)
    (same_and names _ _ _ _ (expr_same names p.start)
    (same_and names _ _ _ _ (dense_same names p.dense)
    (same_and names _ _ _ _ (sparse_same names p.sparse)
    (same_and names _ _ _ _ (body_same names p.update.items) (stop_same names p.stop))))))

none_same : {X Y : Type 0} (f : X → Y) (o : Option X) → is_none o ≡ is_none (option_map f o)
none_same f None = refl
none_same f (Some x) = refl

pub some_same : {X Y : Type 0} (f : X → Y) (o : Option X) → is_some o ≡ is_some (option_map f o)
some_same f None = refl
some_same f (Some x) = refl

pub version_same : (p : Program) → version_stands p ≡ is_of_version (view_program p)
version_same p =
    ap (λ n. p.version == 2 || (p.version == 1 && (n == 0 && is_none p.stop)))
    (sym (length-map p.totals.items (view_total p.names.items)))
    ∙ ap (λ b. p.version == 2 || (p.version == 1
    && (length (map (view_total p.names.items) p.totals.items) == 0 && b))) (none_same (view p.names.items) p.stop)

pub ops_are_same : (p : Program) → totals_combine p ≡ are_totals (view_program p)
ops_are_same p = ops_same p.names.items p.totals.items
