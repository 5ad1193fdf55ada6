-- What the reading by the grammar says of a program's names and limits.
use Rattle.std.specs.Prelude.{◌≡◌, ◌<◌, ◌==◌, ℕ, Bool, true, ◌&&◌, ◌||◌, List, length, IsTrue, is_none, nat_le, nat_lt}
use Rattle.std.specs.List.{list_all}
use Rattle.vert_tree.specs.declared.name.Ident.{Ident}
use Rattle.vert_tree.specs.declared.expression.Expr.{Expr}
use Rattle.vert_tree.specs.declared.expression.Node.{Node}
use Rattle.vert_tree.specs.declared.expression.Node.TheVariants as nodes
use Rattle.vert_tree.specs.declared.statement.Stmt.{Stmt}
use Rattle.vert_tree.specs.declared.statement.Stmt.TheOpen.{Stmt-F, Assign, SetActive, If, Emit, Break}
use Rattle.vert_tree.specs.declared.statement.Stmt.TheFolds.{fold-Stmt}
use Rattle.vert_tree.specs.declared.program.Decl.{Decl}
use Rattle.vert_tree.specs.declared.program.Dense.{Dense}
use Rattle.vert_tree.specs.declared.program.Sparse.{Sparse}
use Rattle.vert_tree.specs.declared.program.Program.{Program}
use Rattle.vert_tree.specs.declared.program.TotalDecl.{TotalDecl}
use Rattle.vert_tree.specs.Places.{all_true, option_all, tests_of}
use Rattle.vert_tree.specs.Readable.{is_total_op}
use Rattle.vert_tree.specs.Views.{text_of, view_program}
use Rattle.vert_tree.specs.Trees.{Tree, Statements, Declaration, DenseBlock, SparseBlock, ProgramTree, block_depth, depth}

-- every name is one of the first n
module _ (n : ℕ) where
  abbrev pub name_known : Ident → Bool
  name_known name = nat_lt name.name n

  abbrev pub node_known : Node → Bool
  node_known (nodes.Int x) = true
  node_known (nodes.Bool b) = true
  node_known (nodes.Word word) = true
  node_known (nodes.Name name) = name_known name
  node_known (nodes.Got name) = name_known name
  node_known (nodes.Value name) = name_known name
  node_known (nodes.OtherField name) = name_known name
  node_known (nodes.OtherWord word) = true
  node_known (nodes.Draw at number) = true
  node_known (nodes.Neg' _ _ a) = node_known a
  node_known (nodes.Not' _ _ a) = node_known a
  node_known (nodes.Binary' op _ _ a _ _ b) = node_known a && node_known b
  node_known (nodes.Cond' _ _ test _ _ a _ _ b) = node_known test && (node_known a && node_known b)
  node_known (nodes.Least' _ _ a _ _ b) = node_known a && node_known b
  node_known (nodes.Greatest' _ _ a _ _ b) = node_known a && node_known b
  node_known (nodes.Group' _ _ a) = node_known a

  abbrev pub expr_known : Expr → Bool
  expr_known e = node_known e.node

  -- one statement, with the tests of its inner statements in their place
  abbrev pub level_known : Stmt-F Bool → Bool
  level_known (Assign target op e) = name_known target && expr_known e
  level_known (SetActive _ e) = expr_known e
  level_known (If _ test held otherwise) = expr_known test && (all_true held.items && all_true (tests_of otherwise))
  level_known (Emit _ slot e) = name_known slot && expr_known e
  level_known (Break _) = true

  abbrev pub stmt_known : Stmt → Bool
  stmt_known = fold-Stmt Bool level_known

  abbrev pub body_known : List Stmt → Bool
  body_known body = list_all stmt_known body

  abbrev pub decl_known : Decl → Bool
  decl_known d = name_known d.name && expr_known d.value

  abbrev pub decls_known : List Decl → Bool
  decls_known ds = list_all decl_known ds

  abbrev pub totals_known : List TotalDecl → Bool
  totals_known ts = list_all (λ t. name_known t.name && expr_known t.value) ts

  abbrev pub dense_known : Dense → Bool
  dense_known d = expr_known d.when_test &&
      (decls_known d.lets.items && (body_known d.body.items && body_known d.tail.items))

  abbrev pub sparse_known : Sparse → Bool
  sparse_known d = expr_known d.when_test && (decls_known d.sends.items && body_known d.body.items)

  abbrev pub program_known : Program → Bool
  program_known p =
      decls_known p.fields.items
      && (list_all (λ s. name_known s.name) p.slots.items
      && (totals_known p.totals.items
      && (expr_known p.start
      && (option_all dense_known p.dense
      && (option_all sparse_known p.sparse
      && (body_known p.update.items
      && option_all expr_known p.stop))))))

-- no expressions and `if`s are nested deeper than 64
abbrev pub is_shallow_tree : Tree → Bool
is_shallow_tree e = nat_le (depth e) 64

abbrev pub is_shallow_block : Statements → Bool
is_shallow_block body = nat_le (block_depth body) 64

abbrev pub are_shallow : List Declaration → Bool
are_shallow ds = list_all (λ e. is_shallow_tree e.value) ds

abbrev pub is_shallow_dense : DenseBlock → Bool
is_shallow_dense b = is_shallow_tree b.test
    && (are_shallow b.lets && (is_shallow_block b.body && is_shallow_block b.tail))

abbrev pub is_shallow_sparse : SparseBlock → Bool
is_shallow_sparse b = is_shallow_tree b.test && (are_shallow b.sends && is_shallow_block b.body)

abbrev pub is_shallow_program : ProgramTree → Bool
is_shallow_program t =
    are_shallow t.fields
    && (list_all (λ e. is_shallow_tree e.value) t.totals
    && (is_shallow_tree t.start
    && (option_all is_shallow_dense t.dense
    && (option_all is_shallow_sparse t.sparse
    && (is_shallow_block t.update
    && option_all is_shallow_tree t.stop)))))

-- no more names of each sort than there may be
abbrev pub is_counted : ProgramTree → Bool
is_counted t =
    nat_le (length t.fields) 16
    && (nat_le (length t.slots) 8
    && (nat_le (length t.totals) 4
    && (option_all (λ b. nat_le (length b.lets) 8) t.dense
    && option_all (λ b. nat_le (length b.sends) 8) t.sparse)))

-- version 1 has no totals and no stop
abbrev pub is_of_version : ProgramTree → Bool
is_of_version t = t.version == 2 || (t.version == 1 && (length t.totals == 0 && is_none t.stop))

-- a total is a sum, a least or a greatest
abbrev pub are_totals : ProgramTree → Bool
are_totals t = list_all (λ e. is_total_op e.op) t.totals

-- A program as it is read: every name is among its names, no text stands twice among them, and the
-- limits of depth and of counts, and those of the version and of totals, hold.
pub record IsParsed (p : Program) : Type 0 where
  pub known : IsTrue (program_known (length p.names.items) p)
  pub apart : (i j : ℕ) → i < length p.names.items → j < length p.names.items →
      text_of p.names.items i ≡ text_of p.names.items j → i ≡ j
  pub shallow : IsTrue (is_shallow_program (view_program p))
  pub counted : IsTrue (is_counted (view_program p))
  pub version : IsTrue (is_of_version (view_program p))
  pub totals : IsTrue (are_totals (view_program p))
