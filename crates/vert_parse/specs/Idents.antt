-- A test of every name of a program in memory.
use Rattle.std.specs.Prelude.{Bool, true, ◌&&◌, List}
use Rattle.std.specs.List.{list_all}
use Rattle.vert_tree.specs.declared.name.Ident.{Ident}
use Rattle.vert_tree.specs.declared.expression.Expr.{Expr}
use Rattle.vert_tree.specs.declared.expression.Node.{Node}
use Rattle.vert_tree.specs.declared.expression.Node.TheVariants as nodes
use Rattle.vert_tree.specs.declared.statement.Stmt.{Stmt}
use Rattle.vert_tree.specs.declared.statement.Stmt.TheOpen.{Stmt-F, Assign, SetActive, If, Emit, Break}
use Rattle.vert_tree.specs.declared.statement.Stmt.TheFolds.{fold-Stmt}
use Rattle.vert_tree.specs.declared.program.Decl.{Decl}
use Rattle.vert_tree.specs.declared.program.SlotDecl.{SlotDecl}
use Rattle.vert_tree.specs.declared.program.TotalDecl.{TotalDecl}
use Rattle.vert_tree.specs.declared.program.Dense.{Dense}
use Rattle.vert_tree.specs.declared.program.Sparse.{Sparse}
use Rattle.vert_tree.specs.declared.program.Program.{Program}
use Rattle.vert_tree.specs.Places.{all_true, option_all, tests_of}

module _ (p : Ident → Bool) where
  abbrev pub node_all : Node → Bool
  node_all (nodes.Int value) = true
  node_all (nodes.Bool value) = true
  node_all (nodes.Word word) = true
  node_all (nodes.Name name) = p name
  node_all (nodes.Got name) = p name
  node_all (nodes.Value name) = p name
  node_all (nodes.OtherField name) = p name
  node_all (nodes.OtherWord word) = true
  node_all (nodes.Draw at number) = true
  node_all (nodes.Neg' _ _ inner) = node_all inner
  node_all (nodes.Not' _ _ inner) = node_all inner
  node_all (nodes.Binary' op _ _ left _ _ right) = node_all left && node_all right
  node_all (nodes.Cond' _ _ test _ _ held _ _ otherwise) = node_all test && (node_all held && node_all otherwise)
  node_all (nodes.Least' _ _ left _ _ right) = node_all left && node_all right
  node_all (nodes.Greatest' _ _ left _ _ right) = node_all left && node_all right
  node_all (nodes.Group' _ _ inner) = node_all inner

  abbrev pub expr_all : Expr → Bool
  expr_all e = node_all e.node

  -- one statement, with the tests of its inner statements in their place
  abbrev pub level_all : Stmt-F Bool → Bool
  level_all (Assign target op value) = p target && expr_all value
  level_all (SetActive _ value) = expr_all value
  level_all (If _ test held otherwise) = expr_all test && (all_true held.items && all_true (tests_of otherwise))
  level_all (Emit _ slot value) = p slot && expr_all value
  level_all (Break _) = true

  abbrev pub stmt_all : Stmt → Bool
  stmt_all = fold-Stmt Bool level_all

  abbrev pub body_all : List Stmt → Bool
  body_all body = list_all stmt_all body

  abbrev pub decl_all : Decl → Bool
  decl_all d = p d.name && expr_all d.value

  abbrev pub slot_all : SlotDecl → Bool
  slot_all d = p d.name

  abbrev pub total_all : TotalDecl → Bool
  total_all d = p d.name && expr_all d.value

  abbrev pub dense_all : Dense → Bool
  dense_all d = expr_all d.when_test && (list_all decl_all d.lets.items
      && (body_all d.body.items && body_all d.tail.items))

  abbrev pub sparse_all : Sparse → Bool
  sparse_all d = expr_all d.when_test && (list_all decl_all d.sends.items && body_all d.body.items)

  abbrev pub program_all : Program → Bool
  program_all d =
      list_all decl_all d.fields.items
      && (list_all slot_all d.slots.items
      && (list_all total_all d.totals.items
      && (expr_all d.start
      && (option_all dense_all d.dense
      && (option_all sparse_all d.sparse
      && (body_all d.update.items
      && option_all expr_all d.stop))))))
