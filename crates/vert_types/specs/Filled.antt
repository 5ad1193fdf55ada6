-- Every name of a program says what it stands for, as a test.
use Rattle.std.specs.Prelude.{◌≡◌, ◌==◌, ℕ, Bool, true, false, ◌&&◌, List, Option, None, Some, IsTrue, option_map, slice_get}
use Rattle.std.specs.String.{string_bytes}
use Rattle.std.specs.List.{list_all}
use Rattle.std.specs.declared.alloc.Global.{Global}
use Rattle.std.specs.declared.string.String.{String}
use Rattle.vert_tree.specs.declared.name.Ident.{Ident}
use Rattle.vert_tree.specs.declared.name.What.{What}
use Rattle.vert_tree.specs.declared.name.What.TheVariants.{Unread, Field, Slot, Local, Send, Total}
use Rattle.vert_tree.specs.declared.expression.Expr.{Expr}
use Rattle.vert_tree.specs.declared.expression.Node.{Node}
use Rattle.vert_tree.specs.declared.expression.Node.TheVariants as nodes
use Rattle.vert_tree.specs.declared.statement.Stmt.{Stmt}
use Rattle.vert_tree.specs.declared.statement.Stmt.TheOpen.{Stmt-F, Assign, SetActive, If, Emit, Break}
use Rattle.vert_tree.specs.declared.statement.Stmt.TheFolds.{fold-Stmt}
use Rattle.vert_tree.specs.declared.program.Decl.{Decl}
use Rattle.vert_tree.specs.declared.program.Dense.{Dense}
use Rattle.vert_tree.specs.declared.program.Sparse.{Sparse}
use Rattle.vert_tree.specs.declared.program.Program.{Program}
use Rattle.vert_tree.specs.declared.program.TotalDecl.{TotalDecl}
use Rattle.vert_tree.specs.Places.{all_true, option_all, tests_of}
use Rattle.vert_tree.specs.Views.{view_program}
use Rattle.vert_types.specs.declared.scope.Meaning.{Meaning}
use Rattle.vert_types.specs.Typing.{Dictionary, dictionary, first_fault}

abbrev pub is_what : What → What → Bool
is_what Unread Unread = true
is_what (Field i) (Field j) = i == j
is_what (Slot i) (Slot j) = i == j
is_what (Local i) (Local j) = i == j
is_what (Send i) (Send j) = i == j
is_what (Total i) (Total j) = i == j
is_what _ _ = false

abbrev pub what_in : Option Meaning → What
what_in None = Unread
what_in (Some m) = m.what

-- what a name stands for, by its place among the names
abbrev pub what_of : Dictionary → List (String Global) → ℕ → Option What
what_of d names number = option_map (λ text. what_in (d (string_bytes text))) (slice_get names number)

abbrev pub says : What → Option What → Bool
says a None = false
says a (Some b) = is_what a b

module _ (w : ℕ → Option What) where
  -- it is one of the names, and says what that stands for
  abbrev pub name_filled : Ident → Bool
  name_filled name = says name.what (w name.name)

  abbrev pub node_filled : Node → Bool
  node_filled (nodes.Int x) = true
  node_filled (nodes.Bool b) = true
  node_filled (nodes.Word word) = true
  node_filled (nodes.Name name) = name_filled name
  node_filled (nodes.Got name) = name_filled name
  node_filled (nodes.Value name) = name_filled name
  node_filled (nodes.OtherField name) = name_filled name
  node_filled (nodes.OtherWord word) = true
  node_filled (nodes.Draw at number) = true
  node_filled (nodes.Neg' _ _ a) = node_filled a
  node_filled (nodes.Not' _ _ a) = node_filled a
  node_filled (nodes.Binary' op _ _ a _ _ b) = node_filled a && node_filled b
  node_filled (nodes.Cond' _ _ test _ _ a _ _ b) = node_filled test && (node_filled a && node_filled b)
  node_filled (nodes.Least' _ _ a _ _ b) = node_filled a && node_filled b
  node_filled (nodes.Greatest' _ _ a _ _ b) = node_filled a && node_filled b
  node_filled (nodes.Group' _ _ a) = node_filled a

  abbrev pub expr_filled : Expr → Bool
  expr_filled e = node_filled e.node

  -- one statement, with the tests of its inner statements in their place
  abbrev pub level_filled : Stmt-F Bool → Bool
  level_filled (Assign target op e) = name_filled target && expr_filled e
  level_filled (SetActive _ e) = expr_filled e
  level_filled (If _ test held otherwise) = expr_filled test && (all_true held.items && all_true (tests_of otherwise))
  level_filled (Emit _ slot e) = name_filled slot && expr_filled e
  level_filled (Break _) = true

  abbrev pub stmt_filled : Stmt → Bool
  stmt_filled = fold-Stmt Bool level_filled

  abbrev pub body_filled : List Stmt → Bool
  body_filled body = list_all stmt_filled body

  abbrev pub decl_filled : Decl → Bool
  decl_filled d = name_filled d.name && expr_filled d.value

  abbrev pub decls_filled : List Decl → Bool
  decls_filled ds = list_all decl_filled ds

  abbrev pub totals_filled : List TotalDecl → Bool
  totals_filled ts = list_all (λ t. name_filled t.name && expr_filled t.value) ts

  abbrev pub dense_filled : Dense → Bool
  dense_filled d = expr_filled d.when_test
      && (decls_filled d.lets.items && (body_filled d.body.items && body_filled d.tail.items))

  abbrev pub sparse_filled : Sparse → Bool
  sparse_filled d = expr_filled d.when_test && (decls_filled d.sends.items && body_filled d.body.items)

  abbrev pub program_filled : Program → Bool
  program_filled p =
      decls_filled p.fields.items
      && (list_all (λ s. name_filled s.name) p.slots.items
      && (totals_filled p.totals.items
      && (expr_filled p.start
      && (option_all dense_filled p.dense
      && (option_all sparse_filled p.sparse
      && (body_filled p.update.items
      && option_all expr_filled p.stop))))))

-- each name is what its first declaration says
abbrev pub is_filled : Program → Bool
is_filled p = program_filled (what_of (dictionary (view_program p)) p.names.items) p

-- A program is accepted, and nothing of it changes but what its names say that they stand for.
pub record IsTyping (before after : Program) : Type 0 where
  pub accepted : first_fault (view_program before) ≡ None
  pub same : view_program after ≡ view_program before
  pub names : after.names ≡ before.names
  pub filled : IsTrue (is_filled after)
