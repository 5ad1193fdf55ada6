-- Trees in memory as trees without memory, each name looked up among the names of its program.
use Rattle.std.specs.Prelude.{ℕ, List, [], ◌∷◌, map, Option, None, Some, option_map, slice_get}
use Rattle.std.specs.declared.alloc.Global.{Global}
use Rattle.std.specs.declared.string.String.{String}
use Rattle.std.specs.String.{string_bytes}
use Rattle.vert_base.specs.declared.text.Span.{Span}
use Rattle.vert_tree.specs.declared.name.Ident.{Ident}
use Rattle.vert_tree.specs.declared.expression.Expr.{Expr}
use Rattle.vert_tree.specs.declared.expression.Node.{Node}
use Rattle.vert_tree.specs.declared.expression.Node.TheVariants as nodes
use Rattle.vert_tree.specs.declared.statement.Stmt.{Stmt, Row_of-Stmt, end_of-Stmt, more_of-Stmt, Held-Stmt-If-3, None', Some'}
use Rattle.vert_tree.specs.declared.statement.Stmt as statements
use Rattle.vert_tree.specs.declared.program.Decl.{Decl}
use Rattle.vert_tree.specs.declared.program.SlotDecl.{SlotDecl}
use Rattle.vert_tree.specs.declared.program.TotalDecl.{TotalDecl}
use Rattle.vert_tree.specs.declared.program.Dense.{Dense}
use Rattle.vert_tree.specs.declared.program.Sparse.{Sparse}
use Rattle.vert_tree.specs.declared.program.Program.{Program}
use Rattle.vert_tree.specs.Trees.{Named, Tree, Literal, Truth, Word, Variable, Got, Value, OtherField, OtherWord, Draw, Negative, Not, Pair, Choice, Least, Greatest, Group, Statement, Assign, SetActive, If, IfElse, Emit, Break, Statements, End, More, Declaration, SlotDeclaration, TotalDeclaration, DenseBlock, SparseBlock, ProgramTree}

abbrev pub text_in : Option (String Global) → List ℕ
text_in None = []
text_in (Some text) = string_bytes text

-- the text of a name by its place among the names
abbrev pub text_of : List (String Global) → ℕ → List ℕ
text_of names place = text_in (slice_get names place)

abbrev pub view_name : List (String Global) → Ident → Named
view_name names name = record { span = name.span; text = text_of names name.name }

-- a node that begins at this place
abbrev pub view_node : List (String Global) → Span → Node → Tree
view_node names s (nodes.Int value) = Literal s value
view_node names s (nodes.Bool value) = Truth s value
view_node names s (nodes.Word word) = Word s word
view_node names s (nodes.Name name) = Variable s (view_name names name)
view_node names s (nodes.Got name) = Got s (view_name names name)
view_node names s (nodes.Value name) = Value s (view_name names name)
view_node names s (nodes.OtherField name) = OtherField s (view_name names name)
view_node names s (nodes.OtherWord word) = OtherWord s word
view_node names s (nodes.Draw at number) = Draw s at number
view_node names s (nodes.Neg' _ t inner) = Negative s (view_node names t inner)
view_node names s (nodes.Not' _ t inner) = Not s (view_node names t inner)
view_node names s (nodes.Binary' op _ t left _ u right) = Pair s op (view_node names t left) (view_node names u right)
view_node names s (nodes.Cond' _ t test _ u held _ v otherwise) = Choice s (view_node names t test)
    (view_node names u held) (view_node names v otherwise)
view_node names s (nodes.Least' _ t left _ u right) = Least s (view_node names t left) (view_node names u right)
view_node names s (nodes.Greatest' _ t left _ u right) = Greatest s (view_node names t left) (view_node names u right)
view_node names s (nodes.Group' _ t inner) = Group s (view_node names t inner)

abbrev pub view : List (String Global) → Expr → Tree
view names e = view_node names e.span e.node

-- an `if` with or without its second block
abbrev pub if_of : Span → Tree → Statements → Option Statements → Statement
if_of s test held None = If s test held
if_of s test held (Some otherwise) = IfElse s test held otherwise

abbrev mutual
  pub view_statement : List (String Global) → Stmt → Statement
  view_statement names (statements.Assign target op value) = Assign (view_name names target) op (view names value)
  view_statement names (statements.SetActive s value) = SetActive s (view names value)
  view_statement names (statements.If' s test _ held otherwise) = if_of s (view names test) (view_row names held)
      (view_held names otherwise)
  view_statement names (statements.Emit s slot value) = Emit s (view_name names slot) (view names value)
  view_statement names (statements.Break s) = Break s

  pub view_held : List (String Global) → Held-Stmt-If-3 → Option Statements
  view_held names None' = None
  view_held names (Some' _ row) = Some (view_row names row)

  pub view_row : List (String Global) → {m : _} → Row_of-Stmt m → Statements
  view_row names end_of-Stmt = End
  view_row names (more_of-Stmt first others) = More (view_statement names first) (view_row names others)

-- the statements of a block
abbrev pub view_block : List (String Global) → List Stmt → Statements
view_block names [] = End
view_block names (first ∷ others) = More (view_statement names first) (view_block names others)

abbrev pub view_declaration : List (String Global) → Decl → Declaration
view_declaration names d = record { name = view_name names d.name; kind = d.kind; value = view names d.value }

abbrev pub view_slot : List (String Global) → SlotDecl → SlotDeclaration
view_slot names d = record { name = view_name names d.name; op = d.op }

abbrev pub view_total : List (String Global) → TotalDecl → TotalDeclaration
view_total names d = record { name = view_name names d.name; op = d.op; value = view names d.value }

abbrev pub view_dense : List (String Global) → Dense → DenseBlock
view_dense names d = record {
  test = view names d.when_test;
  lets = map (view_declaration names) d.lets.items;
  body = view_block names d.body.items;
  tail = view_block names d.tail.items;
}

abbrev pub view_sparse : List (String Global) → Sparse → SparseBlock
view_sparse names d = record {
  test = view names d.when_test;
  sends = map (view_declaration names) d.sends.items;
  body = view_block names d.body.items;
}

-- a program with its names
abbrev pub view_program : Program → ProgramTree
view_program p = record {
  version = p.version;
  mode = p.mode;
  mode_at = p.mode_at;
  limit = p.limit;
  limit_at = p.limit_at;
  fields = map (view_declaration p.names.items) p.fields.items;
  slots = map (view_slot p.names.items) p.slots.items;
  totals = map (view_total p.names.items) p.totals.items;
  start = view p.names.items p.start;
  dense = option_map (view_dense p.names.items) p.dense;
  sparse = option_map (view_sparse p.names.items) p.sparse;
  update = view_block p.names.items p.update.items;
  stop = option_map (view p.names.items) p.stop;
}
