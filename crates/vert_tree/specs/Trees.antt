-- The trees of programs without memory: each name is its text, and each node keeps its place.
use Rattle.std.specs.Prelude.{ℕ, ℤ, suc, max, Bool, List, [], ◌∷◌, Option}
use Rattle.vert_base.specs.declared.text.Span.{Span}
use Rattle.vert_base.specs.declared.value.Combine.{Combine}
use Rattle.vert_base.specs.declared.value.Mode.{Mode}
use Rattle.vert_base.specs.declared.value.ValueType.{ValueType}
use Rattle.vert_tree.specs.declared.expression.BinOp.{BinOp}
use Rattle.vert_tree.specs.declared.expression.Builtin.{Builtin}
use Rattle.vert_tree.specs.declared.statement.AssignOp.{AssignOp}

-- a name where it stands
pub record Named : Type 0 where
  pub span : Span
  pub text : List ℕ

-- An expression. Each node has the place of its first token.
pub data Tree : Type 0 where
  Literal : (s : Span) (value : ℤ) → Tree
  Truth : (s : Span) (value : Bool) → Tree
  Word : (s : Span) (word : Builtin) → Tree
  Variable : (s : Span) (name : Named) → Tree
  Got : (s : Span) (name : Named) → Tree
  Value : (s : Span) (name : Named) → Tree
  OtherField : (s : Span) (name : Named) → Tree
  OtherWord : (s : Span) (word : Builtin) → Tree
  Draw : (s at : Span) (number : ℕ) → Tree
  Negative : (s : Span) (inner : Tree) → Tree
  Not : (s : Span) (inner : Tree) → Tree
  Pair : (s : Span) (op : BinOp) (left right : Tree) → Tree
  Choice : (s : Span) (test held otherwise : Tree) → Tree
  Least : (s : Span) (left right : Tree) → Tree
  Greatest : (s : Span) (left right : Tree) → Tree
  Group : (s : Span) (inner : Tree) → Tree

-- where an expression begins
abbrev pub start : Tree → Span
start (Literal s value) = s
start (Truth s value) = s
start (Word s word) = s
start (Variable s name) = s
start (Got s name) = s
start (Value s name) = s
start (OtherField s name) = s
start (OtherWord s word) = s
start (Draw s at number) = s
start (Negative s inner) = s
start (Not s inner) = s
start (Pair s op left right) = s
start (Choice s test held otherwise) = s
start (Least s left right) = s
start (Greatest s left right) = s
start (Group s inner) = s

-- how many nodes are nested in one another
abbrev pub depth : Tree → ℕ
depth (Literal s value) = 1
depth (Truth s value) = 1
depth (Word s word) = 1
depth (Variable s name) = 1
depth (Got s name) = 1
depth (Value s name) = 1
depth (OtherField s name) = 1
depth (OtherWord s word) = 1
depth (Draw s at number) = 1
depth (Negative s inner) = suc (depth inner)
depth (Not s inner) = suc (depth inner)
depth (Pair s op left right) = suc (max (depth left) (depth right))
depth (Choice s test held otherwise) = suc (max (depth test) (max (depth held) (depth otherwise)))
depth (Least s left right) = suc (max (depth left) (depth right))
depth (Greatest s left right) = suc (max (depth left) (depth right))
depth (Group s inner) = suc (depth inner)

-- a statement, and the statements of a block
mutual
  pub data Statement : Type 0 where
    Assign : (target : Named) (op : AssignOp) (value : Tree) → Statement
    SetActive : (s : Span) (value : Tree) → Statement
    If : (s : Span) (test : Tree) (held : Statements) → Statement
    IfElse : (s : Span) (test : Tree) (held otherwise : Statements) → Statement
    Emit : (s : Span) (slot : Named) (value : Tree) → Statement
    Break : (s : Span) → Statement

  pub data Statements : Type 0 where
    End : Statements
    More : (first : Statement) (others : Statements) → Statements

abbrev mutual
  pub statement_depth : Statement → ℕ
  statement_depth (Assign target op value) = depth value
  statement_depth (SetActive s value) = depth value
  statement_depth (If s test held) = suc (max (depth test) (block_depth held))
  statement_depth (IfElse s test held otherwise) = suc
      (max (depth test) (max (block_depth held) (block_depth otherwise)))
  statement_depth (Emit s slot value) = depth value
  statement_depth (Break s) = 0

  pub block_depth : Statements → ℕ
  block_depth End = 0
  block_depth (More first others) = max (statement_depth first) (block_depth others)

-- a field, a let or a send
pub record Declaration : Type 0 where
  pub name : Named
  pub kind : ValueType
  pub value : Tree

pub record SlotDeclaration : Type 0 where
  pub name : Named
  pub op : Combine

pub record TotalDeclaration : Type 0 where
  pub name : Named
  pub op : Combine
  pub value : Tree

pub record DenseBlock : Type 0 where
  pub test : Tree
  pub lets : List Declaration
  pub body : Statements
  pub tail : Statements

pub record SparseBlock : Type 0 where
  pub test : Tree
  pub sends : List Declaration
  pub body : Statements

pub record ProgramTree : Type 0 where
  pub version : ℕ
  pub mode : Mode
  pub mode_at : Span
  pub limit : ℕ
  pub limit_at : Span
  pub fields : List Declaration
  pub slots : List SlotDeclaration
  pub totals : List TotalDeclaration
  pub start : Tree
  pub dense : Option DenseBlock
  pub sparse : Option SparseBlock
  pub update : Statements
  pub stop : Option Tree
