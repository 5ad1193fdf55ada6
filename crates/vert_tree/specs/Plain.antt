-- Trees without their places: two trees are the same where these are equal.
use Rattle.std.specs.Prelude.{List, map, option_map}
use Rattle.vert_base.specs.declared.text.Span.{Span}
use Rattle.vert_tree.specs.Trees.{Named, Tree, Literal, Truth, Word, Variable, Got, Value, OtherField, OtherWord, Draw, Negative, Not, Pair, Choice, Least, Greatest, Group, Statement, Assign, SetActive, If, IfElse, Emit, Break, Statements, End, More, Declaration, SlotDeclaration, TotalDeclaration, DenseBlock, SparseBlock, ProgramTree}

abbrev pub nowhere : Span
nowhere = record { at = 0; line = 0; column = 0 }

abbrev pub plain_name : Named → Named
plain_name name = record { span = nowhere; text = name.text }

abbrev pub plain : Tree → Tree
plain (Literal s value) = Literal nowhere value
plain (Truth s value) = Truth nowhere value
plain (Word s word) = Word nowhere word
plain (Variable s name) = Variable nowhere (plain_name name)
plain (Got s name) = Got nowhere (plain_name name)
plain (Value s name) = Value nowhere (plain_name name)
plain (OtherField s name) = OtherField nowhere (plain_name name)
plain (OtherWord s word) = OtherWord nowhere word
plain (Draw s at number) = Draw nowhere nowhere number
plain (Negative s inner) = Negative nowhere (plain inner)
plain (Not s inner) = Not nowhere (plain inner)
plain (Pair s op left right) = Pair nowhere op (plain left) (plain right)
plain (Choice s test held otherwise) = Choice nowhere (plain test) (plain held) (plain otherwise)
plain (Least s left right) = Least nowhere (plain left) (plain right)
plain (Greatest s left right) = Greatest nowhere (plain left) (plain right)
plain (Group s inner) = Group nowhere (plain inner)

abbrev mutual
  pub plain_statement : Statement → Statement
  plain_statement (Assign target op value) = Assign (plain_name target) op (plain value)
  plain_statement (SetActive s value) = SetActive nowhere (plain value)
  plain_statement (If s test held) = If nowhere (plain test) (plain_block held)
  plain_statement (IfElse s test held otherwise) = IfElse nowhere (plain test) (plain_block held)
      (plain_block otherwise)
  plain_statement (Emit s slot value) = Emit nowhere (plain_name slot) (plain value)
  plain_statement (Break s) = Break nowhere

  pub plain_block : Statements → Statements
  plain_block End = End
  plain_block (More first others) = More (plain_statement first) (plain_block others)

abbrev pub plain_declaration : Declaration → Declaration
plain_declaration d = record { name = plain_name d.name; kind = d.kind; value = plain d.value }

abbrev pub plain_slot : SlotDeclaration → SlotDeclaration
plain_slot d = record { name = plain_name d.name; op = d.op }

abbrev pub plain_total : TotalDeclaration → TotalDeclaration
plain_total d = record { name = plain_name d.name; op = d.op; value = plain d.value }

abbrev pub plain_dense : DenseBlock → DenseBlock
plain_dense d = record {
  test = plain d.test;
  lets = map plain_declaration d.lets;
  body = plain_block d.body;
  tail = plain_block d.tail;
}

abbrev pub plain_sparse : SparseBlock → SparseBlock
plain_sparse d = record { test = plain d.test; sends = map plain_declaration d.sends; body = plain_block d.body }

abbrev pub plain_program : ProgramTree → ProgramTree
plain_program p = record {
  version = p.version;
  mode = p.mode;
  mode_at = nowhere;
  limit = p.limit;
  limit_at = nowhere;
  fields = map plain_declaration p.fields;
  slots = map plain_slot p.slots;
  totals = map plain_total p.totals;
  start = plain p.start;
  dense = option_map plain_dense p.dense;
  sparse = option_map plain_sparse p.sparse;
  update = plain_block p.update;
  stop = option_map plain p.stop;
}
