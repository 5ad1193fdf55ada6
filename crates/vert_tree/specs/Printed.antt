-- The text of a tree: each of its tokens with the space behind it, or with a line end behind `;`, `{`
-- and `}`.
use Rattle.std.specs.Prelude.{ℕ, Bool, true, false, List, [], ◌++◌, Option, None, Some, flat_map, codes, decimal}
use Rattle.std.specs.Fmt.{signed_decimal}
use Rattle.vert_base.specs.declared.value.Combine.{Combine}
use Rattle.vert_base.specs.declared.value.Combine.TheVariants as combine
use Rattle.vert_base.specs.declared.value.Mode.{Mode}
use Rattle.vert_base.specs.declared.value.Mode.TheVariants as modes
use Rattle.vert_base.specs.declared.value.ValueType.{ValueType}
use Rattle.vert_base.specs.declared.value.ValueType.TheVariants as types
use Rattle.vert_tree.specs.declared.expression.BinOp.{BinOp}
use Rattle.vert_tree.specs.declared.expression.BinOp.TheVariants.{Add, Sub, Mul, Div, Rem, Eq, Ne, Lt, Le, Gt, Ge, And, Or}
use Rattle.vert_tree.specs.declared.expression.Builtin.{Builtin}
use Rattle.vert_tree.specs.declared.expression.Builtin.TheVariants.{Id, Count, Round, InDeg, OutDeg, Active, Weight}
use Rattle.vert_tree.specs.declared.statement.AssignOp.{AssignOp}
use Rattle.vert_tree.specs.declared.statement.AssignOp.TheVariants as assign
use Rattle.vert_tree.specs.Trees.{Tree, Literal, Truth, Word, Variable, Got, Value, OtherField, OtherWord, Draw, Negative, Not, Pair, Choice, Least, Greatest, Group, Statement, Assign, SetActive, If, IfElse, Emit, Break, Statements, End, More, Declaration, SlotDeclaration, TotalDeclaration, DenseBlock, SparseBlock, ProgramTree}

-- ---- words and marks

abbrev pub truth_text : Bool → List ℕ
truth_text true = codes "true "
truth_text false = codes "false "

abbrev pub builtin_text : Builtin → List ℕ
builtin_text Id = codes "id "
builtin_text Count = codes "n "
builtin_text Round = codes "round "
builtin_text InDeg = codes "indeg "
builtin_text OutDeg = codes "outdeg "
builtin_text Active = codes "active "
builtin_text Weight = codes "w "

abbrev pub operator_text : BinOp → List ℕ
operator_text Add = codes "+ "
operator_text Sub = codes "- "
operator_text Mul = codes "* "
operator_text Div = codes "/ "
operator_text Rem = codes "% "
operator_text Eq = codes "== "
operator_text Ne = codes "!= "
operator_text Lt = codes "< "
operator_text Le = codes "<= "
operator_text Gt = codes "> "
operator_text Ge = codes ">= "
operator_text And = codes "&& "
operator_text Or = codes "|| "

abbrev pub assign_text : AssignOp → List ℕ
assign_text assign.Set = codes "= "
assign_text assign.Add = codes "+= "
assign_text assign.Least = codes "min = "
assign_text assign.Greatest = codes "max = "

abbrev pub type_text : ValueType → List ℕ
type_text types.Int = codes "int "
type_text types.Bool = codes "bool "

abbrev pub combine_text : Combine → List ℕ
combine_text combine.Min = codes "min "
combine_text combine.Max = codes "max "
combine_text combine.Sum = codes "sum "
combine_text combine.First = codes "first "

abbrev pub mode_text : Mode → List ℕ
mode_text modes.Auto = codes "auto "
mode_text modes.Dense = codes "dense "
mode_text modes.Sparse = codes "sparse "

-- ---- expressions

abbrev pub printed_tree : Tree → List ℕ
printed_tree (Literal s value) = signed_decimal value ++ codes " "
printed_tree (Truth s value) = truth_text value
printed_tree (Word s word) = builtin_text word
printed_tree (Variable s name) = name.text ++ codes " "
printed_tree (Got s name) = name.text ++ codes " . got "
printed_tree (Value s name) = name.text ++ codes " . value "
printed_tree (OtherField s name) = codes "u . " ++ (name.text ++ codes " ")
printed_tree (OtherWord s word) = codes "u . " ++ builtin_text word
printed_tree (Draw s at number) = codes "draw ( " ++ (decimal number ++ codes " ) ")
printed_tree (Negative s inner) = codes "- " ++ printed_tree inner
printed_tree (Not s inner) = codes "! " ++ printed_tree inner
printed_tree (Pair s op left right) = printed_tree left ++ (operator_text op ++ printed_tree right)
printed_tree (Choice s test held otherwise) = printed_tree test
    ++ (codes "? " ++ (printed_tree held ++ (codes ": " ++ printed_tree otherwise)))
printed_tree (Least s left right) = codes "min ( "
    ++ (printed_tree left ++ (codes ", " ++ (printed_tree right ++ codes ") ")))
printed_tree (Greatest s left right) = codes
    "max ( " ++ (printed_tree left ++ (codes ", " ++ (printed_tree right ++ codes ") ")))
printed_tree (Group s inner) = codes "( " ++ (printed_tree inner ++ codes ") ")

-- a test behind its keyword, before a block
abbrev pub printed_opening : List ℕ → Tree → List ℕ
printed_opening keyword test = keyword ++ (printed_tree test ++ codes "{\n")

-- an expression behind its keyword, up to the line's end
abbrev pub printed_line : List ℕ → Tree → List ℕ
printed_line keyword value = keyword ++ (printed_tree value ++ codes ";\n")

-- ---- statements

abbrev mutual
  pub printed_statement : Statement → List ℕ
  printed_statement (Assign target op value) = target.text ++ (codes " " ++ printed_line (assign_text op) value)
  printed_statement (SetActive s value) = printed_line (codes "active = ") value
  printed_statement (If s test held) = printed_opening (codes "if ") test ++ (printed_block held ++ codes "}\n")
  printed_statement (IfElse s test held otherwise) = printed_opening (codes "if ") test
      ++ (printed_block held ++ (codes "}\nelse {\n" ++ (printed_block otherwise ++ codes "}\n")))
  printed_statement (Emit s slot value) = codes "emit " ++ (slot.text ++ printed_line (codes " ") value)
  printed_statement (Break s) = codes "break ;\n"

  pub printed_block : Statements → List ℕ
  printed_block End = []
  printed_block (More first others) = printed_statement first ++ printed_block others

-- ---- declarations and blocks

-- a field, a let or a send, behind its keyword
abbrev pub printed_declaration : List ℕ → Declaration → List ℕ
printed_declaration keyword d = keyword ++
    (d.name.text ++ (codes " : " ++ (type_text d.kind ++ printed_line (codes "= ") d.value)))

abbrev pub printed_slot : SlotDeclaration → List ℕ
printed_slot d = codes "slot " ++ (d.name.text ++ (codes " : " ++ (combine_text d.op ++ codes ";\n")))

abbrev pub printed_total : TotalDeclaration → List ℕ
printed_total d = codes "total " ++ (d.name.text
    ++ (codes " : " ++ (combine_text d.op ++ printed_line (codes "= ") d.value)))

abbrev pub printed_loop : Statements → List ℕ
printed_loop body = codes "for u {\n" ++ (printed_block body ++ codes "}\n")

abbrev pub printed_dense : DenseBlock → List ℕ
printed_dense d =
    printed_opening (codes "dense when ") d.test
    ++ (flat_map (printed_declaration (codes "let ")) d.lets
    ++ (printed_loop d.body ++ (printed_block d.tail ++ codes "}\n")))

abbrev pub printed_sparse : SparseBlock → List ℕ
printed_sparse d = printed_opening (codes "sparse when ") d.test
    ++ (flat_map (printed_declaration (codes "send ")) d.sends ++ (printed_block d.body ++ codes "}\n"))

-- what may be missing
abbrev pub printed_maybe : {A : Type 0} → (A → List ℕ) → Option A → List ℕ
printed_maybe f None = []
printed_maybe f (Some x) = f x

-- ---- programs

abbrev pub printed_header : ℕ → Mode → ℕ → List ℕ
printed_header version mode limit = codes "vertex "
    ++ (decimal version ++ (codes " ;\nmode "
    ++ (mode_text mode ++ (codes ";\nlimit " ++ (decimal limit ++ codes " ;\n")))))

abbrev pub printed_update : Statements → List ℕ
printed_update body = codes "update {\n" ++ (printed_block body ++ codes "}\n")

-- all that stands behind `start`
abbrev pub printed_blocks : ProgramTree → List ℕ
printed_blocks p =
    printed_maybe printed_dense p.dense
    ++ (printed_maybe printed_sparse p.sparse
    ++ (printed_update p.update ++ printed_maybe (printed_line (codes "stop ")) p.stop))

abbrev pub printed : ProgramTree → List ℕ
printed p =
    printed_header p.version p.mode p.limit
    ++ (flat_map (printed_declaration (codes "field ")) p.fields
    ++ (flat_map printed_slot p.slots ++ (flat_map printed_total p.totals
    ++ (printed_line (codes "start ") p.start ++ printed_blocks p))))
