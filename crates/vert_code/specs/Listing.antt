-- The instructions of expressions and statements.
use Rattle.std.specs.Prelude.{ℕ, ◌+◌, ◌%◌, pos, List, [], ◌∷◌, ◌++◌, length, map, Option, None, Some}
use Rattle.std.specs.declared.alloc.Global.{Global}
use Rattle.std.specs.declared.vec.Vec.{Vec}
use Rattle.vert_tree.specs.declared.name.What.{What}
use Rattle.vert_tree.specs.declared.name.What.TheVariants as what
use Rattle.vert_tree.specs.declared.expression.Expr.{Expr}
use Rattle.vert_tree.specs.declared.expression.Node.{Node}
use Rattle.vert_tree.specs.declared.expression.Node.TheVariants as nodes
use Rattle.vert_tree.specs.declared.statement.AssignOp.{AssignOp}
use Rattle.vert_tree.specs.declared.statement.Stmt.{Stmt}
use Rattle.vert_tree.specs.declared.statement.Stmt.TheOpen as level
use Rattle.vert_tree.specs.declared.statement.Stmt.TheOpen.{Stmt-F}
use Rattle.vert_tree.specs.declared.statement.Stmt.TheFolds.{fold-Stmt}
use Rattle.vert_eval.specs.Words.{word_of}
use Rattle.vert_code.specs.declared.instr.Instr.{Instr}
use Rattle.vert_code.specs.declared.instr.Instr.TheVariants.{Push, Word, Field, Local, Sent, Total, Got, Value, OtherField, OtherWord, Draw, Neg, Not, Op, Least, Greatest, ToLocal, ToField, ToActive, Emit, Jump, JumpUnless, Break}

-- instructions that begin at a place
abbrev pub Piece : Type 0
Piece = ℕ → List Instr

abbrev pub nothing : Piece
nothing place = []

abbrev pub just : Instr → Piece
just i place = i ∷ []

-- one piece, and another one behind it
abbrev pub chain : Piece → Piece → Piece
chain first second place = first place ++ second (place + length (first place))

-- the test, a jump to the second branch, the first branch, a jump past the second one, the second branch
abbrev pub choice : Piece → Piece → Piece → Piece
choice test held otherwise place =
    let tested = test place in
    let branch = held (place + length tested + 1) in
    let second = place + length tested + 1 + length branch + 1 in
    tested ++ JumpUnless second ∷ (branch ++ Jump (second + length (otherwise second)) ∷ otherwise second)

-- the test, a jump past the branch, the branch
abbrev pub only_if : Piece → Piece → Piece
only_if test held place =
    let tested = test place in
    let branch = held (place + length tested + 1) in
    tested ++ JumpUnless (place + length tested + 1 + length branch) ∷ branch

-- a name where a value stands; a name that has none counts as 0
abbrev pub load : What → Instr
load (what.Field i) = Field i
load (what.Local i) = Local i
load (what.Send i) = Sent i
load (what.Total i) = Total i
load _ = Push (pos 0)

abbrev pub load_got : What → Instr
load_got (what.Slot i) = Got i
load_got _ = Push (pos 0)

abbrev pub load_value : What → Instr
load_value (what.Slot i) = Value i
load_value _ = Push (pos 0)

abbrev pub load_other : What → Instr
load_other (what.Field i) = OtherField i
load_other _ = Push (pos 0)

-- operands from left to right, then the operator; the number of a draw is a byte
abbrev pub node_code : Node → Piece
node_code (nodes.Int x) = just (Push x)
node_code (nodes.Bool b) = just (Push (word_of b))
node_code (nodes.Word w) = just (Word w)
node_code (nodes.Name name) = just (load name.what)
node_code (nodes.Got name) = just (load_got name.what)
node_code (nodes.Value name) = just (load_value name.what)
node_code (nodes.OtherField name) = just (load_other name.what)
node_code (nodes.OtherWord w) = just (OtherWord w)
node_code (nodes.Draw at number) = just (Draw (number % 256))
node_code (nodes.Neg' _ _ a) = chain (node_code a) (just Neg)
node_code (nodes.Not' _ _ a) = chain (node_code a) (just Not)
node_code (nodes.Binary' op _ _ a _ _ b) = chain (node_code a) (chain (node_code b) (just (Op op)))
node_code (nodes.Cond' _ _ test _ _ a _ _ b) = choice (node_code test) (node_code a) (node_code b)
node_code (nodes.Least' _ _ a _ _ b) = chain (node_code a) (chain (node_code b) (just Least))
node_code (nodes.Greatest' _ _ a _ _ b) = chain (node_code a) (chain (node_code b) (just Greatest))
node_code (nodes.Group' _ _ a) = node_code a

abbrev pub expr_code : Expr → Piece
expr_code e = node_code e.node

-- what takes a value for a name; a name that takes none has no code
abbrev pub store : What → AssignOp → Piece → Piece
store (what.Local i) op value = chain value (just (ToLocal op i))
store (what.Field i) op value = chain value (just (ToField op i))
store _ op value = nothing

abbrev pub emit : What → Piece → Piece
emit (what.Slot i) value = chain value (just (Emit i))
emit _ value = nothing

-- pieces one behind another
abbrev pub joined : List Piece → Piece
joined [] = nothing
joined (piece ∷ pieces) = chain piece (joined pieces)

-- an `if` with or without a second branch
abbrev pub branches : Piece → Piece → Option (Vec Piece Global) → Piece
branches test held None = only_if test held
branches test held (Some otherwise) = choice test held (joined otherwise.items)

-- one statement, with the pieces of its inner statements in their place
abbrev pub level_code : Stmt-F Piece → Piece
level_code (level.Assign target op e) = store target.what op (expr_code e)
level_code (level.SetActive _ e) = chain (expr_code e) (just ToActive)
level_code (level.If _ test held otherwise) = branches (expr_code test) (joined held.items) otherwise
level_code (level.Emit _ slot e) = emit slot.what (expr_code e)
level_code (level.Break _) = just Break

abbrev pub stmt_code : Stmt → Piece
stmt_code = fold-Stmt Piece level_code

-- the statements of a block, one behind another
abbrev pub body_code : List Stmt → Piece
body_code body = joined (map stmt_code body)

-- the list of a block
abbrev pub block_code : List Stmt → List Instr
block_code body = body_code body 0
