-- The kinds of the tokens of a tree, in order.
use Rattle.std.specs.Prelude.{ℕ, nat_abs, List, [], ◌∷◌, ◌++◌, Option, None, Some, flat_map}
use Rattle.vert_lex.specs.declared.marks.TheConstants as mark
use Rattle.vert_lex.specs.declared.words.TheConstants as word
use Rattle.vert_lex.specs.Text.{Placed}
use Rattle.vert_lex.specs.Tokens.{Kind, Reserved, Mark, Number, Name}
use Rattle.vert_tree.specs.declared.statement.AssignOp.{AssignOp}
use Rattle.vert_tree.specs.declared.statement.AssignOp.TheVariants as assign
use Rattle.vert_tree.specs.Trees.{Tree, Literal, Truth, Word, Variable, Got, Value, OtherField, OtherWord, Draw, Negative, Not, Pair, Choice, Least, Greatest, Group, Statement, Assign, SetActive, If, IfElse, Emit, Break, Statements, End, More, Declaration, SlotDeclaration, TotalDeclaration, DenseBlock, SparseBlock, ProgramTree}
use Rattle.vert_grammar.specs.Signs.{total_text, stop_text, mark_of, builtin_word, truth_word, type_word, combine_word, mode_word}

abbrev pub kinds : List Placed → List Kind
kinds [] = []
kinds (t ∷ ts) = t.kind ∷ kinds ts

abbrev pub spelled : Tree → List Kind
spelled (Literal s value) = Number (nat_abs value) ∷ []
spelled (Truth s value) = Reserved (truth_word value) ∷ []
spelled (Word s w) = Reserved (builtin_word w) ∷ []
spelled (Variable s name) = Name name.text ∷ []
spelled (Got s name) = Name name.text ∷ Mark mark.DOT ∷ Reserved word.GOT ∷ []
spelled (Value s name) = Name name.text ∷ Mark mark.DOT ∷ Reserved word.VALUE ∷ []
spelled (OtherField s name) = Reserved word.U ∷ Mark mark.DOT ∷ Name name.text ∷ []
spelled (OtherWord s w) = Reserved word.U ∷ Mark mark.DOT ∷ Reserved (builtin_word w) ∷ []
spelled (Draw s at number) = Reserved word.DRAW ∷ Mark mark.LEFT_PARENTHESIS ∷ Number number
    ∷ Mark mark.RIGHT_PARENTHESIS ∷ []
spelled (Negative s inner) = Mark mark.MINUS ∷ spelled inner
spelled (Not s inner) = Mark mark.NOT ∷ spelled inner
spelled (Pair s op left right) = spelled left ++ Mark (mark_of op) ∷ spelled right
spelled (Choice s test held otherwise) = spelled test ++ Mark mark.QUESTION
    ∷ (spelled held ++ Mark mark.COLON ∷ spelled otherwise)
spelled (Least s left right) = Reserved word.MIN ∷ Mark mark.LEFT_PARENTHESIS
    ∷ (spelled left ++ Mark mark.COMMA ∷ (spelled right ++ Mark mark.RIGHT_PARENTHESIS ∷ []))
spelled (Greatest s left right) = Reserved word.MAX ∷ Mark mark.LEFT_PARENTHESIS
    ∷ (spelled left ++ Mark mark.COMMA ∷ (spelled right ++ Mark mark.RIGHT_PARENTHESIS ∷ []))
spelled (Group s inner) = Mark mark.LEFT_PARENTHESIS ∷ (spelled inner ++ Mark mark.RIGHT_PARENTHESIS ∷ [])

abbrev pub spelled_op : AssignOp → List Kind
spelled_op assign.Set = Mark mark.ASSIGN ∷ []
spelled_op assign.Add = Mark mark.PLUS_ASSIGN ∷ []
spelled_op assign.Least = Reserved word.MIN ∷ Mark mark.ASSIGN ∷ []
spelled_op assign.Greatest = Reserved word.MAX ∷ Mark mark.ASSIGN ∷ []

abbrev mutual
  pub spelled_statement : Statement → List Kind
  spelled_statement (Assign target op value) = Name target.text
      ∷ (spelled_op op ++ (spelled value ++ Mark mark.SEMICOLON ∷ []))
  spelled_statement (SetActive s value) = Reserved word.ACTIVE ∷ Mark mark.ASSIGN
      ∷ (spelled value ++ Mark mark.SEMICOLON ∷ [])
  spelled_statement (If s test held) = Reserved word.IF
      ∷ (spelled test ++ Mark mark.LEFT_BRACE ∷ (spelled_block held ++ Mark mark.RIGHT_BRACE ∷ []))
  spelled_statement (IfElse s test held otherwise) =
      Reserved word.IF ∷ (spelled test ++ Mark mark.LEFT_BRACE ∷ (spelled_block held ++ Mark mark.RIGHT_BRACE
      ∷ Reserved word.ELSE ∷ Mark mark.LEFT_BRACE ∷ (spelled_block otherwise ++ Mark mark.RIGHT_BRACE ∷ [])))
  spelled_statement (Emit s slot value) = Reserved word.EMIT ∷ Name slot.text
      ∷ (spelled value ++ Mark mark.SEMICOLON ∷ [])
  spelled_statement (Break s) = Reserved word.BREAK ∷ Mark mark.SEMICOLON ∷ []

  pub spelled_block : Statements → List Kind
  spelled_block End = []
  spelled_block (More first others) = spelled_statement first ++ spelled_block others

abbrev pub spelled_declaration : ℕ → Declaration → List Kind
spelled_declaration keyword d =
    Reserved keyword ∷ Name d.name.text ∷ Mark mark.COLON ∷ Reserved (type_word d.kind) ∷ Mark mark.ASSIGN
    ∷ (spelled d.value ++ Mark mark.SEMICOLON ∷ [])

abbrev pub spelled_slot : SlotDeclaration → List Kind
spelled_slot d = Reserved word.SLOT ∷ Name d.name.text ∷ Mark mark.COLON ∷ Reserved (combine_word d.op)
    ∷ Mark mark.SEMICOLON ∷ []

abbrev pub spelled_total : TotalDeclaration → List Kind
spelled_total d =
    Name total_text ∷ Name d.name.text ∷ Mark mark.COLON ∷ Reserved (combine_word d.op) ∷ Mark mark.ASSIGN
    ∷ (spelled d.value ++ Mark mark.SEMICOLON ∷ [])

abbrev pub spelled_dense : DenseBlock → List Kind
spelled_dense d =
    Reserved word.DENSE ∷ Reserved word.WHEN
    ∷ (spelled d.test ++ Mark mark.LEFT_BRACE ∷ (flat_map (spelled_declaration word.LET) d.lets
    ++ Reserved word.FOR ∷ Reserved word.U ∷ Mark mark.LEFT_BRACE ∷ (spelled_block d.body ++ Mark mark.RIGHT_BRACE
    ∷ (spelled_block d.tail ++ Mark mark.RIGHT_BRACE ∷ []))))

abbrev pub spelled_sparse : SparseBlock → List Kind
spelled_sparse d =
    Reserved word.SPARSE ∷ Reserved word.WHEN
    ∷ (spelled d.test ++ Mark mark.LEFT_BRACE ∷ (flat_map (spelled_declaration word.SEND) d.sends
    ++ (spelled_block d.body ++ Mark mark.RIGHT_BRACE ∷ [])))

abbrev pub spelled_stop : Tree → List Kind
spelled_stop test = Name stop_text ∷ (spelled test ++ Mark mark.SEMICOLON ∷ [])

abbrev pub spelled_maybe : {A : Type 0} → (A → List Kind) → Option A → List Kind
spelled_maybe f None = []
spelled_maybe f (Some x) = f x

abbrev pub spelled_header : ProgramTree → List Kind
spelled_header p =
    Reserved word.VERTEX ∷ Number p.version ∷ Mark mark.SEMICOLON ∷ Reserved word.MODE ∷ Reserved (mode_word p.mode)
    ∷ Mark mark.SEMICOLON
    ∷ Reserved word.LIMIT ∷ Number p.limit ∷ Mark mark.SEMICOLON ∷ []

abbrev pub spelled_start : Tree → List Kind
spelled_start test = Reserved word.START ∷ (spelled test ++ Mark mark.SEMICOLON ∷ [])

abbrev pub spelled_update : Statements → List Kind
spelled_update body = Reserved word.UPDATE ∷ Mark mark.LEFT_BRACE ∷ (spelled_block body ++ Mark mark.RIGHT_BRACE ∷ [])

abbrev pub spelled_program : ProgramTree → List Kind
spelled_program p =
    spelled_header p
    ++ (flat_map (spelled_declaration word.FIELD) p.fields
    ++ (flat_map spelled_slot p.slots
    ++ (flat_map spelled_total p.totals
    ++ (spelled_start p.start
    ++ (spelled_maybe spelled_dense p.dense
    ++ (spelled_maybe spelled_sparse p.sparse
    ++ (spelled_update p.update ++ spelled_maybe spelled_stop p.stop)))))))
