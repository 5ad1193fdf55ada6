-- The tokens of a program have the kinds that it is spelled with.
use Rattle.std.proofs.Common.{◌≡◌, ℕ, pred, ◌≤◌, List, ◌∷◌, [], ◌++◌, flat_map, ap, sym, ◌∙◌, append_assoc}
use Rattle.std.specs.Prelude.{nat_abs, IsTrue, ◌==◌}
use Rattle.vert_lex.specs.declared.marks.TheConstants as mark
use Rattle.vert_lex.specs.declared.words.TheConstants as word
use Rattle.vert_lex.specs.Text.{Placed}
use Rattle.vert_lex.specs.Tokens.{Kind, Reserved, Mark, Number, Name}
use Rattle.vert_tree.specs.declared.statement.AssignOp.{AssignOp}
use Rattle.vert_tree.specs.declared.statement.AssignOp.TheVariants as assign
use Rattle.vert_tree.specs.Trees.{Named, Tree, Literal, Truth, Word, Variable, Got, Value, OtherField, OtherWord, Draw, Negative, Not, Pair, Choice, Least, Greatest, Group, start, Statement, Assign, SetActive, If, IfElse, Emit, Break, Statements, End, More, Declaration, SlotDeclaration, TotalDeclaration, DenseBlock, SparseBlock, ProgramTree}
use Rattle.vert_grammar.specs.Grammar.{Sign, Is, Reads, left_of, Rights, ReadsOp, ReadsStatement, ReadsBlock, ReadsDeclaration, ReadsSlot, ReadsTotal, ReadsDense, ReadsSparse, ReadsUpdate, ReadsStart, ReadsStop, ReadsVersion, ReadsHeader, ReadsProgram, loop_rights, tail_rights, sparse_rights, update_rights}
use Rattle.vert_grammar.specs.Signs.{is_other, is_fold, is_version, truth_word, builtin_word, layer_of, mark_of, type_word, combine_word, mode_word, total_text, stop_text}
use Rattle.vert_grammar.specs.Spelling.{kinds, spelled, spelled_op, spelled_statement, spelled_block, spelled_declaration, spelled_slot, spelled_total, spelled_dense, spelled_sparse, spelled_update, spelled_start, spelled_stop, spelled_maybe, spelled_header, spelled_program}
use Rattle.print_law.proofs.Found.{Spells, spells_is, spells_sign, spells_then, spells_nothing, spells_under, spells_under_both, spells_each, spells_maybe}

spells_word : (place : ℕ) → Spells (Sign (Reserved place)) (Reserved place ∷ [])
spells_word place = spells_sign (Reserved place)

spells_mark : (place : ℕ) → Spells (Sign (Mark place)) (Mark place ∷ [])
spells_mark place = spells_sign (Mark place)

spells_name : (name : Named) → Spells (Is name.span (Name name.text)) (Name name.text ∷ [])
spells_name name = spells_is name.span (Name name.text)

pub spells_tree : (k : ℕ) (t : Tree) → Spells (Reads k t) (spelled t)
spells_tree k (Literal s value) = record {
  kinds_are = λ u h.
      ap kinds h.2 ∙ ap (λ n. Number n ∷ []) (sym (ap nat_abs h.1));
}
spells_tree k (Truth s value) = spells_is s (Reserved (truth_word value))
spells_tree k (Word s w) = spells_is s (Reserved (builtin_word w))
spells_tree k (Variable s name) = spells_under (s ≡ name.span) (spells_name name)
spells_tree k (Got s name) = spells_under (s ≡ name.span)
    (spells_then (spells_name name) (spells_then (spells_mark mark.DOT) (spells_word word.GOT)))
spells_tree k (Value s name) = spells_under (s ≡ name.span)
    (spells_then (spells_name name) (spells_then (spells_mark mark.DOT) (spells_word word.VALUE)))
spells_tree k (OtherField s name) = spells_then (spells_is s (Reserved word.U))
    (spells_then (spells_mark mark.DOT) (spells_name name))
spells_tree k (OtherWord s w) = spells_under (IsTrue (is_other w))
    (spells_then (spells_is s (Reserved word.U)) (spells_then (spells_mark mark.DOT) (spells_word (builtin_word w))))
spells_tree k (Draw s at number) =
    spells_then (spells_is s (Reserved word.DRAW))
    (spells_then (spells_mark mark.LEFT_PARENTHESIS)
    (spells_then (spells_is at (Number number)) (spells_mark mark.RIGHT_PARENTHESIS)))
spells_tree k (Negative s inner) = spells_then (spells_is s (Mark mark.MINUS)) (spells_tree 0 inner)
spells_tree k (Not s inner) = spells_then (spells_is s (Mark mark.NOT)) (spells_tree 0 inner)
spells_tree k (Pair s op left right) =
    spells_under_both (layer_of op ≤ k) (s ≡ start left)
    (spells_then (spells_tree (left_of (layer_of op)) left)
    (spells_then (spells_mark (mark_of op)) (spells_tree (pred (layer_of op)) right)))
spells_tree k (Choice s test held otherwise) =
    spells_under_both (6 ≤ k) (s ≡ start test)
    (spells_then (spells_tree 5 test) (spells_then (spells_mark mark.QUESTION)
    (spells_then (spells_tree 6 held) (spells_then (spells_mark mark.COLON) (spells_tree 6 otherwise)))))
spells_tree k (Least s left right) =
    spells_then (spells_is s (Reserved word.MIN))
    (spells_then (spells_mark mark.LEFT_PARENTHESIS)
    (spells_then (spells_tree 6 left) (spells_then (spells_mark mark.COMMA)
    (spells_then (spells_tree 6 right) (spells_mark mark.RIGHT_PARENTHESIS)))))
spells_tree k (Greatest s left right) =
    spells_then (spells_is s (Reserved word.MAX))
    (spells_then (spells_mark mark.LEFT_PARENTHESIS)
    (spells_then (spells_tree 6 left) (spells_then (spells_mark mark.COMMA)
    (spells_then (spells_tree 6 right) (spells_mark mark.RIGHT_PARENTHESIS)))))
spells_tree k (Group s inner) = spells_then (spells_is s (Mark mark.LEFT_PARENTHESIS))
    (spells_then (spells_tree 6 inner) (spells_mark mark.RIGHT_PARENTHESIS))

-- ---- statements

spells_op : (op : AssignOp) → Spells (ReadsOp op) (spelled_op op)
spells_op assign.Set = spells_mark mark.ASSIGN
spells_op assign.Add = spells_mark mark.PLUS_ASSIGN
spells_op assign.Least = spells_then (spells_word word.MIN) (spells_mark mark.ASSIGN)
spells_op assign.Greatest = spells_then (spells_word word.MAX) (spells_mark mark.ASSIGN)

mutual
  pub spells_statement : (r : Rights) (s : Statement) → Spells (ReadsStatement r s) (spelled_statement s)
  spells_statement r (Assign target op value) =
      spells_under (IsTrue r.assigns) (spells_then (spells_name target)
      (spells_then (spells_op op) (spells_then (spells_tree 6 value) (spells_mark mark.SEMICOLON))))
  spells_statement r (SetActive s value) =
      spells_under (IsTrue r.activates) (spells_then (spells_is s (Reserved word.ACTIVE))
      (spells_then (spells_mark mark.ASSIGN) (spells_then (spells_tree 6 value) (spells_mark mark.SEMICOLON))))
  spells_statement r (If s test held) =
      spells_then (spells_is s (Reserved word.IF))
      (spells_then (spells_tree 6 test)
      (spells_then (spells_mark mark.LEFT_BRACE)
      (spells_then (spells_block r held) (spells_mark mark.RIGHT_BRACE))))
  spells_statement r (IfElse s test held otherwise) =
      spells_then (spells_is s (Reserved word.IF))
      (spells_then (spells_tree 6 test)
      (spells_then (spells_mark mark.LEFT_BRACE)
      (spells_then (spells_block r held) (spells_then (spells_mark mark.RIGHT_BRACE)
      (spells_then (spells_word word.ELSE)
      (spells_then (spells_mark mark.LEFT_BRACE)
      (spells_then (spells_block r otherwise) (spells_mark mark.RIGHT_BRACE))))))))
  spells_statement r (Emit s slot value) =
      spells_under (IsTrue r.emits) (spells_then (spells_is s (Reserved word.EMIT))
      (spells_then (spells_name slot) (spells_then (spells_tree 6 value) (spells_mark mark.SEMICOLON))))
  spells_statement r (Break s) = spells_under (IsTrue r.breaks)
      (spells_then (spells_is s (Reserved word.BREAK)) (spells_mark mark.SEMICOLON))

  pub spells_block : (r : Rights) (b : Statements) → Spells (ReadsBlock r b) (spelled_block b)
  spells_block r End = spells_nothing
  spells_block r (More first others) = spells_then (spells_statement r first) (spells_block r others)

-- ---- declarations and blocks

spells_declaration : (keyword : ℕ) (d : Declaration) →
    Spells (ReadsDeclaration keyword d) (spelled_declaration keyword d)
spells_declaration keyword d =
    spells_then (spells_word keyword) (spells_then (spells_name d.name)
    (spells_then (spells_mark mark.COLON) (spells_then (spells_word (type_word d.kind))
    (spells_then (spells_mark mark.ASSIGN) (spells_then (spells_tree 6 d.value) (spells_mark mark.SEMICOLON))))))

spells_slot : (d : SlotDeclaration) → Spells (ReadsSlot d) (spelled_slot d)
spells_slot d = spells_then (spells_word word.SLOT)
    (spells_then (spells_name d.name) (spells_then (spells_mark mark.COLON)
    (spells_then (spells_word (combine_word d.op)) (spells_mark mark.SEMICOLON))))

spells_total : (d : TotalDeclaration) → Spells (ReadsTotal d) (spelled_total d)
spells_total d =
    spells_under (IsTrue (is_fold d.op))
    (spells_then (spells_sign (Name total_text))
    (spells_then (spells_name d.name) (spells_then (spells_mark mark.COLON)
    (spells_then (spells_word (combine_word d.op))
    (spells_then (spells_mark mark.ASSIGN) (spells_then (spells_tree 6 d.value) (spells_mark mark.SEMICOLON)))))))

spells_dense : (d : DenseBlock) → Spells (ReadsDense d) (spelled_dense d)
spells_dense d =
    spells_then (spells_word word.DENSE) (spells_then (spells_word word.WHEN)
    (spells_then (spells_tree 6 d.test) (spells_then (spells_mark mark.LEFT_BRACE)
    (spells_then (spells_each (spells_declaration word.LET) d.lets)
    (spells_then (spells_word word.FOR) (spells_then (spells_word word.U)
    (spells_then (spells_mark mark.LEFT_BRACE)
    (spells_then (spells_block loop_rights d.body) (spells_then (spells_mark mark.RIGHT_BRACE)
    (spells_then (spells_block tail_rights d.tail) (spells_mark mark.RIGHT_BRACE)))))))))))

spells_sparse : (d : SparseBlock) → Spells (ReadsSparse d) (spelled_sparse d)
spells_sparse d =
    spells_then (spells_word word.SPARSE) (spells_then (spells_word word.WHEN)
    (spells_then (spells_tree 6 d.test) (spells_then (spells_mark mark.LEFT_BRACE)
    (spells_then (spells_each (spells_declaration word.SEND) d.sends)
    (spells_then (spells_block sparse_rights d.body) (spells_mark mark.RIGHT_BRACE))))))

spells_update : (body : Statements) → Spells (ReadsUpdate body) (spelled_update body)
spells_update body = spells_then (spells_word word.UPDATE)
    (spells_then (spells_mark mark.LEFT_BRACE)
    (spells_then (spells_block update_rights body) (spells_mark mark.RIGHT_BRACE)))

spells_start : (test : Tree) → Spells (ReadsStart test) (spelled_start test)
spells_start test = spells_then (spells_word word.START) (spells_then (spells_tree 6 test) (spells_mark mark.SEMICOLON))

spells_stop : (test : Tree) → Spells (ReadsStop test) (spelled_stop test)
spells_stop test = spells_then (spells_sign (Name stop_text))
    (spells_then (spells_tree 6 test) (spells_mark mark.SEMICOLON))

-- ---- programs

spells_version : (version : ℕ) → Spells (ReadsVersion version) (Number version ∷ [])
spells_version version = spells_under (IsTrue (is_version version)) (spells_sign (Number version))

-- the kinds of a program's tokens, as the grammar groups them
abbrev pub grouped_kinds : ProgramTree → List Kind
grouped_kinds p =
    spelled_header p
    ++ ((flat_map (spelled_declaration word.FIELD) p.fields
    ++ (flat_map spelled_slot p.slots ++ flat_map spelled_total p.totals))
    ++ (spelled_start p.start
    ++ (spelled_maybe spelled_dense p.dense
    ++ (spelled_maybe spelled_sparse p.sparse ++ (spelled_update p.update ++ spelled_maybe spelled_stop p.stop)))))

regroup : (h f s t r : List Kind) → h ++ (f ++ (s ++ (t ++ r))) ≡ h ++ ((f ++ (s ++ t)) ++ r)
regroup h f s t r = ap (λ l. h ++ l) (sym (append_assoc f (s ++ t) r ∙ ap (λ l. f ++ l) (append_assoc s t r)))

pub grouped : (p : ProgramTree) → spelled_program p ≡ grouped_kinds p
grouped p =
    regroup (spelled_header p) (flat_map (spelled_declaration word.FIELD) p.fields) (flat_map spelled_slot p.slots)
    (flat_map spelled_total p.totals)
    (spelled_start p.start
    ++ (spelled_maybe spelled_dense p.dense
    ++ (spelled_maybe spelled_sparse p.sparse ++ (spelled_update p.update ++ spelled_maybe spelled_stop p.stop))))

spells_header : (p : ProgramTree) → Spells (ReadsHeader p.version p.mode_at p.mode p.limit_at p.limit)
    (spelled_header p)
spells_header p =
    spells_then (spells_word word.VERTEX) (spells_then (spells_version p.version)
    (spells_then (spells_mark mark.SEMICOLON)
    (spells_then (spells_word word.MODE) (spells_then (spells_is p.mode_at (Reserved (mode_word p.mode)))
    (spells_then (spells_mark mark.SEMICOLON)
    (spells_then (spells_word word.LIMIT) (spells_then (spells_is p.limit_at (Number p.limit))
    (spells_mark mark.SEMICOLON))))))))

pub spells_program : (p : ProgramTree) → Spells (ReadsProgram p) (grouped_kinds p)
spells_program p =
    spells_then (spells_header p)
    (spells_then (spells_then (spells_each (spells_declaration word.FIELD) p.fields)
    (spells_then (spells_each spells_slot p.slots)
    (spells_each (λ d. spells_under (IsTrue (p.version == 2)) (spells_total d)) p.totals)))
    (spells_then (spells_start p.start)
    (spells_then (spells_maybe spells_dense p.dense)
    (spells_then (spells_maybe spells_sparse p.sparse)
    (spells_then (spells_update p.update)
    (spells_maybe (λ test. spells_under (IsTrue (p.version == 2)) (spells_stop test)) p.stop))))))

pub program_kinds : (p : ProgramTree) (u : List Placed) → ReadsProgram p u → kinds u ≡ spelled_program p
program_kinds p u h = (spells_program p).kinds_are u h ∙ sym (grouped p)
