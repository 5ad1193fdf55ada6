-- The text of a program is that of its tokens, laid out.
use Rattle.std.proofs.Common.{◌≡◌, ℕ, pred, List, [], ◌∷◌, ◌++◌, Option, None, Some, flat_map, codes, refl, sym, ap, subst, ◌∙◌, append_assoc}
use Rattle.std.proofs.lemmas.Grind.{flat_map-append}
use Rattle.std.specs.Prelude.{nat_abs, decimal, Bool, true, false, IsTrue, ◌==◌}
use Rattle.std.specs.Fmt.{signed_decimal}
use Rattle.vert_base.specs.declared.value.Combine.{Combine}
use Rattle.vert_base.specs.declared.value.Combine.TheVariants as combine
use Rattle.vert_base.specs.declared.value.Mode.{Mode}
use Rattle.vert_base.specs.declared.value.Mode.TheVariants as modes
use Rattle.vert_base.specs.declared.value.ValueType.{ValueType}
use Rattle.vert_base.specs.declared.value.ValueType.TheVariants as types
use Rattle.vert_lex.specs.declared.marks.TheConstants as mark
use Rattle.vert_lex.specs.declared.words.TheConstants as word
use Rattle.vert_lex.specs.Places.{reserved_words, marks}
use Rattle.vert_lex.specs.Text.{Placed}
use Rattle.vert_lex.specs.Tokens.{Kind, Reserved, Mark, Number, Name}
use Rattle.vert_tree.specs.declared.expression.BinOp.{BinOp}
use Rattle.vert_tree.specs.declared.expression.BinOp.TheVariants.{Add, Sub, Mul, Div, Rem, Eq, Ne, Lt, Le, Gt, Ge, And, Or}
use Rattle.vert_tree.specs.declared.expression.Builtin.{Builtin}
use Rattle.vert_tree.specs.declared.expression.Builtin.TheVariants.{Id, Count, Round, InDeg, OutDeg, Active, Weight}
use Rattle.vert_tree.specs.declared.statement.AssignOp.{AssignOp}
use Rattle.vert_tree.specs.declared.statement.AssignOp.TheVariants as assign
use Rattle.vert_tree.specs.Printed.{truth_text, builtin_text, operator_text, assign_text, type_text, combine_text, mode_text, printed_tree, printed_line, printed_statement, printed_block, printed_declaration, printed_slot, printed_total, printed_dense, printed_sparse, printed_maybe, printed_header, printed_update, printed}
use Rattle.vert_tree.specs.Trees.{Tree, Literal, Truth, Word, Variable, Got, Value, OtherField, OtherWord, Draw, Negative, Not, Pair, Choice, Least, Greatest, Group, Statement, Assign, SetActive, If, IfElse, Emit, Break, Statements, End, More, Declaration, SlotDeclaration, TotalDeclaration, DenseBlock, SparseBlock, ProgramTree}
use Rattle.vert_grammar.specs.Grammar.{Form, Reads, left_of, Each, Maybe, Rights, ReadsStatement, ReadsBlock, ReadsDeclaration, ReadsSlot, ReadsTotal, ReadsDense, ReadsSparse, ReadsUpdate, ReadsStop, ReadsProgram, loop_rights, tail_rights, sparse_rights, update_rights}
use Rattle.vert_grammar.specs.Signs.{layer_of, mark_of, builtin_word, truth_word, type_word, combine_word, mode_word, total_text, stop_text}
use Rattle.vert_grammar.specs.Spelling.{spelled, spelled_op, spelled_statement, spelled_block, spelled_declaration, spelled_slot, spelled_total, spelled_dense, spelled_sparse, spelled_update, spelled_stop, spelled_maybe, spelled_header, spelled_program}
use Rattle.print_law.specs.Layout.{text_of, behind, laid}

-- the tokens of these kinds, laid out, are this text
pub record Lays (ks : List Kind) (text : List ℕ) : Type 0 where
  pub is : laid ks ≡ text

lays : (ks : List Kind) (text : List ℕ) → laid ks ≡ text → Lays ks text
lays ks text e = record { is = e }

lays_then : {ks ls : List Kind} {x y : List ℕ} → Lays ks x → Lays ls y → Lays (ks ++ ls) (x ++ y)
lays_then {ks = ks} {ls = ls} {x = x} p q = record {
  is = flat_map-append (λ k. text_of k ++ behind k ∷ []) ks ls
      ∙ ap (λ l. l ++ laid ls) p.is ∙ ap (λ l. x ++ l) q.is;
}

-- a token in front
lays_token : (k : Kind) {ks : List Kind} {y : List ℕ} → Lays ks y → Lays (k ∷ ks) (text_of k ++ behind k ∷ y)
lays_token k {ks = ks} p = record {
  is = append_assoc (text_of k) (behind k ∷ []) (laid ks)
      ∙ ap (λ l. text_of k ++ behind k ∷ l) p.is;
}

lays_nothing : Lays [] []
lays_nothing = record { is = refl }

-- three parts, grouped before what follows
lays_grouped : {ks ls ms ns : List Kind} {x y z w : List ℕ} → Lays ks x → Lays ls y → Lays ms z → Lays ns w →
    Lays (ks ++ (ls ++ (ms ++ ns))) ((x ++ (y ++ z)) ++ w)
lays_grouped {x = x} {y = y} {z = z} {w = w} p q r s =
    let l = lays_then p (lays_then q (lays_then r s)) in
    record { is = l.is ∙ sym (append_assoc x (y ++ z) w ∙ ap (λ m. x ++ m) (append_assoc y z w)) }

lays_each : {A : Type 0} {P : A → Form} {f : A → List Kind} {g : A → List ℕ} →
    ((x : A) (u : List Placed) → P x u → Lays (f x) (g x)) → (xs : List A) (u : List Placed) → Each P xs u →
    Lays (flat_map f xs) (flat_map g xs)
lays_each p [] u h = lays_nothing
lays_each p (x ∷ xs) u h = lays_then (p x h.front h.first) (lays_each p xs h.back h.second)

lays_maybe : {A : Type 0} {P : A → Form} {f : A → List Kind} {g : A → List ℕ} →
    ((x : A) (u : List Placed) → P x u → Lays (f x) (g x)) → (o : Option A) (u : List Placed) → Maybe P o u →
    Lays (spelled_maybe f o) (printed_maybe g o)
lays_maybe p None u h = lays_nothing
lays_maybe p (Some x) u h = p x u h

-- ---- words and marks

lays_truth : (b : Bool) → Lays (Reserved (truth_word b) ∷ []) (truth_text b)
unfolding reserved_words marks
lays_truth true = lays _ _ refl
lays_truth false = lays _ _ refl

lays_builtin : (w : Builtin) → Lays (Reserved (builtin_word w) ∷ []) (builtin_text w)
unfolding reserved_words marks
lays_builtin Id = lays _ _ refl
lays_builtin Count = lays _ _ refl
lays_builtin Round = lays _ _ refl
lays_builtin InDeg = lays _ _ refl
lays_builtin OutDeg = lays _ _ refl
lays_builtin Active = lays _ _ refl
lays_builtin Weight = lays _ _ refl

lays_operator : (op : BinOp) → Lays (Mark (mark_of op) ∷ []) (operator_text op)
unfolding reserved_words marks
lays_operator Add = lays _ _ refl
lays_operator Sub = lays _ _ refl
lays_operator Mul = lays _ _ refl
lays_operator Div = lays _ _ refl
lays_operator Rem = lays _ _ refl
lays_operator Eq = lays _ _ refl
lays_operator Ne = lays _ _ refl
lays_operator Lt = lays _ _ refl
lays_operator Le = lays _ _ refl
lays_operator Gt = lays _ _ refl
lays_operator Ge = lays _ _ refl
lays_operator And = lays _ _ refl
lays_operator Or = lays _ _ refl

lays_op : (op : AssignOp) → Lays (spelled_op op) (assign_text op)
unfolding reserved_words marks
lays_op assign.Set = lays _ _ refl
lays_op assign.Add = lays _ _ refl
lays_op assign.Least = lays _ _ refl
lays_op assign.Greatest = lays _ _ refl

lays_type : (t : ValueType) → Lays (Reserved (type_word t) ∷ []) (type_text t)
unfolding reserved_words marks
lays_type types.Int = lays _ _ refl
lays_type types.Bool = lays _ _ refl

lays_combine : (op : Combine) → Lays (Reserved (combine_word op) ∷ []) (combine_text op)
unfolding reserved_words marks
lays_combine combine.Min = lays _ _ refl
lays_combine combine.Max = lays _ _ refl
lays_combine combine.Sum = lays _ _ refl
lays_combine combine.First = lays _ _ refl

lays_mode : (m : Mode) → Lays (Reserved (mode_word m) ∷ []) (mode_text m)
unfolding reserved_words marks
lays_mode modes.Auto = lays _ _ refl
lays_mode modes.Dense = lays _ _ refl
lays_mode modes.Sparse = lays _ _ refl

-- ---- expressions

lays_name : (text : List ℕ) {ks : List Kind} {y : List ℕ} → Lays ks y → Lays (Name text ∷ ks) (text ++ 32 ∷ y)
lays_name text p = lays_token (Name text) p

lays_number : (n : ℕ) {ks : List Kind} {y : List ℕ} → Lays ks y → Lays (Number n ∷ ks) (decimal n ++ 32 ∷ y)
lays_number n p = lays_token (Number n) p

pub lays_tree : (k : ℕ) (t : Tree) (u : List Placed) → Reads k t u → Lays (spelled t) (printed_tree t)
unfolding reserved_words marks
lays_tree k (Literal s value) u h = subst (λ v. Lays (Number (nat_abs v) ∷ []) (signed_decimal v ++ codes " "))
    (sym h.1) (lays_number h.0 lays_nothing)
lays_tree k (Truth s value) u h = lays_truth value
lays_tree k (Word s w) u h = lays_builtin w
lays_tree k (Variable s name) u h = lays_name name.text lays_nothing
lays_tree k (Got s name) u h = lays_name name.text (lays (Mark mark.DOT ∷ Reserved word.GOT ∷ []) (codes ". got ") refl)
lays_tree k (Value s name) u h = lays_name name.text
    (lays (Mark mark.DOT ∷ Reserved word.VALUE ∷ []) (codes ". value ") refl)
lays_tree k (OtherField s name) u h = lays_then (lays (Reserved word.U ∷ Mark mark.DOT ∷ []) (codes "u . ") refl)
    (lays_name name.text lays_nothing)
lays_tree k (OtherWord s w) u h = lays_then (lays (Reserved word.U ∷ Mark mark.DOT ∷ []) (codes "u . ") refl)
    (lays_builtin w)
lays_tree k (Draw s at number) u h =
    lays_then (lays (Reserved word.DRAW ∷ Mark mark.LEFT_PARENTHESIS ∷ []) (codes "draw ( ") refl)
    (lays_number number (lays (Mark mark.RIGHT_PARENTHESIS ∷ []) (codes ") ") refl))
lays_tree k (Negative s inner) u h = lays_then (lays (Mark mark.MINUS ∷ []) (codes "- ") refl)
    (lays_tree 0 inner h.back h.second)
lays_tree k (Not s inner) u h = lays_then (lays (Mark mark.NOT ∷ []) (codes "! ") refl)
    (lays_tree 0 inner h.back h.second)
lays_tree k (Pair s op left right) u h =
    let t = h.2 in
    lays_then (lays_tree (left_of (layer_of op)) left t.front t.first)
    (lays_then (lays_operator op) (lays_tree (pred (layer_of op)) right t.second.back t.second.second))
lays_tree k (Choice s test held otherwise) u h =
    let t = h.2 in
    let q = t.second.second in
    lays_then (lays_tree 5 test t.front t.first)
    (lays_then (lays (Mark mark.QUESTION ∷ []) (codes "? ") refl)
    (lays_then (lays_tree 6 held q.front q.first)
    (lays_then (lays (Mark mark.COLON ∷ []) (codes ": ") refl)
    (lays_tree 6 otherwise q.second.back q.second.second))))
lays_tree k (Least s left right) u h =
    let l = h.second.second in
    let r = l.second.second in
    lays_then (lays (Reserved word.MIN ∷ Mark mark.LEFT_PARENTHESIS ∷ []) (codes "min ( ") refl)
    (lays_then (lays_tree 6 left l.front l.first)
    (lays_then (lays (Mark mark.COMMA ∷ []) (codes ", ") refl)
    (lays_then (lays_tree 6 right r.front r.first) (lays (Mark mark.RIGHT_PARENTHESIS ∷ []) (codes ") ") refl))))
lays_tree k (Greatest s left right) u h =
    let l = h.second.second in
    let r = l.second.second in
    lays_then (lays (Reserved word.MAX ∷ Mark mark.LEFT_PARENTHESIS ∷ []) (codes "max ( ") refl)
    (lays_then (lays_tree 6 left l.front l.first)
    (lays_then (lays (Mark mark.COMMA ∷ []) (codes ", ") refl)
    (lays_then (lays_tree 6 right r.front r.first) (lays (Mark mark.RIGHT_PARENTHESIS ∷ []) (codes ") ") refl))))
lays_tree k (Group s inner) u h =
    lays_then (lays (Mark mark.LEFT_PARENTHESIS ∷ []) (codes "( ") refl)
    (lays_then (lays_tree 6 inner h.second.front h.second.first)
    (lays (Mark mark.RIGHT_PARENTHESIS ∷ []) (codes ") ") refl))

-- ---- statements

lays_close : Lays (Mark mark.RIGHT_BRACE ∷ []) (codes "}\n")
unfolding reserved_words marks
lays_close = lays _ _ refl

lays_open : Lays (Mark mark.LEFT_BRACE ∷ []) (codes "{\n")
unfolding reserved_words marks
lays_open = lays _ _ refl

lays_end : Lays (Mark mark.SEMICOLON ∷ []) (codes ";\n")
unfolding reserved_words marks
lays_end = lays _ _ refl

mutual
  unfolding reserved_words marks

  pub lays_statement : (r : Rights) (s : Statement) (u : List Placed) → ReadsStatement r s u →
      Lays (spelled_statement s) (printed_statement s)
  lays_statement r (Assign target op value) u h =
      let v = h.1.second.second in
      lays_name target.text (lays_then (lays_op op) (lays_then (lays_tree 6 value v.front v.first) lays_end))
  lays_statement r (SetActive s value) u h =
      let v = h.1.second.second in
      lays_then (lays (Reserved word.ACTIVE ∷ Mark mark.ASSIGN ∷ []) (codes "active = ") refl)
      (lays_then (lays_tree 6 value v.front v.first) lays_end)
  lays_statement r (If s test held) u h =
      let t = h.second in
      let b = t.second.second in
      lays_grouped (lays (Reserved word.IF ∷ []) (codes "if ") refl) (lays_tree 6 test t.front t.first) lays_open
      (lays_then (lays_block r held b.front b.first) lays_close)
  lays_statement r (IfElse s test held otherwise) u h =
      let t = h.second in
      let b = t.second.second in
      let o = b.second.second.second.second in
      lays_grouped (lays (Reserved word.IF ∷ []) (codes "if ") refl) (lays_tree 6 test t.front t.first) lays_open
      (lays_then (lays_block r held b.front b.first)
      (lays_then (lays (Mark mark.RIGHT_BRACE ∷ Reserved word.ELSE ∷ Mark mark.LEFT_BRACE ∷ []) (codes "}\nelse {\n")
      refl) (lays_then (lays_block r otherwise o.front o.first) lays_close)))
  lays_statement r (Emit s slot value) u h =
      let v = h.1.second.second in
      lays_then (lays (Reserved word.EMIT ∷ []) (codes "emit ") refl)
      (lays_name slot.text (lays_then (lays_tree 6 value v.front v.first) lays_end))
  lays_statement r (Break s) u h = lays (Reserved word.BREAK ∷ Mark mark.SEMICOLON ∷ []) (codes "break ;\n") refl

  pub lays_block : (r : Rights) (b : Statements) (u : List Placed) → ReadsBlock r b u →
      Lays (spelled_block b) (printed_block b)
  lays_block r End u h = lays_nothing
  lays_block r (More first others) u h = lays_then (lays_statement r first h.front h.first)
      (lays_block r others h.back h.second)

-- ---- declarations and blocks

lays_declaration : (place : ℕ) (keyword : List ℕ) → Lays (Reserved place ∷ []) keyword →
    (d : Declaration) (u : List Placed) → ReadsDeclaration place d u →
    Lays (spelled_declaration place d) (printed_declaration keyword d)
unfolding reserved_words marks
lays_declaration place keyword k d u h =
    let v = h.second.second.second.second.second in
    lays_then k (lays_name d.name.text (lays_then (lays (Mark mark.COLON ∷ []) (codes ": ") refl)
    (lays_then (lays_type d.kind)
    (lays_then (lays (Mark mark.ASSIGN ∷ []) (codes "= ") refl)
    (lays_then (lays_tree 6 d.value v.front v.first) lays_end)))))

lays_field : (d : Declaration) (u : List Placed) → ReadsDeclaration word.FIELD d u →
    Lays (spelled_declaration word.FIELD d) (printed_declaration (codes "field ") d)
unfolding reserved_words marks
lays_field = lays_declaration word.FIELD (codes "field ") (lays _ _ refl)

lays_let : (d : Declaration) (u : List Placed) → ReadsDeclaration word.LET d u →
    Lays (spelled_declaration word.LET d) (printed_declaration (codes "let ") d)
unfolding reserved_words marks
lays_let = lays_declaration word.LET (codes "let ") (lays _ _ refl)

lays_send : (d : Declaration) (u : List Placed) → ReadsDeclaration word.SEND d u →
    Lays (spelled_declaration word.SEND d) (printed_declaration (codes "send ") d)
unfolding reserved_words marks
lays_send = lays_declaration word.SEND (codes "send ") (lays _ _ refl)

lays_slot : (d : SlotDeclaration) (u : List Placed) → ReadsSlot d u → Lays (spelled_slot d) (printed_slot d)
unfolding reserved_words marks
lays_slot d u h = lays_then (lays (Reserved word.SLOT ∷ []) (codes "slot ") refl)
    (lays_name d.name.text (lays_then (lays (Mark mark.COLON ∷ []) (codes ": ") refl)
    (lays_then (lays_combine d.op) lays_end)))

lays_total : (version : ℕ) (d : TotalDeclaration) (u : List Placed) → IsTrue (version == 2) × ReadsTotal d u →
    Lays (spelled_total d) (printed_total d)
unfolding reserved_words marks
lays_total version d u h =
    let v = h.1.1.second.second.second.second.second in
    lays_then (lays (Name total_text ∷ []) (codes "total ") refl)
    (lays_name d.name.text (lays_then (lays (Mark mark.COLON ∷ []) (codes ": ") refl) (lays_then (lays_combine d.op)
    (lays_then (lays (Mark mark.ASSIGN ∷ []) (codes "= ") refl)
    (lays_then (lays_tree 6 d.value v.front v.first) lays_end)))))

lays_dense : (d : DenseBlock) (u : List Placed) → ReadsDense d u → Lays (spelled_dense d) (printed_dense d)
unfolding reserved_words marks
lays_dense d u h =
    let t = h.second.second in
    let l = t.second.second in
    let b = l.second.second.second.second in
    let a = b.second.second in
    lays_grouped (lays (Reserved word.DENSE ∷ Reserved word.WHEN ∷ []) (codes "dense when ") refl)
    (lays_tree 6 d.test t.front t.first) lays_open
    (lays_then (lays_each lays_let d.lets l.front l.first)
    (lays_grouped (lays (Reserved word.FOR ∷ Reserved word.U ∷ Mark mark.LEFT_BRACE ∷ []) (codes "for u {\n") refl)
    (lays_block loop_rights d.body b.front b.first) lays_close
    (lays_then (lays_block tail_rights d.tail a.front a.first) lays_close)))

lays_sparse : (d : SparseBlock) (u : List Placed) → ReadsSparse d u → Lays (spelled_sparse d) (printed_sparse d)
unfolding reserved_words marks
lays_sparse d u h =
    let t = h.second.second in
    let l = t.second.second in
    let b = l.second in
    lays_grouped (lays (Reserved word.SPARSE ∷ Reserved word.WHEN ∷ []) (codes "sparse when ") refl)
    (lays_tree 6 d.test t.front t.first) lays_open
    (lays_then (lays_each lays_send d.sends l.front l.first)
    (lays_then (lays_block sparse_rights d.body b.front b.first) lays_close))

lays_update : (body : Statements) (u : List Placed) → ReadsUpdate body u →
    Lays (spelled_update body) (printed_update body)
unfolding reserved_words marks
lays_update body u h =
    let b = h.second.second in
    lays_then (lays (Reserved word.UPDATE ∷ Mark mark.LEFT_BRACE ∷ []) (codes "update {\n") refl)
    (lays_then (lays_block update_rights body b.front b.first) lays_close)

lays_stop : (version : ℕ) (test : Tree) (u : List Placed) → IsTrue (version == 2) × ReadsStop test u →
    Lays (spelled_stop test) (printed_line (codes "stop ") test)
unfolding reserved_words marks
lays_stop version test u h = lays_then (lays (Name stop_text ∷ []) (codes "stop ") refl)
    (lays_then (lays_tree 6 test h.1.second.front h.1.second.first) lays_end)

-- ---- programs

lays_header : (p : ProgramTree) → Lays (spelled_header p) (printed_header p.version p.mode p.limit)
unfolding reserved_words marks
lays_header p =
    lays_then (lays (Reserved word.VERTEX ∷ []) (codes "vertex ") refl)
    (lays_number p.version (lays_then (lays (Mark mark.SEMICOLON ∷ Reserved word.MODE ∷ []) (codes ";\nmode ")
    refl) (lays_then (lays_mode p.mode)
    (lays_then (lays (Mark mark.SEMICOLON ∷ Reserved word.LIMIT ∷ []) (codes ";\nlimit ") refl)
    (lays_number p.limit lays_end)))))

pub lays_program : (p : ProgramTree) (u : List Placed) → ReadsProgram p u → Lays (spelled_program p) (printed p)
unfolding reserved_words marks
lays_program p u h =
    let n = h.second in
    let s = n.first.second in
    let t = n.second in
    let b = t.second in
    lays_then (lays_header p) (lays_then (lays_each lays_field p.fields n.first.front n.first.first)
    (lays_then (lays_each lays_slot p.slots s.front s.first)
    (lays_then (lays_each (lays_total p.version) p.totals s.back s.second)
    (lays_then (lays_then (lays (Reserved word.START ∷ []) (codes "start ") refl)
    (lays_then (lays_tree 6 p.start t.first.second.front t.first.second.first) lays_end))
    (lays_then (lays_maybe lays_dense p.dense b.front b.first)
    (lays_then (lays_maybe lays_sparse p.sparse b.second.front b.second.first)
    (lays_then (lays_update p.update b.second.second.front b.second.second.first)
    (lays_maybe (lays_stop p.version) p.stop b.second.second.back b.second.second.second))))))))
