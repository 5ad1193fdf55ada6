-- Tokens of the kinds of a program are the same program, wherever they stand.
use Rattle.std.proofs.Common.{◌≡◌, ℕ, pred, List, ◌∷◌, [], ◌++◌, Option, map, flat_map, refl, ap, ◌∙◌}
use Rattle.std.specs.Prelude.{nat_abs, IsTrue, ◌==◌, option_map}
use Rattle.vert_base.specs.declared.text.Span.{Span}
use Rattle.vert_lex.specs.declared.marks.TheConstants as mark
use Rattle.vert_lex.specs.declared.words.TheConstants as word
use Rattle.vert_lex.specs.Text.{Placed}
use Rattle.vert_lex.specs.Tokens.{Kind, Reserved, Mark, Number, Name}
use Rattle.vert_tree.specs.declared.statement.AssignOp.{AssignOp}
use Rattle.vert_tree.specs.declared.statement.AssignOp.TheVariants as assign
use Rattle.vert_tree.specs.Plain.{nowhere, plain_name, plain, plain_statement, plain_block, plain_declaration, plain_slot, plain_total, plain_dense, plain_sparse, plain_program}
use Rattle.vert_tree.specs.Trees.{Named, Tree, Literal, Truth, Word, Variable, Got, Value, OtherField, OtherWord, Draw, Negative, Not, Pair, Choice, Least, Greatest, Group, start, Statement, Assign, SetActive, If, IfElse, Emit, Break, Statements, End, More, Declaration, SlotDeclaration, TotalDeclaration, DenseBlock, SparseBlock, ProgramTree}
use Rattle.vert_grammar.specs.Grammar.{Form, Sign, TheName, Reads, left_of, Rights, ReadsOp, ReadsStatement, ReadsBlock, ReadsDeclaration, ReadsSlot, ReadsTotal, ReadsDense, ReadsSparse, ReadsUpdate, ReadsStart, ReadsStop, ReadsHeader, ReadsNames, ReadsBlocks, ReadsProgram, InTwo, loop_rights, tail_rights, sparse_rights, update_rights}
use Rattle.vert_grammar.specs.Signs.{token, is_version, truth_word, builtin_word, layer_of, mark_of, type_word, combine_word, mode_word, total_text, stop_text}
use Rattle.vert_grammar.specs.Spelling.{spelled, spelled_op, spelled_statement, spelled_block, spelled_declaration, spelled_slot, spelled_total, spelled_dense, spelled_sparse, spelled_update, spelled_start, spelled_stop, spelled_maybe, spelled_header}
use Rattle.vert_grammar.specs.Reading.{DeclaredNames, ProgramBlocks}
use Rattle.print_law.proofs.Spelled.{grouped_kinds}
use Rattle.print_law.proofs.Found.{Fixed, fixed_sign, fixed_then, fixed_under, Found, AsPlain, found_is, found_then, found_behind, found_before, found_as, found_nothing, found_each, found_maybe}

abbrev fixed_word : (place : ℕ) → Fixed (Reserved place ∷ []) (Sign (Reserved place))
fixed_word place = fixed_sign (Reserved place)

abbrev fixed_mark : (place : ℕ) → Fixed (Mark place ∷ []) (Sign (Mark place))
fixed_mark place = fixed_sign (Mark place)

found_name : (name : Named) → Found (Name name.text ∷ []) Named TheName (AsPlain plain_name name)
found_name name = found_as (λ s. record { span = s; text = name.text }) TheName (AsPlain plain_name name) (λ s u h. h)
    (λ s e. refl) (found_is (Name name.text))

-- the form of trees that are the same as this
abbrev FoundTree : ℕ → Tree → Type 0
FoundTree k t = Found (spelled t) Tree (Reads k) (AsPlain plain t)

-- a tree made of what was found
as_tree : {A : Type 0} {ks : List Kind} {P : A → Form} {X : A → Type 0} (k : ℕ) (t : Tree) (f : A → Tree) →
    ((x : A) (u : List Placed) → P x u → Reads k (f x) u) → ((x : A) → X x → plain (f x) ≡ plain t) → Found ks A P X →
    Found ks Tree (Reads k) (AsPlain plain t)
as_tree k t f g h p = found_as f (Reads k) (AsPlain plain t) g h p

pub tree_again : (k : ℕ) (t : Tree) (u : List Placed) → Reads k t u → Found (spelled t) Tree (Reads k) (AsPlain plain t)
tree_again k (Literal s value) u h =
    as_tree k (Literal s value) (λ z. Literal z value) (λ z v r.
    (h.0, h.1, r ∙ ap (λ n. token z (Number n) ∷ []) (ap nat_abs h.1))) (λ z e. refl)
    (found_is (Number (nat_abs value)))
tree_again k (Truth s value) u h = as_tree k (Truth s value) (λ z. Truth z value) (λ z v r. r) (λ z e. refl)
    (found_is (Reserved (truth_word value)))
tree_again k (Word s w) u h = as_tree k (Word s w) (λ z. Word z w) (λ z v r. r) (λ z e. refl)
    (found_is (Reserved (builtin_word w)))
tree_again k (Variable s name) u h = as_tree k (Variable s name) (λ z. Variable z.span z) (λ z v r. (refl, r)) (λ z e.
    ap (Variable nowhere) e) (found_name name)
tree_again k (Got s name) u h =
    as_tree k (Got s name) (λ z. Got z.span z) (λ z v r. (refl, r)) (λ z e. ap (Got nowhere) e)
    (found_before (found_name name) (fixed_then (fixed_mark mark.DOT) (fixed_word word.GOT)))
tree_again k (Value s name) u h =
    as_tree k (Value s name) (λ z. Value z.span z) (λ z v r. (refl, r)) (λ z e. ap (Value nowhere) e)
    (found_before (found_name name) (fixed_then (fixed_mark mark.DOT) (fixed_word word.VALUE)))
tree_again k (OtherField s name) u h =
    as_tree k (OtherField s name) (λ z. OtherField z.0 z.1) (λ z v r. r) (λ z e. ap (OtherField nowhere) e.1)
    (found_then (found_is (Reserved word.U)) (found_behind (fixed_mark mark.DOT) (found_name name)))
tree_again k (OtherWord s w) u h =
    as_tree k (OtherWord s w) (λ z. OtherWord z w) (λ z v r. (h.0, r)) (λ z e. refl)
    (found_before (found_is (Reserved word.U)) (fixed_then (fixed_mark mark.DOT) (fixed_word (builtin_word w))))
tree_again k (Draw s at number) u h =
    as_tree k (Draw s at number) (λ z. Draw z.0 z.1 number) (λ z v r. r) (λ z e. refl)
    (found_then (found_is (Reserved word.DRAW))
    (found_behind (fixed_mark mark.LEFT_PARENTHESIS)
    (found_before (found_is (Number number)) (fixed_mark mark.RIGHT_PARENTHESIS))))
tree_again k (Negative s inner) u h =
    as_tree k (Negative s inner) (λ z. Negative z.0 z.1) (λ z v r. r) (λ z e. ap (Negative nowhere) e.1)
    (found_then (found_is (Mark mark.MINUS)) (tree_again 0 inner h.back h.second))
tree_again k (Not s inner) u h =
    as_tree k (Not s inner) (λ z. Not z.0 z.1) (λ z v r. r) (λ z e. ap (Not nowhere) e.1)
    (found_then (found_is (Mark mark.NOT)) (tree_again 0 inner h.back h.second))
tree_again k (Pair s op left right) u h =
    let t = h.2 in
    as_tree k (Pair s op left right) (λ z. Pair (start z.0) op z.0 z.1) (λ z v r. (h.0, refl, r)) (λ z e.
    ap (λ x. Pair nowhere op x (plain z.1)) e.0 ∙ ap (Pair nowhere op (plain left)) e.1)
    (found_then (tree_again (left_of (layer_of op)) left t.front t.first)
    (found_behind (fixed_mark (mark_of op)) (tree_again (pred (layer_of op)) right t.second.back t.second.second)))
tree_again k (Choice s test held otherwise) u h =
    let t = h.2 in
    let q = t.second.second in
    as_tree k (Choice s test held otherwise) (λ z. Choice (start z.0) z.0 z.1.0 z.1.1) (λ z v r. (h.0, refl, r))
    (λ z e. ap (λ x. Choice nowhere x (plain z.1.0) (plain z.1.1)) e.0
    ∙ ap (λ x. Choice nowhere (plain test) x (plain z.1.1)) e.1.0
    ∙ ap (Choice nowhere (plain test) (plain held)) e.1.1)
    (found_then (tree_again 5 test t.front t.first)
    (found_behind (fixed_mark mark.QUESTION)
    (found_then (tree_again 6 held q.front q.first)
    (found_behind (fixed_mark mark.COLON) (tree_again 6 otherwise q.second.back q.second.second)))))
tree_again k (Least s left right) u h =
    let l = h.second.second in
    let r = l.second.second in
    as_tree k (Least s left right) (λ z. Least z.0 z.1.0 z.1.1) (λ z v r. r) (λ z e.
    ap (λ x. Least nowhere x (plain z.1.1)) e.1.0 ∙ ap (Least nowhere (plain left)) e.1.1)
    (found_then (found_is (Reserved word.MIN)) (found_behind (fixed_mark mark.LEFT_PARENTHESIS)
    (found_then (tree_again 6 left l.front l.first)
    (found_behind (fixed_mark mark.COMMA)
    (found_before (tree_again 6 right r.front r.first) (fixed_mark mark.RIGHT_PARENTHESIS))))))
tree_again k (Greatest s left right) u h =
    let l = h.second.second in
    let r = l.second.second in
    as_tree k (Greatest s left right) (λ z. Greatest z.0 z.1.0 z.1.1) (λ z v r. r) (λ z e.
    ap (λ x. Greatest nowhere x (plain z.1.1)) e.1.0 ∙ ap (Greatest nowhere (plain left)) e.1.1)
    (found_then (found_is (Reserved word.MAX)) (found_behind (fixed_mark mark.LEFT_PARENTHESIS)
    (found_then (tree_again 6 left l.front l.first)
    (found_behind (fixed_mark mark.COMMA)
    (found_before (tree_again 6 right r.front r.first) (fixed_mark mark.RIGHT_PARENTHESIS))))))
tree_again k (Group s inner) u h =
    as_tree k (Group s inner) (λ z. Group z.0 z.1) (λ z v r. r) (λ z e. ap (Group nowhere) e.1)
    (found_then (found_is (Mark mark.LEFT_PARENTHESIS))
    (found_before (tree_again 6 inner h.second.front h.second.first) (fixed_mark mark.RIGHT_PARENTHESIS)))

-- ---- statements

fixed_op : (op : AssignOp) → Fixed (spelled_op op) (ReadsOp op)
fixed_op assign.Set = fixed_mark mark.ASSIGN
fixed_op assign.Add = fixed_mark mark.PLUS_ASSIGN
fixed_op assign.Least = fixed_then (fixed_word word.MIN) (fixed_mark mark.ASSIGN)
fixed_op assign.Greatest = fixed_then (fixed_word word.MAX) (fixed_mark mark.ASSIGN)

as_statement : {A : Type 0} {ks : List Kind} {P : A → Form} {X : A → Type 0} (r : Rights) (s : Statement) (f : A →
    Statement) → ((x : A) (u : List Placed) → P x u → ReadsStatement r (f x) u)
    → ((x : A) → X x → plain_statement (f x) ≡ plain_statement s) → Found ks A P X →
    Found ks Statement (ReadsStatement r) (AsPlain plain_statement s)
as_statement r s f g h p = found_as f (ReadsStatement r) (AsPlain plain_statement s) g h p

mutual
  pub statement_again : (r : Rights) (s : Statement) (u : List Placed) → ReadsStatement r s u →
      Found (spelled_statement s) Statement (ReadsStatement r) (AsPlain plain_statement s)
  statement_again r (Assign target op value) u h =
      let v = h.1.second.second in
      as_statement r (Assign target op value) (λ z. Assign z.0 op z.1) (λ z v w. (h.0, w)) (λ z e.
      ap (λ x. Assign x op (plain z.1)) e.0 ∙ ap (Assign (plain_name target) op) e.1)
      (found_then (found_name target) (found_behind (fixed_op op)
      (found_before (tree_again 6 value v.front v.first) (fixed_mark mark.SEMICOLON))))
  statement_again r (SetActive s value) u h =
      let v = h.1.second.second in
      as_statement r (SetActive s value) (λ z. SetActive z.0 z.1) (λ z v w. (h.0, w)) (λ z e.
      ap (SetActive nowhere) e.1)
      (found_then (found_is (Reserved word.ACTIVE))
      (found_behind (fixed_mark mark.ASSIGN)
      (found_before (tree_again 6 value v.front v.first) (fixed_mark mark.SEMICOLON))))
  statement_again r (If s test held) u h =
      let t = h.second in
      let b = t.second.second in
      as_statement r (If s test held) (λ z. If z.0 z.1.0 z.1.1) (λ z v w. w) (λ z e.
      ap (λ x. If nowhere x (plain_block z.1.1)) e.1.0 ∙ ap (If nowhere (plain test)) e.1.1)
      (found_then (found_is (Reserved word.IF)) (found_then (tree_again 6 test t.front t.first)
      (found_behind (fixed_mark mark.LEFT_BRACE)
      (found_before (block_again r held b.front b.first) (fixed_mark mark.RIGHT_BRACE)))))
  statement_again r (IfElse s test held otherwise) u h =
      let t = h.second in
      let b = t.second.second in
      let o = b.second.second.second.second in
      as_statement r (IfElse s test held otherwise) (λ z. IfElse z.0 z.1.0 z.1.1.0 z.1.1.1) (λ z v w. w)
      (λ z e. ap (λ x. IfElse nowhere x (plain_block z.1.1.0) (plain_block z.1.1.1)) e.1.0
      ∙ ap (λ x. IfElse nowhere (plain test) x (plain_block z.1.1.1)) e.1.1.0
      ∙ ap (IfElse nowhere (plain test) (plain_block held)) e.1.1.1)
      (found_then (found_is (Reserved word.IF)) (found_then (tree_again 6 test t.front t.first)
      (found_behind (fixed_mark mark.LEFT_BRACE) (found_then (block_again r held b.front b.first)
      (found_behind (fixed_mark mark.RIGHT_BRACE)
      (found_behind (fixed_word word.ELSE)
      (found_behind (fixed_mark mark.LEFT_BRACE)
      (found_before (block_again r otherwise o.front o.first) (fixed_mark mark.RIGHT_BRACE)))))))))
  statement_again r (Emit s slot value) u h =
      let v = h.1.second.second in
      as_statement r (Emit s slot value) (λ z. Emit z.0 z.1.0 z.1.1) (λ z v w. (h.0, w)) (λ z e.
      ap (λ x. Emit nowhere x (plain z.1.1)) e.1.0 ∙ ap (Emit nowhere (plain_name slot)) e.1.1)
      (found_then (found_is (Reserved word.EMIT))
      (found_then (found_name slot) (found_before (tree_again 6 value v.front v.first)
      (fixed_mark mark.SEMICOLON))))
  statement_again r (Break s) u h =
      as_statement r (Break s) (λ z. Break z) (λ z v w. (h.0, w)) (λ z e. refl)
      (found_before (found_is (Reserved word.BREAK)) (fixed_mark mark.SEMICOLON))

  pub block_again : (r : Rights) (b : Statements) (u : List Placed) → ReadsBlock r b u →
      Found (spelled_block b) Statements (ReadsBlock r) (AsPlain plain_block b)
  block_again r End u h = found_nothing (ReadsBlock r) (AsPlain plain_block End) End (λ v e. e) refl
  block_again r (More first others) u h =
      found_as (λ z. More z.0 z.1) (ReadsBlock r) (AsPlain plain_block (More first others)) (λ z v w. w) (λ z e.
      ap (λ x. More x (plain_block z.1)) e.0 ∙ ap (More (plain_statement first)) e.1)
      (found_then (statement_again r first h.front h.first) (block_again r others h.back h.second))

-- ---- declarations and blocks

same_declaration : (d q : Declaration) → plain_name q.name ≡ plain_name d.name → q.kind ≡ d.kind →
    plain q.value ≡ plain d.value → plain_declaration q ≡ plain_declaration d
same_declaration d q name kind value = cc

same_total : (d q : TotalDeclaration) → plain_name q.name ≡ plain_name d.name → q.op ≡ d.op →
    plain q.value ≡ plain d.value → plain_total q ≡ plain_total d
same_total d q name op value = cc

same_dense : (d q : DenseBlock) → plain q.test ≡ plain d.test →
    map plain_declaration q.lets ≡ map plain_declaration d.lets → plain_block q.body ≡ plain_block d.body →
    plain_block q.tail ≡ plain_block d.tail → plain_dense q ≡ plain_dense d
same_dense d q test lets body tail = cc

same_sparse : (d q : SparseBlock) → plain q.test ≡ plain d.test →
    map plain_declaration q.sends ≡ map plain_declaration d.sends → plain_block q.body ≡ plain_block d.body →
    plain_sparse q ≡ plain_sparse d
same_sparse d q test sends body = cc

declaration_again : (keyword : ℕ) (d : Declaration) (u : List Placed) → ReadsDeclaration keyword d u →
    Found (spelled_declaration keyword d) Declaration (ReadsDeclaration keyword) (AsPlain plain_declaration d)
declaration_again keyword d u h =
    let v = h.second.second.second.second.second in
    found_as (λ z. record { name = z.0; kind = d.kind; value = z.1 }) (ReadsDeclaration keyword)
    (AsPlain plain_declaration d) (λ z v w. w) (λ z e.
    same_declaration d (record { name = z.0; kind = d.kind; value = z.1 }) e.0 refl e.1)
    (found_behind (fixed_word keyword) (found_then (found_name d.name)
    (found_behind (fixed_mark mark.COLON) (found_behind (fixed_word (type_word d.kind))
    (found_behind (fixed_mark mark.ASSIGN)
    (found_before (tree_again 6 d.value v.front v.first) (fixed_mark mark.SEMICOLON)))))))

slot_again : (d : SlotDeclaration) (u : List Placed) → ReadsSlot d u →
    Found (spelled_slot d) SlotDeclaration ReadsSlot (AsPlain plain_slot d)
slot_again d u h =
    found_as (λ z. record { name = z; op = d.op }) ReadsSlot (AsPlain plain_slot d) (λ z v w. w) (λ z e.
    ap (λ x. record { name = x; op = d.op }) e)
    (found_behind (fixed_word word.SLOT) (found_before (found_name d.name)
    (fixed_then (fixed_mark mark.COLON) (fixed_then (fixed_word (combine_word d.op)) (fixed_mark mark.SEMICOLON)))))

total_again : (version : ℕ) (d : TotalDeclaration) (u : List Placed) → IsTrue (version == 2) × ReadsTotal d u →
    Found (spelled_total d) TotalDeclaration (λ d. InTwo version (ReadsTotal d)) (AsPlain plain_total d)
total_again version d u h =
    let v = h.1.1.second.second.second.second.second in
    found_as (λ z. record { name = z.0; op = d.op; value = z.1 }) (λ d. InTwo version (ReadsTotal d))
    (AsPlain plain_total d) (λ z v w. (h.0, (h.1.0, w)))
    (λ z e. same_total d (record { name = z.0; op = d.op; value = z.1 }) e.0 refl e.1)
    (found_behind (fixed_sign (Name total_text))
    (found_then (found_name d.name) (found_behind (fixed_mark mark.COLON)
    (found_behind (fixed_word (combine_word d.op))
    (found_behind (fixed_mark mark.ASSIGN)
    (found_before (tree_again 6 d.value v.front v.first) (fixed_mark mark.SEMICOLON)))))))

dense_again : (d : DenseBlock) (u : List Placed) → ReadsDense d u →
    Found (spelled_dense d) DenseBlock ReadsDense (AsPlain plain_dense d)
dense_again d u h =
    let t = h.second.second in
    let l = t.second.second in
    let b = l.second.second.second.second in
    let a = b.second.second in
    found_as (λ z. record { test = z.0; lets = z.1.0; body = z.1.1.0; tail = z.1.1.1 }) ReadsDense
    (AsPlain plain_dense d) (λ z v w. w)
    (λ z e. same_dense d (record { test = z.0; lets = z.1.0; body = z.1.1.0; tail = z.1.1.1 }) e.0 e.1.0 e.1.1.0
    e.1.1.1)
    (found_behind (fixed_word word.DENSE) (found_behind (fixed_word word.WHEN)
    (found_then (tree_again 6 d.test t.front t.first) (found_behind (fixed_mark mark.LEFT_BRACE)
    (found_then (found_each plain_declaration (declaration_again word.LET) d.lets l.front l.first)
    (found_behind (fixed_word word.FOR) (found_behind (fixed_word word.U)
    (found_behind (fixed_mark mark.LEFT_BRACE)
    (found_then (block_again loop_rights d.body b.front b.first) (found_behind (fixed_mark mark.RIGHT_BRACE)
    (found_before (block_again tail_rights d.tail a.front a.first) (fixed_mark mark.RIGHT_BRACE))))))))))))

sparse_again : (d : SparseBlock) (u : List Placed) → ReadsSparse d u →
    Found (spelled_sparse d) SparseBlock ReadsSparse (AsPlain plain_sparse d)
sparse_again d u h =
    let t = h.second.second in
    let l = t.second.second in
    let b = l.second in
    found_as (λ z. record { test = z.0; sends = z.1.0; body = z.1.1 }) ReadsSparse (AsPlain plain_sparse d) (λ z v w.
    w) (λ z e. same_sparse d (record { test = z.0; sends = z.1.0; body = z.1.1 }) e.0 e.1.0 e.1.1)
    (found_behind (fixed_word word.SPARSE)
    (found_behind (fixed_word word.WHEN)
    (found_then (tree_again 6 d.test t.front t.first) (found_behind (fixed_mark mark.LEFT_BRACE)
    (found_then (found_each plain_declaration (declaration_again word.SEND) d.sends l.front l.first)
    (found_before (block_again sparse_rights d.body b.front b.first) (fixed_mark mark.RIGHT_BRACE)))))))

update_again : (body : Statements) (u : List Placed) → ReadsUpdate body u →
    Found (spelled_update body) Statements ReadsUpdate (AsPlain plain_block body)
update_again body u h =
    let b = h.second.second in
    found_behind (fixed_word word.UPDATE) (found_behind (fixed_mark mark.LEFT_BRACE)
    (found_before (block_again update_rights body b.front b.first) (fixed_mark mark.RIGHT_BRACE)))

start_again : (test : Tree) (u : List Placed) → ReadsStart test u →
    Found (spelled_start test) Tree ReadsStart (AsPlain plain test)
start_again test u h = found_behind (fixed_word word.START)
    (found_before (tree_again 6 test h.second.front h.second.first) (fixed_mark mark.SEMICOLON))

stop_again : (version : ℕ) (test : Tree) (u : List Placed) → IsTrue (version == 2) × ReadsStop test u →
    Found (spelled_stop test) Tree (λ test. InTwo version (ReadsStop test)) (AsPlain plain test)
stop_again version test u h =
    found_as (λ z. z) (λ test. InTwo version (ReadsStop test)) (AsPlain plain test) (λ z v w. (h.0, w)) (λ z e. e)
    (found_behind (fixed_sign (Name stop_text))
    (found_before (tree_again 6 test h.1.second.front h.1.second.first) (fixed_mark mark.SEMICOLON)))

-- ---- programs

header_again : (p : ProgramTree) (u : List Placed) → ReadsHeader p.version p.mode_at p.mode p.limit_at p.limit u →
    Found (spelled_header p) (Span × Span) (λ z. ReadsHeader p.version z.0 p.mode z.1 p.limit) (λ z. Unit {0} ×
    Unit {0})
header_again p u h =
    found_behind (fixed_word word.VERTEX) (found_behind
    (fixed_under (IsTrue (is_version p.version)) h.second.first.0 (fixed_sign (Number p.version)))
    (found_behind (fixed_mark mark.SEMICOLON)
    (found_behind (fixed_word word.MODE) (found_then (found_is (Reserved (mode_word p.mode)))
    (found_behind (fixed_mark mark.SEMICOLON)
    (found_behind (fixed_word word.LIMIT) (found_before (found_is (Number p.limit)) (fixed_mark mark.SEMICOLON))))))))

names_again : (p : ProgramTree) (u : List Placed) → ReadsNames p.version p.fields p.slots p.totals u
    → Found (flat_map (spelled_declaration word.FIELD) p.fields
    ++ (flat_map spelled_slot p.slots ++ flat_map spelled_total p.totals)) DeclaredNames (λ z.
    ReadsNames p.version z.0 z.1.0 z.1.1)
    (λ z. (AsPlain (map plain_declaration) p.fields z.0) ×
    ((AsPlain (map plain_slot) p.slots z.1.0) × (AsPlain (map plain_total) p.totals z.1.1)))
names_again p u h =
    found_then (found_each plain_declaration (declaration_again word.FIELD) p.fields h.front h.first)
    (found_then (found_each plain_slot slot_again p.slots h.second.front h.second.first)
    (found_each plain_total (total_again p.version) p.totals h.second.back h.second.second))

blocks_again : (p : ProgramTree) (u : List Placed) → ReadsBlocks p.version p.dense p.sparse p.update p.stop u
    → Found (spelled_maybe spelled_dense p.dense
    ++ (spelled_maybe spelled_sparse p.sparse ++ (spelled_update p.update ++ spelled_maybe spelled_stop p.stop)))
    ProgramBlocks (λ z. ReadsBlocks p.version z.0 z.1.0 z.1.1.0 z.1.1.1)
    (λ z. (AsPlain (option_map plain_dense) p.dense z.0) ×
    ((AsPlain (option_map plain_sparse) p.sparse z.1.0) ×
    ((AsPlain plain_block p.update z.1.1.0) × (AsPlain (option_map plain) p.stop z.1.1.1))))
blocks_again p u h =
    found_then (found_maybe plain_dense dense_again p.dense h.front h.first)
    (found_then (found_maybe plain_sparse sparse_again p.sparse h.second.front h.second.first)
    (found_then (update_again p.update h.second.second.front h.second.second.first)
    (found_maybe plain (stop_again p.version) p.stop h.second.second.back h.second.second.second)))

abbrev Parts : Type 0
Parts = (Span × Span) × (DeclaredNames × (Tree × ProgramBlocks))

-- a program with other parts
abbrev made_of : ProgramTree → Parts → ProgramTree
made_of p z = record {
  version = p.version;
  mode = p.mode;
  mode_at = z.0.0;
  limit = p.limit;
  limit_at = z.0.1;
  fields = z.1.0.0;
  slots = z.1.0.1.0;
  totals = z.1.0.1.1;
  start = z.1.1.0;
  dense = z.1.1.1.0;
  sparse = z.1.1.1.1.0;
  update = z.1.1.1.1.1.0;
  stop = z.1.1.1.1.1.1;
}

module _ (p q : ProgramTree) (version : q.version ≡ p.version) (mode : q.mode ≡ p.mode)
    (limit : q.limit ≡ p.limit) where
  same_parts : map plain_declaration q.fields ≡ map plain_declaration p.fields →
      map plain_slot q.slots ≡ map plain_slot p.slots → map plain_total q.totals ≡ map plain_total p.totals →
      plain q.start ≡ plain p.start → option_map plain_dense q.dense ≡ option_map plain_dense p.dense →
      option_map plain_sparse q.sparse ≡ option_map plain_sparse p.sparse →
      plain_block q.update ≡ plain_block p.update → option_map plain q.stop ≡ option_map plain p.stop →
      plain_program q ≡ plain_program p
  same_parts fields slots totals start dense sparse update stop = cc

-- tokens of these kinds are the same program
pub program_again : (p : ProgramTree) (u : List Placed) → ReadsProgram p u →
    Found (grouped_kinds p) ProgramTree ReadsProgram (AsPlain plain_program p)
program_again p u h =
    let n = h.second in
    let t = n.second in
    found_as (made_of p) ReadsProgram (AsPlain plain_program p) (λ z v w. w)
    (λ z e. same_parts p (made_of p z) refl refl refl e.1.0.0 e.1.0.1.0 e.1.0.1.1 e.1.1.0 e.1.1.1.0 e.1.1.1.1.0
    e.1.1.1.1.1.0 e.1.1.1.1.1.1)
    (found_then (header_again p h.front h.first)
    (found_then (names_again p n.front n.first)
    (found_then (start_again p.start t.front t.first) (blocks_again p t.back t.second))))
