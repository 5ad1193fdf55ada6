-- Reading from left to right, with the first fault that is met.
use Rattle.std.specs.Prelude.{ℕ, pos, zero, suc, length, Bool, true, false, ◌&&◌, ◌||◌, not, List, [], ◌∷◌, Option, None, Some, Result, Ok, Err, ◌⊎◌, if◌then◌else◌, nat_lt, ◌==◌}
use Rattle.std.proofs.Common.{inl, inr}
use Rattle.vert_base.specs.declared.text.Span.{Span}
use Rattle.vert_base.specs.declared.value.Mode.{Mode}
use Rattle.vert_base.specs.declared.value.ValueType.{ValueType}
use Rattle.vert_lex.specs.declared.marks.TheConstants as mark
use Rattle.vert_lex.specs.declared.words.TheConstants as word
use Rattle.vert_lex.specs.Text.{Placed}
use Rattle.vert_lex.specs.Tokens.{Kind, Reserved, Mark, Name}
use Rattle.vert_tree.specs.declared.expression.Builtin.{Builtin}
use Rattle.vert_tree.specs.declared.statement.AssignOp.{AssignOp}
use Rattle.vert_tree.specs.declared.statement.AssignOp.TheVariants as assign
use Rattle.vert_tree.specs.Plain.{nowhere}
use Rattle.vert_tree.specs.Trees.{Named, Tree, Literal, Truth, Word, Variable, Got, Value, OtherField, OtherWord, Draw, Negative, Not, Pair, Choice, Least, Greatest, Group, start, depth, Statement, Assign, SetActive, Emit, Break, Statements, End, More, Declaration, SlotDeclaration, TotalDeclaration, DenseBlock, SparseBlock, ProgramTree}
use Rattle.vert_tree.specs.Views.{if_of}
use Rattle.vert_grammar.specs.Signs.{same, total_text, stop_text, is_word, is_mark, is_named, is_name, is_number, text_in, number_in, word_in, layer_of, operator, layer, builtin_of, is_builtin, is_other, is_truth, is_type, type_of, is_combine, combine_of, is_fold, is_mode, mode_of, is_version}
use Rattle.vert_grammar.specs.Grammar.{Limits, limits, Rights, loop_rights, tail_rights, sparse_rights, update_rights}
use Rattle.vert_grammar.specs.Faults.{Why, Unexpected, TooDeep, TooMany}

-- a fault, and the tokens from it on
pub record Stop : Type 0 where
  pub why : Why
  pub rest : List Placed

abbrev pub Res : Type 0 → Type 0
Res A = Result (A × List Placed) Stop

abbrev pub Parser : Type 0 → Type 0
Parser A = List Placed → Res A

infixl 10 ◌>>=◌
abbrev pub ◌>>=◌ : {A B : Type 0} → Result A Stop → (A → Result B Stop) → Result B Stop
(Ok x) >>= f = f x
(Err e) >>= f = Err e

abbrev pub stop : {A : Type 0} → Why → Parser A
stop w ts = Err (record { why = w; rest = ts })

-- ---- readers made of readers

-- one after the other, the second by what the first read
abbrev pub both_by : {A B : Type 0} → Parser A → (A → Parser B) → Parser (A × B)
both_by p q ts = p ts >>= λ x. q x.0 x.1 >>= λ y. Ok ((x.0, y.0), y.1)

abbrev pub both : {A B : Type 0} → Parser A → Parser B → Parser (A × B)
both p q = both_by p (λ x. q)

-- what is made of what was read
abbrev pub made : {A B : Type 0} → (A → B) → Parser A → Parser B
made f p ts = p ts >>= λ x. Ok (f x.0, x.1)

-- by the first token, if there is one
abbrev pub begins : (Kind → Bool) → List Placed → Bool
begins f [] = false
begins f (t ∷ ts) = f t.kind

abbrev pub if_begins : {A : Type 0} → (Kind → Bool) → Parser A → Parser A → Parser A
if_begins f p q ts = if begins f ts then p ts else q ts

-- nothing of this sort may follow
abbrev pub unless : {A : Type 0} → (Kind → Bool) → Parser A → Parser A
unless f p ts = p ts >>= λ x. if begins f x.1 then stop Unexpected x.1 else Ok x

-- once or not, by the first token
abbrev pub maybe : {A : Type 0} → (Kind → Bool) → Parser A → Parser (Option A)
maybe f p = if_begins f (made (λ x. Some x) p) (λ ts. Ok (None, ts))

-- the first token's place
abbrev pub place : List Placed → Span
place [] = nowhere
place (t ∷ ts) = t.span

abbrev pub kind : List Placed → Kind
kind [] = Reserved 0
kind (t ∷ ts) = t.kind

abbrev pub rest : List Placed → List Placed
rest [] = []
rest (t ∷ ts) = ts

-- one token of a sort
unfoldable pub single : {A : Type 0} → (Kind → Bool) → (Span → Kind → A) → Parser A
single f g = if_begins f (λ ts. Ok (g (place ts) (kind ts), rest ts)) (stop Unexpected)

-- a token of this kind, and its place
abbrev pub expect : Kind → Parser Span
expect k = single (λ x. same x k) (λ s x. s)

abbrev pub the_mark : ℕ → Parser Span
the_mark m = expect (Mark m)

abbrev pub the_word : ℕ → Parser Span
the_word m = expect (Reserved m)

abbrev pub name_at : Parser Named
name_at = single is_name (λ s k. record { span = s; text = text_in k })

-- at most m of them, each of which begins with such a token
unfoldable pub up_to : {A : Type 0} → (Kind → Bool) → Parser A → ℕ → Parser (List A)
up_to f p zero = if_begins f (stop TooMany) (λ ts. Ok ([], ts))
up_to f p (suc m) = if_begins f (made (λ x. x.0 ∷ x.1) (both p (up_to f p m))) (λ ts. Ok ([], ts))

-- any number of them: no more than there are tokens
unfoldable pub many_from : {A : Type 0} → (Kind → Bool) → Parser A → ℕ → Parser (List A)
many_from f p zero = λ ts. Ok ([], ts)
many_from f p (suc n) = if_begins f (made (λ x. x.0 ∷ x.1) (both p (many_from f p n))) (λ ts. Ok ([], ts))

unfoldable pub many : {A : Type 0} → (Kind → Bool) → Parser A → Parser (List A)
many f p ts = many_from f p (length ts) ts

-- a node that begins with this token, where b nodes may still be nested inside
abbrev pub node : {A B : Type 0} → ℕ → (Span → A → B) → Parser A → Parser B
node b f p ts = if b == 0 then stop TooDeep ts else made (f (place ts)) p (rest ts)

-- ---- expressions

-- a number, a truth value or a word that stands for a value
abbrev pub is_atom : Kind → Bool
is_atom k = is_number k || (is_truth k || is_builtin k)

abbrev pub atom_of : Span → Kind → Tree
atom_of s k = if is_number k then Literal s (pos (number_in k))
    else (if is_truth k then Truth s (is_word word.TRUE k) else Word s (builtin_of (word_in k)))

abbrev pub is_member : Kind → Bool
is_member k = is_word word.GOT k || is_word word.VALUE k

-- a name, or what is asked of its slot: whether it has a value, or the value
abbrev pub member_of : Named × Option Bool → Tree
member_of (name, None) = Variable name.span name
member_of (name, Some true) = Got name.span name
member_of (name, Some false) = Value name.span name

unfoldable pub named_at : Parser Tree
named_at = made member_of (both name_at (maybe (is_mark mark.DOT)
    (made (λ x. x.1) (both (the_mark mark.DOT) (single is_member (λ s k. is_word word.GOT k))))))

-- what stands behind `u.`: the name of a field, or one of four words
abbrev pub is_other_at : Kind → Bool
is_other_at k = is_name k || (is_builtin k && is_other (builtin_of (word_in k)))

abbrev pub other_in : Span → Kind → Named ⊎ Builtin
other_in s k = if is_name k then inl (record { span = s; text = text_in k }) else inr (builtin_of (word_in k))

abbrev pub other_of : Span × (Span × (Named ⊎ Builtin)) → Tree
other_of (s, (d, inl name)) = OtherField s name
other_of (s, (d, inr w)) = OtherWord s w

unfoldable pub other_at : Parser Tree
other_at = made other_of (both (the_word word.U) (both (the_mark mark.DOT) (single is_other_at other_in)))

abbrev pub draw_of : Span × (Span × ((Span × ℕ) × Span)) → Tree
draw_of x = Draw x.0 x.1.1.0.0 x.1.1.0.1

unfoldable pub draw_at : Parser Tree
draw_at =
    made draw_of
    (both (the_word word.DRAW) (both (the_mark mark.LEFT_PARENTHESIS)
    (both (single is_number (λ s k. (s, number_in k))) (the_mark mark.RIGHT_PARENTHESIS))))

abbrev pub grouped : (ℕ → Parser Tree) → Parser (Tree × Span)
grouped below = both (below 6) (the_mark mark.RIGHT_PARENTHESIS)

abbrev pub two_of : (ℕ → Parser Tree) → Parser (Span × (Tree × (Span × (Tree × Span))))
two_of below = both (the_mark mark.LEFT_PARENTHESIS)
    (both (below 6) (both (the_mark mark.COMMA) (both (below 6) (the_mark mark.RIGHT_PARENTHESIS))))

-- what begins with one token, where b nodes may still be nested inside
unfoldable pub prefixed : ℕ → (ℕ → Parser Tree) → Parser Tree
prefixed b below =
    if_begins (is_mark mark.MINUS) (node b Negative (below 0))
    (if_begins (is_mark mark.NOT) (node b Not (below 0))
    (if_begins (is_mark mark.LEFT_PARENTHESIS) (node b (λ s x. Group s x.0) (grouped below))
    (if_begins (is_word word.MIN) (node b (λ s x. Least s x.1.0 x.1.1.1.0) (two_of below))
    (if_begins (is_word word.MAX) (node b (λ s x. Greatest s x.1.0 x.1.1.1.0) (two_of below))
    (if_begins is_name named_at
    (if_begins (is_word word.U) other_at
    (if_begins (is_word word.DRAW) draw_at
    (single is_atom atom_of))))))))

-- No dot may follow: only a name and `u` have one.
unfoldable pub unary : ℕ → (ℕ → Parser Tree) → Parser Tree
unary b below = unless (is_mark mark.DOT) (prefixed b below)

-- to which layer the first token takes an expression on
abbrev pub layer_ahead : List Placed → ℕ
layer_ahead [] = 7
layer_ahead (t ∷ ts) = layer t.kind

-- whether an expression is a comparison
abbrev pub is_comparison : Tree → Bool
is_comparison (Literal s value) = false
is_comparison (Truth s value) = false
is_comparison (Word s w) = false
is_comparison (Variable s name) = false
is_comparison (Got s name) = false
is_comparison (Value s name) = false
is_comparison (OtherField s name) = false
is_comparison (OtherWord s w) = false
is_comparison (Draw s at number) = false
is_comparison (Negative s inner) = false
is_comparison (Not s inner) = false
is_comparison (Pair s op left right) = layer_of op == 3
is_comparison (Choice s test held otherwise) = false
is_comparison (Least s left right) = false
is_comparison (Greatest s left right) = false
is_comparison (Group s inner) = false

-- One turn of a chain: an operator of layer k and an operand, or the end. A second comparison is refused
-- at its operator.
unfoldable pub turn : ℕ → ℕ → Parser Tree → (Tree → Parser Tree) → Tree → Parser Tree
turn b k operand again left =
    if_begins (λ x. layer x == k)
    (λ ts.
    if k == 3 && is_comparison left then stop Unexpected ts
    else (if nat_lt b (depth left) then stop TooDeep ts
    else (operand (rest ts) >>= λ x. again (Pair (start left) (operator (kind ts)) left x.0) x.1)))
    (λ ts. Ok (left, ts))

-- A chain grows deeper at each turn, so that it has no more turns than nodes may be nested.
unfoldable pub chain : ℕ → ℕ → Parser Tree → ℕ → Tree → Parser Tree
chain b k operand zero = turn b k operand (λ left. stop TooDeep)
chain b k operand (suc f) = turn b k operand (chain b k operand f)

-- a conditional, or its test alone
unfoldable pub choice : ℕ → Parser Tree → Tree → Parser Tree
choice b part test =
    if_begins (is_mark mark.QUESTION)
    (λ ts. if nat_lt b (depth test) then stop TooDeep ts
    else made (λ x. Choice (start test) test x.0 x.1.1) (both part (both (the_mark mark.COLON) part)) (rest ts))
    (λ ts. Ok (test, ts))

-- what may follow an expression that binds tighter than layer suc k
abbrev pub after : ℕ → (ℕ → Parser Tree) → ℕ → Tree → Parser Tree
after b below k = if k == 5 then choice b (below 6) else chain b (suc k) (below k) b

unfoldable pub climb : ℕ → (ℕ → Parser Tree) → ℕ → Parser Tree
climb b below zero = unary b below
climb b below (suc k) = λ ts. climb b below k ts >>= λ x. after b below k x.0 x.1

-- an expression of a layer, where so many nodes may be nested
unfoldable pub tree_at : ℕ → ℕ → Parser Tree
tree_at zero k = stop TooDeep
tree_at (suc b) k = climb b (tree_at b) k

-- an expression and the mark behind it
abbrev pub ended_by : ℕ → ℕ → Parser (Tree × Span)
ended_by m b = both (tree_at b 6) (the_mark m)

-- ---- statements

abbrev pub block_of : List Statement → Statements
block_of [] = End
block_of (first ∷ others) = More first (block_of others)

abbrev pub is_small_op : Kind → Bool
is_small_op k = is_mark mark.ASSIGN k || is_mark mark.PLUS_ASSIGN k

abbrev pub small_op : Kind → AssignOp
small_op k = if is_mark mark.ASSIGN k then assign.Set else assign.Add

abbrev pub is_large_op : Kind → Bool
is_large_op k = is_word word.MIN k || is_word word.MAX k

abbrev pub large_op : Kind → AssignOp
large_op k = if is_word word.MIN k then assign.Least else assign.Greatest

unfoldable pub op_at : Parser AssignOp
op_at = if_begins is_large_op (made (λ x. x.0) (both (single is_large_op (λ s k. large_op k)) (the_mark mark.ASSIGN)))
    (single is_small_op (λ s k. small_op k))

unfoldable pub assign_at : ℕ → Parser Statement
assign_at b = made (λ x. Assign x.0 x.1.0 x.1.1.0) (both name_at (both op_at (ended_by mark.SEMICOLON b)))

unfoldable pub set_active_at : ℕ → Parser Statement
set_active_at b = made (λ x. SetActive x.0 x.1.1.0)
    (both (the_word word.ACTIVE) (both (the_mark mark.ASSIGN) (ended_by mark.SEMICOLON b)))

unfoldable pub emit_at : ℕ → Parser Statement
emit_at b = made (λ x. Emit x.0 x.1.0 x.1.1.0) (both (the_word word.EMIT) (both name_at (ended_by mark.SEMICOLON b)))

unfoldable pub break_at : Parser Statement
break_at = made (λ x. Break x.0) (both (the_word word.BREAK) (the_mark mark.SEMICOLON))

-- a statement by its first token, where `branch` reads an `if`
unfoldable pub choose : Rights → ℕ → Parser Statement → Parser Statement
choose r b branch =
    if_begins (is_word word.IF) branch
    (if_begins (λ k. r.assigns && is_name k) (assign_at b)
    (if_begins (λ k. r.activates && is_word word.ACTIVE k) (set_active_at b)
    (if_begins (λ k. r.emits && is_word word.EMIT k) (emit_at b)
    (if_begins (λ k. r.breaks && is_word word.BREAK k) break_at
    (stop Unexpected)))))

-- statements up to a brace
abbrev pub goes_on : Kind → Bool
goes_on k = not (is_mark mark.RIGHT_BRACE k)

abbrev pub braced : Parser Statement → Parser Statements
braced p = made (λ x. block_of x.1.0) (both (the_mark mark.LEFT_BRACE)
    (both (many goes_on p) (the_mark mark.RIGHT_BRACE)))

abbrev pub else_of : Parser Statement → Parser (Option Statements)
else_of p = maybe (is_word word.ELSE) (made (λ x. x.1) (both (the_word word.ELSE) (braced p)))

-- Statements, where so many nodes may be nested. An `if` is one.
unfoldable pub statement_at : Rights → ℕ → Parser Statement
statement_at r zero = choose r zero (stop TooDeep)
statement_at r (suc b) = choose r (suc b) (node b (λ s x. if_of s x.0 x.1.0 x.1.1)
    (both (tree_at b 6) (both (braced (statement_at r b)) (else_of (statement_at r b)))))

unfoldable pub block_at : Rights → ℕ → Parser Statements
block_at r b = made block_of (many goes_on (statement_at r b))

-- ---- declarations and blocks

unfoldable pub type_at : Parser ValueType
type_at = single is_type (λ s k. type_of k)

unfoldable pub declaration_at : ℕ → ℕ → Parser Declaration
declaration_at keyword b =
    made (λ x. record { name = x.1.0; kind = x.1.1.1.0; value = x.1.1.1.1.1.0 })
    (both (the_word keyword) (both name_at
    (both (the_mark mark.COLON) (both type_at (both (the_mark mark.ASSIGN) (ended_by mark.SEMICOLON b))))))

unfoldable pub slot_at : Parser SlotDeclaration
slot_at =
    made (λ x. record { name = x.1.0; op = x.1.1.1.0 })
    (both (the_word word.SLOT) (both name_at
    (both (the_mark mark.COLON) (both (single is_combine (λ s k. combine_of k)) (the_mark mark.SEMICOLON)))))

abbrev pub is_fold_at : Kind → Bool
is_fold_at k = is_combine k && is_fold (combine_of k)

unfoldable pub total_at : ℕ → Parser TotalDeclaration
total_at b =
    made (λ x. record { name = x.1.0; op = x.1.1.1.0; value = x.1.1.1.1.1.0 })
    (both (expect (Name total_text)) (both name_at
    (both (the_mark mark.COLON) (both (single is_fold_at (λ s k. combine_of k))
    (both (the_mark mark.ASSIGN) (ended_by mark.SEMICOLON b))))))

unfoldable pub dense_at : Limits → Parser DenseBlock
dense_at l =
    made (λ x. record { test = x.1.1.0.0; lets = x.1.1.1.0; body = x.1.1.1.1.1.1.1.0; tail = x.1.1.1.1.1.1.1.1.1.0 })
    (both (the_word word.DENSE) (both (the_word word.WHEN)
    (both (ended_by mark.LEFT_BRACE l.depth)
    (both (up_to (is_word word.LET) (declaration_at word.LET l.depth) l.lets)
    (both (the_word word.FOR) (both (the_word word.U)
    (both (the_mark mark.LEFT_BRACE) (both (block_at loop_rights l.depth) (both (the_mark mark.RIGHT_BRACE)
    (both (block_at tail_rights l.depth) (the_mark mark.RIGHT_BRACE)))))))))))

unfoldable pub sparse_at : Limits → Parser SparseBlock
sparse_at l =
    made (λ x. record { test = x.1.1.0.0; sends = x.1.1.1.0; body = x.1.1.1.1.0 })
    (both (the_word word.SPARSE) (both (the_word word.WHEN)
    (both (ended_by mark.LEFT_BRACE l.depth)
    (both (up_to (is_word word.SEND) (declaration_at word.SEND l.depth) l.sends)
    (both (block_at sparse_rights l.depth) (the_mark mark.RIGHT_BRACE))))))

unfoldable pub update_at : ℕ → Parser Statements
update_at b = made (λ x. x.1.1.0) (both (the_word word.UPDATE)
    (both (the_mark mark.LEFT_BRACE) (both (block_at update_rights b) (the_mark mark.RIGHT_BRACE))))

unfoldable pub start_at : ℕ → Parser Tree
start_at b = made (λ x. x.1.0) (both (the_word word.START) (ended_by mark.SEMICOLON b))

unfoldable pub stop_at : ℕ → Parser Tree
stop_at b = made (λ x. x.1.0) (both (expect (Name stop_text)) (ended_by mark.SEMICOLON b))

-- ---- programs

-- the version, the mode and the limit, the latter two with their places
abbrev pub Header : Type 0
Header = ℕ × ((Span × Mode) × (Span × ℕ))

abbrev pub is_version_at : Kind → Bool
is_version_at k = is_number k && is_version (number_in k)

unfoldable pub header_at : Parser Header
header_at =
    made (λ x. (x.1.0, (x.1.1.1.1.0, x.1.1.1.1.1.1.1.0)))
    (both (the_word word.VERTEX) (both (single is_version_at (λ s k. number_in k)) (both (the_mark mark.SEMICOLON)
    (both (the_word word.MODE) (both (single is_mode (λ s k. (s, mode_of k))) (both (the_mark mark.SEMICOLON)
    (both (the_word word.LIMIT) (both (single is_number (λ s k. (s, number_in k))) (the_mark mark.SEMICOLON)))))))))

abbrev pub DeclaredNames : Type 0
DeclaredNames = List Declaration × (List SlotDeclaration × List TotalDeclaration)

abbrev pub is_total : ℕ → Kind → Bool
is_total version k = version == 2 && is_named total_text k

unfoldable pub names_at : ℕ → Limits → Parser DeclaredNames
names_at version l =
    both (up_to (is_word word.FIELD) (declaration_at word.FIELD l.depth) l.fields)
    (both (up_to (is_word word.SLOT) slot_at l.slots) (up_to (is_total version) (total_at l.depth) l.totals))

abbrev pub ProgramBlocks : Type 0
ProgramBlocks = Option DenseBlock × (Option SparseBlock × (Statements × Option Tree))

abbrev pub is_stop : ℕ → Kind → Bool
is_stop version k = version == 2 && is_named stop_text k

unfoldable pub blocks_at : ℕ → Limits → Parser ProgramBlocks
blocks_at version l =
    both (maybe (is_word word.DENSE) (dense_at l))
    (both (maybe (is_word word.SPARSE) (sparse_at l))
    (both (update_at l.depth) (maybe (is_stop version) (stop_at l.depth))))

abbrev pub program_of : Header × (DeclaredNames × (Tree × ProgramBlocks)) → ProgramTree
program_of x = record {
  version = x.0.0;
  mode = x.0.1.0.1;
  mode_at = x.0.1.0.0;
  limit = x.0.1.1.1;
  limit_at = x.0.1.1.0;
  fields = x.1.0.0;
  slots = x.1.0.1.0;
  totals = x.1.0.1.1;
  start = x.1.1.0;
  dense = x.1.1.1.0;
  sparse = x.1.1.1.1.0;
  update = x.1.1.1.1.1.0;
  stop = x.1.1.1.1.1.1;
}

unfoldable pub program_at : Limits → Parser ProgramTree
program_at l = made program_of (both_by header_at (λ h.
    both (names_at h.0 l) (both (start_at l.depth) (blocks_at h.0 l))))

-- nothing may follow
abbrev pub ended : {A : Type 0} → A → Parser A
ended x [] = Ok (x, [])
ended x (t ∷ ts) = stop Unexpected (t ∷ ts)

-- all of the tokens
unfoldable pub all_of : Limits → Parser ProgramTree
all_of l ts = program_at l ts >>= λ x. ended x.0 x.1

-- the program that the tokens are, or the first fault
abbrev pub reading : Parser ProgramTree
reading ts = all_of limits ts
