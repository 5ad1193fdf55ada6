-- The grammar, as a relation between trees and lists of tokens.
use Rattle.std.specs.Prelude.{◌≡◌, ℕ, pos, pred, ◌≤◌, Bool, true, false, IsTrue, List, [], ◌∷◌, ◌++◌, length, Option, None, Some, if◌then◌else◌, ◌==◌}
use Rattle.std.specs.List.{AllByRecursion}
use Rattle.vert_base.specs.declared.text.Span.{Span}
use Rattle.vert_base.specs.declared.value.Mode.{Mode}
use Rattle.vert_lex.specs.declared.marks.TheConstants as mark
use Rattle.vert_lex.specs.declared.words.TheConstants as word
use Rattle.vert_lex.specs.Text.{Placed}
use Rattle.vert_lex.specs.Tokens.{Kind, Reserved, Mark, Number, Name}
use Rattle.vert_tree.specs.declared.statement.AssignOp.{AssignOp}
use Rattle.vert_tree.specs.declared.statement.AssignOp.TheVariants as assign
use Rattle.vert_tree.specs.Trees.{Named, Tree, Literal, Truth, Word, Variable, Got, Value, OtherField, OtherWord, Draw, Negative, Not, Pair, Choice, Least, Greatest, Group, start, depth, Statement, Assign, SetActive, If, IfElse, Emit, Break, Statements, End, More, block_depth, Declaration, SlotDeclaration, TotalDeclaration, DenseBlock, SparseBlock, ProgramTree}
use Rattle.vert_grammar.specs.Signs.{token, total_text, stop_text, layer_of, mark_of, builtin_word, is_other, truth_word, type_word, combine_word, is_fold, mode_word, is_version}

-- what some tokens are
abbrev pub Form : Type 1
Form = List Placed → Type 0

-- a first part, and a second part behind it
pub record Then (P Q : Form) (u : List Placed) : Type 0 where
  pub front : List Placed
  pub back : List Placed
  pub whole : u ≡ front ++ back
  pub first : P front
  pub second : Q back

-- one token of this kind, at this place or at any place
abbrev pub Is : Span → Kind → Form
Is s k u = u ≡ token s k ∷ []

abbrev pub Sign : Kind → Form
Sign k u = (s : Span) × (u ≡ token s k ∷ [])

abbrev pub TheWord : ℕ → Form
TheWord place = Sign (Reserved place)

abbrev pub TheMark : ℕ → Form
TheMark place = Sign (Mark place)

abbrev pub TheName : Named → Form
TheName name = Is name.span (Name name.text)

-- one after another
abbrev pub Each : {A : Type 0} → (A → Form) → List A → Form
Each P [] u = u ≡ []
Each P (x ∷ xs) u = Then (P x) (Each P xs) u

-- once or not
abbrev pub Maybe : {A : Type 0} → (A → Form) → Option A → Form
Maybe P None u = u ≡ []
Maybe P (Some x) u = P x u

-- ---- expressions

-- the first operand's layer: a chain groups to the left, and comparisons don't chain
abbrev pub left_of : ℕ → ℕ
left_of l = if l == 3 then 2 else l

-- Reads k t u: the tokens u are the tree t, an expression of layer k or of one that binds tighter.
-- Layer 0 is Unary, 1 is Term, 2 is Sum, 3 is Cmp, 4 is And, 5 is Or and 6 is Expr.
abbrev pub Reads : ℕ → Tree → Form
Reads k (Literal s value) u = (n : ℕ) × (value ≡ pos n) × Is s (Number n) u
Reads k (Truth s value) u = Is s (Reserved (truth_word value)) u
Reads k (Word s w) u = Is s (Reserved (builtin_word w)) u
Reads k (Variable s name) u = (s ≡ name.span) × TheName name u
Reads k (Got s name) u = (s ≡ name.span) × Then (TheName name) (Then (TheMark mark.DOT) (TheWord word.GOT)) u
Reads k (Value s name) u = (s ≡ name.span) × Then (TheName name) (Then (TheMark mark.DOT) (TheWord word.VALUE)) u
Reads k (OtherField s name) u = Then (Is s (Reserved word.U)) (Then (TheMark mark.DOT) (TheName name)) u
Reads k (OtherWord s w) u = IsTrue (is_other w) ×
    Then (Is s (Reserved word.U)) (Then (TheMark mark.DOT) (TheWord (builtin_word w))) u
Reads k (Draw s at number) u =
    Then (Is s (Reserved word.DRAW)) (Then (TheMark mark.LEFT_PARENTHESIS)
    (Then (Is at (Number number)) (TheMark mark.RIGHT_PARENTHESIS))) u
Reads k (Negative s inner) u = Then (Is s (Mark mark.MINUS)) (Reads 0 inner) u
Reads k (Not s inner) u = Then (Is s (Mark mark.NOT)) (Reads 0 inner) u
Reads k (Pair s op left right) u =
    (layer_of op ≤ k) × (s ≡ start left)
    × Then (Reads (left_of (layer_of op)) left) (Then (TheMark (mark_of op)) (Reads (pred (layer_of op)) right)) u
Reads k (Choice s test held otherwise) u =
    (6 ≤ k) × (s ≡ start test)
    × Then (Reads 5 test) (Then (TheMark mark.QUESTION)
    (Then (Reads 6 held) (Then (TheMark mark.COLON) (Reads 6 otherwise)))) u
Reads k (Least s left right) u =
    Then (Is s (Reserved word.MIN))
    (Then (TheMark mark.LEFT_PARENTHESIS) (Then (Reads 6 left)
    (Then (TheMark mark.COMMA) (Then (Reads 6 right) (TheMark mark.RIGHT_PARENTHESIS))))) u
Reads k (Greatest s left right) u =
    Then (Is s (Reserved word.MAX))
    (Then (TheMark mark.LEFT_PARENTHESIS) (Then (Reads 6 left)
    (Then (TheMark mark.COMMA) (Then (Reads 6 right) (TheMark mark.RIGHT_PARENTHESIS))))) u
Reads k (Group s inner) u = Then (Is s (Mark mark.LEFT_PARENTHESIS))
    (Then (Reads 6 inner) (TheMark mark.RIGHT_PARENTHESIS)) u

-- ---- statements

-- which statements stand in a block, beside `if`
pub record Rights : Type 0 where
  pub assigns : Bool
  pub activates : Bool
  pub emits : Bool
  pub breaks : Bool

-- LStmt, TStmt, SStmt and UStmt
abbrev pub loop_rights : Rights
loop_rights = record { assigns = true; activates = false; emits = true; breaks = true }

abbrev pub tail_rights : Rights
tail_rights = record { assigns = true; activates = false; emits = true; breaks = false }

abbrev pub sparse_rights : Rights
sparse_rights = record { assigns = false; activates = false; emits = true; breaks = false }

abbrev pub update_rights : Rights
update_rights = record { assigns = true; activates = true; emits = false; breaks = false }

abbrev pub ReadsOp : AssignOp → Form
ReadsOp assign.Set = TheMark mark.ASSIGN
ReadsOp assign.Add = TheMark mark.PLUS_ASSIGN
ReadsOp assign.Least = Then (TheWord word.MIN) (TheMark mark.ASSIGN)
ReadsOp assign.Greatest = Then (TheWord word.MAX) (TheMark mark.ASSIGN)

abbrev mutual
  pub ReadsStatement : Rights → Statement → Form
  ReadsStatement r (Assign target op value) u = IsTrue r.assigns ×
      Then (TheName target) (Then (ReadsOp op) (Then (Reads 6 value) (TheMark mark.SEMICOLON))) u
  ReadsStatement r (SetActive s value) u =
      IsTrue r.activates × Then (Is s (Reserved word.ACTIVE))
      (Then (TheMark mark.ASSIGN) (Then (Reads 6 value) (TheMark mark.SEMICOLON))) u
  ReadsStatement r (If s test held) u =
      Then (Is s (Reserved word.IF)) (Then (Reads 6 test)
      (Then (TheMark mark.LEFT_BRACE) (Then (ReadsBlock r held) (TheMark mark.RIGHT_BRACE)))) u
  ReadsStatement r (IfElse s test held otherwise) u =
      Then (Is s (Reserved word.IF)) (Then (Reads 6 test)
      (Then (TheMark mark.LEFT_BRACE) (Then (ReadsBlock r held) (Then (TheMark mark.RIGHT_BRACE)
      (Then (TheWord word.ELSE) (Then (TheMark mark.LEFT_BRACE)
      (Then (ReadsBlock r otherwise) (TheMark mark.RIGHT_BRACE)))))))) u
  ReadsStatement r (Emit s slot value) u =
      IsTrue r.emits × Then (Is s (Reserved word.EMIT))
      (Then (TheName slot) (Then (Reads 6 value) (TheMark mark.SEMICOLON))) u
  ReadsStatement r (Break s) u = IsTrue r.breaks × Then (Is s (Reserved word.BREAK)) (TheMark mark.SEMICOLON) u

  pub ReadsBlock : Rights → Statements → Form
  ReadsBlock r End u = u ≡ []
  ReadsBlock r (More first others) u = Then (ReadsStatement r first) (ReadsBlock r others) u

-- ---- declarations and blocks

-- a field, a let or a send, by its keyword
abbrev pub ReadsDeclaration : ℕ → Declaration → Form
ReadsDeclaration keyword d =
    Then (TheWord keyword) (Then (TheName d.name) (Then (TheMark mark.COLON) (Then (TheWord (type_word d.kind))
    (Then (TheMark mark.ASSIGN) (Then (Reads 6 d.value) (TheMark mark.SEMICOLON))))))

abbrev pub ReadsSlot : SlotDeclaration → Form
ReadsSlot d = Then (TheWord word.SLOT) (Then (TheName d.name)
    (Then (TheMark mark.COLON) (Then (TheWord (combine_word d.op)) (TheMark mark.SEMICOLON))))

-- The keyword is a name of that text.
abbrev pub ReadsTotal : TotalDeclaration → Form
ReadsTotal d u =
    IsTrue (is_fold d.op)
    × Then (Sign (Name total_text)) (Then (TheName d.name)
    (Then (TheMark mark.COLON) (Then (TheWord (combine_word d.op))
    (Then (TheMark mark.ASSIGN) (Then (Reads 6 d.value) (TheMark mark.SEMICOLON)))))) u

abbrev pub ReadsDense : DenseBlock → Form
ReadsDense d =
    Then (TheWord word.DENSE) (Then (TheWord word.WHEN) (Then (Reads 6 d.test) (Then (TheMark mark.LEFT_BRACE)
    (Then (Each (ReadsDeclaration word.LET) d.lets)
    (Then (TheWord word.FOR) (Then (TheWord word.U)
    (Then (TheMark mark.LEFT_BRACE) (Then (ReadsBlock loop_rights d.body) (Then (TheMark mark.RIGHT_BRACE)
    (Then (ReadsBlock tail_rights d.tail) (TheMark mark.RIGHT_BRACE)))))))))))

abbrev pub ReadsSparse : SparseBlock → Form
ReadsSparse d =
    Then (TheWord word.SPARSE) (Then (TheWord word.WHEN) (Then (Reads 6 d.test) (Then (TheMark mark.LEFT_BRACE)
    (Then (Each (ReadsDeclaration word.SEND) d.sends)
    (Then (ReadsBlock sparse_rights d.body) (TheMark mark.RIGHT_BRACE))))))

abbrev pub ReadsUpdate : Statements → Form
ReadsUpdate body = Then (TheWord word.UPDATE)
    (Then (TheMark mark.LEFT_BRACE) (Then (ReadsBlock update_rights body) (TheMark mark.RIGHT_BRACE)))

-- The keyword is a name of that text.
abbrev pub ReadsStop : Tree → Form
ReadsStop test = Then (Sign (Name stop_text)) (Then (Reads 6 test) (TheMark mark.SEMICOLON))

-- ---- programs

-- what version 2 alone has
abbrev pub InTwo : ℕ → Form → Form
InTwo version P u = IsTrue (version == 2) × P u

abbrev pub ReadsVersion : ℕ → Form
ReadsVersion version u = IsTrue (is_version version) × Sign (Number version) u

-- vertex VERSION; mode MODE; limit LIMIT;
abbrev pub ReadsHeader : ℕ → Span → Mode → Span → ℕ → Form
ReadsHeader version mode_at mode limit_at limit =
    Then (TheWord word.VERTEX) (Then (ReadsVersion version) (Then (TheMark mark.SEMICOLON)
    (Then (TheWord word.MODE) (Then (Is mode_at (Reserved (mode_word mode))) (Then (TheMark mark.SEMICOLON)
    (Then (TheWord word.LIMIT) (Then (Is limit_at (Number limit)) (TheMark mark.SEMICOLON))))))))

abbrev pub ReadsNames : ℕ → List Declaration → List SlotDeclaration → List TotalDeclaration → Form
ReadsNames version fields slots totals =
    Then (Each (ReadsDeclaration word.FIELD) fields)
    (Then (Each ReadsSlot slots) (Each (λ d. InTwo version (ReadsTotal d)) totals))

abbrev pub ReadsStart : Tree → Form
ReadsStart test = Then (TheWord word.START) (Then (Reads 6 test) (TheMark mark.SEMICOLON))

abbrev pub ReadsBlocks : ℕ → Option DenseBlock → Option SparseBlock → Statements → Option Tree → Form
ReadsBlocks version dense sparse update stop =
    Then (Maybe ReadsDense dense) (Then (Maybe ReadsSparse sparse)
    (Then (ReadsUpdate update) (Maybe (λ test. InTwo version (ReadsStop test)) stop)))

-- a program of version 1 or 2
abbrev pub ReadsProgram : ProgramTree → Form
ReadsProgram p =
    Then (ReadsHeader p.version p.mode_at p.mode p.limit_at p.limit)
    (Then (ReadsNames p.version p.fields p.slots p.totals)
    (Then (ReadsStart p.start) (ReadsBlocks p.version p.dense p.sparse p.update p.stop)))

-- ---- limits

-- the greatest depth, and the most names of each kind
pub record Limits : Type 0 where
  pub depth : ℕ
  pub fields : ℕ
  pub slots : ℕ
  pub totals : ℕ
  pub lets : ℕ
  pub sends : ℕ

abbrev pub limits : Limits
limits = record { depth = 64; fields = 16; slots = 8; totals = 4; lets = 8; sends = 8 }

-- what holds where there is one
abbrev pub Given : {A : Type 0} → (A → Type 0) → Option A → Type 0
Given P None = Unit {0}
Given P (Some x) = P x

abbrev pub AreShallow : ℕ → List Declaration → Type 0
AreShallow b ds = AllByRecursion (λ d. depth d.value ≤ b) ds

pub record IsShallowDense (b : ℕ) (d : DenseBlock) : Type 0 where
  pub test : depth d.test ≤ b
  pub lets : AreShallow b d.lets
  pub body : block_depth d.body ≤ b
  pub tail : block_depth d.tail ≤ b

pub record IsShallowSparse (b : ℕ) (d : SparseBlock) : Type 0 where
  pub test : depth d.test ≤ b
  pub sends : AreShallow b d.sends
  pub body : block_depth d.body ≤ b

-- the depth of a program is at most this
pub record IsShallow (b : ℕ) (p : ProgramTree) : Type 0 where
  pub fields : AreShallow b p.fields
  pub totals : AllByRecursion (λ d. depth d.value ≤ b) p.totals
  pub start : depth p.start ≤ b
  pub dense : Given (IsShallowDense b) p.dense
  pub sparse : Given (IsShallowSparse b) p.sparse
  pub update : block_depth p.update ≤ b
  pub stop : Given (λ test. depth test ≤ b) p.stop

-- a program within limits
pub record IsSmall (l : Limits) (p : ProgramTree) : Type 0 where
  pub shallow : IsShallow l.depth p
  pub fields : length p.fields ≤ l.fields
  pub slots : length p.slots ≤ l.slots
  pub totals : length p.totals ≤ l.totals
  pub lets : Given (λ d. length d.lets ≤ l.lets) p.dense
  pub sends : Given (λ d. length d.sends ≤ l.sends) p.sparse
