-- The rules of typing, over trees without memory: all faults of a program, in any order.
use Rattle.std.specs.Prelude.{◌≡◌, ℕ, ◌+◌, Bool, true, false, ◌&&◌, ◌||◌, List, [], ◌∷◌, ◌++◌, length, map, Option, None, Some, is_some, nat_le, nat_lt, if◌then◌else◌}
use Rattle.std.specs.Str.{bytes_eq}
use Rattle.vert_base.specs.declared.text.Span.{Span}
use Rattle.vert_base.specs.declared.value.Mode.{Mode}
use Rattle.vert_base.specs.declared.value.ValueType.{ValueType}
use Rattle.vert_base.specs.declared.value.ValueType.TheVariants as kind
use Rattle.vert_tree.specs.declared.name.What.{What}
use Rattle.vert_tree.specs.declared.name.What.TheVariants as what
use Rattle.vert_tree.specs.declared.statement.AssignOp.{AssignOp}
use Rattle.vert_tree.specs.declared.statement.AssignOp.TheVariants as assign
use Rattle.vert_tree.specs.Kinds.{operand_kind, outcome_kind, word_kind}
use Rattle.vert_tree.specs.Limits.{mode_stands}
use Rattle.vert_tree.specs.Places.{Counts, Rights, is_named, is_slot, is_target, loop_rights, sparse_rights, tail_rights, update_rights}
use Rattle.vert_tree.specs.Readable.{Readable, in_fields, in_loop, in_sparse, in_stop, in_tests, in_update, is_other_word, word_read}
use Rattle.vert_tree.specs.Trees.{Named, Tree, Literal, Truth, Word, Variable, Got, Value, OtherField, OtherWord, Draw, Negative, Not, Pair, Choice, Least, Greatest, Group, start, Statement, Assign, SetActive, If, IfElse, Emit, Break, Statements, End, More, Declaration, SlotDeclaration, TotalDeclaration, DenseBlock, SparseBlock, ProgramTree}
use Rattle.vert_types.specs.declared.fault.Finding.{Finding}
use Rattle.vert_types.specs.declared.fault.TypeFault.{TypeFault}
use Rattle.vert_types.specs.declared.fault.TypeFault.TheVariants.{Fault, Want}
use Rattle.vert_types.specs.declared.scope.Meaning.{Meaning}
use Rattle.vert_types.specs.Findings.{undeclared, declared_before, mistyped, misused, blockless, half_blocked, overlong, overdrawn, fault, unless, first_of}

-- ---- declarations

-- a declared name with its type; a slot and a total count as Int
pub record Entry : Type 0 where
  pub name : Named
  pub kind : ValueType

-- a declared text with what it stands for
pub record Defined : Type 0 where
  pub text : List ℕ
  pub meaning : Meaning

-- the names of one sort, from this place on
abbrev pub placed_from : (ℕ → What) → ℕ → List Entry → List Defined
placed_from sort i [] = []
placed_from sort i (e ∷ es) = record { text = e.name.text; meaning = record { what = sort i; kind = e.kind } }
    ∷ placed_from sort (i + 1) es

abbrev pub entries : List Declaration → List Entry
entries ds = map (λ d. let e : Entry = record { name = d.name; kind = d.kind } in e) ds

abbrev pub slot_entries : List SlotDeclaration → List Entry
slot_entries ds = map (λ d. let e : Entry = record { name = d.name; kind = kind.Int } in e) ds

abbrev pub total_entries : List TotalDeclaration → List Entry
total_entries ds = map (λ d. let e : Entry = record { name = d.name; kind = kind.Int } in e) ds

abbrev pub lets_of : Option DenseBlock → List Declaration
lets_of None = []
lets_of (Some d) = d.lets

abbrev pub sends_of : Option SparseBlock → List Declaration
sends_of None = []
sends_of (Some d) = d.sends

-- the declared names in the order of the text, each with its place among those of its sort
abbrev pub definitions : ProgramTree → List Defined
definitions p =
    placed_from what.Field 0 (entries p.fields)
    ++ (placed_from what.Slot 0 (slot_entries p.slots)
    ++ (placed_from what.Total 0 (total_entries p.totals)
    ++ (placed_from what.Local 0 (entries (lets_of p.dense))
    ++ placed_from what.Send 0 (entries (sends_of p.sparse)))))

abbrev pub all_entries : ProgramTree → List Entry
all_entries p =
    entries p.fields ++ (slot_entries p.slots
    ++ (total_entries p.totals ++ (entries (lets_of p.dense) ++ entries (sends_of p.sparse))))

-- what each text stands for
abbrev pub Dictionary : Type 0
Dictionary = List ℕ → Option Meaning

-- the first declaration of a text counts
abbrev pub stands_for : List Defined → Dictionary
stands_for [] text = None
stands_for (d ∷ ds) text = if bytes_eq d.text text then Some d.meaning else stands_for ds text

abbrev pub is_text_among : List ℕ → List (List ℕ) → Bool
is_text_among text [] = false
is_text_among text (t ∷ ts) = bytes_eq t text || is_text_among text ts

-- each name that was declared before, where these texts were declared before all
abbrev pub twice : List (List ℕ) → List Entry → List Finding
twice before [] = []
twice before (e ∷ es) = (if is_text_among e.name.text before then fault declared_before e.name.span else [])
    ++ twice (e.name.text ∷ before) es

-- ---- expressions

-- what may be read at a place: which words, and how many names of each sort
pub record Place : Type 0 where
  pub words : Readable
  pub names : Counts

-- a name that stands for something of the use that it has here
abbrev pub use_faults : (What → Bool) → Option Meaning → Span → List Finding
use_faults is_of_use None s = fault undeclared s
use_faults is_of_use (Some m) s = unless (is_of_use m.what) misused s

-- its type; None stands for every type, which a refused name has
abbrev pub kind_of_use : (What → Bool) → Option Meaning → Option ValueType
kind_of_use is_of_use None = None
kind_of_use is_of_use (Some m) = if is_of_use m.what then Some m.kind else None

abbrev pub is_field : What → Bool
is_field (what.Field i) = true
is_field _ = false

abbrev pub is_read_slot : Place → What → Bool
is_read_slot p w = p.words.slots && is_slot p.names w

-- whether an expression that must have a type has another one
abbrev pub clashes : ValueType → Option ValueType → Bool
clashes kind.Int (Some kind.Bool) = true
clashes kind.Bool (Some kind.Int) = true
clashes _ _ = false

-- the type of an expression, None for every type
abbrev pub kind_of : Dictionary → Place → Tree → Option ValueType
kind_of d p (Literal s value) = Some kind.Int
kind_of d p (Truth s value) = Some kind.Bool
kind_of d p (Word s word) = Some (word_kind word)
kind_of d p (Variable s name) = kind_of_use (is_named p.names) (d name.text)
kind_of d p (Got s name) = Some kind.Bool
kind_of d p (Value s name) = Some kind.Int
kind_of d p (OtherField s name) = kind_of_use is_field (d name.text)
kind_of d p (OtherWord s word) = Some (word_kind word)
kind_of d p (Draw s at number) = Some kind.Int
kind_of d p (Negative s inner) = Some kind.Int
kind_of d p (Not s inner) = Some kind.Bool
kind_of d p (Pair s op left right) = Some (outcome_kind op)
kind_of d p (Choice s test held otherwise) = kind_of d p held
kind_of d p (Least s left right) = Some kind.Int
kind_of d p (Greatest s left right) = Some kind.Int
kind_of d p (Group s inner) = kind_of d p inner

-- an expression that must have this type, by the type that it has
abbrev pub kind_faults : ValueType → Option ValueType → Span → List Finding
kind_faults k has s = if clashes k has then fault mistyped s else []

-- an expression that must have the type of another one
abbrev pub same_faults : Option ValueType → Option ValueType → Span → List Finding
same_faults None has s = []
same_faults (Some k) has s = kind_faults k has s

-- the faults of an expression: the wrong type stands at its first token
abbrev pub faults_of : Dictionary → Place → Tree → List Finding
faults_of d p (Literal s value) = []
faults_of d p (Truth s value) = []
faults_of d p (Word s word) = unless (word_read p.words word) misused s
faults_of d p (Variable s name) = use_faults (is_named p.names) (d name.text) name.span
faults_of d p (Got s name) = use_faults (is_read_slot p) (d name.text) name.span
faults_of d p (Value s name) = use_faults (is_read_slot p) (d name.text) name.span
faults_of d p (OtherField s name) = unless p.words.others misused s ++ use_faults is_field (d name.text) name.span
faults_of d p (OtherWord s word) = unless (p.words.others && is_other_word word) misused s
faults_of d p (Draw s at number) = unless p.words.own misused s ++ unless (nat_lt number 256) overdrawn at
faults_of d p (Negative s inner) = faults_of d p inner ++ kind_faults kind.Int (kind_of d p inner) (start inner)
faults_of d p (Not s inner) = faults_of d p inner ++ kind_faults kind.Bool (kind_of d p inner) (start inner)
faults_of d p (Pair s op left right) =
    faults_of d p left ++ kind_faults (operand_kind op) (kind_of d p left) (start left)
    ++ (faults_of d p right ++ kind_faults (operand_kind op) (kind_of d p right) (start right))
faults_of d p (Choice s test held otherwise) =
    faults_of d p test ++ kind_faults kind.Bool (kind_of d p test) (start test)
    ++ (faults_of d p held ++ (faults_of d p otherwise
    ++ same_faults (kind_of d p held) (kind_of d p otherwise) (start otherwise)))
faults_of d p (Least s left right) =
    faults_of d p left ++ kind_faults kind.Int (kind_of d p left) (start left)
    ++ (faults_of d p right ++ kind_faults kind.Int (kind_of d p right) (start right))
faults_of d p (Greatest s left right) =
    faults_of d p left ++ kind_faults kind.Int (kind_of d p left) (start left)
    ++ (faults_of d p right ++ kind_faults kind.Int (kind_of d p right) (start right))
faults_of d p (Group s inner) = faults_of d p inner

-- an expression that must have this type
abbrev pub faults_as : Dictionary → Place → ValueType → Tree → List Finding
faults_as d p k e = faults_of d p e ++ kind_faults k (kind_of d p e) (start e)

-- ---- statements

-- what is assigned to a target of this type, or combined with it
abbrev pub value_faults : Dictionary → Place → AssignOp → Option ValueType → Tree → List Finding
value_faults d p assign.Set target e = faults_of d p e ++ same_faults target (kind_of d p e) (start e)
value_faults d p _ target e = faults_as d p kind.Int e

-- `+=`, `min=` and `max=` change an Int
abbrev pub target_faults : AssignOp → Option ValueType → Span → List Finding
target_faults assign.Set target s = []
target_faults _ target s = kind_faults kind.Int target s

-- the faults of a statement, and those of a block
abbrev mutual
  pub statement_faults : Dictionary → Rights → Place → Statement → List Finding
  statement_faults d r p (Assign target op value) =
      use_faults (is_target r p.names) (d target.text) target.span
      ++ (target_faults op (kind_of_use (is_target r p.names) (d target.text)) target.span
      ++ value_faults d p op (kind_of_use (is_target r p.names) (d target.text)) value)
  statement_faults d r p (SetActive s value) = unless r.active misused s ++ faults_as d p kind.Bool value
  statement_faults d r p (If s test held) = faults_as d p kind.Bool test ++ block_faults d r p held
  statement_faults d r p (IfElse s test held otherwise) =
      faults_as d p kind.Bool test ++ (block_faults d r p held ++ block_faults d r p otherwise)
  statement_faults d r p (Emit s slot value) =
      unless r.emits misused s ++ (use_faults (is_slot p.names) (d slot.text) slot.span ++ faults_as d p kind.Int value)
  statement_faults d r p (Break s) = unless r.breaks misused s

  pub block_faults : Dictionary → Rights → Place → Statements → List Finding
  block_faults d r p End = []
  block_faults d r p (More first others) = statement_faults d r p first ++ block_faults d r p others

-- ---- the places of a program

-- a field's expression: `id n round indeg outdeg draw`
abbrev pub at_field : Place
at_field = record {
  words = in_fields;
  names = record { fields = 0; locals = 0; sends = 0; slots = 0; totals = 0; other_fields = 0 };
}

abbrev pub names_of_rows : ProgramTree → Counts
names_of_rows t = record {
  fields = length t.fields;
  locals = 0;
  sends = 0;
  slots = 0;
  totals = 0;
  other_fields = length t.fields;
}

-- start: these and the fields
abbrev pub at_start : ProgramTree → Place
at_start t = record { words = in_fields; names = names_of_rows t }

-- a total's expression: these, the fields and `active`
abbrev pub at_total : ProgramTree → Place
at_total t = record { words = in_tests; names = names_of_rows t }

abbrev pub names_of_rounds : ProgramTree → Counts
names_of_rounds t = record {
  fields = length t.fields;
  locals = 0;
  sends = 0;
  slots = length t.slots;
  totals = length t.totals;
  other_fields = length t.fields;
}

-- both tests and a send: these, the fields, `active` and the totals
abbrev pub at_test : ProgramTree → Place
at_test t = record { words = in_tests; names = names_of_rounds t }

-- a let: as a test, and so many lets before it
abbrev pub with_lets : ℕ → Place → Place
with_lets n p = record p { names = record p.names { locals = n } }

-- the loop body: as a test, all lets, `w` and `u.`
abbrev pub at_loop : ℕ → ProgramTree → Place
at_loop lets t = record { words = in_loop; names = record (names_of_rounds t) { locals = lets } }

-- the sparse body: as a test, `w` and the sends
abbrev pub at_sparse : ℕ → ProgramTree → Place
at_sparse sends t = record { words = in_sparse; names = record (names_of_rounds t) { sends = sends } }

-- update: as a test, `.got` and `.value` of slots
abbrev pub at_update : ProgramTree → Place
at_update t = record { words = in_update; names = names_of_rounds t }

-- stop: `n`, `round` and the totals
abbrev pub at_stop : ProgramTree → Place
at_stop t = record {
  words = in_stop;
  names = record { fields = 0; locals = 0; sends = 0; slots = 0; totals = length t.totals; other_fields = 0 };
}

-- ---- programs

-- fields and sends
abbrev pub declaration_faults : Dictionary → Place → List Declaration → List Finding
declaration_faults d p [] = []
declaration_faults d p (e ∷ es) = faults_as d p e.kind e.value ++ declaration_faults d p es

abbrev pub total_faults : Dictionary → Place → List TotalDeclaration → List Finding
total_faults d p [] = []
total_faults d p (e ∷ es) = faults_as d p kind.Int e.value ++ total_faults d p es

-- each let reads those before it, of which there are so many
abbrev pub let_faults : Dictionary → Place → ℕ → List Declaration → List Finding
let_faults d p n [] = []
let_faults d p n (e ∷ es) = faults_as d (with_lets n p) e.kind e.value ++ let_faults d p (n + 1) es

abbrev pub dense_faults : Dictionary → ProgramTree → Option DenseBlock → List Finding
dense_faults d t None = []
dense_faults d t (Some b) =
    faults_as d (at_test t) kind.Bool b.test
    ++ (let_faults d (at_test t) 0 b.lets
    ++ (block_faults d loop_rights (at_loop (length b.lets) t) b.body
    ++ block_faults d tail_rights (with_lets (length b.lets) (at_test t)) b.tail))

abbrev pub sparse_faults : Dictionary → ProgramTree → Option SparseBlock → List Finding
sparse_faults d t None = []
sparse_faults d t (Some b) =
    faults_as d (at_test t) kind.Bool b.test
    ++ (declaration_faults d (at_test t) b.sends
    ++ block_faults d sparse_rights (at_sparse (length b.sends) t) b.body)

abbrev pub stop_faults : Dictionary → ProgramTree → Option Tree → List Finding
stop_faults d t None = []
stop_faults d t (Some test) = faults_as d (at_stop t) kind.Bool test

-- which blocks there are, at the word after `mode`
abbrev pub mode_faults : Mode → Bool → Bool → Span → List Finding
mode_faults mode dense sparse s = if dense || sparse then unless (mode_stands mode dense sparse) half_blocked s
    else fault blockless s

abbrev pub header_faults : ProgramTree → List Finding
header_faults t = mode_faults t.mode (is_some t.dense) (is_some t.sparse) t.mode_at
    ++ unless (nat_le t.limit 10000) overlong t.limit_at

-- all expressions and blocks
abbrev pub body_faults : Dictionary → ProgramTree → List Finding
body_faults d t =
    declaration_faults d at_field t.fields
    ++ (total_faults d (at_total t) t.totals
    ++ (faults_as d (at_start t) kind.Bool t.start
    ++ (dense_faults d t t.dense
    ++ (sparse_faults d t t.sparse
    ++ (block_faults d update_rights (at_update t) t.update
    ++ stop_faults d t t.stop)))))

abbrev pub dictionary : ProgramTree → Dictionary
dictionary t = stands_for (definitions t)

-- all faults of a program
abbrev pub faults : ProgramTree → List Finding
faults t = header_faults t ++ (twice [] (all_entries t) ++ body_faults (dictionary t) t)

-- the fault that is the answer, where there is one
abbrev pub first_fault : ProgramTree → Option Finding
first_fault t = first_of (faults t)

-- a refusal that names it, unless memory was lacking
abbrev pub IsFirst : ProgramTree → TypeFault → Type 0
IsFirst t (Fault code s) = first_fault t ≡ Some (record { code = code; span = s })
IsFirst t Want = Unit {0}
