-- Every word and slot stands where it may be read, and every name is declared once.
use Rattle.std.specs.Prelude.{◌==◌, ℕ, Bool, true, false, not, ◌&&◌, List, [], ◌∷◌, ◌++◌, Option, Some, None, map, if◌then◌else◌}
use Rattle.std.specs.List.{list_all}
use Rattle.vert_base.specs.declared.value.Combine.{Combine}
use Rattle.vert_base.specs.declared.value.Combine.TheVariants.{First}
use Rattle.vert_tree.specs.declared.expression.Builtin.{Builtin}
use Rattle.vert_tree.specs.declared.expression.Builtin.TheVariants as word
use Rattle.vert_tree.specs.declared.expression.Expr.{Expr}
use Rattle.vert_tree.specs.declared.expression.Node.{Node}
use Rattle.vert_tree.specs.declared.expression.Node.TheVariants.{Int, Bool as Truth, Word, Name, Got, Value, OtherField, OtherWord, Draw, Neg', Not', Binary', Cond', Least', Greatest', Group'}
use Rattle.vert_tree.specs.declared.statement.Stmt.{Stmt}
use Rattle.vert_tree.specs.declared.statement.Stmt.TheOpen.{Stmt-F, Assign, SetActive, If, Emit, Break}
use Rattle.vert_tree.specs.declared.statement.Stmt.TheFolds.{fold-Stmt}
use Rattle.vert_tree.specs.declared.program.Decl.{Decl}
use Rattle.vert_tree.specs.declared.program.Dense.{Dense}
use Rattle.vert_tree.specs.declared.program.Program.{Program}
use Rattle.vert_tree.specs.declared.program.Sparse.{Sparse}
use Rattle.vert_tree.specs.Places.{all_true, option_all, tests_of}

-- what may be read at a place, beside `n`, `round` and names: what is the vertex's own (`id`, its
-- degrees, draws), its `active`, the edge's weight, the neighbour behind `u.`, and slots
pub record Readable : Type 0 where
  pub own : Bool
  pub active : Bool
  pub weight : Bool
  pub others : Bool
  pub slots : Bool

abbrev pub in_fields : Readable
in_fields = record { own = true; active = false; weight = false; others = false; slots = false }

abbrev pub in_tests : Readable
in_tests = record in_fields { active = true }

abbrev pub in_loop : Readable
in_loop = record in_tests { weight = true; others = true }

abbrev pub in_sparse : Readable
in_sparse = record in_tests { weight = true }

abbrev pub in_update : Readable
in_update = record in_tests { slots = true }

abbrev pub in_stop : Readable
in_stop = record in_fields { own = false }

abbrev pub word_read : Readable → Builtin → Bool
word_read r word.Id = r.own
word_read r word.Count = true
word_read r word.Round = true
word_read r word.InDeg = r.own
word_read r word.OutDeg = r.own
word_read r word.Active = r.active
word_read r word.Weight = r.weight

abbrev pub is_other_word : Builtin → Bool
is_other_word word.Id = true
is_other_word word.Active = true
is_other_word word.InDeg = true
is_other_word word.OutDeg = true
is_other_word _ = false

abbrev pub node_read : Readable → Node → Bool
node_read r (Int x) = true
node_read r (Truth b) = true
node_read r (Word w) = word_read r w
node_read r (Name name) = true
node_read r (Got name) = r.slots
node_read r (Value name) = r.slots
node_read r (OtherField name) = r.others
node_read r (OtherWord w) = r.others && is_other_word w
node_read r (Draw at tag) = r.own
node_read r (Neg' _ _ a) = node_read r a
node_read r (Not' _ _ a) = node_read r a
node_read r (Binary' op _ _ a _ _ b) = node_read r a && node_read r b
node_read r (Cond' _ _ test _ _ a _ _ b) = node_read r test && (node_read r a && node_read r b)
node_read r (Least' _ _ a _ _ b) = node_read r a && node_read r b
node_read r (Greatest' _ _ a _ _ b) = node_read r a && node_read r b
node_read r (Group' _ _ a) = node_read r a

abbrev pub expr_read : Readable → Expr → Bool
expr_read r e = node_read r e.node

-- one statement, with the tests of its inner statements in their place
abbrev pub level_read : Readable → Stmt-F Bool → Bool
level_read r (Assign target op e) = expr_read r e
level_read r (SetActive _ e) = expr_read r e
level_read r (If _ test held otherwise) = expr_read r test && (all_true held.items && all_true (tests_of otherwise))
level_read r (Emit _ slot e) = expr_read r e
level_read r (Break _) = true

abbrev pub stmt_read : Readable → Stmt → Bool
stmt_read r = fold-Stmt Bool (level_read r)

abbrev pub body_read : Readable → List Stmt → Bool
body_read r body = list_all (stmt_read r) body

abbrev pub decls_read : Readable → List Decl → Bool
decls_read r ds = list_all (λ d. expr_read r d.value) ds

abbrev pub dense_read : Dense → Bool
dense_read d = expr_read in_tests d.when_test
    && (decls_read in_tests d.lets.items && (body_read in_loop d.body.items && body_read in_tests d.tail.items))

abbrev pub sparse_read : Sparse → Bool
sparse_read s = expr_read in_tests s.when_test
    && (decls_read in_tests s.sends.items && body_read in_sparse s.body.items)

-- every word and slot is read where it may be
abbrev pub is_readable : Program → Bool
is_readable p =
    decls_read in_fields p.fields.items
    && (list_all (λ t. expr_read in_tests t.value) p.totals.items
    && (expr_read in_fields p.start
    && (option_all dense_read p.dense
    && (option_all sparse_read p.sparse
    && (body_read in_update p.update.items
    && option_all (expr_read in_stop) p.stop)))))

abbrev pub is_among : ℕ → List ℕ → Bool
is_among n [] = false
is_among n (m ∷ ms) = if n == m then true else is_among n ms

abbrev pub all_differ : List ℕ → Bool
all_differ [] = true
all_differ (n ∷ ns) = not (is_among n ns) && all_differ ns

abbrev pub names_of : List Decl → List ℕ
names_of ds = map (λ d. d.name.name) ds

abbrev pub let_names : Option Dense → List ℕ
let_names None = []
let_names (Some d) = names_of d.lets.items

abbrev pub send_names : Option Sparse → List ℕ
send_names None = []
send_names (Some s) = names_of s.sends.items

-- no name is declared twice
abbrev pub declares_once : Program → Bool
declares_once p =
    all_differ (names_of p.fields.items ++
    (map (λ s. s.name.name) p.slots.items
    ++ (map (λ t. t.name.name) p.totals.items ++ (let_names p.dense ++ send_names p.sparse))))

-- a total is a sum, a least or a greatest
abbrev pub is_total_op : Combine → Bool
is_total_op First = false
is_total_op _ = true

abbrev pub totals_combine : Program → Bool
totals_combine p = list_all (λ t. is_total_op t.op) p.totals.items
