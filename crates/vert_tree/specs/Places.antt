-- Every name has its place: a test that is true where each name stands for something that is there.
use Rattle.std.specs.Prelude.{ℕ, ◌+◌, Bool, true, false, ◌&&◌, List, [], ◌∷◌, Option, Some, None, length, nat_lt}
use Rattle.std.specs.List.{list_all}
use Rattle.std.specs.declared.alloc.Global.{Global}
use Rattle.std.specs.declared.vec.Vec.{Vec}
use Rattle.vert_tree.specs.declared.name.What.{What}
use Rattle.vert_tree.specs.declared.name.What.TheVariants as what
use Rattle.vert_tree.specs.declared.expression.Expr.{Expr}
use Rattle.vert_tree.specs.declared.expression.Node.{Node}
use Rattle.vert_tree.specs.declared.expression.Node.TheVariants.{Int, Bool as Truth, Word, Name, Got, Value, OtherField, OtherWord, Draw, Neg', Not', Binary', Cond', Least', Greatest', Group'}
use Rattle.vert_tree.specs.declared.statement.Stmt.{Stmt}
use Rattle.vert_tree.specs.declared.statement.Stmt.TheOpen.{Stmt-F, Assign, SetActive, If, Emit, Break}
use Rattle.vert_tree.specs.declared.statement.Stmt.TheFolds.{fold-Stmt}
use Rattle.vert_tree.specs.declared.program.Decl.{Decl}
use Rattle.vert_tree.specs.declared.program.Dense.{Dense}
use Rattle.vert_tree.specs.declared.program.Sparse.{Sparse}
use Rattle.vert_tree.specs.declared.program.Program.{Program}

-- the lets of a dense block and the sends of a sparse one, where there is such a block
abbrev pub lets_in : Option Dense → List Decl
lets_in None = []
lets_in (Some dense) = dense.lets.items

abbrev pub sends_in : Option Sparse → List Decl
sends_in None = []
sends_in (Some sparse) = sparse.sends.items

-- how many names of each kind have a place
pub record Counts : Type 0 where
  pub fields : ℕ
  pub locals : ℕ
  pub sends : ℕ
  pub slots : ℕ
  pub totals : ℕ
  pub other_fields : ℕ

abbrev pub is_named : Counts → What → Bool
is_named c (what.Field i) = nat_lt i c.fields
is_named c (what.Local i) = nat_lt i c.locals
is_named c (what.Send i) = nat_lt i c.sends
is_named c (what.Total i) = nat_lt i c.totals
is_named c _ = false

abbrev pub is_slot : Counts → What → Bool
is_slot c (what.Slot i) = nat_lt i c.slots
is_slot c _ = false

abbrev pub is_other_field : Counts → What → Bool
is_other_field c (what.Field i) = nat_lt i c.other_fields
is_other_field c _ = false

-- the number of a draw is a byte
abbrev pub node_placed : Counts → Node → Bool
node_placed c (Int x) = true
node_placed c (Truth b) = true
node_placed c (Word w) = true
node_placed c (Name name) = is_named c name.what
node_placed c (Got name) = is_slot c name.what
node_placed c (Value name) = is_slot c name.what
node_placed c (OtherField name) = is_other_field c name.what
node_placed c (OtherWord w) = true
node_placed c (Draw at tag) = nat_lt tag 256
node_placed c (Neg' _ _ a) = node_placed c a
node_placed c (Not' _ _ a) = node_placed c a
node_placed c (Binary' op _ _ a _ _ b) = node_placed c a && node_placed c b
node_placed c (Cond' _ _ test _ _ a _ _ b) = node_placed c test && (node_placed c a && node_placed c b)
node_placed c (Least' _ _ a _ _ b) = node_placed c a && node_placed c b
node_placed c (Greatest' _ _ a _ _ b) = node_placed c a && node_placed c b
node_placed c (Group' _ _ a) = node_placed c a

abbrev pub expr_placed : Counts → Expr → Bool
expr_placed c e = node_placed c e.node

-- what the statements of a block may do
pub record Rights : Type 0 where
  pub locals : Bool
  pub fields : Bool
  pub active : Bool
  pub emits : Bool
  pub breaks : Bool

abbrev pub loop_rights : Rights
loop_rights = record { locals = true; fields = false; active = false; emits = true; breaks = true }

abbrev pub tail_rights : Rights
tail_rights = record { locals = true; fields = false; active = false; emits = true; breaks = false }

abbrev pub sparse_rights : Rights
sparse_rights = record { locals = false; fields = false; active = false; emits = true; breaks = false }

abbrev pub update_rights : Rights
update_rights = record { locals = false; fields = true; active = true; emits = false; breaks = false }

abbrev pub is_target : Rights → Counts → What → Bool
is_target r c (what.Field i) = r.fields && nat_lt i c.fields
is_target r c (what.Local i) = r.locals && nat_lt i c.locals
is_target r c _ = false

-- the tests of a block that may be missing
abbrev pub tests_of : Option (Vec Bool Global) → List Bool
tests_of None = []
tests_of (Some tests) = tests.items

abbrev pub all_true : List Bool → Bool
all_true tests = list_all (λ b. b) tests

-- one statement, with the tests of its inner statements in their place
abbrev pub level_placed : Rights → Counts → Stmt-F Bool → Bool
level_placed r c (Assign target op e) = is_target r c target.what && expr_placed c e
level_placed r c (SetActive _ e) = r.active && expr_placed c e
level_placed r c (If _ test held otherwise) = expr_placed c test
    && (all_true held.items && all_true (tests_of otherwise))
level_placed r c (Emit _ slot e) = r.emits && (is_slot c slot.what && expr_placed c e)
level_placed r c (Break _) = r.breaks

abbrev pub stmt_placed : Rights → Counts → Stmt → Bool
stmt_placed r c = fold-Stmt Bool (level_placed r c)

abbrev pub body_placed : Rights → Counts → List Stmt → Bool
body_placed r c body = list_all (stmt_placed r c) body

-- each let reads those before it
abbrev pub lets_placed : Counts → List Decl → Bool
lets_placed c [] = true
lets_placed c (d ∷ ds) = expr_placed c d.value && lets_placed (record c { locals = c.locals + 1 }) ds

-- the places for an expression of a field, which reads no name
abbrev pub no_counts : Counts
no_counts = record { fields = 0; locals = 0; sends = 0; slots = 0; totals = 0; other_fields = 0 }

-- the places for start and for the expressions of totals
abbrev pub row_counts : Program → Counts
row_counts p = record {
  fields = length p.fields.items;
  locals = 0;
  sends = 0;
  slots = 0;
  totals = 0;
  other_fields = length p.fields.items;
}

-- the places for the expressions and blocks of a round, but for lets and sends
abbrev pub round_counts : Program → Counts
round_counts p = record {
  fields = length p.fields.items;
  locals = 0;
  sends = 0;
  slots = length p.slots.items;
  totals = length p.totals.items;
  other_fields = length p.fields.items;
}

-- the places for stop
abbrev pub stop_counts : Program → Counts
stop_counts p = record no_counts { totals = length p.totals.items }

abbrev pub dense_placed : Counts → Dense → Bool
dense_placed c d =
    let inner = record c { locals = length d.lets.items } in
    expr_placed c d.when_test && (lets_placed c d.lets.items
    && (body_placed loop_rights inner d.body.items && body_placed tail_rights inner d.tail.items))

abbrev pub sparse_placed : Counts → Sparse → Bool
sparse_placed c s =
    expr_placed c s.when_test && (list_all (λ d. expr_placed c d.value) s.sends.items
    && body_placed sparse_rights (record c { sends = length s.sends.items }) s.body.items)

abbrev pub option_all : {X : Type 0} → (X → Bool) → Option X → Bool
option_all test None = true
option_all test (Some x) = test x

-- every name of the program has its place
abbrev pub is_placed : Program → Bool
is_placed p =
    list_all (λ d. expr_placed no_counts d.value) p.fields.items
    && (list_all (λ t. expr_placed (row_counts p) t.value) p.totals.items
    && (expr_placed (row_counts p) p.start
    && (option_all (dense_placed (round_counts p)) p.dense
    && (option_all (sparse_placed (round_counts p)) p.sparse
    && (body_placed update_rights (round_counts p) p.update.items
    && option_all (expr_placed (stop_counts p)) p.stop)))))
