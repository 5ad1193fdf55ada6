-- Trees as values in memory. A name gets its place among the names and what it stands for.
use Rattle.std.proofs.Common.{◌≡◌, ◌<◌, ◌≤◌, ◌^◌, ℕ, Bool, true, false, List, [], ◌∷◌, length, Some, None, refl, le_refl, arith}
use Rattle.std.specs.Prelude.{nat_lt, map, option_map}
use Rattle.std.specs.Global.{Box, Vec}
use Rattle.std.proofs.Handle.{handle}
use Rattle.std.proofs.lemmas.Bool.{ltb-true}
use Rattle.std.proofs.lemmas.Bool.Decides.{Decides-ltb}
use Rattle.std.specs.declared.alloc.Global.{Global}
use Rattle.std.specs.declared.string.String.{String}
use denote.RawPtr.{null_ptr}
use Rattle.vert_tree.specs.declared.name.Ident.{Ident}
use Rattle.vert_tree.specs.declared.name.What.{What}
use Rattle.vert_tree.specs.declared.expression.Expr.{Expr}
use Rattle.vert_tree.specs.declared.expression.Node.{Node}
use Rattle.vert_tree.specs.declared.expression.Node.TheVariants as nodes
use Rattle.vert_tree.specs.declared.statement.Stmt.{Stmt}
use Rattle.vert_tree.specs.declared.statement.Stmt as statements
use Rattle.vert_tree.specs.declared.program.Decl.{Decl}
use Rattle.vert_tree.specs.declared.program.SlotDecl.{SlotDecl}
use Rattle.vert_tree.specs.declared.program.TotalDecl.{TotalDecl}
use Rattle.vert_tree.specs.declared.program.Dense.{Dense}
use Rattle.vert_tree.specs.declared.program.Sparse.{Sparse}
use Rattle.vert_tree.specs.declared.program.Program.{Program}
use Rattle.vert_tree.specs.Trees.{Named, Tree, Literal, Truth, Word, Variable, Got, Value, OtherField, OtherWord, Draw, Negative, Not, Pair, Choice, Least, Greatest, Group, start, Statement, Assign, SetActive, If, IfElse, Emit, Break, Statements, End, More, Declaration, SlotDeclaration, TotalDeclaration, DenseBlock, SparseBlock, ProgramTree}

-- the box of a node
abbrev box : Box (Unit {0})
box = record { ptr = null_ptr; alloc = handle; value = tt }

-- these by a decision whether they are few enough, or none
abbrev vec_of : {X : Type 0} → (xs : List X) → (b : Bool) → nat_lt (length xs) (2 ^ 63) ≡ b → Vec X
vec_of xs true e = record {
  ptr = null_ptr;
  len = length xs;
  cap = length xs;
  alloc = handle;
  items = xs;
  ok = (refl, le_refl (length xs));
  small = ltb-true (length xs) (2 ^ 63) e;
}
vec_of xs false e = record {
  ptr = null_ptr;
  len = 0;
  cap = 0;
  alloc = handle;
  items = [];
  ok = (refl, le_refl 0);
  small = omega arith;
}

vec_holds : {X : Type 0} (xs : List X) (b : Bool) (e : nat_lt (length xs) (2 ^ 63) ≡ b) → b ≡ true
    → (vec_of xs b e).items ≡ xs
vec_holds xs true e h = refl
vec_holds xs false e h = cc

-- these, where a vector can hold so many
abbrev pub make_vec : {X : Type 0} → List X → Vec X
make_vec xs = vec_of xs (nat_lt (length xs) (2 ^ 63)) refl

-- no text has so many tokens or names
pub few_enough : (n : ℕ) → n ≤ 65536 → n < 2 ^ 63
few_enough n h = omega (arith, h)

pub vec_items : {X : Type 0} (xs : List X) → length xs ≤ 65536 → (make_vec xs).items ≡ xs
vec_items xs few =
    vec_holds xs (nat_lt (length xs) (2 ^ 63)) refl ((Decides-ltb (length xs) (2 ^ 63)).1 (few_enough (length xs) few))

module _ (place : List ℕ → ℕ) (what : List ℕ → What) where
  abbrev pub make_name : Named → Ident
  make_name name = record { span = name.span; name = place name.text; what = what name.text }

  abbrev pub make_node : Tree → Node
  make_node (Literal s value) = nodes.Int value
  make_node (Truth s value) = nodes.Bool value
  make_node (Word s word) = nodes.Word word
  make_node (Variable s name) = nodes.Name (make_name name)
  make_node (Got s name) = nodes.Got (make_name name)
  make_node (Value s name) = nodes.Value (make_name name)
  make_node (OtherField s name) = nodes.OtherField (make_name name)
  make_node (OtherWord s word) = nodes.OtherWord word
  make_node (Draw s at number) = nodes.Draw at number
  make_node (Negative s inner) = nodes.Neg' box (start inner) (make_node inner)
  make_node (Not s inner) = nodes.Not' box (start inner) (make_node inner)
  make_node (Pair s op left right) =
      nodes.Binary' op box (start left) (make_node left) box (start right) (make_node right)
  make_node (Choice s test held otherwise) =
      nodes.Cond' box (start test) (make_node test) box (start held) (make_node held)
      box (start otherwise) (make_node otherwise)
  make_node (Least s left right) = nodes.Least' box (start left) (make_node left) box (start right) (make_node right)
  make_node (Greatest s left right) =
      nodes.Greatest' box (start left) (make_node left) box (start right) (make_node right)
  make_node (Group s inner) = nodes.Group' box (start inner) (make_node inner)

  abbrev pub make : Tree → Expr
  make e = record { span = start e; node = make_node e }

  abbrev mutual
    pub make_statement : Statement → Stmt
    make_statement (Assign target op value) = statements.Assign (make_name target) op (make value)
    make_statement (SetActive s value) = statements.SetActive s (make value)
    make_statement (If s test held) = statements.If s (make test) (make_vec (make_block held)) None
    make_statement (IfElse s test held otherwise) =
        statements.If s (make test) (make_vec (make_block held)) (Some (make_vec (make_block otherwise)))
    make_statement (Emit s slot value) = statements.Emit s (make_name slot) (make value)
    make_statement (Break s) = statements.Break s

    pub make_block : Statements → List Stmt
    make_block End = []
    make_block (More first others) = make_statement first ∷ make_block others

  abbrev pub make_declaration : Declaration → Decl
  make_declaration d = record { name = make_name d.name; kind = d.kind; value = make d.value }

  abbrev pub make_slot : SlotDeclaration → SlotDecl
  make_slot d = record { name = make_name d.name; op = d.op }

  abbrev pub make_total : TotalDeclaration → TotalDecl
  make_total d = record { name = make_name d.name; op = d.op; value = make d.value }

  abbrev pub make_dense : DenseBlock → Dense
  make_dense d = record {
    when_test = make d.test;
    lets = make_vec (map make_declaration d.lets);
    body = make_vec (make_block d.body);
    tail = make_vec (make_block d.tail);
  }

  abbrev pub make_sparse : SparseBlock → Sparse
  make_sparse d = record {
    when_test = make d.test;
    sends = make_vec (map make_declaration d.sends);
    body = make_vec (make_block d.body);
  }

  abbrev pub make_program : List (String Global) → ProgramTree → Program
  make_program names t = record {
    version = t.version;
    mode = t.mode;
    mode_at = t.mode_at;
    limit = t.limit;
    limit_at = t.limit_at;
    names = make_vec names;
    fields = make_vec (map make_declaration t.fields);
    slots = make_vec (map make_slot t.slots);
    totals = make_vec (map make_total t.totals);
    start = make t.start;
    dense = option_map make_dense t.dense;
    sparse = option_map make_sparse t.sparse;
    update = make_vec (make_block t.update);
    stop = option_map make t.stop;
  }
