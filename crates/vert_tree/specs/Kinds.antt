-- Every expression has its type, as a test.
use Rattle.std.specs.Prelude.{Bool, true, false, ◌&&◌, List, [], ◌∷◌, ◌++◌, Option, Some, None, map, slice_get, if◌then◌else◌}
use Rattle.std.specs.List.{list_all}
use Rattle.vert_base.specs.declared.value.ValueType.{ValueType}
use Rattle.vert_base.specs.declared.value.ValueType.TheVariants as kind
use Rattle.vert_tree.specs.declared.name.What.{What}
use Rattle.vert_tree.specs.declared.name.What.TheVariants as what
use Rattle.vert_tree.specs.declared.expression.BinOp.{BinOp}
use Rattle.vert_tree.specs.declared.expression.BinOp.TheVariants.{Add, Sub, Mul, Div, Rem, And, Or}
use Rattle.vert_tree.specs.declared.expression.Builtin.{Builtin}
use Rattle.vert_tree.specs.declared.expression.Builtin.TheVariants as word
use Rattle.vert_tree.specs.declared.expression.Expr.{Expr}
use Rattle.vert_tree.specs.declared.expression.Node.{Node}
use Rattle.vert_tree.specs.declared.expression.Node.TheVariants.{Int, Bool as Truth, Word, Name, Got, Value, OtherField, OtherWord, Draw, Neg', Not', Binary', Cond', Least', Greatest', Group'}
use Rattle.vert_tree.specs.declared.statement.AssignOp.{AssignOp}
use Rattle.vert_tree.specs.declared.statement.AssignOp.TheVariants as assign
use Rattle.vert_tree.specs.declared.statement.Stmt.{Stmt}
use Rattle.vert_tree.specs.declared.statement.Stmt.TheOpen.{Stmt-F, Assign, SetActive, If, Emit, Break}
use Rattle.vert_tree.specs.declared.statement.Stmt.TheFolds.{fold-Stmt}
use Rattle.vert_tree.specs.declared.program.Decl.{Decl}
use Rattle.vert_tree.specs.declared.program.Dense.{Dense}
use Rattle.vert_tree.specs.declared.program.Sparse.{Sparse}
use Rattle.vert_tree.specs.declared.program.Program.{Program}
use Rattle.vert_tree.specs.Places.{all_true, tests_of, option_all}

-- the types of the declared names
pub record Kinds : Type 0 where
  pub fields : List ValueType
  pub locals : List ValueType
  pub sends : List ValueType

-- whether an expression has this type
abbrev pub has_kind : ValueType → Option ValueType → Bool
has_kind kind.Int (Some kind.Int) = true
has_kind kind.Bool (Some kind.Bool) = true
has_kind _ _ = false

-- this type where a test holds
abbrev pub kind_where : Bool → ValueType → Option ValueType
kind_where true k = Some k
kind_where false k = None

abbrev pub word_kind : Builtin → ValueType
word_kind word.Active = kind.Bool
word_kind _ = kind.Int

abbrev pub operand_kind : BinOp → ValueType
operand_kind And = kind.Bool
operand_kind Or = kind.Bool
operand_kind _ = kind.Int

abbrev pub outcome_kind : BinOp → ValueType
outcome_kind Add = kind.Int
outcome_kind Sub = kind.Int
outcome_kind Mul = kind.Int
outcome_kind Div = kind.Int
outcome_kind Rem = kind.Int
outcome_kind _ = kind.Bool

abbrev pub name_kind : Kinds → What → Option ValueType
name_kind k (what.Field i) = slice_get k.fields i
name_kind k (what.Local i) = slice_get k.locals i
name_kind k (what.Send i) = slice_get k.sends i
name_kind k (what.Total i) = Some kind.Int
name_kind k _ = None

abbrev pub other_kind : Kinds → What → Option ValueType
other_kind k (what.Field i) = slice_get k.fields i
other_kind k _ = None

-- the type of the second part, where the third has it too
abbrev pub same_kind : Option ValueType → Option ValueType → Option ValueType
same_kind None b = None
same_kind (Some k) b = kind_where (has_kind k b) k

-- the type of an expression, where it has one
abbrev pub node_kind : Kinds → Node → Option ValueType
node_kind k (Int x) = Some kind.Int
node_kind k (Truth b) = Some kind.Bool
node_kind k (Word w) = Some (word_kind w)
node_kind k (Name name) = name_kind k name.what
node_kind k (Got name) = Some kind.Bool
node_kind k (Value name) = Some kind.Int
node_kind k (OtherField name) = other_kind k name.what
node_kind k (OtherWord w) = Some (word_kind w)
node_kind k (Draw at tag) = Some kind.Int
node_kind k (Neg' _ _ a) = kind_where (has_kind kind.Int (node_kind k a)) kind.Int
node_kind k (Not' _ _ a) = kind_where (has_kind kind.Bool (node_kind k a)) kind.Bool
node_kind k (Binary' op _ _ a _ _ b) =
    kind_where (has_kind (operand_kind op) (node_kind k a) && has_kind (operand_kind op) (node_kind k b))
    (outcome_kind op)
node_kind k (Cond' _ _ test _ _ a _ _ b) =
    if has_kind kind.Bool (node_kind k test) then same_kind (node_kind k a) (node_kind k b) else None
node_kind k (Least' _ _ a _ _ b) = kind_where (has_kind kind.Int (node_kind k a) && has_kind kind.Int (node_kind k b))
    kind.Int
node_kind k (Greatest' _ _ a _ _ b) = kind_where
    (has_kind kind.Int (node_kind k a) && has_kind kind.Int (node_kind k b)) kind.Int
node_kind k (Group' _ _ a) = node_kind k a

abbrev pub expr_has : Kinds → ValueType → Expr → Bool
expr_has k t e = has_kind t (node_kind k e.node)

-- what `=` assigns has the target's type, and the other three take an Int on both sides
abbrev pub assign_typed : AssignOp → Option ValueType → Option ValueType → Bool
assign_typed assign.Set (Some t) value = has_kind t value
assign_typed assign.Set None value = false
assign_typed _ target value = has_kind kind.Int target && has_kind kind.Int value

abbrev pub level_typed : Kinds → Stmt-F Bool → Bool
level_typed k (Assign target op e) = assign_typed op (name_kind k target.what) (node_kind k e.node)
level_typed k (SetActive _ e) = expr_has k kind.Bool e
level_typed k (If _ test held otherwise) = expr_has k kind.Bool test
    && (all_true held.items && all_true (tests_of otherwise))
level_typed k (Emit _ slot e) = expr_has k kind.Int e
level_typed k (Break _) = true

abbrev pub stmt_typed : Kinds → Stmt → Bool
stmt_typed k = fold-Stmt Bool (level_typed k)

abbrev pub body_typed : Kinds → List Stmt → Bool
body_typed k body = list_all (stmt_typed k) body

abbrev pub kinds_of : List Decl → List ValueType
kinds_of ds = map (λ d. d.kind) ds

-- each let reads those before it
abbrev pub lets_typed : Kinds → List Decl → Bool
lets_typed k [] = true
lets_typed k (d ∷ ds) = expr_has k d.kind d.value && lets_typed (record k { locals = k.locals ++ d.kind ∷ [] }) ds

abbrev pub dense_typed : Kinds → Dense → Bool
dense_typed k d =
    let inner = record k { locals = kinds_of d.lets.items } in
    expr_has k kind.Bool d.when_test && (lets_typed k d.lets.items
    && (body_typed inner d.body.items && body_typed inner d.tail.items))

abbrev pub sparse_typed : Kinds → Sparse → Bool
sparse_typed k s =
    expr_has k kind.Bool s.when_test && (list_all (λ d. expr_has k d.kind d.value) s.sends.items
    && body_typed (record k { sends = kinds_of s.sends.items }) s.body.items)

-- the types where no let and no send is named
abbrev pub field_kinds : Program → Kinds
field_kinds p = record { fields = kinds_of p.fields.items; locals = []; sends = [] }

-- every expression of the program has its type
abbrev pub is_kinded : Program → Bool
is_kinded p =
    list_all (λ d. expr_has (field_kinds p) d.kind d.value) p.fields.items
    && (list_all (λ t. expr_has (field_kinds p) kind.Int t.value) p.totals.items
    && (expr_has (field_kinds p) kind.Bool p.start
    && (option_all (dense_typed (field_kinds p)) p.dense
    && (option_all (sparse_typed (field_kinds p)) p.sparse
    && (body_typed (field_kinds p) p.update.items
    && option_all (expr_has (field_kinds p) kind.Bool) p.stop)))))
