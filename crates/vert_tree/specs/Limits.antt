-- The limits of a program, its depth among them, and the names that it declares.
use Rattle.std.specs.Prelude.{◌==◌, ℕ, ◌+◌, Bool, ◌&&◌, ◌||◌, List, [], ◌∷◌, Option, Some, None, is_none, length, max, nat_le, nat_lt}
use Rattle.std.specs.List.{list_all}
use Rattle.std.specs.declared.alloc.Global.{Global}
use Rattle.std.specs.declared.vec.Vec.{Vec}
use Rattle.vert_base.specs.declared.value.Mode.{Mode}
use Rattle.vert_base.specs.declared.value.Mode.TheVariants.{Auto, Dense as DenseMode, Sparse as SparseMode}
use Rattle.vert_tree.specs.declared.expression.Expr.{Expr}
use Rattle.vert_tree.specs.declared.expression.Node.{Node}
use Rattle.vert_tree.specs.declared.expression.Node.TheVariants.{Int, Bool as Truth, Word, Name, Got, Value, OtherField, OtherWord, Draw, Neg', Not', Binary', Cond', Least', Greatest', Group'}
use Rattle.vert_tree.specs.declared.statement.Stmt.{Stmt}
use Rattle.vert_tree.specs.declared.statement.Stmt.TheOpen.{Stmt-F, Assign, SetActive, If, Emit, Break}
use Rattle.vert_tree.specs.declared.statement.Stmt.TheFolds.{fold-Stmt}
use Rattle.vert_tree.specs.declared.name.Ident.{Ident}
use Rattle.vert_tree.specs.declared.program.Decl.{Decl}
use Rattle.vert_tree.specs.declared.program.Dense.{Dense}
use Rattle.vert_tree.specs.declared.program.Sparse.{Sparse}
use Rattle.vert_tree.specs.declared.program.Program.{Program}
use Rattle.vert_tree.specs.Places.{option_all}

-- how many expressions are nested in one another, a literal or name counting one
abbrev pub node_depth : Node → ℕ
node_depth (Int x) = 1
node_depth (Truth b) = 1
node_depth (Word w) = 1
node_depth (Name name) = 1
node_depth (Got name) = 1
node_depth (Value name) = 1
node_depth (OtherField name) = 1
node_depth (OtherWord w) = 1
node_depth (Draw at tag) = 1
node_depth (Neg' _ _ a) = node_depth a + 1
node_depth (Not' _ _ a) = node_depth a + 1
node_depth (Binary' op _ _ a _ _ b) = max (node_depth a) (node_depth b) + 1
node_depth (Cond' _ _ test _ _ a _ _ b) = max (node_depth test) (max (node_depth a) (node_depth b)) + 1
node_depth (Least' _ _ a _ _ b) = max (node_depth a) (node_depth b) + 1
node_depth (Greatest' _ _ a _ _ b) = max (node_depth a) (node_depth b) + 1
node_depth (Group' _ _ a) = node_depth a + 1

-- the greatest of some depths, 0 where there is none
abbrev pub deepest : List ℕ → ℕ
deepest [] = 0
deepest (d ∷ ds) = max d (deepest ds)

-- the depths of a block that may be missing
abbrev pub depths_of : Option (Vec ℕ Global) → List ℕ
depths_of None = []
depths_of (Some depths) = depths.items

-- one statement, with the depths of its inner statements in their place
abbrev pub level_depth : Stmt-F ℕ → ℕ
level_depth (Assign target op e) = node_depth e.node
level_depth (SetActive _ e) = node_depth e.node
level_depth (If _ test held otherwise) = max (node_depth test.node)
    (max (deepest held.items) (deepest (depths_of otherwise))) + 1
level_depth (Emit _ slot e) = node_depth e.node
level_depth (Break _) = 0

abbrev pub stmt_depth : Stmt → ℕ
stmt_depth = fold-Stmt ℕ level_depth

abbrev pub expr_shallow : Expr → Bool
expr_shallow e = nat_le (node_depth e.node) 64

abbrev pub body_shallow : List Stmt → Bool
body_shallow body = list_all (λ s. nat_le (stmt_depth s) 64) body

abbrev pub decls_shallow : List Decl → Bool
decls_shallow ds = list_all (λ d. expr_shallow d.value) ds

abbrev pub dense_shallow : Dense → Bool
dense_shallow d = expr_shallow d.when_test
    && (decls_shallow d.lets.items && (body_shallow d.body.items && body_shallow d.tail.items))

abbrev pub sparse_shallow : Sparse → Bool
sparse_shallow s = expr_shallow s.when_test && (decls_shallow s.sends.items && body_shallow s.body.items)

-- no `if`s and expressions are nested deeper than 64
abbrev pub is_shallow : Program → Bool
is_shallow p =
    decls_shallow p.fields.items
    && (list_all (λ t. expr_shallow t.value) p.totals.items
    && (expr_shallow p.start
    && (option_all dense_shallow p.dense
    && (option_all sparse_shallow p.sparse
    && (body_shallow p.update.items
    && option_all expr_shallow p.stop)))))

-- a mode has its blocks
abbrev pub mode_stands : Mode → Bool → Bool → Bool
mode_stands Auto dense sparse = dense && sparse
mode_stands DenseMode dense sparse = dense
mode_stands SparseMode dense sparse = sparse

-- a program of version 1 has no totals and no stop
abbrev pub version_stands : Program → Bool
version_stands p = p.version == 2 || (p.version == 1 && (length p.totals.items == 0 && is_none p.stop))

-- the text of a declared name is there
abbrev pub is_known : Program → Ident → Bool
is_known p name = nat_lt name.name (length p.names.items)

abbrev pub names_stand : Program → Bool
names_stand p =
    list_all (λ d. is_known p d.name) p.fields.items
    && (list_all (λ s. is_known p s.name) p.slots.items
    && (list_all (λ t. is_known p t.name) p.totals.items
    && (option_all (λ d. list_all (λ l. is_known p l.name) d.lets.items) p.dense
    && option_all (λ s. list_all (λ l. is_known p l.name) s.sends.items) p.sparse)))

-- no more rounds and names than a program may have
abbrev pub is_limited : Program → Bool
is_limited p =
    nat_le p.limit 10000
    && (nat_le (length p.fields.items) 16
    && (nat_le (length p.slots.items) 8
    && (nat_le (length p.totals.items) 4
    && (option_all (λ d. nat_le (length d.lets.items) 8) p.dense
    && option_all (λ s. nat_le (length s.sends.items) 8) p.sparse))))
