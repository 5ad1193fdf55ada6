-- The texts of a tree's names, in the order in which they stand.
use Rattle.std.specs.Prelude.{ℕ, List, [], ◌∷◌, ◌++◌, flat_map, Option, None, Some}
use Rattle.vert_tree.specs.Trees.{Tree, Literal, Truth, Word, Variable, Got, Value, OtherField, OtherWord, Draw, Negative, Not, Pair, Choice, Least, Greatest, Group, Statement, Assign, SetActive, If, IfElse, Emit, Break, Statements, End, More, Declaration, SlotDeclaration, TotalDeclaration, DenseBlock, SparseBlock, ProgramTree}

abbrev pub Texts : Type 0
Texts = List (List ℕ)

abbrev pub tree_names : Tree → Texts
tree_names (Literal s value) = []
tree_names (Truth s value) = []
tree_names (Word s word) = []
tree_names (Variable s name) = name.text ∷ []
tree_names (Got s name) = name.text ∷ []
tree_names (Value s name) = name.text ∷ []
tree_names (OtherField s name) = name.text ∷ []
tree_names (OtherWord s word) = []
tree_names (Draw s at number) = []
tree_names (Negative s inner) = tree_names inner
tree_names (Not s inner) = tree_names inner
tree_names (Pair s op left right) = tree_names left ++ tree_names right
tree_names (Choice s test held otherwise) = tree_names test ++ (tree_names held ++ tree_names otherwise)
tree_names (Least s left right) = tree_names left ++ tree_names right
tree_names (Greatest s left right) = tree_names left ++ tree_names right
tree_names (Group s inner) = tree_names inner

abbrev mutual
  pub statement_names : Statement → Texts
  statement_names (Assign target op value) = target.text ∷ tree_names value
  statement_names (SetActive s value) = tree_names value
  statement_names (If s test held) = tree_names test ++ block_names held
  statement_names (IfElse s test held otherwise) = tree_names test ++ (block_names held ++ block_names otherwise)
  statement_names (Emit s slot value) = slot.text ∷ tree_names value
  statement_names (Break s) = []

  pub block_names : Statements → Texts
  block_names End = []
  block_names (More first others) = statement_names first ++ block_names others

abbrev pub declaration_names : Declaration → Texts
declaration_names d = d.name.text ∷ tree_names d.value

abbrev pub slot_names : SlotDeclaration → Texts
slot_names d = d.name.text ∷ []

abbrev pub total_names : TotalDeclaration → Texts
total_names d = d.name.text ∷ tree_names d.value

abbrev pub dense_names : DenseBlock → Texts
dense_names d = tree_names d.test ++ (flat_map declaration_names d.lets ++ (block_names d.body ++ block_names d.tail))

abbrev pub sparse_names : SparseBlock → Texts
sparse_names d = tree_names d.test ++ (flat_map declaration_names d.sends ++ block_names d.body)

-- the names of what may be missing
abbrev pub given_names : {A : Type 0} → (A → Texts) → Option A → Texts
given_names names None = []
given_names names (Some x) = names x

abbrev pub program_names : ProgramTree → Texts
program_names p =
    flat_map declaration_names p.fields
    ++ (flat_map slot_names p.slots
    ++ (flat_map total_names p.totals
    ++ (tree_names p.start
    ++ (given_names dense_names p.dense
    ++ (given_names sparse_names p.sparse
    ++ (block_names p.update
    ++ given_names tree_names p.stop))))))
