-- The names of a program are among its tokens.
use Rattle.std.proofs.Common.{◌≤◌, ℕ, List, [], ◌∷◌, ◌++◌, length, Option, Some, None, arith, length-append}
use Rattle.std.specs.Prelude.{flat_map}
use Rattle.std.specs.List.{AllByRecursion}
use Rattle.vert_base.proofs.Orders.{all_append}
use Rattle.vert_lex.specs.declared.words.TheConstants as word
use Rattle.vert_lex.specs.Tokens.{Kind, Reserved, Mark, Number, Name}
use Rattle.vert_tree.specs.Trees.{Tree, Literal, Truth, Word, Variable, Got, Value, OtherField, OtherWord, Draw, Negative, Not, Pair, Choice, Least, Greatest, Group, Statement, Assign, SetActive, If, IfElse, Emit, Break, Statements, End, More, Declaration, SlotDeclaration, TotalDeclaration, DenseBlock, SparseBlock, ProgramTree}
use Rattle.vert_grammar.specs.Spelling.{spelled, spelled_block, spelled_declaration, spelled_dense, spelled_header, spelled_maybe, spelled_op, spelled_program, spelled_slot, spelled_sparse, spelled_start, spelled_statement, spelled_stop, spelled_total, spelled_update}
use Rattle.vert_parse.specs.Names.{Texts, block_names, declaration_names, dense_names, given_names, program_names, slot_names, sparse_names, statement_names, total_names, tree_names}
use Rattle.program_reader.proofs.MadeLaws.{all_split}

module _ (P : List ℕ → Type 0) where
  -- what holds of a name
  abbrev pub OfName : Kind → Type 0
  OfName (Reserved place) = Unit {0}
  OfName (Mark place) = Unit {0}
  OfName (Number value) = Unit {0}
  OfName (Name text) = P text

  -- these texts are names among these tokens
  pub record Among (texts : Texts) (ks : List Kind) : Type 0 where
    pub hold : AllByRecursion OfName ks → AllByRecursion P texts
    pub few : length texts ≤ length ks

  none : (ks : List Kind) → Among [] ks
  none ks = record { hold = λ h. tt; few = omega arith }

  one : {texts : Texts} {ks : List Kind} (text : List ℕ) → Among texts ks → Among (text ∷ texts) (Name text ∷ ks)
  one text a = record { hold = λ h. (h.0, a.hold h.1); few = let h = a.few in omega (arith, h) }

  past : {texts : Texts} {ks : List Kind} (k : Kind) → Among texts ks → Among texts (k ∷ ks)
  past k a = record { hold = λ h. a.hold h.1; few = let h = a.few in omega (arith, h) }

  then : {s t : Texts} {ks ls : List Kind} → Among s ks → Among t ls → Among (s ++ t) (ks ++ ls)
  then {s} {t} {ks} {ls} a b = record {
    hold = λ h. let p = all_split OfName ks ls h in all_append P s t (a.hold p.0) (b.hold p.1);
    few = let u = length-append s t in let v = length-append ks ls in let h = a.few in let k = b.few in
        omega (arith, u, v, h, k);
  }

  before : {texts : Texts} {ks : List Kind} (k : Kind) → Among texts ks → Among texts (ks ++ k ∷ [])
  before {texts} {ks} k a = record {
    hold = λ h. a.hold (all_split OfName ks (k ∷ []) h).0;
    few = let u = length-append ks (k ∷ []) in let h = a.few in omega (arith, u, h);
  }

  each : {A : Type 0} (names : A → Texts) (f : A → List Kind) → ((x : A) → Among (names x) (f x)) → (xs : List A)
      → Among (flat_map names xs) (flat_map f xs)
  each names f h [] = none []
  each names f h (x ∷ xs) = then (h x) (each names f h xs)

  given : {A : Type 0} (names : A → Texts) (f : A → List Kind) → ((x : A) → Among (names x) (f x)) → (o : Option A)
      → Among (given_names names o) (spelled_maybe f o)
  given names f h None = none []
  given names f h (Some x) = h x

  of_tree : (e : Tree) → Among (tree_names e) (spelled e)
  of_tree (Literal s value) = none _
  of_tree (Truth s value) = none _
  of_tree (Word s w) = none _
  of_tree (Variable s name) = one name.text (none _)
  of_tree (Got s name) = one name.text (none _)
  of_tree (Value s name) = one name.text (none _)
  of_tree (OtherField s name) = past _ (past _ (one name.text (none _)))
  of_tree (OtherWord s w) = none _
  of_tree (Draw s at number) = none _
  of_tree (Negative s inner) = past _ (of_tree inner)
  of_tree (Not s inner) = past _ (of_tree inner)
  of_tree (Pair s op left right) = then (of_tree left) (past _ (of_tree right))
  of_tree (Choice s test held otherwise) =
      then (of_tree test) (past _ (then (of_tree held) (past _ (of_tree otherwise))))
  of_tree (Least s left right) = past _ (past _ (then (of_tree left) (past _ (before _ (of_tree right)))))
  of_tree (Greatest s left right) = past _ (past _ (then (of_tree left) (past _ (before _ (of_tree right)))))
  of_tree (Group s inner) = past _ (before _ (of_tree inner))

  mutual
    of_statement : (s : Statement) → Among (statement_names s) (spelled_statement s)
    of_statement (Assign target op value) = one target.text (then (none (spelled_op op)) (before _ (of_tree value)))
    of_statement (SetActive s value) = past _ (past _ (before _ (of_tree value)))
    of_statement (If s test held) = past _ (then (of_tree test) (past _ (before _ (of_block held))))
    of_statement (IfElse s test held otherwise) =
        past _ (then (of_tree test)
        (past _ (then (of_block held) (past _ (past _ (past _ (before _ (of_block otherwise))))))))
    of_statement (Emit s slot value) = past _ (one slot.text (before _ (of_tree value)))
    of_statement (Break s) = none _

    of_block : (b : Statements) → Among (block_names b) (spelled_block b)
    of_block End = none _
    of_block (More first others) = then (of_statement first) (of_block others)

  of_declaration : (keyword : ℕ) (d : Declaration) → Among (declaration_names d) (spelled_declaration keyword d)
  of_declaration keyword d = past _ (one d.name.text (past _ (past _ (past _ (before _ (of_tree d.value))))))

  of_slot : (d : SlotDeclaration) → Among (slot_names d) (spelled_slot d)
  of_slot d = past _ (one d.name.text (none _))

  of_total : (d : TotalDeclaration) → Among (total_names d) (spelled_total d)
  of_total d = past _ (one d.name.text (past _ (past _ (past _ (before _ (of_tree d.value))))))

  of_dense : (d : DenseBlock) → Among (dense_names d) (spelled_dense d)
  of_dense d =
      past _ (past _ (then (of_tree d.test)
      (past _ (then (each declaration_names (spelled_declaration word.LET) (of_declaration word.LET) d.lets)
      (past _ (past _ (past _ (then (of_block d.body) (past _ (before _ (of_block d.tail)))))))))))

  of_sparse : (d : SparseBlock) → Among (sparse_names d) (spelled_sparse d)
  of_sparse d =
      past _ (past _ (then (of_tree d.test)
      (past _ (then (each declaration_names (spelled_declaration word.SEND) (of_declaration word.SEND) d.sends)
      (before _ (of_block d.body))))))

  of_start : (test : Tree) → Among (tree_names test) (spelled_start test)
  of_start test = past _ (before _ (of_tree test))

  of_update : (body : Statements) → Among (block_names body) (spelled_update body)
  of_update body = past _ (past _ (before _ (of_block body)))

  of_stop : (test : Tree) → Among (tree_names test) (spelled_stop test)
  of_stop test = past _ (before _ (of_tree test))

  pub of_program : (t : ProgramTree) → Among (program_names t) (spelled_program t)
  of_program t =
      then (none (spelled_header t))
      (then (each declaration_names (spelled_declaration word.FIELD) (of_declaration word.FIELD) t.fields)
      (then (each slot_names spelled_slot of_slot t.slots) (then (each total_names spelled_total of_total t.totals)
      (then (of_start t.start)
      (then (given dense_names spelled_dense of_dense t.dense)
      (then (given sparse_names spelled_sparse of_sparse t.sparse)
      (then (of_update t.update) (given tree_names spelled_stop of_stop t.stop))))))))
