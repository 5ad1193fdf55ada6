-- The limits of a program are those of its plain tree.
use Rattle.std.proofs.Common.{◌≡◌, ℕ, suc, ◌≤◌, max, List, [], ◌∷◌, length, map, Option, None, Some, refl, sym, ap, subst, ◌∙◌}
use Rattle.std.proofs.lemmas.List.{length-map}
use Rattle.std.specs.List.{AllByRecursion}
use Rattle.std.specs.Prelude.{option_map}
use Rattle.vert_tree.specs.Plain.{plain, plain_statement, plain_block, plain_declaration, plain_slot, plain_total, plain_dense, plain_sparse, plain_program}
use Rattle.vert_tree.specs.Trees.{Tree, Literal, Truth, Word, Variable, Got, Value, OtherField, OtherWord, Draw, Negative, Not, Pair, Choice, Least, Greatest, Group, depth, Statement, Assign, SetActive, If, IfElse, Emit, Break, Statements, End, More, statement_depth, block_depth, Declaration, TotalDeclaration, DenseBlock, SparseBlock, ProgramTree}
use Rattle.vert_grammar.specs.Grammar.{Limits, Given, AreShallow, IsShallowDense, IsShallowSparse, IsShallow, IsSmall}

plain_depth : (t : Tree) → depth (plain t) ≡ depth t
plain_depth (Literal s value) = refl
plain_depth (Truth s value) = refl
plain_depth (Word s word) = refl
plain_depth (Variable s name) = refl
plain_depth (Got s name) = refl
plain_depth (Value s name) = refl
plain_depth (OtherField s name) = refl
plain_depth (OtherWord s word) = refl
plain_depth (Draw s at number) = refl
plain_depth (Negative s inner) = ap suc (plain_depth inner)
plain_depth (Not s inner) = ap suc (plain_depth inner)
plain_depth (Pair s op left right) = ap (λ n. suc (max n (depth (plain right)))) (plain_depth left)
    ∙ ap (λ n. suc (max (depth left) n)) (plain_depth right)
plain_depth (Choice s test held otherwise) =
    ap (λ n. suc (max n (max (depth (plain held)) (depth (plain otherwise))))) (plain_depth test)
    ∙ ap (λ n. suc (max (depth test) (max n (depth (plain otherwise))))) (plain_depth held)
    ∙ ap (λ n. suc (max (depth test) (max (depth held) n))) (plain_depth otherwise)
plain_depth (Least s left right) = ap (λ n. suc (max n (depth (plain right)))) (plain_depth left)
    ∙ ap (λ n. suc (max (depth left) n)) (plain_depth right)
plain_depth (Greatest s left right) = ap (λ n. suc (max n (depth (plain right)))) (plain_depth left)
    ∙ ap (λ n. suc (max (depth left) n)) (plain_depth right)
plain_depth (Group s inner) = ap suc (plain_depth inner)

mutual
  plain_statement_depth : (s : Statement) → statement_depth (plain_statement s) ≡ statement_depth s
  plain_statement_depth (Assign target op value) = plain_depth value
  plain_statement_depth (SetActive s value) = plain_depth value
  plain_statement_depth (If s test held) = ap (λ n. suc (max n (block_depth (plain_block held)))) (plain_depth test)
      ∙ ap (λ n. suc (max (depth test) n)) (plain_block_depth held)
  plain_statement_depth (IfElse s test held otherwise) =
      ap (λ n. suc (max n (max (block_depth (plain_block held)) (block_depth (plain_block otherwise)))))
      (plain_depth test)
      ∙ ap (λ n. suc (max (depth test) (max n (block_depth (plain_block otherwise))))) (plain_block_depth held)
      ∙ ap (λ n. suc (max (depth test) (max (block_depth held) n))) (plain_block_depth otherwise)
  plain_statement_depth (Emit s slot value) = plain_depth value
  plain_statement_depth (Break s) = refl

  plain_block_depth : (b : Statements) → block_depth (plain_block b) ≡ block_depth b
  plain_block_depth End = refl
  plain_block_depth (More first others) =
      ap (λ n. max n (block_depth (plain_block others))) (plain_statement_depth first)
      ∙ ap (λ n. max (statement_depth first) n) (plain_block_depth others)

abbrev Within : ℕ → ℕ → Type 0
Within b n = n ≤ b

-- ---- both ways
module _ (b : ℕ) where
  tree_to : (t : Tree) → depth t ≤ b → depth (plain t) ≤ b
  tree_to t h = subst (Within b) (sym (plain_depth t)) h

  tree_from : (t : Tree) → depth (plain t) ≤ b → depth t ≤ b
  tree_from t h = subst (Within b) (plain_depth t) h

  block_to : (t : Statements) → block_depth t ≤ b → block_depth (plain_block t) ≤ b
  block_to t h = subst (Within b) (sym (plain_block_depth t)) h

  block_from : (t : Statements) → block_depth (plain_block t) ≤ b → block_depth t ≤ b
  block_from t h = subst (Within b) (plain_block_depth t) h

  declarations_to : (ds : List Declaration) → AreShallow b ds → AreShallow b (map plain_declaration ds)
  declarations_to [] h = h
  declarations_to (d ∷ ds) h = (tree_to d.value h.0, declarations_to ds h.1)

  declarations_from : (ds : List Declaration) → AreShallow b (map plain_declaration ds) → AreShallow b ds
  declarations_from [] h = h
  declarations_from (d ∷ ds) h = (tree_from d.value h.0, declarations_from ds h.1)

  totals_to : (ds : List TotalDeclaration) → AllByRecursion (λ d. depth d.value ≤ b) ds →
      AllByRecursion (λ d. depth d.value ≤ b) (map plain_total ds)
  totals_to [] h = h
  totals_to (d ∷ ds) h = (tree_to d.value h.0, totals_to ds h.1)

  totals_from : (ds : List TotalDeclaration) → AllByRecursion (λ d. depth d.value ≤ b) (map plain_total ds) →
      AllByRecursion (λ d. depth d.value ≤ b) ds
  totals_from [] h = h
  totals_from (d ∷ ds) h = (tree_from d.value h.0, totals_from ds h.1)

  dense_to : (o : Option DenseBlock) → Given (IsShallowDense b) o → Given (IsShallowDense b) (option_map plain_dense o)
  dense_to None h = h
  dense_to (Some d) h = record {
    test = tree_to d.test h.test;
    lets = declarations_to d.lets h.lets;
    body = block_to d.body h.body;
    tail = block_to d.tail h.tail;
  }

  dense_from : (o : Option DenseBlock) → Given (IsShallowDense b) (option_map plain_dense o) →
      Given (IsShallowDense b) o
  dense_from None h = h
  dense_from (Some d) h = record {
    test = tree_from d.test h.test;
    lets = declarations_from d.lets h.lets;
    body = block_from d.body h.body;
    tail = block_from d.tail h.tail;
  }

  sparse_to : (o : Option SparseBlock) → Given (IsShallowSparse b) o →
      Given (IsShallowSparse b) (option_map plain_sparse o)
  sparse_to None h = h
  sparse_to (Some d) h = record {
    test = tree_to d.test h.test;
    sends = declarations_to d.sends h.sends;
    body = block_to d.body h.body;
  }

  sparse_from : (o : Option SparseBlock) → Given (IsShallowSparse b) (option_map plain_sparse o) →
      Given (IsShallowSparse b) o
  sparse_from None h = h
  sparse_from (Some d) h = record {
    test = tree_from d.test h.test;
    sends = declarations_from d.sends h.sends;
    body = block_from d.body h.body;
  }

  stop_to : (o : Option Tree) → Given (λ t. depth t ≤ b) o → Given (λ t. depth t ≤ b) (option_map plain o)
  stop_to None h = h
  stop_to (Some t) h = tree_to t h

  stop_from : (o : Option Tree) → Given (λ t. depth t ≤ b) (option_map plain o) → Given (λ t. depth t ≤ b) o
  stop_from None h = h
  stop_from (Some t) h = tree_from t h

  shallow_to : (p : ProgramTree) → IsShallow b p → IsShallow b (plain_program p)
  shallow_to p h = record {
    fields = declarations_to p.fields h.fields;
    totals = totals_to p.totals h.totals;
    start = tree_to p.start h.start;
    dense = dense_to p.dense h.dense;
    sparse = sparse_to p.sparse h.sparse;
    update = block_to p.update h.update;
    stop = stop_to p.stop h.stop;
  }

  shallow_from : (p : ProgramTree) → IsShallow b (plain_program p) → IsShallow b p
  shallow_from p h = record {
    fields = declarations_from p.fields h.fields;
    totals = totals_from p.totals h.totals;
    start = tree_from p.start h.start;
    dense = dense_from p.dense h.dense;
    sparse = sparse_from p.sparse h.sparse;
    update = block_from p.update h.update;
    stop = stop_from p.stop h.stop;
  }

module _ {A B : Type 0} (f : A → B) (b : ℕ) (xs : List A) where
  count_to : length xs ≤ b → length (map f xs) ≤ b
  count_to h = subst (Within b) (sym (length-map xs f)) h

  count_from : length (map f xs) ≤ b → length xs ≤ b
  count_from h = subst (Within b) (length-map xs f) h

lets_to : (b : ℕ) (o : Option DenseBlock) → Given (λ d. length d.lets ≤ b) o →
    Given (λ d. length d.lets ≤ b) (option_map plain_dense o)
lets_to b None h = h
lets_to b (Some d) h = count_to plain_declaration b d.lets h

lets_from : (b : ℕ) (o : Option DenseBlock) → Given (λ d. length d.lets ≤ b) (option_map plain_dense o) →
    Given (λ d. length d.lets ≤ b) o
lets_from b None h = h
lets_from b (Some d) h = count_from plain_declaration b d.lets h

sends_to : (b : ℕ) (o : Option SparseBlock) → Given (λ d. length d.sends ≤ b) o →
    Given (λ d. length d.sends ≤ b) (option_map plain_sparse o)
sends_to b None h = h
sends_to b (Some d) h = count_to plain_declaration b d.sends h

sends_from : (b : ℕ) (o : Option SparseBlock) → Given (λ d. length d.sends ≤ b) (option_map plain_sparse o) →
    Given (λ d. length d.sends ≤ b) o
sends_from b None h = h
sends_from b (Some d) h = count_from plain_declaration b d.sends h

small_to : (l : Limits) (p : ProgramTree) → IsSmall l p → IsSmall l (plain_program p)
small_to l p h = record {
  shallow = shallow_to l.depth p h.shallow;
  fields = count_to plain_declaration l.fields p.fields h.fields;
  slots = count_to plain_slot l.slots p.slots h.slots;
  totals = count_to plain_total l.totals p.totals h.totals;
  lets = lets_to l.lets p.dense h.lets;
  sends = sends_to l.sends p.sparse h.sends;
}

small_from : (l : Limits) (p : ProgramTree) → IsSmall l (plain_program p) → IsSmall l p
small_from l p h = record {
  shallow = shallow_from l.depth p h.shallow;
  fields = count_from plain_declaration l.fields p.fields h.fields;
  slots = count_from plain_slot l.slots p.slots h.slots;
  totals = count_from plain_total l.totals p.totals h.totals;
  lets = lets_from l.lets p.dense h.lets;
  sends = sends_from l.sends p.sparse h.sends;
}

-- the same program is as small
pub same_small : (l : Limits) (p q : ProgramTree) → plain_program q ≡ plain_program p → IsSmall l p → IsSmall l q
same_small l p q e h = small_from l q (subst (IsSmall l) (sym e) (small_to l p h))
