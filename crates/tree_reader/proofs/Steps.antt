-- What the readers of expressions do at each step, by their definitions.
use Rattle.std.proofs.Common.{◌≡◌, ℕ, zero, suc, pred, max, ◌+◌, ◌-◌, ◌≤◌, ◌<◌, true, false, eqb, List, [], ◌∷◌, Result, Ok, Err, refl, ap, ◌∙◌, arith, add-one, sub-one}
use Rattle.std.specs.Prelude.{◌&&◌}
use Rattle.std.specs.declared.alloc.Global.{Global}
use Rattle.std.specs.declared.string.String.{String}
use Rattle.std.proofs.lemmas.Bool.{eq-eqb, ne_eqb, le-ltb, lt-ltb}
use Rattle.vert_base.specs.declared.text.Span.{Span}
use Rattle.vert_lex.specs.Text.{Placed}
use Rattle.vert_lex.specs.declared.marks.TheConstants as mark
use Rattle.vert_tree.specs.Trees.{Tree, Literal, Truth, Word, Variable, Got, Value, OtherField, OtherWord, Draw, Negative, Not, Pair, Choice, Least, Greatest, Group, start, depth}
use Rattle.vert_grammar.specs.Faults.{Unexpected, TooDeep}
use Rattle.vert_grammar.specs.Reading.{Stop, Res, Parser, ◌>>=◌, stop, both, made, begins, the_mark, kind, rest, layer_ahead, unary, chain, turn, choice, climb, tree_at, two_of, is_comparison}
use Rattle.vert_grammar.specs.Signs.{is_mark, layer, operator}
use Rattle.vert_grammar.proofs.Steps.{unary_is, six_is, layer_is, chain_turn, chain_twice, chain_deep, chain_inside}
use Rattle.tree_reader.specs.declared.fault.Halt.{Halt}
use Rattle.tree_reader.specs.declared.fault.Halt.TheVariants as halts
use Rattle.tree_reader.specs.Parts.{pair_at}
use Rattle.tree_reader.specs.Signs.{Fails, plain, plain_why}

abbrev Names : Type 0
Names = List (String Global)

pub depth_pos : (t : Tree) → 1 ≤ depth t
depth_pos (Literal s value) = omega arith
depth_pos (Truth s value) = omega arith
depth_pos (Word s w) = omega arith
depth_pos (Variable s name) = omega arith
depth_pos (Got s name) = omega arith
depth_pos (Value s name) = omega arith
depth_pos (OtherField s name) = omega arith
depth_pos (OtherWord s w) = omega arith
depth_pos (Draw s at number) = omega arith
depth_pos (Negative s inner) = omega arith
depth_pos (Not s inner) = omega arith
depth_pos (Pair s op left right) = omega arith
depth_pos (Choice s test held otherwise) = omega arith
depth_pos (Least s left right) = omega arith
depth_pos (Greatest s left right) = omega arith
depth_pos (Group s inner) = omega arith

pub again : (room k : ℕ) → 0 < room → tree_at (room - 1 + 1) k ≡ tree_at room k
again room k lt = let e : room - 1 + 1 ≡ room = omega arith in ap (λ n. tree_at n k) e

pub unary_step : (room : ℕ) (ts : List Placed) → tree_at (room + 1) 0 ts ≡ unary room (tree_at room) ts
unary_step room ts = rw add-one (unary_is room ts)

pub choice_step : (room : ℕ) (ts : List Placed) →
    tree_at (room + 1) 6 ts ≡ (tree_at (room + 1) 5 ts >>= λ x. choice room (tree_at room 6) x.0 x.1)
choice_step room ts = rw add-one (six_is room ts)

-- ---- two expressions in parentheses
module _ (b : ℕ) (s : Span) (ts : List Placed) where
  pub least_by_pair : made (λ x. Least s x.1.0 x.1.1.1.0) (two_of (tree_at b)) ts
      ≡ made (λ x. Least s x.0 x.1) (pair_at b) ts
  least_by_pair = go (two_of (tree_at b) ts)
    where
      go : (r : Res (Span × (Tree × (Span × (Tree × Span))))) → made (λ x. Least s x.1.0 x.1.1.1.0) (λ _. r) ts
          ≡ made (λ x. Least s x.0 x.1) (made {B = Tree × Tree} (λ x. (x.1.0, x.1.1.1.0)) (λ _. r)) ts
      go (Ok x) = refl
      go (Err e) = refl

  pub greatest_by_pair : made (λ x. Greatest s x.1.0 x.1.1.1.0) (two_of (tree_at b)) ts
      ≡ made (λ x. Greatest s x.0 x.1) (pair_at b) ts
  greatest_by_pair = go (two_of (tree_at b) ts)
    where
      go : (r : Res (Span × (Tree × (Span × (Tree × Span))))) → made (λ x. Greatest s x.1.0 x.1.1.1.0) (λ _. r) ts
          ≡ made (λ x. Greatest s x.0 x.1) (made {B = Tree × Tree} (λ x. (x.1.0, x.1.1.1.0)) (λ _. r)) ts
      go (Ok x) = refl
      go (Err e) = refl

-- the loop over a chain: what was read is the left operand
pub record IsChain (room layer : ℕ) (tokens : List Placed) (left : Tree) (d : ℕ) (rest : List Placed) : Type 0 where
  pub depth_is : d ≡ depth left
  pub fits : d ≤ room + 1
  pub layered : 0 < layer
  pub turns : ℕ
  pub enough : room < turns + depth left
  pub goes : tree_at (room + 1) layer tokens ≡ chain room layer (tree_at room (pred layer)) turns left rest

fails_then : {A B : Type 0} (names : Names) (e : Halt) (r : Result A Stop) (f : A → Result B Stop) → Fails names e r →
    Fails names e (r >>= f)
fails_then names halts.Memory r f h = tt
fails_then names (halts.Fault w l) r f h = rw h refl

layer_pred : (room k : ℕ) (ts : List Placed) → 0 < k → k ≤ 5 →
    tree_at (room + 1) k ts ≡ (tree_at (room + 1) (k - 1) ts >>= λ x. chain room k (tree_at room (pred k)) room x.0 x.1)
layer_pred room zero ts lt le = absurd (omega arith)
layer_pred room (suc k) ts lt le = let e : suc k - 1 ≡ k = omega arith in
    rw (e, add-one) (layer_is room k ts (omega arith))

-- what stops a layer stops the next
pub layer_fails : (names : Names) (room k : ℕ) (e : Halt) (ts : List Placed) → 0 < k → k ≤ 5 →
    Fails names e (tree_at (room + 1) (k - 1) ts) → Fails names e (tree_at (room + 1) k ts)
layer_fails names room k e ts lt le h = rw layer_pred (fails_then names e (tree_at (room + 1) (k - 1) ts) _ h)

module _ (room k : ℕ) (ts r : List Placed) (left : Tree) (d : ℕ) where
  pub chain_starts : 0 < k → k ≤ 5 → tree_at (room + 1) (k - 1) ts ≡ Ok (left, r) → d ≡ depth left →
      d ≤ room + 1 → IsChain room k ts left d r
  chain_starts lt le h is fits = record {
    depth_is = is;
    fits = fits;
    layered = lt;
    turns = room;
    enough = (let p = depth_pos left in omega arith);
    goes = layer_pred room k ts lt le ∙ rw h refl;
  }

chain_stops : (room k f : ℕ) (below : Parser Tree) (left : Tree) (r : List Placed) → k ≤ 4 →
    (layer_ahead r ≡ suc k → ⊥) → chain room (suc k) below f left r ≡ Ok (left, r)
unfolding chain turn
chain_stops room k zero below left [] le h = refl
chain_stops room k (suc f) below left [] le h = refl
chain_stops room k zero below left (t ∷ ts) le h = let p : eqb (layer t.kind) (suc k) ≡ false = ne_eqb _ _ h in
    rw p refl
chain_stops room k (suc f) below left (t ∷ ts) le h = let p : eqb (layer t.kind) (suc k) ≡ false = ne_eqb _ _ h in
    rw p refl

module _ (room : ℕ) where
  pub chain_done : (k : ℕ) (ts r : List Placed) (left : Tree) (d : ℕ) → IsChain room k ts left d r → k ≤ 5 →
      (layer_ahead r ≡ k → ⊥) → tree_at (room + 1) k ts ≡ Ok (left, r)
  chain_done zero ts r left d c le n = absurd (let p = c.layered in omega arith)
  chain_done (suc k) ts r left d c le n = c.goes ∙ chain_stops room k c.turns (tree_at room k) left r (omega arith) n

module _ (room : ℕ) (ts : List Placed) (left : Tree) (d : ℕ) where
  pub chain_refuses_second : (k : ℕ) (r : List Placed) → IsChain room k ts left d r → k ≤ 5 →
      layer_ahead r ≡ k → (eqb k 3 && is_comparison left) ≡ true → tree_at (room + 1) k ts ≡ stop Unexpected r
  chain_refuses_second zero r c le h t = absurd (let p = c.layered in omega arith)
  chain_refuses_second (suc k) [] c le h t = absurd (omega arith)
  chain_refuses_second (suc k) (x ∷ r) c le h t =
      c.goes ∙ chain_twice room k c.turns (tree_at room k) left x r h t

  pub chain_too_deep : (k : ℕ) (r : List Placed) → IsChain room k ts left d r → k ≤ 5 → layer_ahead r ≡ k →
      (eqb k 3 && is_comparison left) ≡ false → room < d → tree_at (room + 1) k ts ≡ stop TooDeep r
  chain_too_deep zero r c le h t q = absurd (let p = c.layered in omega arith)
  chain_too_deep (suc k) [] c le h t q = absurd (omega arith)
  chain_too_deep (suc k) (x ∷ r) c le h t q =
      c.goes ∙ chain_deep room k c.turns (tree_at room k) left x r h t (let p = c.depth_is in omega arith)

module _ (names : Names) (room : ℕ) (ts : List Placed) (left : Tree) (d : ℕ) (q : d ≤ room) where
  pub chain_operand_fails : (k : ℕ) (r : List Placed) (e : Halt) → IsChain room k ts left d r → k ≤ 5 →
      layer_ahead r ≡ k → (eqb k 3 && is_comparison left) ≡ false →
      Fails names e (tree_at room (k - 1) (rest r)) → Fails names e (tree_at (room + 1) k ts)
  chain_operand_fails k r halts.Memory c le h t f = tt
  chain_operand_fails zero r (halts.Fault w l) c le h t f = absurd (let p = c.layered in
      omega arith)
  chain_operand_fails (suc k) [] (halts.Fault w l) c le h t f = absurd (omega arith)
  chain_operand_fails (suc k) (x ∷ r) (halts.Fault w l) c le h t f =
      let s : Stop = record { why = plain_why w; rest = plain names l.now } in
      let g : tree_at room k r ≡ Err s = rw sub-one at f in
      c.goes ∙ chain_inside room k (tree_at room k) left x r s c.turns h t (let p = c.depth_is in omega arith) g

module _ (room : ℕ) (ts : List Placed) (left : Tree) (d : ℕ) (right : Tree) (dr : ℕ) (after : List Placed)
    (q : d ≤ room) (is : dr ≡ depth right) where
  pub chain_goes_on : (k : ℕ) (r : List Placed) → IsChain room k ts left d r → k ≤ 5 → layer_ahead r ≡ k →
      (eqb k 3 && is_comparison left) ≡ false → tree_at room (k - 1) (rest r) ≡ Ok (right, after) → dr ≤ room →
      IsChain room k ts (Pair (start left) (operator (kind r)) left right) (1 + max d dr) after
  chain_goes_on zero r c le h t f fits = absurd (let p = c.layered in omega arith)
  chain_goes_on (suc k) [] c le h t f fits = absurd (omega arith)
  chain_goes_on (suc k) (x ∷ r) c le h t f fits = go c.turns c.enough c.goes
    where
      go : (turns : ℕ) → room < turns + depth left →
          tree_at (room + 1) (suc k) ts ≡ chain room (suc k) (tree_at room k) turns left (x ∷ r) →
          IsChain room (suc k) ts (Pair (start left) (operator x.kind) left right) (1 + max d dr) after
      go zero en g = absurd (let p = c.depth_is in omega arith)
      go (suc n) en g = record {
        depth_is = (let p = c.depth_is in omega arith);
        fits = omega arith;
        layered = omega arith;
        turns = n;
        enough = omega arith;
        goes = g ∙ chain_turn room k n (tree_at room k) left right x r after h t (let p = c.depth_is in omega arith)
            (rw sub-one at f);
      }

-- ---- a conditional: its test was read, and a question mark follows
choice_is : (room : ℕ) (ts r : List Placed) (c : Tree) → tree_at (room + 1) 5 ts ≡ Ok (c, r) →
    begins (is_mark mark.QUESTION) r ≡ true → depth c ≤ room
    → tree_at (room + 1) 6 ts ≡ made (λ x. Choice (start c) c x.0 x.1.1)
    (both (tree_at room 6) (both (the_mark mark.COLON) (tree_at room 6))) (rest r)
unfolding choice
choice_is room ts r c h q d = choice_step room ts ∙ (let n = le-ltb room (depth c) d in rw (h, q, n) refl)

module _ (names : Names) (room : ℕ) (ts r : List Placed) (c : Tree) where
  pub choice_first_fails : (e : Halt) → tree_at (room + 1) 5 ts ≡ Ok (c, r) →
      begins (is_mark mark.QUESTION) r ≡ true → depth c ≤ room → 0 < room →
      Fails names e (tree_at (room - 1 + 1) 6 (rest r)) → Fails names e (tree_at (room + 1) 6 ts)
  choice_first_fails halts.Memory h q d pos f = tt
  choice_first_fails (halts.Fault w l) h q d pos f =
      let a = again room 6 pos in
      let g : tree_at room 6 (rest r) ≡ Err (record { why = plain_why w; rest = plain names l.now }) = rw a at f in
      choice_is room ts r c h q d ∙ rw g refl

module _ (names : Names) (room : ℕ) (ts r r2 : List Placed) (c x : Tree) where
  pub choice_mark_fails : (e : Halt) → tree_at (room + 1) 5 ts ≡ Ok (c, r) →
      begins (is_mark mark.QUESTION) r ≡ true → depth c ≤ room → 0 < room →
      tree_at (room - 1 + 1) 6 (rest r) ≡ Ok (x, r2) → Fails names e (the_mark mark.COLON r2) →
      Fails names e (tree_at (room + 1) 6 ts)
  choice_mark_fails halts.Memory h q d pos h2 f = tt
  choice_mark_fails (halts.Fault w l) h q d pos h2 f =
      let a = again room 6 pos in
      let g2 : tree_at room 6 (rest r) ≡ Ok (x, r2) = rw a at h2 in
      choice_is room ts r c h q d ∙ rw (g2, f) refl

pub choice_second_fails :
    (names : Names) (room : ℕ) (ts r r2 r3 : List Placed) (c x : Tree) (o : Span) (e : Halt) →
    tree_at (room + 1) 5 ts ≡ Ok (c, r) → begins (is_mark mark.QUESTION) r ≡ true → depth c ≤ room → 0 < room →
    tree_at (room - 1 + 1) 6 (rest r) ≡ Ok (x, r2) → the_mark mark.COLON r2 ≡ Ok (o, r3) →
    Fails names e (tree_at (room - 1 + 1) 6 r3) → Fails names e (tree_at (room + 1) 6 ts)
choice_second_fails names room ts r r2 r3 c x o halts.Memory h q d pos h2 h3 f = tt
choice_second_fails names room ts r r2 r3 c x o (halts.Fault w l) h q d pos h2 h3 f =
    let a = again room 6 pos in
    let g2 : tree_at room 6 (rest r) ≡ Ok (x, r2) = rw a at h2 in
    let g3 : tree_at room 6 r3 ≡ Err (record { why = plain_why w; rest = plain names l.now }) = rw a at f in
    choice_is room ts r c h q d ∙ rw (g2, h3, g3) refl

module _ (room : ℕ) (ts r r2 r3 r4 : List Placed) (c x y : Tree) (o : Span) where
  pub choice_read : tree_at (room + 1) 5 ts ≡ Ok (c, r) → begins (is_mark mark.QUESTION) r ≡ true →
      depth c ≤ room → 0 < room → tree_at (room - 1 + 1) 6 (rest r) ≡ Ok (x, r2) →
      the_mark mark.COLON r2 ≡ Ok (o, r3) → tree_at (room - 1 + 1) 6 r3 ≡ Ok (y, r4) →
      tree_at (room + 1) 6 ts ≡ Ok (Choice (start c) c x y, r4)
  choice_read h q d pos h2 h3 h4 =
      let a = again room 6 pos in
      let g2 : tree_at room 6 (rest r) ≡ Ok (x, r2) = rw a at h2 in
      let g3 : tree_at room 6 r3 ≡ Ok (y, r4) = rw a at h4 in
      choice_is room ts r c h q d ∙ rw (g2, h3, g3) refl
