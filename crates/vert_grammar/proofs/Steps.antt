-- What the readers of the grammar do at each step, by their definitions.
use Rattle.std.proofs.Common.{◌≡◌, ℕ, zero, suc, pred, ◌≤◌, ◌<◌, true, false, eqb, ltb, List, [], ◌∷◌, Result, Ok, Err, refl, ap, arith}
use Rattle.std.specs.Prelude.{◌&&◌}
use Rattle.std.proofs.lemmas.Bool.{eq-eqb, ne_eqb, le-ltb, lt-ltb}
use Rattle.vert_lex.specs.Text.{Placed}
use Rattle.vert_tree.specs.Trees.{Tree, Pair, start, depth}
use Rattle.vert_grammar.specs.Faults.{Unexpected, TooDeep}
use Rattle.vert_grammar.specs.Reading.{Stop, Res, Parser, ◌>>=◌, stop, made, is_comparison, turn, unary, chain, choice, climb, tree_at}
use Rattle.vert_grammar.specs.Signs.{layer, operator}

-- the value of a step that did not fail
pub bind_ok : {A B : Type 0} (r : Result A Stop) (f : A → Result B Stop) (y : B) → (r >>= f) ≡ Ok y → (x : A) ×
    (r ≡ Ok x) × (f x ≡ Ok y)
bind_ok (Ok x) f y e = (x, refl, e)
bind_ok (Err d) f y e = absurd cc

-- a further item in front of what was read
abbrev pub in_front : {A : Type 0} → A → Res (List A) → Res (List A)
in_front {A = A} y q = made {A = A × List A} (λ x. x.0 ∷ x.1) (λ ts. q >>= λ z. Ok ((y, z.0), z.1)) []

pub unary_is : (b : ℕ) (ts : List Placed) → tree_at (suc b) 0 ts ≡ unary b (tree_at b) ts
unfolding tree_at climb
unary_is b ts = refl

pub six_is : (b : ℕ) (ts : List Placed) → tree_at (suc b) 6 ts
    ≡ (tree_at (suc b) 5 ts >>= λ x. choice b (tree_at b 6) x.0 x.1)
unfolding tree_at climb
six_is b ts = refl

-- the next layer: what binds tighter, and then its chain
pub layer_is : (b k : ℕ) (ts : List Placed) → k < 5 →
    tree_at (suc b) (suc k) ts ≡ (tree_at (suc b) k ts >>= λ x. chain b (suc k) (tree_at b k) b x.0 x.1)
unfolding tree_at climb
layer_is b k ts lt = let p : eqb k 5 ≡ false = ne_eqb k 5 (λ e. omega arith) in rw p refl

-- one turn with an operand
module _ (b k f : ℕ) (below : Parser Tree) (left x : Tree) (t : Placed) (ts r : List Placed) where
  pub chain_turn : layer t.kind ≡ suc k → (eqb (suc k) 3 && is_comparison left) ≡ false → depth left ≤ b →
      below ts ≡ Ok (x, r) →
      chain b (suc k) below (suc f) left (t ∷ ts) ≡ chain b (suc k) below f (Pair (start left) (operator t.kind)
      left x) r
  unfolding chain turn
  chain_turn l c d e =
      let p = eq-eqb (layer t.kind) (suc k) l in
      let q = le-ltb b (depth left) d in
      rw (p, c, q, e) refl

-- where the tests of a turn stop it, and where its operand does
module _ (b k : ℕ) where
  pub chain_twice : (f : ℕ) (below : Parser Tree) (left : Tree) (t : Placed) (ts : List Placed) →
      layer t.kind ≡ suc k → (eqb (suc k) 3 && is_comparison left) ≡ true →
      chain b (suc k) below f left (t ∷ ts) ≡ stop Unexpected (t ∷ ts)
  unfolding chain turn
  chain_twice zero below left t ts l c = let p = eq-eqb (layer t.kind) (suc k) l in rw (p, c) refl
  chain_twice (suc f) below left t ts l c = let p = eq-eqb (layer t.kind) (suc k) l in rw (p, c) refl

  pub chain_deep : (f : ℕ) (below : Parser Tree) (left : Tree) (t : Placed) (ts : List Placed) →
      layer t.kind ≡ suc k → (eqb (suc k) 3 && is_comparison left) ≡ false → b < depth left →
      chain b (suc k) below f left (t ∷ ts) ≡ stop TooDeep (t ∷ ts)
  unfolding chain turn
  chain_deep zero below left t ts l c d = let p = eq-eqb (layer t.kind) (suc k) l in
      let q = lt-ltb b (depth left) d in rw (p, c, q) refl
  chain_deep (suc f) below left t ts l c d = let p = eq-eqb (layer t.kind) (suc k) l in
      let q = lt-ltb b (depth left) d in rw (p, c, q) refl

pub chain_inside :
    (b k : ℕ) (below : Parser Tree) (left : Tree) (t : Placed) (ts : List Placed) (s : Stop) (f : ℕ) →
    layer t.kind ≡ suc k → (eqb (suc k) 3 && is_comparison left) ≡ false → depth left ≤ b → below ts ≡ Err s →
    chain b (suc k) below f left (t ∷ ts) ≡ Err s
unfolding chain turn
chain_inside b k below left t ts s zero l c d e = let p = eq-eqb (layer t.kind) (suc k) l in
    let q = le-ltb b (depth left) d in rw (p, c, q, e) refl
chain_inside b k below left t ts s (suc f) l c d e = let p = eq-eqb (layer t.kind) (suc k) l in
    let q = le-ltb b (depth left) d in rw (p, c, q, e) refl
