-- Chains of operators, which group to the left.
use Rattle.std.proofs.Common.{◌≡◌, ℕ, zero, suc, pred, ◌+◌, ◌≤◌, ◌<◌, Bool, true, false, cond, eqb, ltb, List, [], ◌∷◌, ◌++◌, Ok, Err, refl, sym, ap, subst, ◌∙◌, append_assoc, arith, inl, inr, ◌⊎◌}
use Rattle.std.specs.Prelude.{◌&&◌}
use Rattle.std.proofs.lemmas.Bool.{eqb-true, eqb-false, eq-eqb, ne_eqb, ltb-true, ltb-false, le-ltb, lt-ltb, cases_lt}
use Rattle.std.proofs.lemmas.List.{append-nil}
use Rattle.vert_base.specs.declared.text.Span.{Span}
use Rattle.vert_lex.specs.Text.{Placed}
use Rattle.vert_lex.specs.Tokens.{Kind, Mark}
use Rattle.vert_tree.specs.declared.expression.BinOp.{BinOp}
use Rattle.vert_tree.specs.Trees.{Tree, Literal, Truth, Word, Variable, Got, Value, OtherField, OtherWord, Draw, Negative, Not, Pair, Choice, Least, Greatest, Group, start, depth}
use Rattle.vert_grammar.specs.Faults.{Why, Unexpected, TooDeep}
use Rattle.vert_grammar.specs.Grammar.{Limits, Reads, left_of}
use Rattle.vert_grammar.specs.Reading.{Stop, Parser, ◌>>=◌, stop, rest, is_comparison, turn, chain, climb, tree_at}
use Rattle.vert_grammar.specs.Signs.{token, layer, layer_of, mark_of, operator}
use Rattle.grammar_laws.specs.Notions.{deep, inside, SameHead, Took, Sound, Complete, Fault, First}
use Rattle.grammar_laws.proofs.Readers.{bind_err, chosen, ok_is, err_is, grows_covers, grows_inside, carry}
use Rattle.vert_grammar.proofs.Steps.{bind_ok, layer_is, chain_turn, chain_twice, chain_deep, chain_inside}
use Rattle.grammar_laws.proofs.Operators.{operator_back, layer_back, marks_operator}
use Rattle.grammar_laws.specs.Expressions.{Ends}
use Rattle.grammar_laws.proofs.Trees.{Ends-tighter, tree_notion, tree_run, depth_pos, Reads-looser, leaf, leaf_tokens, leaf_reads}

not_comparison : (t : Tree) (u : List Placed) → Reads 2 t u → is_comparison t ≡ false
not_comparison (Literal s value) u h = refl
not_comparison (Truth s value) u h = refl
not_comparison (Word s w) u h = refl
not_comparison (Variable s name) u h = refl
not_comparison (Got s name) u h = refl
not_comparison (Value s name) u h = refl
not_comparison (OtherField s name) u h = refl
not_comparison (OtherWord s w) u h = refl
not_comparison (Draw s at number) u h = refl
not_comparison (Negative s e) u h = refl
not_comparison (Not s e) u h = refl
not_comparison (Least s a b) u h = refl
not_comparison (Greatest s a b) u h = refl
not_comparison (Group s e) u h = refl
not_comparison (Pair s op l r) u h = ne_eqb (layer_of op) 3 (λ e. (let q = h.0 in omega arith))
not_comparison (Choice s c a b) u h = refl

tighter : (t : Tree) (u : List Placed) → Reads 3 t u → is_comparison t ≡ false → Reads 2 t u
tighter (Literal s value) u h n = h
tighter (Truth s value) u h n = h
tighter (Word s w) u h n = h
tighter (Variable s name) u h n = h
tighter (Got s name) u h n = h
tighter (Value s name) u h n = h
tighter (OtherField s name) u h n = h
tighter (OtherWord s w) u h n = h
tighter (Draw s at number) u h n = h
tighter (Negative s e) u h n = h
tighter (Not s e) u h n = h
tighter (Least s a b) u h n = h
tighter (Greatest s a b) u h n = h
tighter (Group s e) u h n = h
tighter (Pair s op l r) u h n = ((let ne = eqb-false (layer_of op) 3 n in let q = h.0 in omega arith), h.1, h.2)
tighter (Choice s c a b) u h n = absurd (let q = h.0 in omega arith)

left_form : (l : ℕ) (t : Tree) (u : List Placed) → Reads l t u → (eqb l 3 && is_comparison t) ≡ false →
    Reads (left_of l) t u
left_form l t u h n = go (eqb l 3) refl n
  where
    go : (v : Bool) → eqb l 3 ≡ v → (v && is_comparison t) ≡ false → Reads (cond v 2 l) t u
    go true e m = tighter t u (subst (λ n. Reads n t u) (eqb-true l 3 e) h) m
    go false e m = h

left_back : (l : ℕ) (t : Tree) (u : List Placed) → Reads (left_of l) t u → Reads l t u ×
    ((eqb l 3 && is_comparison t) ≡ false)
left_back l t u h = go (eqb l 3) refl h
  where
    go : (v : Bool) → eqb l 3 ≡ v → Reads (cond v 2 l) t u → Reads l t u × ((v && is_comparison t) ≡ false)
    go true e m = (Reads-looser 2 l (let q = eqb-true l 3 e in omega arith) t u m, not_comparison t u m)
    go false e m = (m, refl)

-- an operator of a layer, behind an expression of that layer and before one that binds tighter
module _ (k : ℕ) (left x : Tree) (a v : List Placed) (t : Placed) where
  pub pair_form : k < 5 → layer t.kind ≡ suc k → (eqb (suc k) 3 && is_comparison left) ≡ false →
      Reads (suc k) left a → Reads k x v →
      Reads (suc k) (Pair (start left) (operator t.kind) left x) (a ++ t ∷ v)
  pair_form lt e n h g =
      let m = marks_operator t.kind (omega arith) (omega arith) in
      let is : layer_of (operator t.kind) ≡ suc k = m.1 ∙ e in (
        omega arith,
        refl,
        record {
          front = a;
          back = t ∷ v;
          whole = refl;
          first = subst (λ n. Reads (left_of n) left a) (sym is) (left_form (suc k) left a h n);
          second = record {
            front = t ∷ [];
            back = v;
            whole = refl;
            first = (t.span, ap (λ (y : Kind). token t.span y ∷ []) m.0);
            second = subst (λ n. Reads (pred n) x v) (sym is) g;
          };
        },
      )

module _ (lim : Limits) (b k : ℕ) (below : Parser Tree) (lt : k < 5) where
  abbrev Goes : (Tree → Parser Tree) → Type 0
  Goes again = (left : Tree) (a ts : List Placed) (x : Tree) (r : List Placed) → Reads (suc k) left a →
      depth left ≤ suc b → Ends k ts → again left ts ≡ Ok (x, r) →
      Took (tree_notion (suc k)) (deep lim (suc b)) (a ++ ts) x r

  turn_sound : Sound (tree_notion k) (deep lim b) below → (again : Tree → Parser Tree) → Goes again →
      Goes (turn b (suc k) below again)
  unfolding turn
  turn_sound ih again goes left a [] x r h d f e =
      subst (λ (w : Tree × List Placed). Took (tree_notion (suc k)) (deep lim (suc b)) (a ++ []) w.0 w.1)
      (ok_is _ _ e) (record { used = a; parts = refl; reads = h; fits = d; ends = tt })
  turn_sound ih again goes left a (t ∷ ts) x r h d f e =
      elim (chosen (eqb (layer t.kind) (suc k)) _ _ _ e) [
        | inr n ↦
            subst (λ (w : Tree × List Placed). Took (tree_notion (suc k)) (deep lim (suc b)) (a ++ t ∷ ts) w.0 w.1)
            (ok_is _ _ n.1)
            (record {
              used = a;
              parts = refl;
              reads = h;
              fits = d;
              ends = (let q = eqb-false (layer t.kind) (suc k) n.0 in omega arith);
            })
        | inl y ↦ elim (chosen (eqb (suc k) 3 && is_comparison left) _ _ _ y.1) [
          | inl z ↦ absurd (let q = z.1 in cc)
          | inr z ↦ elim (chosen (ltb b (depth left)) _ _ _ z.1) [
            | inl w ↦ absurd (let q = w.1 in cc)
            | inr w ↦
                let le = ltb-false b (depth left) w.0 in
                let s = bind_ok (below ts) (λ o. again (Pair (start left) (operator t.kind) left o.0) o.1) (x, r) w.1 in
                let o = ih ts s.0.0 s.0.1 s.1 in
                let l = eqb-true (layer t.kind) (suc k) y.0 in
                let g = goes (Pair (start left) (operator t.kind) left s.0.0) (a ++ t ∷ o.used) s.0.1 x r
                (pair_form k left s.0.0 a o.used t lt l z.0 h o.reads) (let q = o.fits in omega arith) o.ends s.2 in
                let whole : (a ++ t ∷ o.used) ++ s.0.1 ≡ a ++ t ∷ ts = append_assoc a (t ∷ o.used) s.0.1
                ∙ ap (λ (l : List Placed). a ++ t ∷ l) (sym o.parts) in
                subst (λ l. Took (tree_notion (suc k)) (deep lim (suc b)) l x r) whole g
          ]
        ]
      ]

  pub chain_sound : Sound (tree_notion k) (deep lim b) below → (f : ℕ) → Goes (chain b (suc k) below f)
  unfolding chain
  chain_sound ih zero = turn_sound ih (λ left. stop TooDeep) (λ left a ts x r h d f e. absurd cc)
  chain_sound ih (suc f) = turn_sound ih (chain b (suc k) below f) (chain_sound ih f)

-- ---- a chain is read to its end

-- no more turns
pub chain_ends : (b k f : ℕ) (below : Parser Tree) (left : Tree) (r : List Placed) → Ends (suc k) r →
    chain b (suc k) below f left r ≡ Ok (left, r)
unfolding chain turn
chain_ends b k zero below left [] h = refl
chain_ends b k (suc f) below left [] h = refl
chain_ends b k zero below left (t ∷ ts) h = let p : eqb (layer t.kind) (suc k) ≡ false = ne_eqb _ _ (λ e. omega arith)
    in rw p refl
chain_ends b k (suc f) below left (t ∷ ts) h = let p : eqb (layer t.kind) (suc k)
    ≡ false = ne_eqb _ _ (λ e. omega arith) in rw p refl

-- Reading comes to where the tree is the left operand.
pub record Reached (b k : ℕ) (t : Tree) (u r : List Placed) : Type 0 where
  pub turns : ℕ
  pub enough : suc b ≤ turns + depth t
  pub goes : tree_at (suc b) (suc k) (u ++ r) ≡ chain b (suc k) (tree_at b k) turns t r

module _ (lim : Limits) (b k : ℕ) (lt : k < 5)
    (here : Complete (tree_notion k) (deep lim (suc b)) (tree_at (suc b) k))
    (inner : Complete (tree_notion k) (deep lim b) (tree_at b k)) where
  at_once : (t : Tree) (u r : List Placed) → Reads k t u → depth t ≤ suc b → Ends k r → Reached b k t u r
  at_once t u r h d f = record {
    turns = b;
    enough = (let p = depth_pos t in omega arith);
    goes = layer_is b k (u ++ r) lt ∙ (let e = here t u r h d f in rw e refl);
  }

  module _ (s : Span) (op : BinOp) (o : Span) (l x : Tree) (u r front tail : List Placed)
      (whole : u ++ r ≡ front ++ (token o (Mark (mark_of op)) ∷ tail)) where
    turn_on : (turns : ℕ) → suc b ≤ turns + depth l →
        tree_at (suc b) (suc k) (front ++ (token o (Mark (mark_of op)) ∷ tail)) ≡ chain b (suc k) (tree_at b k)
        turns l (token o (Mark (mark_of op)) ∷ tail) → tree_at b k tail ≡ Ok (x, r) → depth l ≤ b →
        (eqb (suc k) 3 && is_comparison l) ≡ false → start l ≡ s → layer_of op ≡ suc k →
        Reached b k (Pair s op l x) u r
    turn_on zero en goes operand deep n st is = absurd (omega arith)
    turn_on (suc f) en goes operand deep n st is = record {
      turns = f;
      enough = omega arith;
      goes = ap (tree_at (suc b) (suc k)) whole ∙ goes
          ∙ chain_turn b k f (tree_at b k) l x (token o (Mark (mark_of op))) tail r (layer_back op ∙ is) n deep
          operand
          ∙ ap (λ (p : Span). chain b (suc k) (tree_at b k) f (Pair p (operator (Mark (mark_of op))) l x) r) st
          ∙ ap (λ (q : BinOp). chain b (suc k) (tree_at b k) f (Pair s q l x) r) (operator_back op);
    }

  module _ (s : Span) (op : BinOp) (l x : Tree) (u r : List Placed) where
    one_more : ((v w : List Placed) → Reads (suc k) l v → depth l ≤ suc b → Ends k w → Reached b k l v w) →
        layer_of op ≡ suc k → Reads (suc k) (Pair s op l x) u → depth (Pair s op l x) ≤ suc b → Ends k r →
        Reached b k (Pair s op l x) u r
    one_more ih is h d f =
        let p = h.2 in
        let q = p.second in
        let o = q.first.0 in
        let lb = left_back (suc k) l p.front (subst (λ n. Reads (left_of n) l p.front) is p.first) in
        let hx : Reads k x q.back = subst (λ n. Reads (pred n) x q.back) is q.second in
        let lay : layer (Mark (mark_of op)) ≡ suc k = layer_back op ∙ is in
        let before = ih p.front (token o (Mark (mark_of op)) ∷ (q.back ++ r)) lb.0 (omega arith) (omega arith) in
        let whole : u ++ r ≡ p.front ++ (token o (Mark (mark_of op)) ∷ (q.back ++ r)) =
        rw (p.whole, q.whole, q.first.1) (append_assoc p.front (token o (Mark (mark_of op)) ∷ q.back) r) in
        let operand : tree_at b k (q.back ++ r) ≡ Ok (x, r) = inner x q.back r hx (omega arith) f in
        turn_on s op o l x u r p.front (q.back ++ r) whole before.turns before.enough before.goes operand (omega
        arith)
        lb.1 (sym h.1) is

  -- a tree of this layer is of a tighter one, or a chain
  pub reach : (t : Tree) (u r : List Placed) → Reads (suc k) t u → depth t ≤ suc b → Ends k r → Reached b k t u r
  reach (Literal s value) u r h d f = at_once (Literal s value) u r h d f
  reach (Truth s value) u r h d f = at_once (Truth s value) u r h d f
  reach (Word s w) u r h d f = at_once (Word s w) u r h d f
  reach (Variable s name) u r h d f = at_once (Variable s name) u r h d f
  reach (Got s name) u r h d f = at_once (Got s name) u r h d f
  reach (Value s name) u r h d f = at_once (Value s name) u r h d f
  reach (OtherField s name) u r h d f = at_once (OtherField s name) u r h d f
  reach (OtherWord s w) u r h d f = at_once (OtherWord s w) u r h d f
  reach (Draw s at number) u r h d f = at_once (Draw s at number) u r h d f
  reach (Negative s e) u r h d f = at_once (Negative s e) u r h d f
  reach (Not s e) u r h d f = at_once (Not s e) u r h d f
  reach (Least s x y) u r h d f = at_once (Least s x y) u r h d f
  reach (Greatest s x y) u r h d f = at_once (Greatest s x y) u r h d f
  reach (Group s e) u r h d f = at_once (Group s e) u r h d f
  reach (Pair s op l x) u r h d f =
      elim (split (layer_of op) k h.0) [
        | inl e ↦ one_more s op l x u r (λ v w. reach l v w) e h d f
        | inr le ↦ at_once (Pair s op l x) u r (le, h.1, h.2) d f
      ]
    where
      split : (m k : ℕ) → m ≤ suc k → (m ≡ suc k) ⊎ (m ≤ k)
      split m k le = elim (cases_lt k m) [ inl lt ↦ inl (omega arith) | inr ge ↦ inr ge ]
  reach (Choice s c x y) u r h d f = absurd (let q = h.0 in omega arith)

  pub chain_complete : Complete (tree_notion (suc k)) (deep lim (suc b)) (tree_at (suc b) (suc k))
  chain_complete t u r h d f =
      let g = reach t u r h d (Ends-tighter k (suc k) (omega arith) r f) in
      g.goes ∙ chain_ends b k g.turns (tree_at b k) t r f

-- ---- the first fault in a chain

module _ (lim : Limits) (b k : ℕ) (lt : k < 5) (sound : Sound (tree_notion k) (deep lim b) (tree_at b k))
    (complete : (c : ℕ) → Complete (tree_notion k) (deep lim c) (tree_at c k)) (first : 1 ≤ b →
    First (tree_notion k) (tree_run k) (deep lim b)) where
  abbrev Outer : List Placed → Stop → Type 0
  Outer ts s = Fault (tree_notion (suc k)) (tree_run (suc k)) (deep lim (suc b)) ts s

  -- what the chain does behind its left operand, the whole does
  module _ (left : Tree) (a more : List Placed) (w : Why) (rest : List Placed) where
    from_left : (c : ℕ) → suc b ≤ c → Reads (suc k) left a → depth left ≤ suc b → Ends k more →
        ((d f : ℕ) → b ≤ d → suc d ≡ c → chain d (suc k) (tree_at d k) f left more ≡ stop w rest) →
        tree_at c (suc k) (a ++ more) ≡ stop w rest
    from_left zero le h d f e = absurd (omega arith)
    from_left (suc c) le h d f e = let g = reach lim c k lt (complete (suc c)) (complete c) left a
        more h (omega arith) f in g.goes ∙ e c g.turns (omega arith) refl

  -- an operator stands where none may, or where it is too deep
  twice : (left : Tree) (a ts : List Placed) (t : Placed) → Reads (suc k) left a → depth left ≤ suc b →
      layer t.kind ≡ suc k → (eqb (suc k) 3 && is_comparison left) ≡ true →
      Outer (a ++ t ∷ ts) (record { why = Unexpected; rest = t ∷ ts })
  twice left a ts t h d l n = record {
    used = a;
    parts = refl;
    front = ([], left, subst (Reads (suc k) left) (sym (append-nil a)) h, d);
    stays = λ m more c sh. go m.depth more (let e = c.depth in omega arith) sh;
    beyond = tt;
  }
    where
      go : (c : ℕ) (more : List Placed) → suc b ≤ c → SameHead more (t ∷ ts) →
          tree_at c (suc k) (a ++ more) ≡ stop Unexpected more
      go c [] le sh = absurd sh
      go c (m ∷ ms) le sh =
          let ml : layer m.kind ≡ suc k = ap (λ (i : Placed). layer i.kind) sh ∙ l in
          from_left left a (m ∷ ms) Unexpected (m ∷ ms) c le h d (omega arith) (λ e f _ _.
          chain_twice e k f (tree_at e k) left m ms ml n)

  module _ (left : Tree) (a ts : List Placed) (t : Placed) where
    too_deep : Reads (suc k) left a → depth left ≤ suc b → layer t.kind ≡ suc k →
        (eqb (suc k) 3 && is_comparison left) ≡ false → b < depth left →
        Outer (a ++ t ∷ ts) (record { why = TooDeep; rest = t ∷ ts })
    too_deep h d l n deeper = record {
      used = a;
      parts = refl;
      front = ([], left, subst (Reads (suc k) left) (sym (append-nil a)) h, d);
      stays = λ m more c sh. subst (λ (j : ℕ). tree_at j (suc k) (a ++ more) ≡ stop TooDeep more) c.0 (go more sh);
      beyond = (
        leaf_tokens,
        Pair (start left) (operator t.kind) left leaf,
        subst (Reads (suc k) (Pair (start left) (operator t.kind) left leaf))
            (sym (append_assoc a (t ∷ []) leaf_tokens)) (pair_form k left leaf a leaf_tokens t lt l n h (leaf_reads
            k)),
        tt,
      );
    }
      where
        go : (more : List Placed) → SameHead more (t ∷ ts) → tree_at (suc b) (suc k) (a ++ more) ≡ stop TooDeep more
        go [] sh = absurd sh
        go (m ∷ ms) sh =
            let ml : layer m.kind ≡ suc k = ap (λ (i : Placed). layer i.kind) sh ∙ l in
            from_left left a (m ∷ ms) TooDeep (m ∷ ms) (suc b) (omega arith) h d (omega arith) (λ e f le is.
            chain_deep e k f (tree_at e k) left m ms ml n (omega arith))

  module _ (left : Tree) (a ts : List Placed) (t : Placed) (s : Stop) where
    in_operand : Reads (suc k) left a → depth left ≤ suc b → layer t.kind ≡ suc k →
        (eqb (suc k) 3 && is_comparison left) ≡ false → depth left ≤ b → tree_at b k ts ≡ Err s →
        Outer (a ++ t ∷ ts) s
    in_operand h d l n fits e =
        let some : 1 ≤ b = (let q = depth_pos left in omega arith) in
        let on = λ (u : List Placed) (x : Tree) (more : List Placed) (g : Reads k x (u ++ more)).
        let q : Reads (suc k) (Pair (start left) (operator t.kind) left x) (((a ++ t ∷ []) ++ u) ++ more) =
        subst (Reads (suc k) (Pair (start left) (operator t.kind) left x))
        (sym (ap (λ l. l ++ more) (append_assoc a (t ∷ []) u) ∙ append_assoc a (t ∷ u) more))
        (pair_form k left x a (u ++ more) t lt l n h g) in q in
        subst (λ l. Outer l s) (append_assoc a (t ∷ []) ts)
        (carry (tree_notion k) (tree_notion (suc k)) (tree_run k) (tree_run (suc k)) inside (deep lim (suc b)) ts
        (a ++ t ∷ []) s (first some ts s e) (λ m c. grows_inside s.why (deep lim (suc b)) m c)
        (λ u w. (w.0, Pair (start left) (operator t.kind) left w.1, on u w.1 w.0 w.2, (let q = w.3 in omega arith)))
        (λ u w. (w.0, Pair (start left) (operator t.kind) left w.1, on u w.1 w.0 w.2, (let q = w.3 in omega arith)))
        (λ u w. (w.0, Pair (start left) (operator t.kind) left w.1, on u w.1 w.0 w.2, tt))
        (λ m u more w c sh parts q.
        let le = (grows_covers w (deep lim (suc b)) m c).depth in
        ap (tree_at m.depth (suc k)) (append_assoc a (t ∷ []) (u ++ more))
        ∙ from_left left a (t ∷ (u ++ more)) w more m.depth le h d (omega arith)
        (λ x f xb is. chain_inside x k (tree_at x k) left t (u ++ more) (record { why = w; rest = more }) f l n
        (omega arith) (subst (λ (j : ℕ). tree_at (pred j) k (u ++ more) ≡ stop w more) (sym is) q))))

  module _ (f : ℕ) (again : Tree → Parser Tree)
      (goes : ((left : Tree) (a ts : List Placed) (s : Stop) → Reads (suc k) left a → depth left ≤ suc b → suc (suc
      b) ≤ f + depth left → Ends k ts → again left ts ≡ Err s → Outer (a ++ ts) s))
      (left : Tree) (a : List Placed) where
    turn_first : (ts : List Placed) (s : Stop) → Reads (suc k) left a → depth left ≤ suc b →
        suc b ≤ f + depth left → Ends k ts → turn b (suc k) (tree_at b k) again left ts ≡ Err s →
        Outer (a ++ ts) s
    unfolding turn
    turn_first [] s h d en fo e = absurd cc
    turn_first (t ∷ ts) s h d en fo e =
        elim (chosen (eqb (layer t.kind) (suc k)) _ _ _ e) [
          | inr n ↦ absurd (let q = n.1 in cc)
          | inl y ↦
              let l = eqb-true (layer t.kind) (suc k) y.0 in
              elim (chosen (eqb (suc k) 3 && is_comparison left) _ _ _ y.1) [
                | inl z ↦ subst (Outer (a ++ t ∷ ts)) (err_is (Tree × List Placed) _ _ z.1) (twice left a ts t h d
                    l z.0)
                | inr z ↦ elim (chosen (ltb b (depth left)) _ _ _ z.1) [
                  | inl w ↦ subst (Outer (a ++ t ∷ ts)) (err_is (Tree × List Placed) _ _ w.1)
                      (too_deep left a ts t h d l z.0 (ltb-true b (depth left) w.0))
                  | inr w ↦
                      let le = ltb-false b (depth left) w.0 in
                      elim (bind_err (tree_at b k ts) (λ o. again (Pair (start left) (operator t.kind) left o.0)
                      o.1) s
                      w.1) [
                        | inl g ↦ in_operand left a ts t s h d l z.0 le g
                        | inr g ↦
                            let o = sound ts g.0.0 g.0.1 g.1 in
                            let whole : (a ++ t ∷ o.used) ++ g.0.1 ≡ a ++ t ∷ ts = append_assoc a (t ∷ o.used) g.0.1
                            ∙ ap (λ (l : List Placed). a ++ t ∷ l) (sym o.parts) in
                            subst (λ l. Outer l s) whole
                            (goes (Pair (start left) (operator t.kind) left g.0.0) (a ++ t ∷ o.used) g.0.1 s
                            (pair_form k left g.0.0 a o.used t lt l z.0 h o.reads) (let q = o.fits in omega arith)
                            (let q = o.fits in omega arith) o.ends g.2)
                      ]
                ]
              ]
        ]

  -- a chain that so many operators may continue: its fault is told behind what was read
  abbrev pub ChainFirst : ℕ → Type 0
  ChainFirst f = (left : Tree) (a ts : List Placed) (s : Stop) → Reads (suc k) left a →
      depth left ≤ suc b → suc b ≤ f + depth left → Ends k ts → chain b (suc k) (tree_at b k) f left ts ≡ Err s →
      Outer (a ++ ts) s

  pub chain_first : (f : ℕ) → ChainFirst f
  unfolding chain
  chain_first zero = turn_first zero (λ left. stop TooDeep) (λ left a ts s h d en fo e. absurd (omega arith))
  chain_first (suc f) = turn_first (suc f) (chain b (suc k) (tree_at b k) f) (λ left a ts s h d en fo e.
      chain_first f left a ts s h d (omega arith) fo e)
