-- Conditionals.
use Rattle.std.proofs.Common.{◌≡◌, ℕ, zero, suc, pred, ◌≤◌, ◌<◌, Bool, true, false, ltb, List, [], ◌∷◌, ◌++◌, Ok, Err, refl, sym, ap, subst, ◌∙◌, append_assoc, arith, inl, inr}
use Rattle.std.proofs.lemmas.Bool.{ltb-true, ltb-false, le-ltb, lt-ltb, cases_lt}
use Rattle.std.proofs.lemmas.List.{append-nil}
use Rattle.vert_base.specs.declared.text.Span.{Span}
use Rattle.vert_lex.specs.declared.marks.TheConstants as mark
use Rattle.vert_lex.specs.Text.{Placed}
use Rattle.vert_lex.specs.Tokens.{Kind, Mark}
use Rattle.vert_tree.specs.Plain.{nowhere}
use Rattle.vert_tree.specs.Trees.{Tree, Literal, Truth, Word, Variable, Got, Value, OtherField, OtherWord, Draw, Negative, Not, Pair, Choice, Least, Greatest, Group, start, depth}
use Rattle.vert_grammar.specs.Faults.{Why, TooDeep}
use Rattle.vert_grammar.specs.Grammar.{Limits, Reads}
use Rattle.vert_grammar.specs.Reading.{Stop, Parser, ◌>>=◌, stop, both, made, rest, the_mark, choice, climb, tree_at}
use Rattle.vert_grammar.specs.Signs.{token, is_mark, layer}
use Rattle.grammar_laws.specs.Notions.{deep, inside, SameHead, Notion, Took, Sound, Complete, Fault, First, Follows, HasWord, both_notion}
use Rattle.grammar_laws.proofs.Readers.{bind_err, chosen, ok_is, err_is, grows_covers, grows_inside, carry, both_sound, both_complete, both_first}
use Rattle.vert_grammar.proofs.Steps.{bind_ok, six_is}
use Rattle.grammar_laws.proofs.Signs.{same-true, same-refl, is_token, sign_notion, expect_reader}
use Rattle.grammar_laws.proofs.Operators.{layer_question, question_six, layer_of_five}
use Rattle.grammar_laws.specs.Expressions.{Ends}
use Rattle.grammar_laws.proofs.Trees.{Ends-tighter, tree_notion, tree_run, depth_pos, Reads-looser, leaf, leaf_tokens, leaf_reads, free_colon}

abbrev question : Kind
question = Mark mark.QUESTION

abbrev colon : Kind
colon = Mark mark.COLON

no_question : (x : Kind) → 6 < layer x → is_mark mark.QUESTION x ≡ false
no_question x h = go (is_mark mark.QUESTION x) refl
  where
    go : (v : Bool) → is_mark mark.QUESTION x ≡ v → v ≡ false
    go true e = absurd (let q = ap layer (same-true x question e) ∙ layer_question in omega arith)
    go false e = refl

pub no_six : (x : Kind) → is_mark mark.QUESTION x ≡ false → 5 < layer x → 6 < layer x
no_six x e h = elim (cases_lt 6 (layer x)) [
  | inl lt ↦ lt
  | inr le ↦ absurd (let s : layer x ≡ 6 = omega arith in
      let t : is_mark mark.QUESTION x ≡ true = ap (λ (k : Kind). is_mark mark.QUESTION k) (question_six x s)
      ∙ same-refl question in cc)
]

-- what stands behind the question mark
abbrev tail_notion : Notion (Span × Tree)
tail_notion = both_notion (sign_notion colon) (tree_notion 6)

abbrev parts_notion : Notion (Tree × (Span × Tree))
parts_notion = both_notion (tree_notion 6) tail_notion

abbrev parts_at : ℕ → Parser (Tree × (Span × Tree))
parts_at b = both (tree_at b 6) (both (the_mark mark.COLON) (tree_at b 6))

abbrev choice_of : Tree → Tree × (Span × Tree) → Tree
choice_of c x = Choice (start c) c x.0 x.1.1

choice_form : (c : Tree) (x : Tree × (Span × Tree)) (a v : List Placed) (t : Placed) →
    is_mark mark.QUESTION t.kind ≡ true → Reads 5 c a → parts_notion.form x v → Reads 6 (choice_of c x) (a ++ t ∷ v)
choice_form c x a v t q h g = (
  omega arith,
  refl,
  record {
    front = a;
    back = t ∷ v;
    whole = refl;
    first = h;
    second = record {
      front = t ∷ [];
      back = v;
      whole = refl;
      first = (t.span, ap (λ (y : Placed). y ∷ []) (is_token t question q));
      second = record {
        front = g.front;
        back = g.back;
        whole = g.whole;
        first = g.first;
        second = record {
          front = g.second.front;
          back = g.second.back;
          whole = g.second.whole;
          first = (x.1.0, g.second.first);
          second = g.second.second;
        };
      };
    };
  },
)

choice_depth : (b : ℕ) (c : Tree) (x : Tree × (Span × Tree)) → depth c ≤ b → depth x.0 ≤ b → depth x.1.1 ≤ b →
    depth (choice_of c x) ≤ suc b
choice_depth b c x p q r = omega arith

colon_follows : Follows (tree_notion 6) tail_notion
colon_follows x y v r h f = rw (h.whole, h.first) free_colon

module _ (lim : Limits) (b : ℕ) (ih : Sound (tree_notion 6) (deep lim b) (tree_at b 6)) (c : Tree)
    (a : List Placed) where
  pub choice_sound : (ts : List Placed) (x : Tree) (r : List Placed) → Reads 5 c a → depth c ≤ suc b →
      Ends 5 ts → choice b (tree_at b 6) c ts ≡ Ok (x, r) →
      Took (tree_notion 6) (deep lim (suc b)) (a ++ ts) x r
  unfolding choice
  choice_sound [] x r h d f e =
      subst (λ (w : Tree × List Placed). Took (tree_notion 6) (deep lim (suc b)) (a ++ []) w.0 w.1) (ok_is _ _ e)
      (record { used = a; parts = refl; reads = Reads-looser 5 6 (omega arith) c a h; fits = d; ends = tt })
  choice_sound (t ∷ ts) x r h d f e =
      elim (chosen (is_mark mark.QUESTION t.kind) _ _ _ e) [
        | inr n ↦
            subst (λ (w : Tree × List Placed). Took (tree_notion 6) (deep lim (suc b)) (a ++ t ∷ ts) w.0 w.1)
            (ok_is _ _ n.1)
            (record {
              used = a;
              parts = refl;
              reads = Reads-looser 5 6 (omega arith) c a h;
              fits = d;
              ends = no_six t.kind n.0 f;
            })
        | inl y ↦ elim (chosen (ltb b (depth c)) _ _ _ y.1) [
          | inl w ↦ absurd (let q = w.1 in cc)
          | inr w ↦
              let le = ltb-false b (depth c) w.0 in
              let s = bind_ok (parts_at b ts) (λ o. Ok (choice_of c o.0, o.1)) (x, r) w.1 in
              let o = both_sound (tree_notion 6) (λ z. tail_notion) (deep lim b) (tree_at b 6) (λ z.
              both (the_mark mark.COLON) (tree_at b 6)) ih (λ z.
              both_sound (sign_notion colon) (λ z. tree_notion 6) (deep lim b) (the_mark mark.COLON) (λ z.
              tree_at b 6) ((expect_reader colon).sound (deep lim b)) (λ z. ih)) ts s.0.0 s.0.1 s.1 in
              let g : Took (tree_notion 6) (deep lim (suc b)) (a ++ t ∷ ts) (choice_of c s.0.0) s.0.1 = record {
                used = a ++ t ∷ o.used;
                parts = ap (λ (l : List Placed). a ++ t ∷ l) o.parts ∙ sym (append_assoc a (t ∷ o.used) s.0.1);
                reads = choice_form c s.0.0 a o.used t y.0 h o.reads;
                fits = choice_depth b c s.0.0 le o.fits.0 o.fits.1.1;
                ends = o.ends;
              } in
              subst (λ (w : Tree × List Placed). Took (tree_notion 6) (deep lim (suc b)) (a ++ t ∷ ts) w.0 w.1)
              (ok_is _ _ s.2) g
        ]
      ]

choice_ends : (b : ℕ) (c : Tree) (r : List Placed) → Ends 6 r → choice b (tree_at b 6) c r ≡ Ok (c, r)
unfolding choice
choice_ends b c [] h = refl
choice_ends b c (t ∷ ts) h = let p = no_question t.kind h in rw p refl

choice_goes : (b : ℕ) (c : Tree) (t : Placed) (ts : List Placed) → is_mark mark.QUESTION t.kind ≡ true → depth c ≤ b →
    choice b (tree_at b 6) c (t ∷ ts) ≡ made (choice_of c) (parts_at b) ts
unfolding choice
choice_goes b c t ts q d = let p = le-ltb b (depth c) d in rw (q, p) refl

choice_deep : (b : ℕ) (c : Tree) (t : Placed) (ts : List Placed) → is_mark mark.QUESTION t.kind ≡ true → b < depth c →
    choice b (tree_at b 6) c (t ∷ ts) ≡ stop TooDeep (t ∷ ts)
unfolding choice
choice_deep b c t ts q d = let p = lt-ltb b (depth c) d in rw (q, p) refl

parts_complete : (lim : Limits) (b : ℕ) → Complete (tree_notion 6) (deep lim b) (tree_at b 6) →
    Complete parts_notion (deep lim b) (parts_at b)
parts_complete lim b c =
    both_complete (tree_notion 6) (λ z. tail_notion) (deep lim b) (tree_at b 6) (λ z.
    both (the_mark mark.COLON) (tree_at b 6)) colon_follows c
    (λ z. both_complete (sign_notion colon) (λ z. tree_notion 6) (deep lim b) (the_mark mark.COLON) (λ z. tree_at b 6)
    (λ x y v r h f. tt) ((expect_reader colon).complete (deep lim b)) (λ z. c))

module _ (lim : Limits) (b : ℕ) (five : Complete (tree_notion 5) (deep lim (suc b)) (tree_at (suc b) 5))
    (inner : Complete (tree_notion 6) (deep lim b) (tree_at b 6)) where
  no_choice : (t : Tree) (u r : List Placed) → Reads 5 t u → depth t ≤ suc b → Ends 6 r →
      tree_at (suc b) 6 (u ++ r) ≡ Ok (t, r)
  no_choice t u r h d f = six_is b (u ++ r)
      ∙ (let e = five t u r h d (Ends-tighter 5 6 (omega arith) r f) in rw e (choice_ends b t r f))

  pub choice_complete : Complete (tree_notion 6) (deep lim (suc b)) (tree_at (suc b) 6)
  choice_complete (Literal s value) u r h d f = no_choice (Literal s value) u r h d f
  choice_complete (Truth s value) u r h d f = no_choice (Truth s value) u r h d f
  choice_complete (Word s w) u r h d f = no_choice (Word s w) u r h d f
  choice_complete (Variable s name) u r h d f = no_choice (Variable s name) u r h d f
  choice_complete (Got s name) u r h d f = no_choice (Got s name) u r h d f
  choice_complete (Value s name) u r h d f = no_choice (Value s name) u r h d f
  choice_complete (OtherField s name) u r h d f = no_choice (OtherField s name) u r h d f
  choice_complete (OtherWord s w) u r h d f = no_choice (OtherWord s w) u r h d f
  choice_complete (Draw s at number) u r h d f = no_choice (Draw s at number) u r h d f
  choice_complete (Negative s e) u r h d f = no_choice (Negative s e) u r h d f
  choice_complete (Not s e) u r h d f = no_choice (Not s e) u r h d f
  choice_complete (Least s x y) u r h d f = no_choice (Least s x y) u r h d f
  choice_complete (Greatest s x y) u r h d f = no_choice (Greatest s x y) u r h d f
  choice_complete (Group s e) u r h d f = no_choice (Group s e) u r h d f
  choice_complete (Pair s op l x) u r h d f = no_choice (Pair s op l x) u r (layer_of_five op, h.1, h.2) d f
  choice_complete (Choice s c x y) u r h d f =
      let p = h.2 in
      let q = p.second in
      let g = q.second in
      let k = g.second in
      let t = token q.first.0 question in
      let z : Tree × (Span × Tree) = (x, (k.first.0, y)) in
      let whole : u ++ r ≡ p.front ++ (t ∷ (q.back ++ r)) =
      rw (p.whole, q.whole, q.first.1) (append_assoc p.front (t ∷ q.back) r) in
      let form : parts_notion.form z q.back =
      record {
        front = g.front;
        back = g.back;
        whole = g.whole;
        first = g.first;
        second = record { front = k.front; back = k.back; whole = k.whole; first = k.first.1; second = k.second };
      } in
      let e1 : tree_at (suc b) 5 (p.front ++ (t ∷ (q.back ++ r))) ≡ Ok (c, t ∷ (q.back ++ r)) =
      five c p.front (t ∷ (q.back ++ r)) p.first (omega arith) (let w = layer_question in omega arith) in
      let e2 : choice b (tree_at b 6) c (t ∷ (q.back ++ r)) ≡ made (choice_of c) (parts_at b) (q.back ++ r) =
      choice_goes b c t (q.back ++ r) refl (omega arith) in
      let e3 : parts_at b (q.back ++ r) ≡ Ok (z, r) =
      parts_complete lim b inner z q.back r form (omega arith, (tt, omega arith)) f in
      let e4 : made (choice_of c) (parts_at b) (q.back ++ r) ≡ Ok (choice_of c z, r) = rw e3 refl in
      ap (tree_at (suc b) 6) whole ∙ six_is b (p.front ++ (t ∷ (q.back ++ r)))
      ∙ ap (λ i. i >>= λ x. choice b (tree_at b 6) x.0 x.1) e1 ∙ e2 ∙ e4
      ∙ ap (λ (n : Span). Ok (Choice n c x y, r)) (sym h.1)

-- ---- the first fault in a conditional
module _ (lim : Limits) (b : ℕ) (sound : Sound (tree_notion 6) (deep lim b) (tree_at b 6)) (five : (m : Limits) →
    Complete (tree_notion 5) m (tree_at m.depth 5)) (inner : (m : Limits) →
    Complete (tree_notion 6) m (tree_at m.depth 6)) (first : 1 ≤ b → First (tree_notion 6) (tree_run 6) (deep lim b))
  where
    abbrev Outer : List Placed → Stop → Type 0
    Outer ts s = Fault (tree_notion 6) (tree_run 6) (deep lim (suc b)) ts s

    -- what follows the test, the whole does
    module _ (left : Tree) (a more : List Placed) (w : Why) (rest : List Placed) where
      from_test : (c : ℕ) → suc b ≤ c → Reads 5 left a → depth left ≤ suc b → Ends 5 more →
          ((d : ℕ) → b ≤ d → suc d ≡ c → choice d (tree_at d 6) left more ≡ stop w rest) →
          tree_at c 6 (a ++ more) ≡ stop w rest
      from_test zero le h d f e = absurd (omega arith)
      from_test (suc c) le h d f e =
          six_is c (a ++ more) ∙ ap (λ i. i >>= λ x. choice c (tree_at c 6) x.0 x.1)
          (five (deep lim (suc c)) left a more h (omega arith) f) ∙ e c (omega arith) refl

    mark_ends : (t : Placed) (ts : List Placed) → is_mark mark.QUESTION t.kind ≡ true → Ends 5 (t ∷ ts)
    mark_ends t ts q = (let w = ap layer (same-true t.kind question q) ∙ layer_question in omega arith)

    least : Tree × (Span × Tree)
    least = (leaf, (nowhere, leaf))

    too_deep : (c : Tree) (a ts : List Placed) (t : Placed) → Reads 5 c a → depth c ≤ suc b →
        is_mark mark.QUESTION t.kind ≡ true → b < depth c →
        Outer (a ++ t ∷ ts) (record { why = TooDeep; rest = t ∷ ts })
    unfolding least
    too_deep c a ts t h d q deeper =
        let rest_tokens = leaf_tokens ++ (token nowhere colon ∷ leaf_tokens) in
        let form : parts_notion.form least rest_tokens =
        record {
          front = leaf_tokens;
          back = token nowhere colon ∷ leaf_tokens;
          whole = refl;
          first = leaf_reads 6;
          second = record {
            front = token nowhere colon ∷ [];
            back = leaf_tokens;
            whole = refl;
            first = refl;
            second = leaf_reads 6;
          };
        } in
        record {
          used = a;
          parts = refl;
          front = ([], c, subst (Reads 6 c) (sym (append-nil a)) (Reads-looser 5 6 (omega arith) c a h), d);
          stays = λ m more c' sh. subst (λ (j : ℕ). tree_at j 6 (a ++ more) ≡ stop TooDeep more) c'.0 (go more sh);
          beyond = (
            rest_tokens,
            choice_of c least,
            subst (Reads 6 (choice_of c least)) (sym (append_assoc a (t ∷ []) rest_tokens))
                (choice_form c least a rest_tokens t q h form),
            tt,
          );
        }
      where
        go : (more : List Placed) → SameHead more (t ∷ ts) → tree_at (suc b) 6 (a ++ more) ≡ stop TooDeep more
        go [] sh = absurd sh
        go (m ∷ ms) sh =
            let mq : is_mark mark.QUESTION m.kind ≡ true = ap (λ (i : Placed). is_mark mark.QUESTION i.kind) sh ∙ q in
            from_test c a (m ∷ ms) TooDeep (m ∷ ms) (suc b) (omega arith) h d (mark_ends m ms mq) (λ e le is.
            choice_deep e c m ms mq (omega arith))

    tail_word : 1 ≤ b → HasWord tail_notion (deep lim b)
    tail_word some = (
      (nowhere, leaf),
      token nowhere colon ∷ leaf_tokens,
      record {
        front = token nowhere colon ∷ [];
        back = leaf_tokens;
        whole = refl;
        first = refl;
        second = leaf_reads 6;
      },
      (tt, some),
    )

    tail_first : 1 ≤ b → First tail_notion (λ m. both (the_mark mark.COLON) (tree_at m.depth 6)) (deep lim b)
    tail_first some =
        both_first (sign_notion colon) (λ z. tree_notion 6) (deep lim b) (λ m. the_mark mark.COLON) (λ z. tree_run 6)
        (λ x y v r h f. tt) (λ z. (leaf, leaf_tokens, leaf_reads 6, some))
        ((expect_reader colon).sound (deep lim b)) (λ m c. (expect_reader colon).complete m)
        ((expect_reader colon).first (deep lim b) some) (λ z. first some)

    parts_first : 1 ≤ b → First parts_notion (λ m. parts_at m.depth) (deep lim b)
    parts_first some =
        both_first (tree_notion 6) (λ z. tail_notion) (deep lim b) (tree_run 6) (λ z m.
        both (the_mark mark.COLON) (tree_at m.depth 6)) colon_follows (λ z. tail_word some) sound (λ m c. inner m)
        (first some) (λ z. tail_first some)

    module _ (c : Tree) (a ts : List Placed) (t : Placed) (s : Stop) where
      in_parts : Reads 5 c a → depth c ≤ suc b → is_mark mark.QUESTION t.kind ≡ true → depth c ≤ b →
          parts_at b ts ≡ Err s → Outer (a ++ t ∷ ts) s
      in_parts h d q fits e =
          let some : 1 ≤ b = (let p = depth_pos c in omega arith) in
          let on = λ (u : List Placed) (x : Tree × (Span × Tree)) (more : List Placed)
          (g : parts_notion.form x (u ++ more)).
          let k : Reads 6 (choice_of c x) (((a ++ t ∷ []) ++ u) ++ more) =
          subst (Reads 6 (choice_of c x)) (sym (ap (λ l. l ++ more) (append_assoc a (t ∷ []) u)
          ∙ append_assoc a (t ∷ u) more)) (choice_form c x a (u ++ more) t q h g) in k in
          subst (λ l. Outer l s) (append_assoc a (t ∷ []) ts)
          (carry parts_notion (tree_notion 6) (λ m. parts_at m.depth) (tree_run 6) inside (deep lim (suc b)) ts
          (a ++ t ∷ []) s (parts_first some ts s e) (λ m c. grows_inside s.why (deep lim (suc b)) m c)
          (λ u w. (w.0, choice_of c w.1, on u w.1 w.0 w.2, choice_depth b c w.1 fits w.3.0 w.3.1.1))
          (λ u w. (w.0, choice_of c w.1, on u w.1 w.0 w.2, choice_depth b c w.1 fits w.3.0 w.3.1.1))
          (λ u w. (w.0, choice_of c w.1, on u w.1 w.0 w.2, tt))
          (λ m u more w g sh parts p.
          let le = (grows_covers w (deep lim (suc b)) m g).depth in
          ap (tree_at m.depth 6) (append_assoc a (t ∷ []) (u ++ more))
          ∙ from_test c a (t ∷ (u ++ more)) w more m.depth le h d (mark_ends t (u ++ more) q) (λ x xb is.
          choice_goes x c t (u ++ more) q (omega arith)
          ∙ (let z : parts_at x (u ++ more)
          ≡ stop w more = subst (λ (j : ℕ). parts_at (pred j) (u ++ more) ≡ stop w more) (sym is) p in rw z refl))))

    pub choice_first : (c : Tree) (a ts : List Placed) (s : Stop) → Reads 5 c a → depth c ≤ suc b →
        choice b (tree_at b 6) c ts ≡ Err s → Outer (a ++ ts) s
    unfolding choice
    choice_first c a [] s h d e = absurd cc
    choice_first c a (t ∷ ts) s h d e =
        elim (chosen (is_mark mark.QUESTION t.kind) _ _ _ e) [
          | inr n ↦ absurd (let q = n.1 in cc)
          | inl y ↦ elim (chosen (ltb b (depth c)) _ _ _ y.1) [
            | inl w ↦ subst (Outer (a ++ t ∷ ts)) (err_is (Tree × List Placed) _ _ w.1)
                (too_deep c a ts t h d y.0 (ltb-true b (depth c) w.0))
            | inr w ↦ elim (bind_err (parts_at b ts) (λ o. Ok (choice_of c o.0, o.1)) s w.1) [
              | inl g ↦ in_parts c a ts t s h d y.0 (ltb-false b (depth c) w.0) g
              | inr g ↦ absurd (let q = g.2 in cc)
            ]
          ]
        ]
