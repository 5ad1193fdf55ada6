-- What is read is taken from the front, so that fewer tokens are left.
use Rattle.std.proofs.Common.{◌≡◌, ℕ, zero, suc, ◌+◌, ◌≤◌, ◌⊎◌, Bool, true, false, cond, List, [], ◌∷◌, length, Option, None, Some, Result, Ok, Err, refl, ap, arith, ltb, eqb}
use Rattle.std.specs.Prelude.{◌&&◌}
use Rattle.vert_base.specs.declared.text.Span.{Span}
use Rattle.vert_lex.specs.Text.{Placed}
use Rattle.vert_lex.specs.Tokens.{Kind, Reserved, Mark}
use Rattle.vert_lex.specs.declared.marks.TheConstants as mark
use Rattle.vert_lex.specs.declared.words.TheConstants as word
use Rattle.vert_tree.specs.Trees.{Named, Tree, Negative, Not, Pair, Choice, Least, Greatest, Group, start, depth, Statement, Statements}
use Rattle.vert_tree.specs.Views.{if_of}
use Rattle.vert_tree.specs.declared.expression.Builtin.{Builtin}
use Rattle.vert_tree.specs.declared.statement.AssignOp.{AssignOp}
use Rattle.vert_grammar.specs.Faults.{Why, Unexpected, TooDeep}
use Rattle.vert_grammar.specs.Grammar.{Rights}
use Rattle.vert_grammar.specs.Reading.{Stop, Res, Parser, ◌>>=◌, stop, both, both_by, made, begins, if_begins, unless, maybe, place, kind, rest, single, expect, the_mark, the_word, name_at, many_from, many, node, is_atom, atom_of, is_member, member_of, named_at, is_other_at, other_in, other_of, other_at, draw_of, draw_at, grouped, two_of, prefixed, unary, turn, chain, choice, after, climb, tree_at, is_comparison, ended_by, block_of, is_large_op, large_op, is_small_op, small_op, op_at, assign_at, set_active_at, emit_at, break_at, choose, goes_on, braced, else_of, statement_at}
use Rattle.vert_grammar.specs.Signs.{is_mark, is_name, is_number, is_word, layer, number_in, operator, same, text_in}
use Rattle.vert_grammar.proofs.Steps.{bind_ok}

-- at least d tokens are read
abbrev pub Shrinks : {A : Type 0} → ℕ → Parser A → Type 0
Shrinks {A = A} d p = (ts : List Placed) (x : A) (r : List Placed) → p ts ≡ Ok (x, r) → length r + d ≤ length ts

abbrev okay : {A : Type 0} → A → List Placed → Res A
okay x r = Ok (x, r)

left_in : {A : Type 0} → Res A → List Placed
left_in (Ok z) = z.1
left_in (Err s) = []

-- the tokens that are left are the same
left_is : {A : Type 0} (x y : A) (r l : List Placed) → okay x r ≡ okay y l → r ≡ l
unfolding left_in
left_is x y r l e = ap left_in e

-- a choice by a test is one of the two
by_test : {A : Type 0} (b : Bool) (p q : Res A) (P : Type 0) (y : A × List Placed) → cond b p q ≡ Ok y →
    (b ≡ true → p ≡ Ok y → P) → (b ≡ false → q ≡ Ok y → P) → P
by_test true p q P y e f g = f refl e
by_test false p q P y e f g = g refl e

-- ---- readers made of readers
pub weaker : {A : Type 0} (d : ℕ) (p : Parser A) → Shrinks d p → Shrinks 0 p
weaker d p h ts x r e = let l = h ts x r e in omega arith

pub made_shrinks : {A B : Type 0} (d : ℕ) (f : A → B) (p : Parser A) → Shrinks d p → Shrinks d (made f p)
made_shrinks {A = A} {B = B} d f p h ts x r e =
    let s = bind_ok (p ts) (λ y. Ok (f y.0, y.1)) (x, r) e in
    let l = left_is (f s.0.0) x s.0.1 r s.2 in
    let q = h ts s.0.0 s.0.1 s.1 in
    rw (← l) q

pub both_by_shrinks : {A B : Type 0} (d : ℕ) (p : Parser A) (q : A → Parser B) → Shrinks d p →
    ((x : A) → Shrinks 0 (q x)) → Shrinks d (both_by p q)
both_by_shrinks {A = A} {B = B} d p q h g ts x r e =
    let s = bind_ok (p ts) (λ y. q y.0 y.1 >>= λ z. Ok ((y.0, z.0), z.1)) (x, r) e in
    let t = bind_ok (q s.0.0 s.0.1) (λ z. Ok ((s.0.0, z.0), z.1)) (x, r) s.2 in
    let l = left_is (s.0.0, t.0.0) x t.0.1 r t.2 in
    let m = h ts s.0.0 s.0.1 s.1 in
    let n = g s.0.0 s.0.1 t.0.0 t.0.1 t.1 in
    rw (← l) (omega arith)

pub both_shrinks : {A B : Type 0} (d : ℕ) (p : Parser A) (q : Parser B) → Shrinks d p → Shrinks 0 q →
    Shrinks d (both p q)
both_shrinks d p q h g = both_by_shrinks d p (λ x. q) h (λ x. g)

pub if_shrinks : {A : Type 0} (d : ℕ) (f : Kind → Bool) (p q : Parser A) → Shrinks d p → Shrinks d q →
    Shrinks d (if_begins f p q)
if_shrinks d f p q h g ts x r e = by_test (begins f ts) (p ts) (q ts) (length r + d ≤ length ts) (x, r) e (λ _ i.
    h ts x r i) (λ _ i. g ts x r i)

pub stop_shrinks : {A : Type 0} (d : ℕ) (w : Why) → Shrinks d (stop {A = A} w)
stop_shrinks d w ts x r e = absurd cc

pub single_shrinks : {A : Type 0} (f : Kind → Bool) (g : Span → Kind → A) → Shrinks 1 (single f g)
unfolding single
single_shrinks f g [] x r e = absurd cc
single_shrinks f g (t ∷ ts) x r e = by_test (f t.kind) (Ok (g t.span t.kind, ts)) (stop Unexpected (t ∷ ts))
    (length r + 1 ≤ suc (length ts)) (x, r) e
    (λ _ i. let l = left_is (g t.span t.kind) x ts r i in rw (← l) (omega arith))
    (λ _ i. absurd cc)

unless_shrinks : {A : Type 0} (d : ℕ) (f : Kind → Bool) (p : Parser A) → Shrinks d p → Shrinks d (unless f p)
unless_shrinks {A = A} d f p h ts x r e =
    let s = bind_ok (p ts) (λ y. cond (begins f y.1) (stop Unexpected y.1) (Ok y)) (x, r) e in
    let m = h ts s.0.0 s.0.1 s.1 in
    by_test (begins f s.0.1) (stop Unexpected s.0.1) (Ok s.0) (length r + d ≤ length ts) (x, r) s.2 (λ _ i. absurd cc)
    (λ _ i. let l = left_is s.0.0 x s.0.1 r i in rw (← l) m)

none_shrinks : {A : Type 0} (z : A) → Shrinks 0 (λ ts. Ok (z, ts))
none_shrinks z ts x r e = let l = left_is z x ts r e in rw (← l) (omega arith)

maybe_shrinks : {A : Type 0} (f : Kind → Bool) (p : Parser A) → Shrinks 0 p → Shrinks 0 (maybe f p)
maybe_shrinks f p h = if_shrinks 0 f (made (λ x. Some x) p) (λ ts. Ok (None, ts)) (made_shrinks 0 (λ x. Some x) p h)
    (none_shrinks None)

rest_less : (ts : List Placed) → length (rest ts) ≤ length ts
rest_less [] = omega arith
rest_less (t ∷ ts) = omega arith

node_shrinks : {A B : Type 0} (b : ℕ) (f : Span → A → B) (p : Parser A) → Shrinks 0 p → Shrinks 0 (node b f p)
node_shrinks {A = A} {B = B} b f p h ts x r e = by_test (eqb b 0) (stop TooDeep ts) (made (f (place ts)) p (rest ts))
    (length r + 0 ≤ length ts) (x, r) e
    (λ _ i. absurd cc)
    (λ _ i. let m = made_shrinks 0 (f (place ts)) p h (rest ts) x r i in let n = rest_less ts in omega arith)

-- ---- one token
expect_shrinks : (k : Kind) → Shrinks 0 (expect k)
expect_shrinks k = weaker 1 (expect k) (single_shrinks (λ x. same x k) (λ s x. s))

name_shrinks : Shrinks 1 name_at
name_shrinks = single_shrinks is_name (λ s k. record { span = s; text = text_in k })

-- ---- expressions
member_shrinks : Shrinks 0 (single is_member (λ s k. is_word word.GOT k))
member_shrinks = weaker 1 (single is_member (λ s k. is_word word.GOT k))
    (single_shrinks is_member (λ s k. is_word word.GOT k))

abbrev asked : Parser Bool
asked = made (λ x. x.1) (both (the_mark mark.DOT) (single is_member (λ s k. is_word word.GOT k)))

asked_shrinks : Shrinks 0 asked
asked_shrinks =
    made_shrinks 0 (λ (x : Span × Bool). x.1) (both (the_mark mark.DOT) (single is_member (λ s k. is_word word.GOT k)))
    (both_shrinks 0 (the_mark mark.DOT) (single is_member (λ s k. is_word word.GOT k))
    (expect_shrinks (Mark mark.DOT)) member_shrinks)

named_shrinks : Shrinks 0 named_at
unfolding named_at
named_shrinks =
    made_shrinks 0 member_of (both name_at (maybe (is_mark mark.DOT) asked))
    (both_shrinks 0 name_at (maybe (is_mark mark.DOT) asked) (weaker 1 name_at name_shrinks)
    (maybe_shrinks (is_mark mark.DOT) asked asked_shrinks))

abbrev other_part : Parser (Named ⊎ Builtin)
other_part = single is_other_at other_in

other_shrinks : Shrinks 0 other_at
unfolding other_at
other_shrinks =
    made_shrinks 0 other_of (both (the_word word.U) (both (the_mark mark.DOT) other_part))
    (both_shrinks 0 (the_word word.U) (both (the_mark mark.DOT) other_part) (expect_shrinks (Reserved word.U))
    (both_shrinks 0 (the_mark mark.DOT) other_part (expect_shrinks (Mark mark.DOT))
    (weaker 1 other_part (single_shrinks is_other_at other_in))))

abbrev number_part : Parser (Span × ℕ)
number_part = single is_number (λ s k. (s, number_in k))

draw_shrinks : Shrinks 0 draw_at
unfolding draw_at
draw_shrinks =
    made_shrinks 0 draw_of (both (the_word word.DRAW)
    (both (the_mark mark.LEFT_PARENTHESIS) (both number_part (the_mark mark.RIGHT_PARENTHESIS))))
    (both_shrinks 0 (the_word word.DRAW) (both (the_mark mark.LEFT_PARENTHESIS)
    (both number_part (the_mark mark.RIGHT_PARENTHESIS))) (expect_shrinks (Reserved word.DRAW))
    (both_shrinks 0 (the_mark mark.LEFT_PARENTHESIS) (both number_part (the_mark mark.RIGHT_PARENTHESIS))
    (expect_shrinks (Mark mark.LEFT_PARENTHESIS))
    (both_shrinks 0 number_part (the_mark mark.RIGHT_PARENTHESIS)
    (weaker 1 number_part (single_shrinks is_number (λ s k. (s, number_in k))))
    (expect_shrinks (Mark mark.RIGHT_PARENTHESIS)))))

module _ (b : ℕ) (below : ℕ → Parser Tree) (h : (k : ℕ) → Shrinks 0 (below k)) where
  grouped_shrinks : Shrinks 0 (grouped below)
  grouped_shrinks = both_shrinks 0 (below 6) (the_mark mark.RIGHT_PARENTHESIS) (h 6)
      (expect_shrinks (Mark mark.RIGHT_PARENTHESIS))

  second_shrinks : Shrinks 0 (both (the_mark mark.COMMA) (grouped below))
  second_shrinks = both_shrinks 0 (the_mark mark.COMMA) (grouped below) (expect_shrinks (Mark mark.COMMA))
      grouped_shrinks

  two_shrinks : Shrinks 0 (two_of below)
  two_shrinks =
      both_shrinks 0 (the_mark mark.LEFT_PARENTHESIS) (both (below 6) (both (the_mark mark.COMMA) (grouped below)))
      (expect_shrinks (Mark mark.LEFT_PARENTHESIS))
      (both_shrinks 0 (below 6) (both (the_mark mark.COMMA) (grouped below)) (h 6) second_shrinks)

  prefixed_shrinks : Shrinks 0 (prefixed b below)
  unfolding prefixed
  prefixed_shrinks =
      if_shrinks 0 (is_mark mark.MINUS) _ _ (node_shrinks b Negative (below 0) (h 0))
      (if_shrinks 0 (is_mark mark.NOT) _ _ (node_shrinks b Not (below 0) (h 0))
      (if_shrinks 0 (is_mark mark.LEFT_PARENTHESIS) _ _
      (node_shrinks b (λ s x. Group s x.0) (grouped below) grouped_shrinks)
      (if_shrinks 0 (is_word word.MIN) _ _ (node_shrinks b (λ s x. Least s x.1.0 x.1.1.1.0) (two_of below) two_shrinks)
      (if_shrinks 0 (is_word word.MAX) _ _
      (node_shrinks b (λ s x. Greatest s x.1.0 x.1.1.1.0) (two_of below) two_shrinks)
      (if_shrinks 0 is_name _ _ named_shrinks
      (if_shrinks 0 (is_word word.U) _ _ other_shrinks
      (if_shrinks 0 (is_word word.DRAW) _ _ draw_shrinks
      (weaker 1 (single is_atom atom_of) (single_shrinks is_atom atom_of)))))))))

  unary_shrinks : Shrinks 0 (unary b below)
  unfolding unary
  unary_shrinks = unless_shrinks 0 (is_mark mark.DOT) (prefixed b below) prefixed_shrinks

  turn_shrinks : (k j : ℕ) (again : Tree → Parser Tree) → ((t : Tree) → Shrinks 0 (again t)) → (left : Tree) →
      Shrinks 0 (turn b k (below j) again left)
  unfolding turn
  turn_shrinks k j again g left ts x r e =
      by_test (begins (λ x. eqb (layer x) k) ts) _ (Ok (left, ts)) (length r + 0 ≤ length ts) (x, r) e
      (λ _ i. by_test (eqb k 3 && is_comparison left) (stop Unexpected ts) _ (length r + 0 ≤ length ts) (x, r) i
      (λ _ m. absurd cc)
      (λ _ m. by_test (ltb b (depth left)) (stop TooDeep ts) _ (length r + 0 ≤ length ts) (x, r) m (λ _ n. absurd cc)
      (λ _ n.
      let s = bind_ok (below j (rest ts)) (λ y. again (Pair (start left) (operator (kind ts)) left y.0) y.1) (x, r) n in
      let p = h j (rest ts) s.0.0 s.0.1 s.1 in
      let q = g (Pair (start left) (operator (kind ts)) left s.0.0) s.0.1 x r s.2 in
      let l = rest_less ts in
      omega arith)))
      (λ _ i. none_shrinks left ts x r i)

  chain_shrinks : (k j f : ℕ) (left : Tree) → Shrinks 0 (chain b k (below j) f left)
  unfolding chain
  chain_shrinks k j zero = turn_shrinks k j (λ left. stop TooDeep) (λ t. stop_shrinks 0 TooDeep)
  chain_shrinks k j (suc f) = turn_shrinks k j (chain b k (below j) f) (chain_shrinks k j f)

  abbrev rest_of_choice : Parser (Tree × (Span × Tree))
  rest_of_choice = both (below 6) (both (the_mark mark.COLON) (below 6))

  choice_shrinks : (test : Tree) → Shrinks 0 (choice b (below 6) test)
  unfolding choice
  choice_shrinks test ts x r e =
      by_test (begins (is_mark mark.QUESTION) ts) _ (Ok (test, ts)) (length r + 0 ≤ length ts) (x, r) e
      (λ _ i. by_test (ltb b (depth test)) (stop TooDeep ts) _ (length r + 0 ≤ length ts) (x, r) i (λ _ m. absurd cc)
      (λ _ m.
      let q : Shrinks 0 rest_of_choice = both_shrinks 0 (below 6) (both (the_mark mark.COLON) (below 6)) (h 6)
      (both_shrinks 0 (the_mark mark.COLON) (below 6) (expect_shrinks (Mark mark.COLON)) (h 6)) in
      let p = made_shrinks 0 (λ (x : Tree × (Span × Tree)). Choice (start test) test x.0 x.1.1) rest_of_choice q
      (rest ts) x r m in
      let l = rest_less ts in
      omega arith))
      (λ _ i. none_shrinks test ts x r i)

  after_shrinks : (k : ℕ) (t : Tree) → Shrinks 0 (after b below k t)
  after_shrinks k t = go (eqb k 5)
    where
      go : (v : Bool) → Shrinks 0 (cond v (choice b (below 6)) (chain b (suc k) (below k) b) t)
      go true = choice_shrinks t
      go false = chain_shrinks (suc k) k b t

  climb_shrinks : (k : ℕ) → Shrinks 0 (climb b below k)
  unfolding climb
  climb_shrinks zero = unary_shrinks
  climb_shrinks (suc k) = λ ts x r e.
      let s = bind_ok (climb b below k ts) (λ y. after b below k y.0 y.1) (x, r) e in
      let p = climb_shrinks k ts s.0.0 s.0.1 s.1 in
      let q = after_shrinks k s.0.0 s.0.1 x r s.2 in
      omega arith

pub tree_shrinks : (b k : ℕ) → Shrinks 0 (tree_at b k)
unfolding tree_at
tree_shrinks zero k = stop_shrinks 0 TooDeep
tree_shrinks (suc b) k = climb_shrinks b (tree_at b) (tree_shrinks b) k

ended_shrinks : (m b : ℕ) → Shrinks 0 (ended_by m b)
ended_shrinks m b = both_shrinks 0 (tree_at b 6) (the_mark m) (tree_shrinks b 6) (expect_shrinks (Mark m))

-- ---- statements
op_shrinks : Shrinks 0 op_at
unfolding op_at
op_shrinks =
    if_shrinks 0 is_large_op _ _
    (made_shrinks 0 (λ (x : AssignOp × Span). x.0)
    (both (single is_large_op (λ s k. large_op k)) (the_mark mark.ASSIGN))
    (both_shrinks 0 (single is_large_op (λ s k. large_op k)) (the_mark mark.ASSIGN)
    (weaker 1 (single is_large_op (λ s k. large_op k)) (single_shrinks is_large_op (λ s k. large_op k)))
    (expect_shrinks (Mark mark.ASSIGN))))
    (weaker 1 (single is_small_op (λ s k. small_op k)) (single_shrinks is_small_op (λ s k. small_op k)))

assign_shrinks : (b : ℕ) → Shrinks 1 (assign_at b)
unfolding assign_at
assign_shrinks b =
    made_shrinks 1 _ (both name_at (both op_at (ended_by mark.SEMICOLON b)))
    (both_shrinks 1 name_at (both op_at (ended_by mark.SEMICOLON b)) name_shrinks
    (both_shrinks 0 op_at (ended_by mark.SEMICOLON b) op_shrinks (ended_shrinks mark.SEMICOLON b)))

set_active_shrinks : (b : ℕ) → Shrinks 1 (set_active_at b)
unfolding set_active_at
set_active_shrinks b =
    made_shrinks 1 _ (both (the_word word.ACTIVE) (both (the_mark mark.ASSIGN) (ended_by mark.SEMICOLON b)))
    (both_shrinks 1 (the_word word.ACTIVE) (both (the_mark mark.ASSIGN) (ended_by mark.SEMICOLON b))
    (single_shrinks (λ x. same x (Reserved word.ACTIVE)) (λ s x. s))
    (both_shrinks 0 (the_mark mark.ASSIGN) (ended_by mark.SEMICOLON b) (expect_shrinks (Mark mark.ASSIGN))
    (ended_shrinks mark.SEMICOLON b)))

emit_shrinks : (b : ℕ) → Shrinks 1 (emit_at b)
unfolding emit_at
emit_shrinks b =
    made_shrinks 1 _ (both (the_word word.EMIT) (both name_at (ended_by mark.SEMICOLON b)))
    (both_shrinks 1 (the_word word.EMIT) (both name_at (ended_by mark.SEMICOLON b))
    (single_shrinks (λ x. same x (Reserved word.EMIT)) (λ s x. s))
    (both_shrinks 0 name_at (ended_by mark.SEMICOLON b) (weaker 1 name_at name_shrinks)
    (ended_shrinks mark.SEMICOLON b)))

break_shrinks : Shrinks 1 break_at
unfolding break_at
break_shrinks =
    made_shrinks 1 _ (both (the_word word.BREAK) (the_mark mark.SEMICOLON))
    (both_shrinks 1 (the_word word.BREAK) (the_mark mark.SEMICOLON)
    (single_shrinks (λ x. same x (Reserved word.BREAK)) (λ s x. s)) (expect_shrinks (Mark mark.SEMICOLON)))

many_shrinks : {A : Type 0} (f : Kind → Bool) (p : Parser A) → Shrinks 0 p → (n : ℕ) → Shrinks 0 (many_from f p n)
unfolding many_from
many_shrinks f p h zero = none_shrinks []
many_shrinks {A = A} f p h (suc n) =
    if_shrinks 0 f _ (λ ts. Ok ([], ts)) (made_shrinks 0 (λ (x : A × List A). x.0 ∷ x.1) (both p (many_from f p n))
    (both_shrinks 0 p (many_from f p n) h (many_shrinks f p h n))) (none_shrinks [])

all_shrinks : {A : Type 0} (f : Kind → Bool) (p : Parser A) → Shrinks 0 p → Shrinks 0 (many f p)
unfolding many
all_shrinks f p h ts x r e = many_shrinks f p h (length ts) ts x r e

braced_shrinks : (p : Parser Statement) → Shrinks 0 p → Shrinks 0 (braced p)
braced_shrinks p h =
    made_shrinks 0 (λ (x : Span × (List Statement × Span)). block_of x.1.0)
    (both (the_mark mark.LEFT_BRACE) (both (many goes_on p) (the_mark mark.RIGHT_BRACE)))
    (both_shrinks 0 (the_mark mark.LEFT_BRACE) (both (many goes_on p) (the_mark mark.RIGHT_BRACE))
    (expect_shrinks (Mark mark.LEFT_BRACE))
    (both_shrinks 0 (many goes_on p) (the_mark mark.RIGHT_BRACE) (all_shrinks goes_on p h)
    (expect_shrinks (Mark mark.RIGHT_BRACE))))

else_shrinks : (p : Parser Statement) → Shrinks 0 p → Shrinks 0 (else_of p)
else_shrinks p h =
    maybe_shrinks (is_word word.ELSE) (made (λ x. x.1) (both (the_word word.ELSE) (braced p)))
    (made_shrinks 0 (λ (x : Span × Statements). x.1) (both (the_word word.ELSE) (braced p))
    (both_shrinks 0 (the_word word.ELSE) (braced p) (expect_shrinks (Reserved word.ELSE)) (braced_shrinks p h)))

-- An `if` takes its first token.
abbrev Takes : Parser Statement → Type 0
Takes p = (t : Placed) (ts : List Placed) (x : Statement) (r : List Placed) → p (t ∷ ts) ≡ Ok (x, r) →
    length r + 1 ≤ suc (length ts)

choose_shrinks : (r : Rights) (b : ℕ) (branch : Parser Statement) → Takes branch → Shrinks 1 (choose r b branch)
unfolding choose
choose_shrinks rights b branch h [] x r e = absurd cc
choose_shrinks rights b branch h (t ∷ ts) x r e =
    by_test (is_word word.IF t.kind) (branch (t ∷ ts)) _ (length r + 1 ≤ suc (length ts)) (x, r) e
    (λ _ i. h t ts x r i)
    (λ _ i. if_shrinks 1 (λ k. rights.assigns && is_name k) (assign_at b) _ (assign_shrinks b)
    (if_shrinks 1 (λ k. rights.activates && is_word word.ACTIVE k) (set_active_at b) _ (set_active_shrinks b)
    (if_shrinks 1 (λ k. rights.emits && is_word word.EMIT k) (emit_at b) _ (emit_shrinks b)
    (if_shrinks 1 (λ k. rights.breaks && is_word word.BREAK k) break_at (stop Unexpected) break_shrinks
    (stop_shrinks 1 Unexpected)))) (t ∷ ts) x r i)

pub statement_shrinks : (r : Rights) (b : ℕ) → Shrinks 1 (statement_at r b)
unfolding statement_at
statement_shrinks r zero = choose_shrinks r zero (stop TooDeep) (λ t ts x l e. absurd cc)
statement_shrinks r (suc b) = choose_shrinks r (suc b) _ (λ t ts x l e.
    by_test (eqb b 0) (stop TooDeep (t ∷ ts)) _ (length l + 1 ≤ suc (length ts)) (x, l) e
    (λ _ i. absurd cc)
    (λ _ i.
    let p = weaker 1 (statement_at r b) (statement_shrinks r b) in
    let q = both_shrinks 0 (tree_at b 6) _ (tree_shrinks b 6)
    (both_shrinks 0 (braced (statement_at r b)) (else_of (statement_at r b)) (braced_shrinks (statement_at r b) p)
    (else_shrinks (statement_at r b) p)) in
    let m = made_shrinks 0 (λ (x : Tree × (Statements × Option Statements)). if_of t.span x.0 x.1.0 x.1.1)
    (both (tree_at b 6) (both (braced (statement_at r b)) (else_of (statement_at r b)))) q ts x l i in
    omega arith))
