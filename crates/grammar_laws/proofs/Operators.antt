-- The marks that take an expression on.
use Rattle.std.proofs.Common.{◌≡◌, ℕ, suc, ◌≤◌, ◌<◌, Bool, true, false, cond, eqb, ltb, leb, refl, ap, subst, ◌∙◌, arith, inl, inr}
use Rattle.std.proofs.lemmas.Bool.{eqb-true, ltb-false, leb-true, cases_lt}
use Rattle.vert_lex.specs.declared.marks.TheConstants as mark
use Rattle.vert_lex.specs.Tokens.{Kind, Reserved, Mark, Number, Name}
use Rattle.vert_tree.specs.declared.expression.BinOp.{BinOp}
use Rattle.vert_tree.specs.declared.expression.BinOp.TheVariants.{Add, Sub, Mul, Div, Rem, Eq, Ne, Lt, Le, Gt, Ge, And, Or}
use Rattle.vert_grammar.specs.Signs.{is_mark, layer_of, mark_of, operator_of, operator, layer_at, layer}
use Rattle.grammar_laws.proofs.Signs.{same-true}

-- from its mark an operator is known, and its layer
pub operator_back : (op : BinOp) → operator (Mark (mark_of op)) ≡ op
unfolding operator_of
operator_back Add = refl
operator_back Sub = refl
operator_back Mul = refl
operator_back Div = refl
operator_back Rem = refl
operator_back Eq = refl
operator_back Ne = refl
operator_back Lt = refl
operator_back Le = refl
operator_back Gt = refl
operator_back Ge = refl
operator_back And = refl
operator_back Or = refl

pub layer_back : (op : BinOp) → layer (Mark (mark_of op)) ≡ layer_of op
unfolding layer_at
layer_back Add = refl
layer_back Sub = refl
layer_back Mul = refl
layer_back Div = refl
layer_back Rem = refl
layer_back Eq = refl
layer_back Ne = refl
layer_back Lt = refl
layer_back Le = refl
layer_back Gt = refl
layer_back Ge = refl
layer_back And = refl
layer_back Or = refl

pub layer_of_pos : (op : BinOp) → 1 ≤ layer_of op
layer_of_pos Add = omega arith
layer_of_pos Sub = omega arith
layer_of_pos Mul = omega arith
layer_of_pos Div = omega arith
layer_of_pos Rem = omega arith
layer_of_pos Eq = omega arith
layer_of_pos Ne = omega arith
layer_of_pos Lt = omega arith
layer_of_pos Le = omega arith
layer_of_pos Gt = omega arith
layer_of_pos Ge = omega arith
layer_of_pos And = omega arith
layer_of_pos Or = omega arith

pub layer_of_five : (op : BinOp) → layer_of op ≤ 5
layer_of_five Add = omega arith
layer_of_five Sub = omega arith
layer_of_five Mul = omega arith
layer_of_five Div = omega arith
layer_of_five Rem = omega arith
layer_of_five Eq = omega arith
layer_of_five Ne = omega arith
layer_of_five Lt = omega arith
layer_of_five Le = omega arith
layer_of_five Gt = omega arith
layer_of_five Ge = omega arith
layer_of_five And = omega arith
layer_of_five Or = omega arith

-- what the layer of a mark says of it
pub record IsLayer (m n : ℕ) : Type 0 where
  pub operators : 1 ≤ n → n ≤ 5 → (9 ≤ m) × (m ≤ 21)
  pub question : n ≡ 6 → m ≡ mark.QUESTION
  pub dot : n ≡ 0 → m ≡ mark.DOT

layer_is : (m : ℕ) → IsLayer m (layer_at m)
unfolding layer_at
layer_is m = go (eqb m 7) (ltb m 9) (leb m 14) (leb m 16) (leb m 19) (eqb m 20) (eqb m 21) (eqb m 23) refl refl refl
    refl refl refl refl refl
  where
    go : (a b c d e f g h : Bool) → eqb m 7 ≡ a → ltb m 9 ≡ b → leb m 14 ≡ c → leb m 16 ≡ d → leb m 19 ≡ e →
        eqb m 20 ≡ f → eqb m 21 ≡ g → eqb m 23 ≡ h
        → IsLayer m (cond a 0 (cond b 7 (cond c 3 (cond d 2 (cond e 1 (cond f 4 (cond g 5 (cond h 6 7))))))))
    go true b c d e f g h i1 i2 i3 i4 i5 i6 i7 i8 = record {
      operators = λ p q. absurd (omega arith);
      question = λ p.
          absurd (omega arith);
      dot = λ p. eqb-true m 7 i1;
    }
    go false true c d e f g h i1 i2 i3 i4 i5 i6 i7 i8 = record {
      operators = λ p q. absurd (omega arith);
      question = λ p. absurd (omega arith);
      dot = λ p. absurd (omega arith);
    }
    go false false true d e f g h i1 i2 i3 i4 i5 i6 i7 i8 =
        record {
          operators = λ p q. (ltb-false m 9 i2, (let z = leb-true m 14 i3 in omega arith));
          question = λ p.
              absurd (omega arith);
          dot = λ p. absurd (omega arith);
        }
    go false false false true e f g h i1 i2 i3 i4 i5 i6 i7 i8 =
        record {
          operators = λ p q. (ltb-false m 9 i2, (let z = leb-true m 16 i4 in omega arith));
          question = λ p.
              absurd (omega arith);
          dot = λ p. absurd (omega arith);
        }
    go false false false false true f g h i1 i2 i3 i4 i5 i6 i7 i8 =
        record {
          operators = λ p q. (ltb-false m 9 i2, (let z = leb-true m 19 i5 in omega arith));
          question = λ p.
              absurd (omega arith);
          dot = λ p. absurd (omega arith);
        }
    go false false false false false true g h i1 i2 i3 i4 i5 i6 i7 i8 =
        record {
          operators = λ p q. (ltb-false m 9 i2, (let z = eqb-true m 20 i6 in omega arith));
          question = λ p.
              absurd (omega arith);
          dot = λ p. absurd (omega arith);
        }
    go false false false false false false true h i1 i2 i3 i4 i5 i6 i7 i8 =
        record {
          operators = λ p q. (ltb-false m 9 i2, (let z = eqb-true m 21 i7 in omega arith));
          question = λ p.
              absurd (omega arith);
          dot = λ p. absurd (omega arith);
        }
    go false false false false false false false true i1 i2 i3 i4 i5 i6 i7 i8 = record {
      operators = λ p q.
          absurd (omega arith);
      question = λ p. eqb-true m 23 i8;
      dot = λ p. absurd (omega arith);
    }
    go false false false false false false false false i1 i2 i3 i4 i5 i6 i7 i8 = record {
      operators = λ p q.
          absurd (omega arith);
      question = λ p. absurd (omega arith);
      dot = λ p. absurd (omega arith);
    }

-- a mark is that of its operator
pub record IsOperator (m : ℕ) : Type 0 where
  pub mark : m ≡ mark_of (operator_of m)
  pub layer : layer_of (operator_of m) ≡ layer_at m

module _ (P : ℕ → Type 0) (p9 : P 9) (p10 : P 10) (p11 : P 11) (p12 : P 12) (p13 : P 13) (p14 : P 14)
    (p15 : P 15) (p16 : P 16) where
  among : P 17 → P 18 → P 19 → P 20 → P 21 → (m : ℕ) → 9 ≤ m → m ≤ 21 → P m
  among p17 p18 p19 p20 p21 m lo hi =
      at 9 p9 lo (λ a. at 10 p10 a (λ b. at 11 p11 b (λ c.
      at 12 p12 c (λ d. at 13 p13 d (λ e.
      at 14 p14 e (λ f. at 15 p15 f (λ g.
      at 16 p16 g (λ h. at 17 p17 h (λ i.
      at 18 p18 i (λ j. at 19 p19 j (λ k. at 20 p20 k (λ l. at 21 p21 l (λ o. absurd (omega arith))))))))))))))
    where
      at : (n : ℕ) → P n → n ≤ m → (suc n ≤ m → P m) → P m
      at n p le go = elim (cases_lt n m) [ inl lt ↦ go lt | inr ge ↦ (let e : n ≡ m = omega arith in subst P e p) ]

operator_is : (m : ℕ) → 9 ≤ m → m ≤ 21 → IsOperator m
unfolding operator_of layer_at
operator_is =
    among IsOperator
    (record { mark = refl; layer = refl })
    (record { mark = refl; layer = refl })
    (record { mark = refl; layer = refl })
    (record { mark = refl; layer = refl })
    (record { mark = refl; layer = refl })
    (record { mark = refl; layer = refl })
    (record { mark = refl; layer = refl })
    (record { mark = refl; layer = refl })
    (record { mark = refl; layer = refl })
    (record { mark = refl; layer = refl })
    (record { mark = refl; layer = refl })
    (record { mark = refl; layer = refl })
    (record { mark = refl; layer = refl })

pub marks_operator : (x : Kind) → 1 ≤ layer x → layer x ≤ 5 → (x ≡ Mark (mark_of (operator x))) ×
    (layer_of (operator x) ≡ layer x)
marks_operator (Mark m) lo hi = let b = (layer_is m).operators lo hi in
    let o = operator_is m b.0 b.1 in (ap (λ (n : ℕ). Mark n) o.mark, o.layer)
marks_operator (Reserved m) lo hi = absurd (omega arith)
marks_operator (Number m) lo hi = absurd (omega arith)
marks_operator (Name m) lo hi = absurd (omega arith)

pub layer_question : layer (Mark mark.QUESTION) ≡ 6
unfolding layer_at
layer_question = refl

pub layer_dot : layer (Mark mark.DOT) ≡ 0
unfolding layer_at
layer_dot = refl

pub question_six : (x : Kind) → layer x ≡ 6 → x ≡ Mark mark.QUESTION
question_six (Mark m) e = ap (λ (n : ℕ). Mark n) ((layer_is m).question e)
question_six (Reserved m) e = absurd (omega arith)
question_six (Number m) e = absurd (omega arith)
question_six (Name m) e = absurd (omega arith)

dot_zero : (x : Kind) → layer x ≡ 0 → x ≡ Mark mark.DOT
dot_zero (Mark m) e = ap (λ (n : ℕ). Mark n) ((layer_is m).dot e)
dot_zero (Reserved m) e = absurd (omega arith)
dot_zero (Number m) e = absurd (omega arith)
dot_zero (Name m) e = absurd (omega arith)

pub no_dot : (x : Kind) → 0 < layer x → is_mark mark.DOT x ≡ false
no_dot x h = go (is_mark mark.DOT x) refl
  where
    go : (v : Bool) → is_mark mark.DOT x ≡ v → v ≡ false
    go true e = absurd (let q = ap layer (same-true x (Mark mark.DOT) e) ∙ layer_dot in omega arith)
    go false e = refl

pub dot_less : (x : Kind) → is_mark mark.DOT x ≡ false → 0 < layer x
dot_less x h = elim (cases_lt 0 (layer x)) [
  | inl lt ↦ lt
  | inr ge ↦ absurd (let z : layer x ≡ 0 = omega arith in
      let q : is_mark mark.DOT x ≡ true = ap (is_mark mark.DOT) (dot_zero x z) in cc)
]
