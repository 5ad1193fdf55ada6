-- Kinds of tokens, and readers of one token.
use Rattle.std.proofs.Common.{◌≡◌, Bool, true, false, List, [], ◌∷◌, ◌++◌, Ok, Err, refl, sym, ap, subst, ◌∙◌, inl, inr}
use Rattle.std.proofs.lemmas.Bool.{eqb-true, eq-eqb}
use Rattle.std.proofs.lemmas.Slice.Eq.{bytes_eq-Decides}
use Rattle.vert_base.specs.declared.text.Span.{Span}
use Rattle.vert_lex.specs.Text.{Placed}
use Rattle.vert_lex.specs.Tokens.{Kind, Reserved, Mark, Number, Name}
use Rattle.vert_tree.specs.Plain.{nowhere}
use Rattle.vert_tree.specs.Trees.{Named}
use Rattle.vert_grammar.specs.Faults.{Unexpected}
use Rattle.vert_grammar.specs.Grammar.{Form, Is, Limits, TheName}
use Rattle.vert_grammar.specs.Reading.{stop, begins, single, expect, name_at}
use Rattle.vert_grammar.specs.Signs.{token, same, is_name, text_in}
use Rattle.grammar_laws.specs.Notions.{Notion, Took, Sound, Complete, Fault, First, IsReader, free_notion}
use Rattle.grammar_laws.proofs.Readers.{chosen, ok_is, err_is, begins_same}

pub same-true : (a b : Kind) → same a b ≡ true → a ≡ b
same-true (Reserved m) (Reserved n) e = ap (λ k. Reserved k) (eqb-true m n e)
same-true (Mark m) (Mark n) e = ap (λ k. Mark k) (eqb-true m n e)
same-true (Number m) (Number n) e = ap (λ k. Number k) (eqb-true m n e)
same-true (Name m) (Name n) e = ap (λ k. Name k) ((bytes_eq-Decides m n).0 e)
same-true _ _ e = absurd cc

pub same-refl : (a : Kind) → same a a ≡ true
same-refl (Reserved m) = eq-eqb m m refl
same-refl (Mark m) = eq-eqb m m refl
same-refl (Number m) = eq-eqb m m refl
same-refl (Name m) = (bytes_eq-Decides m m).1 refl

-- a token of this kind
pub is_token : (t : Placed) (k : Kind) → same t.kind k ≡ true → t ≡ token t.span k
is_token t k e = ap (λ (x : Kind). token t.span x) (same-true t.kind k e)

-- what stands for itself at the front
pub single_goes : {A : Type 0} (f : Kind → Bool) (g : Span → Kind → A) (s : Span) (k : Kind) (ts : List Placed) →
    f k ≡ true → single f g (token s k ∷ ts) ≡ Ok (g s k, ts)
unfolding single
single_goes f g s k ts e = rw e refl

pub single_stops : {A : Type 0} (f : Kind → Bool) (g : Span → Kind → A) (ts : List Placed) → begins f ts ≡ false →
    single f g ts ≡ stop Unexpected ts
unfolding single
single_stops f g ts e = rw e refl

-- one token of a sort, and the values that it may stand for
pub record IsOne {A : Type 0} (F : A → Form) (f : Kind → Bool) (g : Span → Kind → A) : Type 0 where
  pub form : (s : Span) (k : Kind) → f k ≡ true → F (g s k) (token s k ∷ [])
  pub back : (x : A) (u : List Placed) → F x u → (s : Span) × (k : Kind) × (u ≡ token s k ∷ []) × (f k ≡ true) ×
      (g s k ≡ x)
  pub word : Kind
  pub is_word : f word ≡ true

module _ {A : Type 0} (F : A → Form) (f : Kind → Bool) (g : Span → Kind → A) (one : IsOne F f g) where
  single_sound : (l : Limits) → Sound (free_notion F) l (single f g)
  unfolding single
  single_sound l [] x r e = absurd cc
  single_sound l (t ∷ ts) x r e =
      elim (chosen (f t.kind) _ _ _ e) [
        | inl h ↦ subst (λ (w : A × List Placed). Took (free_notion F) l (t ∷ ts) w.0 w.1) (ok_is _ _ h.1)
            (record { used = t ∷ []; parts = refl; reads = one.form t.span t.kind h.0; fits = tt; ends = tt })
        | inr h ↦ absurd (let q = h.1 in cc)
      ]

  single_complete : (l : Limits) → Complete (free_notion F) l (single f g)
  single_complete l x u r h w e =
      let b = one.back x u h in
      ap (λ l. single f g (l ++ r)) b.2 ∙ single_goes f g b.0 b.1 r b.3 ∙ ap (λ (y : A). Ok (y, r)) b.4

  single_first : (l : Limits) → First (free_notion F) (λ m. single f g) l
  single_first l ts s e = go (begins f ts) refl
    where
      go : (v : Bool) → begins f ts ≡ v → Fault (free_notion F) (λ m. single f g) l ts s
      go true h = absurd (goes ts h e)
        where
          goes : (ts : List Placed) → begins f ts ≡ true → single f g ts ≡ Err s → ⊥
          goes [] h e = cc
          goes (t ∷ ts) h e = let q = sym (single_goes f g t.span t.kind ts h) ∙ e in cc
      go false h = subst (Fault (free_notion F) (λ m. single f g) l ts)
          (err_is (A × List Placed) _ _ (sym (single_stops f g ts h) ∙ e)) (record {
            used = [];
            parts = refl;
            front = (token nowhere one.word ∷ [], g nowhere one.word, one.form nowhere one.word one.is_word, tt);
            stays = λ m more grows sh. single_stops f g more (begins_same f more ts sh ∙ h);
            beyond = tt;
          })

  pub single_reader : IsReader (free_notion F) (λ m. single f g)
  single_reader = record {
    sound = single_sound;
    complete = single_complete;
    first = λ l pos. single_first l;
    word = λ l pos. (g nowhere one.word, token nowhere one.word ∷ [], one.form nowhere one.word one.is_word, tt);
  }

-- ---- a token of a kind, and its place
abbrev pub sign_notion : Kind → Notion Span
sign_notion k = free_notion (λ s. Is s k)

sign_one : (k : Kind) → IsOne (λ s. Is s k) (λ x. same x k) (λ s x. s)
sign_one k = record {
  form = λ s x e. ap (λ (y : Kind). token s y ∷ []) (same-true x k e);
  back = λ s u h. (s, k, h, same-refl k, refl);
  word = k;
  is_word = same-refl k;
}

pub expect_reader : (k : Kind) → IsReader (sign_notion k) (λ m. expect k)
expect_reader k = single_reader (λ s. Is s k) (λ x. same x k) (λ s x. s) (sign_one k)

-- ---- a name
abbrev pub name_notion : Notion Named
name_notion = free_notion TheName

name_one : IsOne TheName is_name (λ s k. record { span = s; text = text_in k })
name_one = record {
  form = λ s k e. ap (λ (y : Kind). token s y ∷ []) (name_is k e);
  back = λ x u h. (x.span, Name x.text, h, refl, refl);
  word = Name [];
  is_word = refl;
}
  where
    name_is : (k : Kind) → is_name k ≡ true → k ≡ Name (text_in k)
    name_is (Reserved m) e = absurd cc
    name_is (Mark m) e = absurd cc
    name_is (Number m) e = absurd cc
    name_is (Name m) e = refl

pub name_reader : IsReader name_notion (λ m. name_at)
name_reader = single_reader TheName is_name (λ s k. record { span = s; text = text_in k }) name_one
