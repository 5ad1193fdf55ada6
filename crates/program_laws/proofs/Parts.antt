-- Readers with their notions, and chains of them.
use Rattle.std.proofs.Common.{◌≡◌, ℕ, ◌<◌, Bool, List, [], ◌∷◌, ◌++◌, refl, sym, ap, subst, ◌∙◌, append_assoc, arith}
use Rattle.std.proofs.lemmas.List.{append-nil}
use Rattle.vert_base.specs.declared.text.Span.{Span}
use Rattle.vert_lex.specs.Text.{Placed}
use Rattle.vert_lex.specs.Tokens.{Kind, Mark}
use Rattle.vert_tree.specs.Trees.{Named, Tree}
use Rattle.vert_grammar.specs.Grammar.{Form, Then, Is, Sign, Limits}
use Rattle.vert_grammar.specs.Reading.{Parser, begins, both, expect, name_at}
use Rattle.vert_grammar.specs.Signs.{token, layer}
use Rattle.grammar_laws.specs.Notions.{Notion, IsReader, IsImage, IsInto, Follows, both_notion}
use Rattle.grammar_laws.proofs.Laws.{both_reader}
use Rattle.grammar_laws.proofs.Signs.{sign_notion, expect_reader, name_notion, name_reader}
use Rattle.grammar_laws.proofs.Trees.{tree_notion, tree_run}
use Rattle.grammar_laws.proofs.Exprs.{tree_reader}

-- a notion, and the reader that keeps it
pub record Reader (A : Type 0) : Type 1 where
  pub notion : Notion A
  pub run : Limits → Parser A
  pub law : IsReader notion run

abbrev pub sign : Kind → Reader Span
sign k = record { notion = sign_notion k; run = λ l. expect k; law = expect_reader k }

abbrev pub name : Reader Named
name = record { notion = name_notion; run = λ l. name_at; law = name_reader }

-- one after the other
abbrev pub then : {A B : Type 0} (R : Reader A) (S : Reader B) → Follows R.notion S.notion → Reader (A × B)
then R S follows = record {
  notion = both_notion R.notion S.notion;
  run = λ l. both (R.run l) (S.run l);
  law = both_reader R.notion S.notion R.run S.run follows R.law S.law;
}

-- behind a token, and behind a name, anything may follow
abbrev pub sign_then : {B : Type 0} → Kind → Reader B → Reader (Span × B)
sign_then k S = then (sign k) S (λ x y v r h f. tt)

abbrev pub name_then : {B : Type 0} → Reader B → Reader (Named × B)
name_then S = then name S (λ x y v r h f. tt)

-- an expression, and a mark behind it that ends it
pub trees : IsReader (tree_notion 6) (tree_run 6)
trees = tree_reader 6 (omega arith)

abbrev pub value : Reader Tree
value = record { notion = tree_notion 6; run = tree_run 6; law = trees }

abbrev pub value_then : (m : ℕ) → 6 < layer (Mark m) → Reader (Tree × Span)
value_then m ends = then value (sign (Mark m)) (λ x y v r h f. rw h ends)

-- ---- the parts of a form
abbrev pub Maps : Form → Form → Type 0
Maps P Q = (u : List Placed) → P u → Q u

abbrev pub keeps : (P : Form) → Maps P P
keeps P u h = h

abbrev pub signs : (s : Span) (k : Kind) → Maps (Is s k) (Sign k)
signs s k u h = (s, h)

abbrev pub then_map : {P Q R S : Form} → Maps P R → Maps Q S → Maps (Then P Q) (Then R S)
then_map f g u h = record {
  front = h.front;
  back = h.back;
  whole = h.whole;
  first = f h.front h.first;
  second = g h.back h.second;
}

pub then_assoc : {P Q R : Form} → Maps (Then (Then P Q) R) (Then P (Then Q R))
then_assoc u h = record {
  front = h.first.front;
  back = h.first.back ++ h.back;
  whole = h.whole ∙ ap (λ l. l ++ h.back) h.first.whole ∙ append_assoc h.first.front h.first.back h.back;
  first = h.first.first;
  second = record { front = h.first.back; back = h.back; whole = refl; first = h.first.second; second = h.second };
}

pub then_joined : {P Q R : Form} → Maps (Then P (Then Q R)) (Then (Then P Q) R)
then_joined u h = record {
  front = h.front ++ h.second.front;
  back = h.second.back;
  whole = h.whole ∙ ap (λ l. h.front ++ l) h.second.whole ∙ sym (append_assoc h.front h.second.front h.second.back);
  first = record { front = h.front; back = h.second.front; whole = refl; first = h.first; second = h.second.first };
  second = h.second.second;
}

-- nothing behind
pub then_none : {P : Form} → Maps (Then P (λ u. u ≡ [])) P
then_none {P = P} u h = subst P (sym (h.whole ∙ ap (λ l. h.front ++ l) h.second ∙ append-nil h.front)) h.first

pub none_then : {P : Form} → Maps P (Then P (λ u. u ≡ []))
none_then u h = record { front = u; back = []; whole = sym (append-nil u); first = h; second = refl }

-- the values that a form has, whether it names them or not
abbrev pub Values : {A : Type 0} → (A → Form) → Form → Type 0
Values {A} F P = (u : List Placed) → P u → (x : A) × F x u

abbrev pub known : {A : Type 0} (F : A → Form) (x : A) → Values F (F x)
known F x u h = (x, h)

abbrev pub signed : (k : Kind) → Values (λ s. Is s k) (Sign k)
signed k u h = h

abbrev pub then_values : {A B : Type 0} {F : A → Form} {G : B → Form} {P Q : Form} → Values F P → Values G Q →
    Values (λ (z : A × B). Then (F z.0) (G z.1)) (Then P Q)
then_values f g u h =
    let x = f h.front h.first in
    let y = g h.back h.second in
    ((x.0, y.0), record { front = h.front; back = h.back; whole = h.whole; first = x.1; second = y.1 })

-- tokens by the first of them
pub begins_front : (f : Kind → Bool) (s : Span) (k : Kind) (u v r : List Placed) → u ≡ token s k ∷ v →
    begins f (u ++ r) ≡ f k
begins_front f s k u v r e = rw e refl

-- a form that begins with a token
pub opened : {Q : Form} (s : Span) (k : Kind) (u : List Placed) (h : Then (Is s k) Q u) → u ≡ token s k ∷ h.back
opened s k u h = h.whole ∙ ap (λ l. l ++ h.back) h.first

pub opening : {Q : Form} (s : Span) (k : Kind) (u : List Placed) → Q u → Then (Is s k) Q (token s k ∷ u)
opening s k u h = record { front = token s k ∷ []; back = u; whole = refl; first = refl; second = h }

-- a token of a kind in front of a form
pub signing : {Q : Form} (s : Span) (k : Kind) (u : List Placed) → Q u → Then (Sign k) Q (token s k ∷ u)
signing s k u h = record { front = token s k ∷ []; back = u; whole = refl; first = (s, refl); second = h }

pub as_into : {A B : Type 0} {N : Notion A} {M : Notion B} {g : A → B} → IsImage N M g → (l : Limits) → IsInto N M g l
as_into i l = record {
  form = i.form;
  within = λ x u h. i.within l x;
  shallow = λ x u h. i.shallow l.depth x;
  follow = λ x u r h. i.follow x r;
}
