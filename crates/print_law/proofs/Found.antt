-- Forms as found by the kinds of tokens: which kinds a form's tokens have, and that tokens of these
-- kinds, wherever they stand, are of the form.
use Rattle.std.proofs.Common.{◌≡◌, List, [], ◌∷◌, ◌++◌, Option, None, Some, map, flat_map, refl, ap, ◌∙◌}
use Rattle.std.specs.Prelude.{option_map}
use Rattle.vert_base.specs.declared.text.Span.{Span}
use Rattle.vert_lex.specs.Text.{Placed}
use Rattle.vert_lex.specs.Tokens.{Kind}
use Rattle.vert_grammar.specs.Grammar.{Form, Then, Is, Sign, Each, Maybe}
use Rattle.vert_grammar.specs.Signs.{token}
use Rattle.vert_grammar.specs.Spelling.{kinds, spelled_maybe}

pub kinds-append : (u v : List Placed) → kinds (u ++ v) ≡ kinds u ++ kinds v
kinds-append [] v = refl
kinds-append (t ∷ u) v = ap (λ l. t.kind ∷ l) (kinds-append u v)

-- ---- which kinds the tokens of a form have
pub record Spells (P : Form) (ks : List Kind) : Type 0 where
  pub kinds_are : (u : List Placed) → P u → kinds u ≡ ks

pub spells_is : (s : Span) (k : Kind) → Spells (Is s k) (k ∷ [])
spells_is s k = record { kinds_are = λ u h. ap kinds h }

pub spells_sign : (k : Kind) → Spells (Sign k) (k ∷ [])
spells_sign k = record { kinds_are = λ u h. ap kinds h.1 }

pub spells_then : {P Q : Form} {ks ls : List Kind} → Spells P ks → Spells Q ls → Spells (Then P Q) (ks ++ ls)
spells_then {ks = ks} p q = record {
  kinds_are = λ u h. ap kinds h.whole ∙ kinds-append h.front h.back
      ∙ ap (λ l. l ++ kinds h.back) (p.kinds_are h.front h.first) ∙ ap (λ l. ks ++ l) (q.kinds_are h.back h.second);
}

pub spells_nothing : Spells (λ u. u ≡ []) []
spells_nothing = record { kinds_are = λ u h. ap kinds h }

-- with what holds besides
pub spells_under : {P : Form} {ks : List Kind} (A : Type 0) → Spells P ks → Spells (λ u. A × P u) ks
spells_under A p = record { kinds_are = λ u h. p.kinds_are u h.1 }

pub spells_under_both : {P : Form} {ks : List Kind} (A B : Type 0) → Spells P ks → Spells (λ u. A × B × P u) ks
spells_under_both A B p = record { kinds_are = λ u h. p.kinds_are u h.2 }

pub spells_each : {A : Type 0} {P : A → Form} {f : A → List Kind} → ((x : A) → Spells (P x) (f x)) → (xs : List A) →
    Spells (Each P xs) (flat_map f xs)
spells_each p [] = spells_nothing
spells_each p (x ∷ xs) = spells_then (p x) (spells_each p xs)

pub spells_maybe : {A : Type 0} {P : A → Form} {f : A → List Kind} → ((x : A) → Spells (P x) (f x)) → (o : Option A) →
    Spells (Maybe P o) (spelled_maybe f o)
spells_maybe p None = spells_nothing
spells_maybe p (Some x) = p x

-- ---- tokens cut by their kinds
abbrev tail : List Kind → List Kind
tail [] = []
tail (k ∷ ks) = ks

abbrev head_or : Kind → List Kind → Kind
head_or d [] = d
head_or d (k ∷ ks) = k

pub record Cut (u : List Placed) (a b : List Kind) : Type 0 where
  pub front : List Placed
  pub back : List Placed
  pub whole : u ≡ front ++ back
  pub first : kinds front ≡ a
  pub second : kinds back ≡ b

cut : (u : List Placed) (a b : List Kind) → kinds u ≡ a ++ b → Cut u a b
cut u [] b e = record { front = []; back = u; whole = refl; first = refl; second = e }
cut [] (k ∷ a) b e = absurd cc
cut (t ∷ u) (k ∷ a) b e =
    let c = cut u a b (ap tail e) in
    record {
      front = t ∷ c.front;
      back = c.back;
      whole = ap (λ l. t ∷ l) c.whole;
      first = ap (λ x. x ∷ kinds c.front) (ap (head_or k) e) ∙ ap (λ l. k ∷ l) c.first;
      second = c.second;
    }

empty : (u : List Placed) → kinds u ≡ [] → u ≡ []
empty [] e = refl
empty (t ∷ u) e = absurd cc

one : (u : List Placed) (k : Kind) → kinds u ≡ k ∷ [] → (s : Span) × (u ≡ token s k ∷ [])
one [] k e = absurd cc
one (t ∷ u) k e = (
  t.span,
  ap (λ (x : Kind). token t.span x ∷ u) (ap (head_or k) e)
      ∙ ap (λ l. token t.span k ∷ l) (empty u (ap tail e)),
)

-- ---- what tokens of these kinds are, wherever they stand: a fixed form, or that of a value of some sort
pub record Fixed (ks : List Kind) (P : Form) : Type 0 where
  pub holds : (u : List Placed) → kinds u ≡ ks → P u

pub record FoundAt (A : Type 0) (P : A → Form) (X : A → Type 0) (u : List Placed) : Type 0 where
  pub value : A
  pub form : P value u
  pub same : X value

pub record Found (ks : List Kind) (A : Type 0) (P : A → Form) (X : A → Type 0) : Type 0 where
  pub find : (u : List Placed) → kinds u ≡ ks → FoundAt A P X u

pub fixed_sign : (k : Kind) → Fixed (k ∷ []) (Sign k)
fixed_sign k = record { holds = λ u e. one u k e }

pub fixed_then : {ks ls : List Kind} {P Q : Form} → Fixed ks P → Fixed ls Q → Fixed (ks ++ ls) (Then P Q)
fixed_then {ks = ks} {ls = ls} p q = record {
  holds = λ u e. let c = cut u ks ls e in record {
    front = c.front;
    back = c.back;
    whole = c.whole;
    first = p.holds c.front c.first;
    second = q.holds c.back c.second;
  };
}

pub fixed_under : {ks : List Kind} {P : Form} (A : Type 0) → A → Fixed ks P → Fixed ks (λ u. A × P u)
fixed_under A x p = record { holds = λ u e. (x, p.holds u e) }

abbrev pub IsAny : {A : Type 0} → A → Type 0
IsAny x = Unit {0}

pub found_is : (k : Kind) → Found (k ∷ []) Span (λ s. Is s k) IsAny
found_is k = record { find = λ u e. let o = one u k e in record { value = o.0; form = o.1; same = tt } }

pub found_then : {ks ls : List Kind} {A B : Type 0} {P : A → Form} {Q : B → Form} {X : A → Type 0} {Y : B → Type 0} →
    Found ks A P X → Found ls B Q Y
    → Found (ks ++ ls) (A × B) (λ z. Then (P z.0) (Q z.1)) (λ z. X z.0 × Y z.1)
found_then {ks = ks} {ls = ls} p q = record {
  find = λ u e.
      let c = cut u ks ls e in
      let a = p.find c.front c.first in
      let b = q.find c.back c.second in
      record {
        value = (a.value, b.value);
        form = record { front = c.front; back = c.back; whole = c.whole; first = a.form; second = b.form };
        same = (a.same, b.same);
      };
}

pub found_behind : {ks ls : List Kind} {B : Type 0} {P : Form} {Q : B → Form} {Y : B → Type 0} → Fixed ks P →
    Found ls B Q Y → Found (ks ++ ls) B (λ y. Then P (Q y)) Y
found_behind {ks = ks} {ls = ls} p q = record {
  find = λ u e.
      let c = cut u ks ls e in
      let b = q.find c.back c.second in
      record {
        value = b.value;
        form = record {
          front = c.front;
          back = c.back;
          whole = c.whole;
          first = p.holds c.front c.first;
          second = b.form;
        };
        same = b.same;
      };
}

pub found_before : {ks ls : List Kind} {A : Type 0} {P : A → Form} {Q : Form} {X : A → Type 0} → Found ks A P X →
    Fixed ls Q → Found (ks ++ ls) A (λ x. Then (P x) Q) X
found_before {ks = ks} {ls = ls} p q = record {
  find = λ u e.
      let c = cut u ks ls e in
      let a = p.find c.front c.first in
      record {
        value = a.value;
        form = record {
          front = c.front;
          back = c.back;
          whole = c.whole;
          first = a.form;
          second = q.holds c.back c.second;
        };
        same = a.same;
      };
}

-- a value made of what was found
pub found_as : {ks : List Kind} {A B : Type 0} {P : A → Form} {X : A → Type 0} (f : A → B) (Q : B → Form) (Y : B →
    Type 0) → ((x : A) (u : List Placed) → P x u → Q (f x) u) → ((x : A) → X x → Y (f x)) → Found ks A P X →
    Found ks B Q Y
found_as f Q Y g h p = record {
  find = λ u e.
      let a = p.find u e in record { value = f a.value; form = g a.value u a.form; same = h a.value a.same };
}

pub found_nothing : {A : Type 0} (Q : A → Form) (Y : A → Type 0) (x : A) → ((u : List Placed) → u ≡ [] → Q x u) →
    Y x → Found [] A Q Y
found_nothing Q Y x g h = record { find = λ u e. record { value = x; form = g u (empty u e); same = h } }

-- the same but for places
abbrev pub AsPlain : {A : Type 0} → (A → A) → A → A → Type 0
AsPlain f x y = f y ≡ f x

pub found_each : {A : Type 0} {P : A → Form} {f : A → List Kind} (plain : A → A) →
    ((x : A) (u : List Placed) → P x u → Found (f x) A P (AsPlain plain x))
    → (xs : List A) (u : List Placed) → Each P xs u → Found (flat_map f xs) (List A) (Each P) (AsPlain (map plain) xs)
found_each {P = P} plain p [] u h = found_nothing (Each P) (AsPlain (map plain) []) [] (λ v e. e) refl
found_each {P = P} plain p (x ∷ xs) u h =
    found_as (λ z. z.0 ∷ z.1) (Each P) (AsPlain (map plain) (x ∷ xs)) (λ z v r. r) (λ z e.
    ap (λ y. y ∷ map plain z.1) e.0 ∙ ap (λ ys. plain x ∷ ys) e.1)
    (found_then (p x h.front h.first) (found_each plain p xs h.back h.second))

pub found_maybe : {A : Type 0} {P : A → Form} {f : A → List Kind} (plain : A → A) →
    ((x : A) (u : List Placed) → P x u → Found (f x) A P (AsPlain plain x))
    → (o : Option A) (u : List Placed) → Maybe P o u →
    Found (spelled_maybe f o) (Option A) (Maybe P) (AsPlain (option_map plain) o)
found_maybe {P = P} plain p None u h = found_nothing (Maybe P) (AsPlain (option_map plain) None) None (λ v e. e) refl
found_maybe {P = P} plain p (Some x) u h = found_as Some (Maybe P) (AsPlain (option_map plain) (Some x)) (λ z v r. r)
    (λ z e. ap Some e) (p x u h)
