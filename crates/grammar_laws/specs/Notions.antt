-- What a reader keeps: what it reads is of its form, what is of its form is read, and a fault is the first one.
use Rattle.std.specs.Prelude.{◌≡◌, ℕ, suc, pred, ◌≤◌, Bool, true, List, [], ◌∷◌, ◌++◌, Ok, Err}
use Rattle.vert_base.specs.declared.text.Span.{Span}
use Rattle.vert_lex.specs.Text.{Placed}
use Rattle.vert_lex.specs.Tokens.{Kind}
use Rattle.vert_grammar.specs.Grammar.{Form, Then, Limits}
use Rattle.vert_grammar.specs.Faults.{Why, Unexpected, TooDeep, TooMany}
use Rattle.vert_grammar.specs.Reading.{Stop, Parser, stop, begins}
use Rattle.vert_grammar.specs.Signs.{token}

-- each limit is at most the other's
pub record Covers (l m : Limits) : Type 0 where
  pub depth : l.depth ≤ m.depth
  pub fields : l.fields ≤ m.fields
  pub slots : l.slots ≤ m.slots
  pub totals : l.totals ≤ m.totals
  pub lets : l.lets ≤ m.lets
  pub sends : l.sends ≤ m.sends

-- the limits under which a fault stays: all wider ones, those of the same depth among them, or these alone
abbrev pub Grows : Why → Limits → Limits → Type 0
Grows Unexpected l m = Covers l m
Grows TooDeep l m = (l.depth ≡ m.depth) × Covers l m
Grows TooMany l m = l ≡ m

-- the same counts with another depth
abbrev pub deep : Limits → ℕ → Limits
deep l b = record { depth = b; fields = l.fields; slots = l.slots; totals = l.totals; lets = l.lets; sends = l.sends }

-- the limits inside a node
abbrev pub inside : Limits → Limits
inside l = deep l (pred l.depth)

-- two lists begin alike
abbrev pub SameHead : List Placed → List Placed → Type 0
SameHead [] [] = Unit {0}
SameHead [] (y ∷ ys) = ⊥
SameHead (x ∷ xs) [] = ⊥
SameHead (x ∷ xs) (y ∷ ys) = x ≡ y

-- What a reader is of: the form of each value, what is within the limits, what is within the depth, and what may
-- follow.
pub record Notion (A : Type 0) : Type 1 where
  pub form : A → Form
  pub within : Limits → A → Type 0
  pub shallow : ℕ → A → Type 0
  pub follow : A → Form
  pub wider : (l m : Limits) (x : A) → Covers l m → within l x → within m x
  pub weaker : (l : Limits) (x : A) → within l x → shallow l.depth x
  pub ahead : (x : A) (a b : List Placed) → SameHead a b → follow x b → follow x a

-- what was read from the front
pub record Took {A : Type 0} (N : Notion A) (l : Limits) (ts : List Placed) (x : A) (r : List Placed) : Type 0 where
  pub used : List Placed
  pub parts : ts ≡ used ++ r
  pub reads : N.form x used
  pub fits : N.within l x
  pub ends : N.follow x r

abbrev pub Sound : {A : Type 0} → Notion A → Limits → Parser A → Type 0
Sound {A} N l p = (ts : List Placed) (x : A) (r : List Placed) → p ts ≡ Ok (x, r) → Took N l ts x r

abbrev pub Complete : {A : Type 0} → Notion A → Limits → Parser A → Type 0
Complete {A} N l p = (x : A) (u r : List Placed) → N.form x u → N.within l x → N.follow x r → p (u ++ r) ≡ Ok (x, r)

-- the tokens go on to a whole one of this sort
abbrev pub Front : {A : Type 0} → (A → Form) → (A → Type 0) → List Placed → Type 0
Front {A} R W u = (more : List Placed) × (x : A) × R x (u ++ more) × W x

abbrev pub Any : {A : Type 0} → A → Type 0
Any x = Unit {0}

-- with the next token they go on as well
abbrev pub Next : {A : Type 0} → (A → Form) → (A → Type 0) → List Placed → List Placed → Type 0
Next R W used [] = ⊥
Next R W used (t ∷ rest) = Front R W (used ++ t ∷ [])

-- what is too deep goes on without limits, and what is too much within the depth
abbrev pub Beyond : {A : Type 0} → Notion A → Limits → Why → List Placed → List Placed → Type 0
Beyond N l Unexpected used rest = Unit {0}
Beyond N l TooDeep used rest = Next N.form Any used rest
Beyond N l TooMany used rest = Next N.form (N.shallow l.depth) used rest

-- The first fault: what was used goes on within the limits, and the reader stops here whatever stands behind the next
-- token.
pub record Fault {A : Type 0} (N : Notion A) (p : Limits → Parser A) (l : Limits) (ts : List Placed) (s : Stop) : Type
    0 where
  pub used : List Placed
  pub parts : ts ≡ used ++ s.rest
  pub front : Front N.form (N.within l) used
  pub stays : (m : Limits) (more : List Placed) → Grows s.why l m → SameHead more s.rest →
      p m (used ++ more) ≡ stop s.why more
  pub beyond : Beyond N l s.why used s.rest

abbrev pub First : {A : Type 0} → Notion A → (Limits → Parser A) → Limits → Type 0
First N p l = (ts : List Placed) (s : Stop) → p l ts ≡ Err s → Fault N p l ts s

-- there is one within these limits
abbrev pub HasWord : {A : Type 0} → Notion A → Limits → Type 0
HasWord {A} N l = (x : A) × (u : List Placed) × N.form x u × N.within l x

-- What is read is of the form, what is of the form is read, a fault is the first, and there is something to read.
pub record IsReader {A : Type 0} (N : Notion A) (run : Limits → Parser A) : Type 0 where
  pub sound : (l : Limits) → Sound N l (run l)
  pub complete : (l : Limits) → Complete N l (run l)
  pub first : (l : Limits) → 1 ≤ l.depth → First N run l
  pub word : (l : Limits) → 1 ≤ l.depth → HasWord N l

-- ---- notions made of notions

-- the second may stand behind the first, by what the first is
abbrev pub FollowsBy : {A B : Type 0} → Notion A → (A → Notion B) → Type 0
FollowsBy {A} {B} N M = (x : A) (y : B) (v r : List Placed) → (M x).form y v → (M x).follow y r → N.follow x (v ++ r)

abbrev pub Follows : {A B : Type 0} → Notion A → Notion B → Type 0
Follows N M = FollowsBy N (λ x. M)

abbrev pub both_by_notion : {A B : Type 0} → Notion A → (A → Notion B) → Notion (A × B)
both_by_notion N M = record {
  form = λ z. Then (N.form z.0) ((M z.0).form z.1);
  within = λ l z. N.within l z.0 × (M z.0).within l z.1;
  shallow = λ b z. N.shallow b z.0 × (M z.0).shallow b z.1;
  follow = λ z. (M z.0).follow z.1;
  wider = λ l m z c h. (N.wider l m z.0 c h.0, (M z.0).wider l m z.1 c h.1);
  weaker = λ l z h. (N.weaker l z.0 h.0, (M z.0).weaker l z.1 h.1);
  ahead = λ z. (M z.0).ahead z.1;
}

-- one after the other
abbrev pub both_notion : {A B : Type 0} → Notion A → Notion B → Notion (A × B)
both_notion N M = both_by_notion N (λ x. M)

-- what has no depth, and behind which anything may follow
abbrev pub free_notion : {A : Type 0} → (A → Form) → Notion A
free_notion F = record {
  form = F;
  within = λ l x. Unit {0};
  shallow = λ b x. Unit {0};
  follow = λ x r. Unit {0};
  wider = λ l m x c h. tt;
  weaker = λ l x h. tt;
  ahead = λ x a b h f. tt;
}

-- the values of one sort alone
abbrev pub only : {A : Type 0} → Notion A → (A → Type 0) → Notion A
only K P = record {
  form = λ x u. K.form x u × P x;
  within = K.within;
  shallow = K.shallow;
  follow = K.follow;
  wider = K.wider;
  weaker = K.weaker;
  ahead = K.ahead;
}

-- one value stands for another
pub record IsImage {A B : Type 0} (N : Notion A) (M : Notion B) (g : A → B) : Type 0 where
  pub form : (x : A) (u : List Placed) → N.form x u → M.form (g x) u
  pub within : (l : Limits) (x : A) → N.within l x → M.within l (g x)
  pub shallow : (b : ℕ) (x : A) → N.shallow b x → M.shallow b (g x)
  pub follow : (x : A) (r : List Placed) → N.follow x r → M.follow (g x) r
  pub back : (y : B) (u : List Placed) → M.form y u → (x : A) × (g x ≡ y) × N.form x u ×
      ((l : Limits) → M.within l y → N.within l x)
  pub follow_back : (x : A) (r : List Placed) → M.follow (g x) r → N.follow x r

-- a count of the limits, which wider limits don't make smaller
abbrev pub Mono : (Limits → ℕ) → Type 0
Mono m = (k l : Limits) → Covers k l → m k ≤ m l

-- one value stands for another under these limits, and others may stand beside it
pub record IsInto {A B : Type 0} (N : Notion A) (M : Notion B) (g : A → B) (l : Limits) : Type 0 where
  pub form : (x : A) (u : List Placed) → N.form x u → M.form (g x) u
  pub within : (x : A) (u : List Placed) → N.form x u → N.within l x → M.within l (g x)
  pub shallow : (x : A) (u : List Placed) → N.form x u → N.shallow l.depth x → M.shallow l.depth (g x)
  pub follow : (x : A) (u r : List Placed) → N.form x u → N.follow x r → M.follow (g x) r

-- a node of a value, which begins with a token of its own
pub record IsNode {A B : Type 0} (N : Notion A) (K : Notion B) (k : Kind) (f : Span → A → B) : Type 0 where
  pub form : (s : Span) (x : A) (u : List Placed) → N.form x u → K.form (f s x) (token s k ∷ u)
  pub within : (l : Limits) (b : ℕ) (s : Span) (x : A) → N.within (deep l b) x → K.within (deep l (suc b)) (f s x)
  pub shallow : (b : ℕ) (s : Span) (x : A) → N.shallow b x → K.shallow (suc b) (f s x)
  pub follow : (s : Span) (x : A) (r : List Placed) → N.follow x r → K.follow (f s x) r

-- the laws where the tokens begin with one of a sort
abbrev pub SoundWhere : {A : Type 0} → (Kind → Bool) → Notion A → Limits → Parser A → Type 0
SoundWhere {A} f N l p = (ts : List Placed) (x : A) (r : List Placed) → begins f ts ≡ true → p ts ≡ Ok (x, r) →
    Took N l ts x r

abbrev pub FirstWhere : {A : Type 0} → (Kind → Bool) → Notion A → (Limits → Parser A) → Limits → Type 0
FirstWhere f N p l = (ts : List Placed) (s : Stop) → begins f ts ≡ true → p l ts ≡ Err s → Fault N p l ts s
