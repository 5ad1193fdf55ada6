-- Readers of single tokens: types, combinations, numbers, modes and versions, and of assignment signs.
use Rattle.std.proofs.Common.{◌≡◌, ℕ, Bool, true, false, ◌&&◌, List, [], ◌∷◌, ◌++◌, refl, sym, subst, inl, inr, ◌⊎◌}
use Rattle.std.specs.Prelude.{IsTrue}
use Rattle.std.proofs.lemmas.Bool.{or_cases}
use Rattle.vert_base.specs.declared.text.Span.{Span}
use Rattle.vert_base.specs.declared.value.Combine.{Combine}
use Rattle.vert_base.specs.declared.value.Combine.TheVariants as combine
use Rattle.vert_base.specs.declared.value.Mode.{Mode}
use Rattle.vert_base.specs.declared.value.Mode.TheVariants as modes
use Rattle.vert_base.specs.declared.value.ValueType.{ValueType}
use Rattle.vert_base.specs.declared.value.ValueType.TheVariants as types
use Rattle.vert_base.proofs.Chains.{and_first, and_second}
use Rattle.vert_lex.specs.declared.marks.TheConstants as mark
use Rattle.vert_lex.specs.declared.words.TheConstants as word
use Rattle.vert_lex.specs.Text.{Placed}
use Rattle.vert_lex.specs.Tokens.{Kind, Reserved, Mark, Number}
use Rattle.vert_tree.specs.declared.statement.AssignOp.{AssignOp}
use Rattle.vert_tree.specs.declared.statement.AssignOp.TheVariants as assign
use Rattle.vert_grammar.specs.Grammar.{Form, Limits, Is, TheWord, ReadsOp, ReadsVersion, Then}
use Rattle.vert_grammar.specs.Reading.{single, both, made, begins, expect, is_fold_at, is_version_at, is_large_op, large_op, is_small_op, small_op, op_at, type_at}
use Rattle.vert_grammar.specs.Signs.{token, same, is_word, is_mark, is_number, number_in, type_word, is_type, type_of, combine_word, is_combine, combine_of, is_fold, mode_word, is_mode, mode_of}
use Rattle.grammar_laws.specs.Notions.{Notion, IsReader, IsImage, free_notion, only}
use Rattle.grammar_laws.proofs.Signs.{same-true, IsOne, single_reader}
use Rattle.grammar_laws.proofs.Atoms.{PlacedNumber, number_one}
use Rattle.grammar_laws.proofs.Laws.{made_reader}
use Rattle.grammar_laws.proofs.Either.{either_reader}
use Rattle.program_laws.proofs.Parts.{Reader, sign, then}

-- what holds of a kind holds of a token of that kind
at_kind : (P : Kind → Type 0) (k m : Kind) → same k m ≡ true → P m → P k
at_kind P k m e p = subst P (sym (same-true k m e)) p

-- a token of a sort
abbrev pub one : {A : Type 0} (F : A → Form) (f : Kind → Bool) (g : Span → Kind → A) → IsOne F f g → Reader A
one F f g is = record { notion = free_notion F; run = λ l. single f g; law = single_reader F f g is }

-- ---- types
pub type_one : IsOne (λ t. TheWord (type_word t)) is_type (λ s k. type_of k)
type_one = record {
  form = λ s k e. elim (or_cases (is_word word.INT k) (is_word word.BOOL k) e) [
    | inl h ↦ at_kind (λ k. TheWord (type_word (type_of k)) (token s k ∷ [])) k (Reserved word.INT) h (s, refl)
    | inr h ↦ at_kind (λ k. TheWord (type_word (type_of k)) (token s k ∷ [])) k (Reserved word.BOOL) h (s, refl)
  ];
  back = back;
  word = Reserved word.INT;
  is_word = refl;
}
  where
    back : (x : ValueType) (u : List Placed) → TheWord (type_word x) u → (s : Span) × (k : Kind) ×
        (u ≡ token s k ∷ []) × (is_type k ≡ true) × (type_of k ≡ x)
    back types.Int u h = (h.0, Reserved word.INT, h.1, refl, refl)
    back types.Bool u h = (h.0, Reserved word.BOOL, h.1, refl, refl)

pub type_reader : IsReader (free_notion (λ t. TheWord (type_word t))) (λ l. type_at)
unfolding type_at
type_reader = single_reader (λ t. TheWord (type_word t)) is_type (λ s k. type_of k) type_one

abbrev pub a_type : Reader ValueType
a_type = record { notion = free_notion (λ t. TheWord (type_word t)); run = λ l. type_at; law = type_reader }

-- ---- combinations
combine_form : (s : Span) (k : Kind) → is_combine k ≡ true → TheWord (combine_word (combine_of k)) (token s k ∷ [])
combine_form s k e = elim (or_cases (is_word word.MIN k) _ e) [
  | inl h ↦ at_kind (λ k. TheWord (combine_word (combine_of k)) (token s k ∷ [])) k (Reserved word.MIN) h (s, refl)
  | inr h ↦ elim (or_cases (is_word word.MAX k) _ h) [
    | inl h ↦ at_kind (λ k. TheWord (combine_word (combine_of k)) (token s k ∷ [])) k (Reserved word.MAX) h (s, refl)
    | inr h ↦ elim (or_cases (is_word word.SUM k) _ h) [
      | inl h ↦ at_kind (λ k. TheWord (combine_word (combine_of k)) (token s k ∷ [])) k (Reserved word.SUM) h (s, refl)
      | inr h ↦ at_kind (λ k. TheWord (combine_word (combine_of k)) (token s k ∷ [])) k (Reserved word.FIRST) h (
        s,
        refl,
      )
    ]
  ]
]

pub combine_one : IsOne (λ c. TheWord (combine_word c)) is_combine (λ s k. combine_of k)
combine_one = record { form = combine_form; back = back; word = Reserved word.MIN; is_word = refl }
  where
    back : (x : Combine) (u : List Placed) → TheWord (combine_word x) u → (s : Span) × (k : Kind) ×
        (u ≡ token s k ∷ []) × (is_combine k ≡ true) × (combine_of k ≡ x)
    back combine.Min u h = (h.0, Reserved word.MIN, h.1, refl, refl)
    back combine.Max u h = (h.0, Reserved word.MAX, h.1, refl, refl)
    back combine.Sum u h = (h.0, Reserved word.SUM, h.1, refl, refl)
    back combine.First u h = (h.0, Reserved word.FIRST, h.1, refl, refl)

abbrev pub a_combination : Reader Combine
a_combination = one (λ c. TheWord (combine_word c)) is_combine (λ s k. combine_of k) combine_one

-- the combinations that a total may have
abbrev pub FoldWord : Combine → Form
FoldWord c u = IsTrue (is_fold c) × TheWord (combine_word c) u

pub fold_one : IsOne FoldWord is_fold_at (λ s k. combine_of k)
fold_one = record {
  form = λ s k e. (
    and_second (is_combine k) (is_fold (combine_of k)) e,
    combine_form s k (and_first (is_combine k) (is_fold (combine_of k)) e),
  );
  back = back;
  word = Reserved word.MIN;
  is_word = refl;
}
  where
    back : (x : Combine) (u : List Placed) → FoldWord x u → (s : Span) × (k : Kind) × (u ≡ token s k ∷ []) ×
        (is_fold_at k ≡ true) × (combine_of k ≡ x)
    back combine.Min u h = (h.1.0, Reserved word.MIN, h.1.1, refl, refl)
    back combine.Max u h = (h.1.0, Reserved word.MAX, h.1.1, refl, refl)
    back combine.Sum u h = (h.1.0, Reserved word.SUM, h.1.1, refl, refl)
    back combine.First u h = absurd (let q = h.0 in cc)

abbrev pub a_fold : Reader Combine
a_fold = one FoldWord is_fold_at (λ s k. combine_of k) fold_one

-- ---- numbers, versions and modes
abbrev pub a_number : Reader (Span × ℕ)
a_number = one PlacedNumber is_number (λ s k. (s, number_in k)) number_one

pub version_one : IsOne ReadsVersion is_version_at (λ s k. number_in k)
version_one = record {
  form = λ s k e. (and_second (is_number k) _ e, (s, number_one.form s k (and_first (is_number k) _ e)));
  back = λ x u h. (h.1.0, Number x, h.1.1, h.0, refl);
  word = Number 1;
  is_word = refl;
}

abbrev pub a_version : Reader ℕ
a_version = one ReadsVersion is_version_at (λ s k. number_in k) version_one

abbrev pub PlacedMode : Span × Mode → Form
PlacedMode x = Is x.0 (Reserved (mode_word x.1))

pub mode_one : IsOne PlacedMode is_mode (λ s k. (s, mode_of k))
mode_one = record {
  form = λ s k e. elim (or_cases (is_word word.AUTO k) _ e) [
    | inl h ↦ at_kind (λ k. PlacedMode (s, mode_of k) (token s k ∷ [])) k (Reserved word.AUTO) h refl
    | inr h ↦ elim (or_cases (is_word word.DENSE k) _ h) [
      | inl h ↦ at_kind (λ k. PlacedMode (s, mode_of k) (token s k ∷ [])) k (Reserved word.DENSE) h refl
      | inr h ↦ at_kind (λ k. PlacedMode (s, mode_of k) (token s k ∷ [])) k (Reserved word.SPARSE) h refl
    ]
  ];
  back = λ x u h. back x.0 x.1 u h;
  word = Reserved word.AUTO;
  is_word = refl;
}
  where
    back : (at : Span) (x : Mode) (u : List Placed) → PlacedMode (at, x) u → (s : Span) × (k : Kind) ×
        (u ≡ token s k ∷ []) × (is_mode k ≡ true) × ◌≡◌ {A = Span × Mode} (s, mode_of k) (at, x)
    back at modes.Auto u h = (at, Reserved word.AUTO, h, refl, refl)
    back at modes.Dense u h = (at, Reserved word.DENSE, h, refl, refl)
    back at modes.Sparse u h = (at, Reserved word.SPARSE, h, refl, refl)

abbrev pub a_mode : Reader (Span × Mode)
a_mode = one PlacedMode is_mode (λ s k. (s, mode_of k)) mode_one

-- ---- the signs of assignments
abbrev pub op_notion : Notion AssignOp
op_notion = free_notion ReadsOp

abbrev IsLarge : AssignOp → Type 0
IsLarge assign.Set = ⊥
IsLarge assign.Add = ⊥
IsLarge assign.Least = Unit {0}
IsLarge assign.Greatest = Unit {0}

abbrev IsSmall : AssignOp → Type 0
IsSmall assign.Set = Unit {0}
IsSmall assign.Add = Unit {0}
IsSmall assign.Least = ⊥
IsSmall assign.Greatest = ⊥

-- its first token
abbrev LargeWord : AssignOp → Form
LargeWord assign.Set u = ⊥
LargeWord assign.Add u = ⊥
LargeWord assign.Least u = TheWord word.MIN u
LargeWord assign.Greatest u = TheWord word.MAX u

pub large_one : IsOne LargeWord is_large_op (λ s k. large_op k)
large_one = record {
  form = λ s k e. elim (or_cases (is_word word.MIN k) _ e) [
    | inl h ↦ at_kind (λ k. LargeWord (large_op k) (token s k ∷ [])) k (Reserved word.MIN) h (s, refl)
    | inr h ↦ at_kind (λ k. LargeWord (large_op k) (token s k ∷ [])) k (Reserved word.MAX) h (s, refl)
  ];
  back = back;
  word = Reserved word.MIN;
  is_word = refl;
}
  where
    back : (x : AssignOp) (u : List Placed) → LargeWord x u → (s : Span) × (k : Kind) × (u ≡ token s k ∷ []) ×
        (is_large_op k ≡ true) × (large_op k ≡ x)
    back assign.Set u h = absurd h
    back assign.Add u h = absurd h
    back assign.Least u h = (h.0, Reserved word.MIN, h.1, refl, refl)
    back assign.Greatest u h = (h.0, Reserved word.MAX, h.1, refl, refl)

abbrev large_parts : Reader (AssignOp × Span)
large_parts = then (one LargeWord is_large_op (λ s k. large_op k) large_one) (sign (Mark mark.ASSIGN)) (λ x y v r h f.
    tt)

large_image : IsImage large_parts.notion (only op_notion IsLarge) (λ x. x.0)
large_image = record {
  form = λ x u h. form x.0 x.1 u h;
  within = λ l x h. tt;
  shallow = λ b x h. tt;
  follow = λ x r h. tt;
  back = λ y u h. back y u h;
  follow_back = λ x r h. tt;
}
  where
    form : (x : AssignOp) (s : Span) (u : List Placed) → Then (LargeWord x) (Is s (Mark mark.ASSIGN)) u →
        ReadsOp x u × IsLarge x
    form assign.Set s u h = absurd h.first
    form assign.Add s u h = absurd h.first
    form assign.Least s u h = (
      record {
        front = h.front;
        back = h.back;
        whole = h.whole;
        first = h.first;
        second = (s, h.second);
      },
      tt,
    )
    form assign.Greatest s u h = (
      record {
        front = h.front;
        back = h.back;
        whole = h.whole;
        first = h.first;
        second = (s, h.second);
      },
      tt,
    )

    back : (y : AssignOp) (u : List Placed) → ReadsOp y u × IsLarge y → (x : AssignOp × Span) × (x.0 ≡ y) ×
        Then (LargeWord x.0) (Is x.1 (Mark mark.ASSIGN)) u × ((l : Limits) → Unit {0} → Unit {0} × Unit {0})
    back assign.Set u h = absurd h.1
    back assign.Add u h = absurd h.1
    back assign.Least u h = (
      (assign.Least, h.0.second.0),
      refl,
      record { front = h.0.front; back = h.0.back; whole = h.0.whole; first = h.0.first; second = h.0.second.1 },
      λ l w. (tt, tt),
    )
    back assign.Greatest u h = (
      (assign.Greatest, h.0.second.0),
      refl,
      record { front = h.0.front; back = h.0.back; whole = h.0.whole; first = h.0.first; second = h.0.second.1 },
      λ l w. (tt, tt),
    )

abbrev SmallMark : AssignOp → Form
SmallMark x u = ReadsOp x u × IsSmall x

small_one : IsOne SmallMark is_small_op (λ s k. small_op k)
small_one = record {
  form = λ s k e. elim (or_cases (is_mark mark.ASSIGN k) _ e) [
    | inl h ↦ at_kind (λ k. SmallMark (small_op k) (token s k ∷ [])) k (Mark mark.ASSIGN) h ((s, refl), tt)
    | inr h ↦ at_kind (λ k. SmallMark (small_op k) (token s k ∷ [])) k (Mark mark.PLUS_ASSIGN) h ((s, refl), tt)
  ];
  back = back;
  word = Mark mark.ASSIGN;
  is_word = refl;
}
  where
    back : (x : AssignOp) (u : List Placed) → SmallMark x u → (s : Span) × (k : Kind) × (u ≡ token s k ∷ []) ×
        (is_small_op k ≡ true) × (small_op k ≡ x)
    back assign.Set u h = (h.0.0, Mark mark.ASSIGN, h.0.1, refl, refl)
    back assign.Add u h = (h.0.0, Mark mark.PLUS_ASSIGN, h.0.1, refl, refl)
    back assign.Least u h = absurd h.1
    back assign.Greatest u h = absurd h.1

small_only : IsReader (only op_notion IsSmall) (λ l. single is_small_op (λ s k. small_op k))
small_only = let h = single_reader SmallMark is_small_op (λ s k. small_op k) small_one in made_same h
  where
    made_same : IsReader (free_notion SmallMark) (λ l. single is_small_op (λ s k. small_op k)) →
        IsReader (only op_notion IsSmall) (λ l. single is_small_op (λ s k. small_op k))
    made_same h = h

pub op_reader : IsReader op_notion (λ l. op_at)
unfolding op_at
op_reader =
    either_reader op_notion IsLarge IsSmall is_large_op (λ l.
    made (λ x. x.0) (both (single is_large_op (λ s k. large_op k)) (expect (Mark mark.ASSIGN)))) (λ l.
    single is_small_op (λ s k. small_op k))
    (made_reader large_parts.notion (only op_notion IsLarge) (λ x. x.0) large_parts.run large_image large_parts.law)
    small_only split
  where
    split : (x : AssignOp) (u : List Placed) → ReadsOp x u →
        (IsLarge x × ((r : List Placed) → begins is_large_op (u ++ r) ≡ true)) ⊎
        (IsSmall x × ((r : List Placed) → begins is_large_op (u ++ r) ≡ false))
    split assign.Set u h = inr (tt, λ r. rw (h.1) refl)
    split assign.Add u h = inr (tt, λ r. rw (h.1) refl)
    split assign.Least u h = inl (tt, λ r. rw (h.whole, h.first.1) refl)
    split assign.Greatest u h = inl (tt, λ r. rw (h.whole, h.first.1) refl)

abbrev pub an_op : Reader AssignOp
an_op = record { notion = op_notion; run = λ l. op_at; law = op_reader }
