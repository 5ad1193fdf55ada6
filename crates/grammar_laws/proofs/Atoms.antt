-- Expressions that begin with a token and end with a token of their own: literals, words, names and draws.
use Rattle.std.proofs.Common.{◌≡◌, ℕ, ℤ, pos, Bool, true, false, cond, List, [], ◌∷◌, ◌++◌, Option, refl, sym, ap, subst, ◌∙◌, inl, inr, ◌⊎◌}
use Rattle.std.specs.Prelude.{IsTrue, ◌&&◌, ◌||◌}
use Rattle.std.proofs.lemmas.Bool.{or_cases}
use Rattle.vert_base.specs.declared.text.Span.{Span}
use Rattle.vert_lex.specs.declared.marks.TheConstants as mark
use Rattle.vert_lex.specs.declared.words.TheConstants as word
use Rattle.vert_lex.specs.Text.{Placed}
use Rattle.vert_lex.specs.Tokens.{Kind, Reserved, Mark, Number, Name}
use Rattle.vert_tree.specs.declared.expression.Builtin.{Builtin}
use Rattle.vert_tree.specs.declared.expression.Builtin.TheVariants.{Id, Count, Round, InDeg, OutDeg, Active, Weight}
use Rattle.vert_tree.specs.Trees.{Named, Tree, Literal, Truth, Word, Variable, Negative, Not}
use Rattle.vert_grammar.specs.Grammar.{Is, Form, Then, TheName, TheMark, TheWord, Reads}
use Rattle.vert_grammar.specs.Reading.{Parser, both, made, maybe, begins, single, the_mark, the_word, name_at, is_atom, atom_of, is_member, is_other_at, other_in}
use Rattle.vert_grammar.specs.Signs.{token, is_mark, is_word, is_number, is_truth, is_builtin, is_other, number_in, word_in, builtin_of, builtin_word, truth_word}
use Rattle.grammar_laws.specs.Notions.{Notion, IsReader, both_notion, free_notion, IsImage}
use Rattle.grammar_laws.proofs.Signs.{same-true, IsOne, single_reader, sign_notion, expect_reader, name_notion, name_reader}
use Rattle.grammar_laws.proofs.Laws.{both_reader, made_reader}
use Rattle.grammar_laws.proofs.Either.{maybe_notion, maybe_reader}

-- what has no dot behind it
abbrev pub NoDot : List Placed → Type 0
NoDot r = begins (is_mark mark.DOT) r ≡ false

-- A name may go on with a dot, and so may what ends with an operand.
abbrev pub MayEnd : Tree → Form
MayEnd (Variable s name) r = NoDot r
MayEnd (Negative s inner) r = NoDot r
MayEnd (Not s inner) r = NoDot r
MayEnd _ r = Unit {0}

-- ---- a number, a truth value or a word
abbrev pub ReadsAtom : Tree → Form
ReadsAtom (Literal s value) u = Reads 0 (Literal s value) u
ReadsAtom (Truth s value) u = Reads 0 (Truth s value) u
ReadsAtom (Word s w) u = Reads 0 (Word s w) u
ReadsAtom _ u = ⊥

number_is : (k : Kind) → is_number k ≡ true → k ≡ Number (number_in k)
number_is (Reserved m) e = absurd cc
number_is (Mark m) e = absurd cc
number_is (Number m) e = refl
number_is (Name m) e = absurd cc

pub truth_is : (k : Kind) → is_truth k ≡ true → k ≡ Reserved (truth_word (is_word word.TRUE k))
truth_is k e = elim (or_cases (is_word word.TRUE k) (is_word word.FALSE k) e) [
  | inl h ↦ same-true k (Reserved word.TRUE) h ∙ ap (λ v. Reserved (truth_word v)) (sym h)
  | inr h ↦ (let q = same-true k (Reserved word.FALSE) h in
      subst (λ x. x ≡ Reserved (truth_word (is_word word.TRUE x))) (sym q) refl)
]

pub builtin_is : (k : Kind) → is_builtin k ≡ true → k ≡ Reserved (builtin_word (builtin_of (word_in k)))
unfolding builtin_of
builtin_is k e =
    at word.ID refl (or_cases _ _ e) (λ e.
    at word.N refl (or_cases _ _ e) (λ e.
    at word.ROUND refl (or_cases _ _ e) (λ e.
    at word.INDEG refl (or_cases _ _ e) (λ e. at word.OUTDEG refl (or_cases _ _ e)
    (λ e. at word.ACTIVE refl (or_cases _ _ e) (λ e. at word.W refl (inl e) (λ f. f)))))))
  where
    at : {Q : Type 0} (w : ℕ) → Reserved w ≡ Reserved (builtin_word (builtin_of w)) → (is_word w k ≡ true) ⊎ Q →
        (Q → k ≡ Reserved (builtin_word (builtin_of (word_in k)))) →
        k ≡ Reserved (builtin_word (builtin_of (word_in k)))
    at w is (inl h) go = let q = same-true k (Reserved w) h in
        subst (λ x. x ≡ Reserved (builtin_word (builtin_of (word_in x)))) (sym q) is
    at w is (inr h) go = go h

pub builtin_back : (w : Builtin) → (is_builtin (Reserved (builtin_word w)) ≡ true) × (builtin_of (builtin_word w) ≡ w)
unfolding builtin_of
builtin_back Id = (refl, refl)
builtin_back Count = (refl, refl)
builtin_back Round = (refl, refl)
builtin_back InDeg = (refl, refl)
builtin_back OutDeg = (refl, refl)
builtin_back Active = (refl, refl)
builtin_back Weight = (refl, refl)

atom_form : (s : Span) (k : Kind) → is_atom k ≡ true → ReadsAtom (atom_of s k) (token s k ∷ [])
atom_form s k e = go (is_number k) (is_truth k) refl refl e
  where
    go : (a b : Bool) → is_number k ≡ a → is_truth k ≡ b → (a || (b || is_builtin k)) ≡ true →
        ReadsAtom (cond a (Literal s (pos (number_in k)))
        (cond b (Truth s (is_word word.TRUE k)) (Word s (builtin_of (word_in k))))) (token s k ∷ [])
    go true b p q e = (number_in k, refl, ap (λ (x : Kind). token s x ∷ []) (number_is k p))
    go false true p q e = ap (λ (x : Kind). token s x ∷ []) (truth_is k q)
    go false false p q e = ap (λ (x : Kind). token s x ∷ []) (builtin_is k e)

-- a builtin's word is none of the others
word_atom : (s : Span) (w : Builtin) → (is_atom (Reserved (builtin_word w)) ≡ true) ×
    (atom_of s (Reserved (builtin_word w)) ≡ Word s w)
unfolding builtin_of
word_atom s Id = (refl, refl)
word_atom s Count = (refl, refl)
word_atom s Round = (refl, refl)
word_atom s InDeg = (refl, refl)
word_atom s OutDeg = (refl, refl)
word_atom s Active = (refl, refl)
word_atom s Weight = (refl, refl)

truth_atom : (s : Span) (v : Bool) → (is_atom (Reserved (truth_word v)) ≡ true) ×
    (atom_of s (Reserved (truth_word v)) ≡ Truth s v)
truth_atom s true = (refl, refl)
truth_atom s false = (refl, refl)

atom_back : (x : Tree) (u : List Placed) → ReadsAtom x u → (s : Span) × (k : Kind) × (u ≡ token s k ∷ []) ×
    (is_atom k ≡ true) × (atom_of s k ≡ x)
atom_back (Literal s value) u h = (s, Number h.0, h.2, refl, ap (λ (v : ℤ). Literal s v) (sym h.1))
atom_back (Truth s value) u h = let a = truth_atom s value in (s, Reserved (truth_word value), h, a.0, a.1)
atom_back (Word s w) u h = let a = word_atom s w in (s, Reserved (builtin_word w), h, a.0, a.1)
atom_back _ u h = absurd h

pub atom_reader : IsReader (free_notion ReadsAtom) (λ m. single is_atom atom_of)
atom_reader = single_reader ReadsAtom is_atom atom_of
    (record { form = atom_form; back = atom_back; word = Number 0; is_word = refl })

-- ---- a name, or what is asked of its slot
abbrev pub member_word : Bool → ℕ
member_word true = word.GOT
member_word false = word.VALUE

abbrev pub ReadsMember : Bool → Form
ReadsMember got = Then (TheMark mark.DOT) (TheWord (member_word got))

member_one : IsOne (λ (got : Bool). TheWord (member_word got)) is_member (λ s k. is_word word.GOT k)
member_one = record {
  form = λ s k e. (s, ap (λ (x : Kind). token s x ∷ []) (member_is k e));
  back = λ x u h. (h.0, Reserved (member_word x), h.1, (known x).0, (known x).1);
  word = Reserved word.GOT;
  is_word = refl;
}
  where
    member_is : (k : Kind) → is_member k ≡ true → k ≡ Reserved (member_word (is_word word.GOT k))
    member_is k e = elim (or_cases (is_word word.GOT k) (is_word word.VALUE k) e) [
      | inl h ↦ same-true k (Reserved word.GOT) h ∙ ap (λ v. Reserved (member_word v)) (sym h)
      | inr h ↦ (let q = same-true k (Reserved word.VALUE) h in
          subst (λ x. x ≡ Reserved (member_word (is_word word.GOT x))) (sym q) refl)
    ]

    known : (x : Bool) → (is_member (Reserved (member_word x)) ≡ true) ×
        (is_word word.GOT (Reserved (member_word x)) ≡ x)
    known true = (refl, refl)
    known false = (refl, refl)

abbrev member_at : Parser Bool
member_at = made (λ x. x.1) (both (the_mark mark.DOT) (single is_member (λ s k. is_word word.GOT k)))

member_image : IsImage (both_notion (sign_notion (Mark mark.DOT))
    (free_notion (λ (got : Bool). TheWord (member_word got)))) (free_notion ReadsMember) (λ x. x.1)
member_image = record {
  form = λ x u h. record { front = h.front; back = h.back; whole = h.whole; first = (x.0, h.first); second = h.second };
  within = λ l x h. tt;
  shallow = λ b x h. tt;
  follow = λ x r h. tt;
  back = λ y u h. (
    (h.first.0, y),
    refl,
    record {
      front = h.front;
      back = h.back;
      whole = h.whole;
      first = h.first.1;
      second = h.second;
    },
    λ l w. (tt, tt),
  );
  follow_back = λ x r h. tt;
}

member_reader : IsReader (free_notion ReadsMember) (λ m. member_at)
member_reader =
    made_reader (both_notion (sign_notion (Mark mark.DOT)) (free_notion (λ (got : Bool). TheWord (member_word got))))
    (free_notion ReadsMember) (λ x. x.1) (λ m.
    both (the_mark mark.DOT) (single is_member (λ s k. is_word word.GOT k))) member_image
    (both_reader (sign_notion (Mark mark.DOT)) (free_notion (λ (got : Bool). TheWord (member_word got))) (λ m.
    the_mark mark.DOT) (λ m. single is_member (λ s k. is_word word.GOT k)) (λ x y v r h f. tt)
    (expect_reader (Mark mark.DOT))
    (single_reader (λ (got : Bool). TheWord (member_word got)) is_member (λ s k. is_word word.GOT k) member_one))

member_opens : (x : Bool) (u r : List Placed) → ReadsMember x u → begins (is_mark mark.DOT) (u ++ r) ≡ true
member_opens x u r h = rw (h.whole, h.first.1) refl

abbrev pub named_notion : Notion (Named × Option Bool)
named_notion = both_notion name_notion (maybe_notion (free_notion ReadsMember) (is_mark mark.DOT))

pub named_reader : IsReader named_notion (λ m. both name_at (maybe (is_mark mark.DOT) member_at))
named_reader = both_reader name_notion (maybe_notion (free_notion ReadsMember) (is_mark mark.DOT)) (λ m. name_at)
    (λ m. maybe (is_mark mark.DOT) member_at) (λ x y v r h f. tt) name_reader
    (maybe_reader (free_notion ReadsMember) (is_mark mark.DOT) member_opens (λ m. member_at) member_reader)

-- ---- what is read of the neighbour
abbrev pub ReadsOther : Named ⊎ Builtin → Form
ReadsOther (inl name) u = TheName name u
ReadsOther (inr w) u = IsTrue (is_other w) × TheWord (builtin_word w) u

other_form : (s : Span) (k : Kind) → is_other_at k ≡ true → ReadsOther (other_in s k) (token s k ∷ [])
other_form s (Name text) e = refl
other_form s (Number m) e = absurd cc
other_form s (Mark m) e = absurd cc
other_form s (Reserved m) e =
    let b = and_true (is_builtin (Reserved m)) (is_other (builtin_of m)) e in
    (b.1, (s, ap (λ (x : Kind). token s x ∷ []) (builtin_is (Reserved m) b.0)))
  where
    and_true : (a b : Bool) → (a && b) ≡ true → (a ≡ true) × (b ≡ true)
    and_true true b e = (refl, e)
    and_true false b e = absurd cc

other_known : (s : Span) (w : Builtin) → IsTrue (is_other w) → (is_other_at (Reserved (builtin_word w)) ≡ true) ×
    (other_in s (Reserved (builtin_word w)) ≡ inr w)
unfolding builtin_of
other_known s Id t = (refl, refl)
other_known s InDeg t = (refl, refl)
other_known s OutDeg t = (refl, refl)
other_known s Active t = (refl, refl)
other_known s Count t = absurd cc
other_known s Round t = absurd cc
other_known s Weight t = absurd cc

other_back : (x : Named ⊎ Builtin) (u : List Placed) → ReadsOther x u → (s : Span) × (k : Kind) × (u ≡ token s k ∷ [])
    × (is_other_at k ≡ true) × (other_in s k ≡ x)
other_back (inl name) u h = (name.span, Name name.text, h, refl, refl)
other_back (inr w) u h = let o = other_known h.1.0 w h.0 in (h.1.0, Reserved (builtin_word w), h.1.1, o.0, o.1)

abbrev pub other_notion : Notion (Span × (Span × (Named ⊎ Builtin)))
other_notion = both_notion (sign_notion (Reserved word.U))
    (both_notion (sign_notion (Mark mark.DOT)) (free_notion ReadsOther))

pub other_reader : IsReader other_notion (λ m.
    both (the_word word.U) (both (the_mark mark.DOT) (single is_other_at other_in)))
other_reader =
    both_reader (sign_notion (Reserved word.U)) (both_notion (sign_notion (Mark mark.DOT)) (free_notion ReadsOther))
    (λ m. the_word word.U) (λ m. both (the_mark mark.DOT) (single is_other_at other_in)) (λ x y v r h f. tt)
    (expect_reader (Reserved word.U))
    (both_reader (sign_notion (Mark mark.DOT)) (free_notion ReadsOther) (λ m. the_mark mark.DOT) (λ m.
    single is_other_at other_in) (λ x y v r h f. tt) (expect_reader (Mark mark.DOT))
    (single_reader ReadsOther is_other_at other_in
    (record { form = other_form; back = other_back; word = Name []; is_word = refl })))

-- ---- a draw
abbrev pub PlacedNumber : Span × ℕ → Form
PlacedNumber x = Is x.0 (Number x.1)

pub number_one : IsOne PlacedNumber is_number (λ s k. (s, number_in k))
number_one = record {
  form = λ s k e. ap (λ (x : Kind). token s x ∷ []) (number_is k e);
  back = λ x u h. (x.0, Number x.1, h, refl, refl);
  word = Number 0;
  is_word = refl;
}

abbrev pub draw_notion : Notion (Span × (Span × ((Span × ℕ) × Span)))
draw_notion = both_notion (sign_notion (Reserved word.DRAW))
    (both_notion (sign_notion (Mark mark.LEFT_PARENTHESIS))
    (both_notion (free_notion PlacedNumber) (sign_notion (Mark mark.RIGHT_PARENTHESIS))))

pub draw_reader : IsReader draw_notion (λ m.
    both (the_word word.DRAW) (both (the_mark mark.LEFT_PARENTHESIS)
    (both (single is_number (λ s k. (s, number_in k))) (the_mark mark.RIGHT_PARENTHESIS))))
draw_reader =
    both_reader (sign_notion (Reserved word.DRAW))
    (both_notion (sign_notion (Mark mark.LEFT_PARENTHESIS))
    (both_notion (free_notion PlacedNumber) (sign_notion (Mark mark.RIGHT_PARENTHESIS)))) (λ m. the_word word.DRAW)
    (λ m. both (the_mark mark.LEFT_PARENTHESIS)
    (both (single is_number (λ s k. (s, number_in k))) (the_mark mark.RIGHT_PARENTHESIS))) (λ x y v r h f. tt)
    (expect_reader (Reserved word.DRAW))
    (both_reader (sign_notion (Mark mark.LEFT_PARENTHESIS))
    (both_notion (free_notion PlacedNumber) (sign_notion (Mark mark.RIGHT_PARENTHESIS))) (λ m.
    the_mark mark.LEFT_PARENTHESIS)
    (λ m. both (single is_number (λ s k. (s, number_in k))) (the_mark mark.RIGHT_PARENTHESIS)) (λ x y v r h f. tt)
    (expect_reader (Mark mark.LEFT_PARENTHESIS))
    (both_reader (free_notion PlacedNumber) (sign_notion (Mark mark.RIGHT_PARENTHESIS)) (λ m.
    single is_number (λ s k. (s, number_in k))) (λ m. the_mark mark.RIGHT_PARENTHESIS) (λ x y v r h f. tt)
    (single_reader PlacedNumber is_number (λ s k. (s, number_in k)) number_one)
    (expect_reader (Mark mark.RIGHT_PARENTHESIS))))
