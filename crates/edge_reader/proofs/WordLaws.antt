use Rattle.std.proofs.Common.{◌≡◌, ℕ, ◌<◌, true, false, List, [], ◌∷◌, length, take, drop, refl, ap, sym, ◌∙◌, arith, ⊎_elim}
use Rattle.std.proofs.Math.Numerals.{one-add}
use Rattle.std.specs.List.{position_or_len}
use Rattle.std.proofs.lemmas.Bool.{cases_Bool}
use Rattle.edge_reader.specs.Words.{is_blank, is_word_byte, words_of, join_byte}

-- the first byte is no blank, or there is none
abbrev pub Begins : List ℕ → Type 0
Begins [] = Unit {0}
Begins (c ∷ s) = is_blank c ≡ false

-- blanks in front say nothing
pub words_past_blanks : (s : List ℕ) → words_of (drop (position_or_len is_word_byte s) s) ≡ words_of s
words_past_blanks [] = refl
words_past_blanks (c ∷ s) =
    ⊎_elim
    (λ (split : is_blank c ≡ true). rw (split, one-add) (words_past_blanks s))
    (λ (plain : is_blank c ≡ false). rw (plain, plain) refl)
    (cases_Bool (is_blank c))

pub begins_past_blanks : (s : List ℕ) → Begins (drop (position_or_len is_word_byte s) s)
begins_past_blanks [] = tt
begins_past_blanks (c ∷ s) =
    ⊎_elim
    (λ (split : is_blank c ≡ true). rw (split, one-add) (begins_past_blanks s))
    (λ (plain : is_blank c ≡ false). rw plain plain)
    (cases_Bool (is_blank c))

pub join_blank : (c d : ℕ) (s : List ℕ) (ws : List (List ℕ)) → is_blank d ≡ true →
    join_byte c (d ∷ s) ws ≡ (c ∷ []) ∷ ws
join_blank c d s [] split = refl
join_blank c d s (w ∷ ws) split = rw split refl

-- a first word and the others
pub words_first : (c : ℕ) (s : List ℕ) → is_blank c ≡ false →
    words_of (c ∷ s) ≡ (c ∷ take (position_or_len is_blank s) s) ∷ words_of (drop (position_or_len is_blank s) s)
words_first c [] plain = rw plain refl
words_first c (d ∷ s) plain =
    ⊎_elim
    (λ (split : is_blank d ≡ true). rw plain (join_blank c d s (words_of (d ∷ s)) split ∙ rw (split, split) refl))
    (λ (plain2 : is_blank d ≡ false).
    let more = words_first d s plain2 in
    rw plain (ap (join_byte c (d ∷ s)) more ∙ rw (plain2, one-add) refl))
    (cases_Bool (is_blank d))

words_front : (s : List ℕ) → Begins s → 0 < length s → words_of s ≡ take (position_or_len is_blank s) s
    ∷ words_of (drop (position_or_len is_blank s) s)
words_front [] h some = absurd (omega arith)
words_front (c ∷ s) h some = words_first c s h ∙ rw (h, one-add) refl

-- what stands past the blanks is a word and what is behind it
pub words_next : (s front : List ℕ) (n m : ℕ) → n ≡ position_or_len is_word_byte s → front ≡ drop n s →
    0 < length front → m ≡ position_or_len is_blank front → words_of s ≡ take m front ∷ words_of (drop m front)
words_next s front n m e f some g =
    let start : front ≡ drop (position_or_len is_word_byte s) s = f ∙ ap (λ q. drop q s) e in
    let begins : Begins front = rw start (begins_past_blanks s) in
    let whole = words_front front begins some in
    sym (words_past_blanks s) ∙ (ap words_of (sym start) ∙ rw g whole)

empty_words : (s : List ℕ) → length s ≡ 0 → words_of s ≡ []
empty_words [] h = refl
empty_words (c ∷ s) h = absurd (omega arith)

-- nothing stands past the blanks
pub words_none : (s front : List ℕ) (n : ℕ) → n ≡ position_or_len is_word_byte s → front ≡ drop n s →
    length front ≡ 0 → words_of s ≡ []
words_none s front n e f none =
    let start : front ≡ drop (position_or_len is_word_byte s) s = f ∙ ap (λ q. drop q s) e in
    sym (words_past_blanks s) ∙ (ap words_of (sym start) ∙ empty_words front none)
