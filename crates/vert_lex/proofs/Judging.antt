-- What the bytes of a token are.
use Rattle.std.proofs.Common.{◌≡◌, ℕ, zero, suc, ◌+◌, ◌-◌, ◌*◌, ◌/◌, ◌≤◌, ◌<◌, Bool, true, false, cond, List, [], ◌∷◌, length, drop, get_or, Option, Some, None, Ok, Err, refl, sym, ap, ◌∙◌, arith, drop-cons}
use Rattle.std.specs.List.{list_all}
use Rattle.std.specs.Prelude.{nat_lt, is_some}
use Rattle.std.specs.Char.{digit_value}
use Rattle.std.specs.Str.Parse.{digits_value, digits_value_after}
use Rattle.vert_lex.specs.Places.{marks, reserved_words, place_of}
use Rattle.vert_lex.specs.Tokens.{Kind, Reserved, Mark, Number, Name, is_letter, is_digit, is_word, word_at, mark_at, kind_of}
use Rattle.vert_base.specs.declared.text.Span.{Span}
use Rattle.vert_lex.specs.declared.token.LexFault.TheVariants.{BadByte, BadNumber}
use Rattle.vert_lex.specs.Text.{judged}
use Rattle.vert_lex.proofs.Longest.{is_token, kind_nothing}

word_is : (b : ℕ) (bs : List ℕ) → is_letter b ≡ true →
    kind_of (b ∷ bs) ≡ cond (list_all is_word bs) (Some (word_at (place_of reserved_words (b ∷ bs)) (b ∷ bs))) None
unfolding kind_of
word_is b bs l = rw l refl

number_is : (b : ℕ) (bs : List ℕ) → is_letter b ≡ false → is_digit b ≡ true →
    kind_of (b ∷ bs) ≡ cond (list_all is_digit bs) (Some (Number (digits_value 10 (b ∷ bs)))) None
unfolding kind_of
number_is b bs l d = rw (l, d) refl

mark_is : (b : ℕ) (bs : List ℕ) → is_letter b ≡ false → is_digit b ≡ false →
    kind_of (b ∷ bs) ≡ mark_at (place_of marks (b ∷ bs))
unfolding kind_of
mark_is b bs l d = rw (l, d) refl

only_some : (v : Bool) (k : Kind) → is_some (cond v (Some k) None) ≡ true → v ≡ true
only_some true k h = refl
only_some false k h = h

all_at : (p : ℕ → Bool) (xs : List ℕ) → list_all p xs ≡ true → (i : ℕ) → i < length xs → p (get_or xs i 0) ≡ true
all_at p [] h i lt = absurd (omega arith)
all_at p (x ∷ xs) h zero lt = grind (arith, h)
all_at p (x ∷ xs) h (suc i) lt = all_at p xs (grind (arith, h)) i (omega arith)

letter_word : (b : ℕ) → is_letter b ≡ true → is_word b ≡ true
letter_word b l = rw l refl

nothing : is_token [] ≡ true → ⊥
nothing h = let e : is_token [] ≡ false = ap is_some kind_nothing in cc

-- ---- words
pub word_bytes : (bytes : List ℕ) → is_token bytes ≡ true → is_letter (get_or bytes 0 0) ≡ true → (i : ℕ) →
    i < length bytes → is_word (get_or bytes i 0) ≡ true
word_bytes [] h l i lt = absurd (nothing h)
word_bytes (b ∷ bs) h l zero lt = letter_word b l
word_bytes (b ∷ bs) h l (suc i) lt = all_at is_word bs
    (only_some (list_all is_word bs) _ (sym (ap is_some (word_is b bs l)) ∙ h)) i (omega arith)

pub word_kind : (bytes : List ℕ) → is_token bytes ≡ true → is_letter (get_or bytes 0 0) ≡ true →
    kind_of bytes ≡ Some (word_at (place_of reserved_words bytes) bytes)
word_kind [] h l = absurd (nothing h)
word_kind (b ∷ bs) h l =
    let a : list_all is_word bs ≡ true = only_some (list_all is_word bs) _ (sym (ap is_some (word_is b bs l)) ∙ h) in
    word_is b bs l ∙ rw a refl

-- ---- numbers
pub number_bytes : (bytes : List ℕ) → is_token bytes ≡ true → is_letter (get_or bytes 0 0) ≡ false →
    is_digit (get_or bytes 0 0) ≡ true → (i : ℕ) → i < length bytes → is_digit (get_or bytes i 0) ≡ true
number_bytes [] h l d i lt = absurd (nothing h)
number_bytes (b ∷ bs) h l d zero lt = d
number_bytes (b ∷ bs) h l d (suc i) lt = all_at is_digit bs
    (only_some (list_all is_digit bs) _ (sym (ap is_some (number_is b bs l d)) ∙ h)) i (omega arith)

pub number_kind : (bytes : List ℕ) → is_token bytes ≡ true → is_letter (get_or bytes 0 0) ≡ false →
    is_digit (get_or bytes 0 0) ≡ true → kind_of bytes ≡ Some (Number (digits_value 10 bytes))
number_kind [] h l d = absurd (nothing h)
number_kind (b ∷ bs) h l d =
    let a : list_all is_digit bs ≡ true = only_some (list_all is_digit bs) _ (sym (ap is_some (number_is b bs l d))
    ∙ h) in
    number_is b bs l d ∙ rw a refl

-- ---- marks
pub mark_kind : (bytes : List ℕ) → is_token bytes ≡ true → is_letter (get_or bytes 0 0) ≡ false →
    is_digit (get_or bytes 0 0) ≡ false → kind_of bytes ≡ mark_at (place_of marks bytes)
mark_kind [] h l d = absurd (nothing h)
mark_kind (b ∷ bs) h l d = mark_is b bs l d

-- ---- values
pub digit_is : (b : ℕ) → is_digit b ≡ true → digit_value b ≡ b - 48
digit_is b d = grind (arith, d)

-- more digits make no less
pub after_ge : (n : ℕ) (ds : List ℕ) → n ≤ digits_value_after 10 n ds
after_ge n [] = omega arith
after_ge n (d ∷ ds) = let h = after_ge (n * 10 + digit_value d) ds in omega (arith, h)

number_read : (s : Span) (v value : ℕ) → Some value ≡ cond (nat_lt 9223372036854775807 v) None (Some v) →
    judged s (Some (Number v)) ≡ Ok (Number value)
number_read s v value e = go (nat_lt 9223372036854775807 v) e
  where
    go : (w : Bool) → Some value ≡ cond w None (Some v) → cond w (Err (BadNumber s)) (Ok (Number v)) ≡ Ok (Number value)
    go true h = absurd (cc)
    go false h = let same : v ≡ value = cc in ap (λ n. Ok (Number n)) same

number_refused : (s : Span) (v : ℕ) → None ≡ cond (nat_lt 9223372036854775807 v) None (Some v) →
    judged s (Some (Number v)) ≡ Err (BadNumber s)
number_refused s v e = go (nat_lt 9223372036854775807 v) e
  where
    go : (w : Bool) → ◌≡◌ {A = Option ℕ} None (cond w None (Some v)) → cond w (Err (BadNumber s)) (Ok (Number v))
        ≡ Err (BadNumber s)
    go true h = refl
    go false h = absurd (cc)

-- ---- what the bytes are judged to be
module _ (s : Span) (bytes : List ℕ) (token : is_token bytes ≡ true) (b : ℕ) (first : b ≡ get_or bytes 0 0) where
  at_first : (p : ℕ → Bool) (v : Bool) → p b ≡ v → p (get_or bytes 0 0) ≡ v
  at_first p v h = ap p (sym first) ∙ h

  pub word_all : is_letter b ≡ true → (i : ℕ) → i < length bytes → is_word (get_or bytes i 0) ≡ true
  word_all l = word_bytes bytes token (at_first is_letter true l)

  pub judged_word : is_letter b ≡ true → (place : ℕ) → Some place ≡ place_of reserved_words bytes →
      judged s (kind_of bytes) ≡ Ok (Reserved place)
  judged_word l place e = ap (judged s) (word_kind bytes token (at_first is_letter true l))
      ∙ ap (λ o. judged s (Some (word_at o bytes))) (sym e)

  pub judged_name : is_letter b ≡ true → None ≡ place_of reserved_words bytes → (text : List ℕ) → text ≡ bytes →
      judged s (kind_of bytes) ≡ Ok (Name text)
  judged_name l e text same = ap (judged s) (word_kind bytes token (at_first is_letter true l))
      ∙ ap (λ o. judged s (Some (word_at o bytes))) (sym e) ∙ ap (λ t. Ok (Name t)) (sym same)

  pub number_all : is_letter b ≡ false → is_digit b ≡ true → (i : ℕ) → i < length bytes →
      is_digit (get_or bytes i 0) ≡ true
  number_all l d = number_bytes bytes token (at_first is_letter false l) (at_first is_digit true d)

  pub judged_number : is_letter b ≡ false → is_digit b ≡ true → (value : ℕ) →
      Some value ≡ cond (nat_lt 9223372036854775807 (digits_value 10 bytes)) None (Some (digits_value 10 bytes)) →
      judged s (kind_of bytes) ≡ Ok (Number value)
  judged_number l d value e = ap (judged s)
      (number_kind bytes token (at_first is_letter false l) (at_first is_digit true d))
      ∙ number_read s (digits_value 10 bytes) value e

  pub judged_great : is_letter b ≡ false → is_digit b ≡ true →
      None ≡ cond (nat_lt 9223372036854775807 (digits_value 10 bytes)) None (Some (digits_value 10 bytes)) →
      judged s (kind_of bytes) ≡ Err (BadNumber s)
  judged_great l d e = ap (judged s) (number_kind bytes token (at_first is_letter false l) (at_first is_digit true d))
      ∙ number_refused s (digits_value 10 bytes) e

  pub judged_mark : is_letter b ≡ false → is_digit b ≡ false → (place : ℕ) → Some place ≡ place_of marks bytes →
      judged s (kind_of bytes) ≡ Ok (Mark place)
  judged_mark l d place e = ap (judged s) (mark_kind bytes token (at_first is_letter false l)
      (at_first is_digit false d)) ∙ ap (λ o. judged s (mark_at o)) (sym e)

  pub judged_none : is_letter b ≡ false → is_digit b ≡ false → None ≡ place_of marks bytes →
      judged s (kind_of bytes) ≡ Err (BadByte s)
  judged_none l d e = ap (judged s) (mark_kind bytes token (at_first is_letter false l) (at_first is_digit false d))
      ∙ ap (λ o. judged s (mark_at o)) (sym e)

above : (m n : ℕ) → m < n → nat_lt m n ≡ true
above m n lt = grind arith

-- one more digit makes too much
module _ (digits : List ℕ) (i value digit : ℕ) where
  pub too_great : i < length digits → is_digit (get_or digits i 0) ≡ true → digit ≡ get_or digits i 0 - 48 →
      (9223372036854775807 - digit) / 10 < value →
      digits_value_after 10 value (drop i digits) ≡ digits_value 10 digits →
      None ≡ cond (nat_lt 9223372036854775807 (digits_value 10 digits)) None (Some (digits_value 10 digits))
  too_great lt d e more passed =
      let b = get_or digits i 0 in
      let cut : drop i digits ≡ b ∷ drop (suc i) digits = drop-cons digits i 0 lt in
      let next : digits_value_after 10 (value * 10 + digit_value b) (drop (suc i) digits) ≡ digits_value 10 digits =
      sym (ap (digits_value_after 10 value) cut) ∙ passed in
      let ge = after_ge (value * 10 + digit_value b) (drop (suc i) digits) in
      let v : digit_value b ≡ b - 48 = digit_is b d in
      let great : 9223372036854775807 < digits_value 10 digits = omega (arith, ge, next, v, e, more) in
      let test : nat_lt 9223372036854775807 (digits_value 10 digits) ≡ true =
      above 9223372036854775807 (digits_value 10 digits) great in
      rw test refl
