-- The text of a token is read as that token.
use Rattle.std.proofs.Common.{◌≡◌, ℕ, ◌≤◌, ◌<◌, Bool, true, false, cond, List, [], ◌∷◌, length, get_or, Option, Some, None, Ok, Err, refl, sym, ap, subst, ◌∙◌, arith}
use Rattle.std.proofs.lemmas.Bool.Decides.{nat_tests}
use Rattle.std.proofs.lemmas.Fmt.{decimal_is_IsNumeral}
use Rattle.std.proofs.lemmas.List.Quantifiers.{position-Some}
use Rattle.std.proofs.lemmas.Slice.Eq.{bytes_eq-Decides}
use Rattle.std.proofs.lemmas.Str.Parse.{digit_from_value}
use Rattle.std.specs.List.{list_all}
use Rattle.std.specs.Prelude.{nat_lt, is_some, decimal}
use Rattle.std.specs.Str.{bytes_eq}
use Rattle.std.specs.Str.Parse.{AllDigits, digits_value}
use Rattle.vert_base.specs.declared.text.Span.{Span}
use Rattle.vert_lex.specs.declared.token.LexFault.TheVariants.{BadNumber}
use Rattle.vert_lex.specs.Places.{marks, reserved_words, place_of}
use Rattle.vert_lex.specs.Text.{judged}
use Rattle.vert_lex.specs.Tokens.{Kind, Reserved, Mark, Number, Name, is_letter, is_digit, word_at, mark_at, kind_of}
use Rattle.vert_lex.proofs.Judging.{word_kind, number_kind, mark_kind}
use Rattle.vert_lex.proofs.Longest.{is_token}
use Rattle.vert_grammar.specs.Signs.{is_number}
use Rattle.print_law.specs.Layout.{text_of}

-- its text is read as it, and it is within the greatest number
pub record IsToken (k : Kind) : Type 0 where
  pub read : kind_of (text_of k) ≡ Some k
  pub fits : (s : Span) → judged s (Some k) ≡ Ok k

-- ---- words, names and marks
placed_text : (texts : List (List ℕ)) (text : List ℕ) (place : ℕ) → place_of texts text ≡ Some place →
    get_or texts place [] ≡ text
placed_text texts text place e = (bytes_eq-Decides (get_or texts place []) text).0
    (position-Some (λ t. bytes_eq t text) texts place [] e).1

word_text : (bytes : List ℕ) (o : Option ℕ) → place_of reserved_words bytes ≡ o → text_of (word_at o bytes) ≡ bytes
word_text bytes (Some place) e = placed_text reserved_words bytes place e
word_text bytes None e = refl

mark_text : (bytes : List ℕ) (k : Kind) (o : Option ℕ) → place_of marks bytes ≡ o → mark_at o ≡ Some k →
    text_of k ≡ bytes
mark_text bytes k (Some place) e f = let same : Mark place ≡ k = cc in sym (ap text_of same)
    ∙ placed_text marks bytes place e
mark_text bytes k None e f = absurd cc

-- a token's text are the bytes that it was read from, but for numbers
pub kind_text : (bytes : List ℕ) (k : Kind) → kind_of bytes ≡ Some k → is_number k ≡ false → text_of k ≡ bytes
kind_text bytes k e n = go (is_letter (get_or bytes 0 0)) refl (is_digit (get_or bytes 0 0)) refl
  where
    token : is_token bytes ≡ true
    token = ap is_some e

    go : (x : Bool) → is_letter (get_or bytes 0 0) ≡ x → (y : Bool) → is_digit (get_or bytes 0 0) ≡ y →
        text_of k ≡ bytes
    go true l y d =
        let f : Some k ≡ Some (word_at (place_of reserved_words bytes) bytes) = sym e ∙ word_kind bytes token l in
        let same : k ≡ word_at (place_of reserved_words bytes) bytes = cc in
        ap text_of same ∙ word_text bytes (place_of reserved_words bytes) refl
    go false l true d =
        let f : Some k ≡ Some (Number (digits_value 10 bytes)) = sym e ∙ number_kind bytes token l d in
        let same : k ≡ Number (digits_value 10 bytes) = cc in
        absurd (let bad : true ≡ false = sym (ap is_number same) ∙ n in cc)
    go false l false d = mark_text bytes k (place_of marks bytes) refl (sym (mark_kind bytes token l d) ∙ e)

-- ---- numbers
digit_tests : (c : ℕ) → 48 ≤ c → c ≤ 57 → (is_digit c ≡ true) × (is_letter c ≡ false)
digit_tests c low high = (grind (arith, nat_tests), grind (arith, nat_tests))

digits_all : (ds : List ℕ) → AllDigits 10 ds → list_all is_digit ds ≡ true
digits_all [] h = refl
digits_all (c ∷ cs) h =
    let r = digit_from_value c h.0 in
    let t = digit_tests c r.0 r.1 in
    rw t.0 (digits_all cs h.1)

number_is : (c : ℕ) (cs : List ℕ) → is_letter c ≡ false → is_digit c ≡ true → list_all is_digit cs ≡ true →
    kind_of (c ∷ cs) ≡ Some (Number (digits_value 10 (c ∷ cs)))
unfolding kind_of
number_is c cs l d a = rw (l, d, a) refl

digits_read : (ds : List ℕ) → 0 < length ds → AllDigits 10 ds → kind_of ds ≡ Some (Number (digits_value 10 ds))
digits_read [] pos h = absurd (omega arith)
digits_read (c ∷ cs) pos h =
    let r = digit_from_value c h.0 in
    let t = digit_tests c r.0 r.1 in
    number_is c cs t.1 t.0 (digits_all cs h.1)

number_read : (v : ℕ) → v ≤ 9223372036854775807 → kind_of (decimal v) ≡ Some (Number v)
number_read v le =
    let r = decimal_is_IsNumeral v (omega arith) in
    digits_read (decimal v) r.0.0 r.0.1 ∙ ap (λ n. Some (Number n)) r.1

number_token : (v : ℕ) → nat_lt 9223372036854775807 v ≡ false → IsToken (Number v)
number_token v e = record { read = number_read v (grind (arith, nat_tests)); fits = λ s. rw e refl }

-- ---- what was judged to be a token is one
other_token : (bytes : List ℕ) (k : Kind) → kind_of bytes ≡ Some k → is_number k ≡ false →
    ((s : Span) → judged s (Some k) ≡ Ok k) → IsToken k
other_token bytes k e n f = record { read = ap kind_of (kind_text bytes k e n) ∙ e; fits = f }

pub judged_token : (s : Span) (bytes : List ℕ) (k : Kind) → judged s (kind_of bytes) ≡ Ok k → IsToken k
judged_token s bytes k h = go (kind_of bytes) refl h
  where
    number : (v : ℕ) (b : Bool) → nat_lt 9223372036854775807 v ≡ b → cond b (Err (BadNumber s)) (Ok (Number v)) ≡ Ok k
        → IsToken k
    number v true e f = absurd cc
    number v false e f = let same : Number v ≡ k = cc in subst IsToken same (number_token v e)

    go : (o : Option Kind) → kind_of bytes ≡ o → judged s o ≡ Ok k → IsToken k
    go None e f = absurd cc
    go (Some (Number v)) e f = number v (nat_lt 9223372036854775807 v) refl f
    go (Some (Reserved place)) e f = let same : Reserved place ≡ k = cc in
        subst IsToken same (other_token bytes (Reserved place) e refl (λ z. refl))
    go (Some (Mark place)) e f = let same : Mark place ≡ k = cc in
        subst IsToken same (other_token bytes (Mark place) e refl (λ z. refl))
    go (Some (Name text)) e f = let same : Name text ≡ k = cc in
        subst IsToken same (other_token bytes (Name text) e refl (λ z. refl))
