-- Lines of two numbers with one blank between them.
use Rattle.std.proofs.Common.{◌≡◌, ℕ, zero, suc, ◌-◌, true, false, List, [], ◌∷◌, ◌++◌, length, get_or, map, min, Some, refl, ap, sym, ◌∙◌, arith}
use Rattle.std.specs.Prelude.{◌==◌}
use Rattle.std.specs.List.{AllByRecursion, list_all}
use Rattle.std.proofs.lemmas.Bool.{and_parts, false≢true}
use Rattle.std.proofs.lemmas.Bool.Decides.{nat_tests}
use Rattle.std.proofs.lemmas.List.{append-nil, append_assoc}
use Rattle.edge_reader.specs.declared.entry.Entry.{Entry}
use Rattle.edge_reader.specs.Lines.{is_line_end, lines_of, join_line, without_return, entry_of_line, entry_of_numbers, is_comment, one}
use Rattle.edge_reader.specs.Words.{BeginsWith, is_blank, is_number, join_byte, value_of, words_of}
use Rattle.vert_base.specs.Digits.{is_digit}
use Rattle.edge_reader.proofs.EntryLaws.{numbers_capped}
use Rattle.edge_reader.proofs.WordLaws.{join_blank}

-- what is not a byte of a word or ends a line
pub record IsPlain (byte : ℕ) : Type 0 where
  pub end : is_line_end byte ≡ false
  pub return : (byte == 13) ≡ false

digit_plain : (byte : ℕ) → is_digit byte ≡ true → IsPlain byte
digit_plain byte digit = record { end = grind (arith, nat_tests); return = grind (arith, nat_tests) }

blank_plain : (byte : ℕ) → is_blank byte ≡ true → IsPlain byte
blank_plain byte blank = record { end = grind (arith, nat_tests); return = grind (arith, nat_tests) }

digit_no_blank : (byte : ℕ) → is_digit byte ≡ true → is_blank byte ≡ false
digit_no_blank byte digit = grind (arith, nat_tests)

digit_no_comment : (byte : ℕ) → is_digit byte ≡ true → (byte == 35) ≡ false
digit_no_comment byte digit = grind (arith, nat_tests)

all_digits : (P : ℕ → Type 0) → ((byte : ℕ) → is_digit byte ≡ true → P byte) → (word : List ℕ) →
    list_all is_digit word ≡ true → AllByRecursion P word
all_digits P h [] digits = tt
all_digits P h (byte ∷ word) digits =
    let both = and_parts (is_digit byte) (list_all is_digit word) digits in
    (h byte both.0, all_digits P h word both.1)

all_joined : (P : ℕ → Type 0) (xs ys : List ℕ) → AllByRecursion P xs → AllByRecursion P ys → AllByRecursion P (xs ++ ys)
all_joined P [] ys h k = k
all_joined P (x ∷ xs) ys h k = (h.0, all_joined P xs ys h.1 k)

-- a line of such bytes ends at the line feed
lines_plain : (line rest : List ℕ) → AllByRecursion IsPlain line → lines_of (line ++ 10 ∷ rest) ≡ line ∷ lines_of rest
lines_plain [] rest h = refl
lines_plain (byte ∷ line) rest h = let goes : is_line_end byte ≡ false = h.0.end in
    rw goes (ap (join_line byte) (lines_plain line rest h.1))

no_return : (line : List ℕ) (k : ℕ) → AllByRecursion IsPlain line → (get_or line k 0 == 13) ≡ false
no_return [] k h = refl
no_return (byte ∷ line) zero h = h.0.return
no_return (byte ∷ line) (suc k) h = no_return line k h.1

returns_none : (line : List ℕ) → AllByRecursion IsPlain line → without_return line ≡ line
returns_none line h = let no : (get_or line (length line - 1) 0 == 13) ≡ false = no_return line (length line - 1) h in
    rw no refl

-- nothing or a blank stands in front
abbrev pub Parts : List ℕ → Type 0
Parts [] = Unit {0}
Parts (byte ∷ rest) = is_blank byte ≡ true

words_digits : (byte : ℕ) (word rest : List ℕ) → is_blank byte ≡ false → AllByRecursion (λ b. is_blank b ≡ false) word
    → Parts rest → words_of ((byte ∷ word) ++ rest) ≡ (byte ∷ word) ∷ words_of rest
words_digits byte [] [] here h parts = rw here refl
words_digits byte [] (d ∷ rest) here h parts = rw here (join_blank byte d rest (words_of (d ∷ rest)) parts)
words_digits byte (c ∷ word) rest here h parts =
    let next : is_blank c ≡ false = h.0 in
    rw here (ap (join_byte byte (c ∷ (word ++ rest))) (words_digits c word rest h.0 h.1 parts) ∙ rw next refl)

-- a number and what stands behind it
words_number : (word rest : List ℕ) → is_number word ≡ true → Parts rest →
    words_of (word ++ rest) ≡ word ∷ words_of rest
words_number [] rest says parts = absurd (false≢true says)
words_number (byte ∷ word) rest says parts =
    let both = and_parts (is_digit byte) (list_all is_digit word) says in
    words_digits byte word rest (digit_no_blank byte both.0)
    (all_digits (λ b. is_blank b ≡ false) digit_no_blank word both.1) parts

number_plain : (word : List ℕ) → is_number word ≡ true → AllByRecursion IsPlain word
number_plain [] says = absurd (false≢true says)
number_plain (byte ∷ word) says = all_digits IsPlain digit_plain (byte ∷ word) says

number_no_comment : (word : List ℕ) → is_number word ≡ true → is_comment word ≡ false
number_no_comment [] says = absurd (false≢true says)
number_no_comment (byte ∷ word) says = digit_no_comment byte (and_parts (is_digit byte) (list_all is_digit word) says).0

line_plain : (from to : List ℕ) (separator : ℕ) → is_number from ≡ true → is_number to ≡ true →
    is_blank separator ≡ true → AllByRecursion IsPlain (from ++ separator ∷ to)
line_plain from to separator a b blank = all_joined IsPlain from (separator ∷ to) (number_plain from a)
    (blank_plain separator blank, number_plain to b)

-- what such a line says
line_says : (from to : List ℕ) (separator : ℕ) → is_number from ≡ true → is_number to ≡ true →
    is_blank separator ≡ true →
    entry_of_line (from ++ separator ∷ to) ≡ entry_of_numbers (Some (value_of from)) (Some (value_of to)) (Some one)
line_says from to separator a b blank =
    let line = from ++ separator ∷ to in
    let whole : without_return line ≡ line = returns_none line (line_plain from to separator a b blank) in
    let last : words_of to ≡ to ∷ [] = ap words_of (sym (append-nil to)) ∙ words_number to [] b tt in
    let behind : words_of (separator ∷ to) ≡ to ∷ [] = rw blank last in
    let words : words_of line ≡ from ∷ to ∷ [] = words_number from (separator ∷ to) a blank
    ∙ ap (λ ws. from ∷ ws) behind in
    let plain : is_comment from ≡ false = number_no_comment from a in
    rw (whole, words, plain, a, b) refl

-- and the entries of a text that begins with it
module _ (bytes after left : List ℕ) (from to separator end : ℕ) (entry : Entry) where
  pub plain_entries : BeginsWith bytes from (separator ∷ after) → is_blank separator ≡ true →
      BeginsWith after to (end ∷ left) → end ≡ 10 → entry ≡ entry_of_numbers (Some from) (Some to) (Some one) →
      map entry_of_line (lines_of bytes) ≡ entry ∷ map entry_of_line (lines_of left)
  plain_entries first blank second feed is =
      let line = first.word ++ separator ∷ second.word in
      let text : bytes ≡ line ++ 10 ∷ left =
      first.parts
      ∙ (ap (λ xs. first.word ++ separator ∷ xs) (second.parts ∙ ap (λ q. second.word ++ q ∷ left) feed)
      ∙ sym (append_assoc first.word (separator ∷ second.word) (10 ∷ left))) in
      let lines : lines_of bytes ≡ line ∷ lines_of left =
      ap lines_of text ∙ lines_plain line left
      (line_plain first.word second.word separator first.says second.says blank) in
      let says : entry_of_line line ≡ entry =
      line_says first.word second.word separator first.says second.says blank
      ∙ (sym (numbers_capped (Some (value_of first.word)) (Some (value_of second.word)) (Some one))
      ∙ (ap (λ q. entry_of_numbers (Some q) (Some (min (value_of second.word) 1099511627776)) (Some one))
      (sym first.value)
      ∙ (ap (λ q. entry_of_numbers (Some from) (Some q) (Some one)) (sym second.value) ∙ sym is))) in
      ap (map entry_of_line) lines ∙ ap (λ q. q ∷ map entry_of_line (lines_of left)) says
