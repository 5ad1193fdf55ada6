-- The names among the tokens of a text are plain, and there are no more tokens than bytes.
use Rattle.std.proofs.Common.{◌≡◌, ◌<◌, ◌≤◌, ℕ, zero, suc, pred, Bool, true, false, not, List, [], ◌∷◌, length, take, Option, Some, None, Ok, Err, refl, subst, arith, nat_eq}
use Rattle.std.specs.Prelude.{if◌then◌else◌, nat_lt, Result}
use Rattle.std.specs.List.{AllByRecursion, list_all}
use Rattle.std.specs.Str.{IsAscii}
use Rattle.std.specs.Str.Parse.{digits_value}
use Rattle.std.proofs.lemmas.Bool.{and_parts}
use Rattle.vert_base.specs.declared.text.Span.{Span}
use Rattle.vert_lex.specs.declared.token.LexFault.{LexFault}
use Rattle.vert_lex.specs.declared.token.LexFault.TheVariants.{BadNumber, TooLong}
use Rattle.vert_lex.specs.Places.{marks, place_of, reserved_words}
use Rattle.vert_lex.specs.Text.{Placed, after, followed, is_blank, is_comment, judged, origin, tokens_at, tokens_of}
use Rattle.vert_lex.specs.Tokens.{Kind, Reserved, Mark, Number, Name, is_digit, is_letter, is_word, kind_of, longest, mark_at, word_at}
use Rattle.vert_grammar.specs.Spelling.{kinds}
use Rattle.program_reader.proofs.SpelledNames.{OfName}
use Rattle.program_reader.proofs.Strings.{IsPlain}

-- ---- one token
letter_ascii : (b : ℕ) → is_letter b ≡ true → b < 128
letter_ascii b h = grind (arith, h)

word_ascii : (b : ℕ) → is_word b ≡ true → b < 128
word_ascii b h = grind (arith, h)

words_ascii : (bs : List ℕ) → list_all is_word bs ≡ true → IsAscii bs
words_ascii [] h i = omega arith
words_ascii (b ∷ bs) h zero = word_ascii b (and_parts (is_word b) (list_all is_word bs) h).0
words_ascii (b ∷ bs) h (suc i) = words_ascii bs (and_parts (is_word b) (list_all is_word bs) h).1 i

word_plain : (b : ℕ) (bs : List ℕ) → is_letter b ≡ true → list_all is_word bs ≡ true → IsAscii (b ∷ bs)
word_plain b bs l h zero = letter_ascii b l
word_plain b bs l h (suc i) = words_ascii bs h i

abbrev IsPlainFound : Option Kind → Type 0
IsPlainFound None = Unit {0}
IsPlainFound (Some kind) = OfName IsPlain kind

named : (place : Option ℕ) (word : List ℕ) → IsPlain word → OfName IsPlain (word_at place word)
named (Some place) word h = tt
named None word h = h

marked : (place : Option ℕ) → IsPlainFound (mark_at place)
marked (Some place) = tt
marked None = tt

module _ (b : ℕ) (bs : List ℕ) (few : length (b ∷ bs) ≤ 65536) where
  -- what these bytes are, if all of them are of words, or of numbers, or the first is no letter
  abbrev as_word : Bool → Option Kind
  as_word all = if all then Some (word_at (place_of reserved_words (b ∷ bs)) (b ∷ bs)) else None

  abbrev as_number : Bool → Option Kind
  as_number all = if all then Some (Number (digits_value 10 (b ∷ bs))) else None

  abbrev as_other : Bool → Option Kind
  as_other digit = if digit then as_number (list_all is_digit bs) else mark_at (place_of marks (b ∷ bs))

  word_found : (all : Bool) → is_letter b ≡ true → list_all is_word bs ≡ all → IsPlainFound (as_word all)
  word_found true l e =
      named (place_of reserved_words (b ∷ bs)) (b ∷ bs) (record { ascii = word_plain b bs l e; few = few })
  word_found false l e = tt

  number_found : (all : Bool) → IsPlainFound (as_number all)
  number_found true = tt
  number_found false = tt

  other_found : (digit : Bool) → IsPlainFound (as_other digit)
  other_found true = number_found (list_all is_digit bs)
  other_found false = marked (place_of marks (b ∷ bs))

  begun : (letter : Bool) → is_letter b ≡ letter
      → IsPlainFound (if letter then as_word (list_all is_word bs) else as_other (is_digit b))
  begun true l = word_found (list_all is_word bs) l refl
  begun false l = other_found (is_digit b)

kind_plain : (bytes : List ℕ) → length bytes ≤ 65536 → IsPlainFound (kind_of bytes)
unfolding kind_of
kind_plain [] few = tt
kind_plain (b ∷ bs) few = begun b bs few (is_letter b) refl

-- ---- all tokens
abbrev IsPlainJudged : Result Kind LexFault → Type 0
IsPlainJudged (Ok kind) = OfName IsPlain kind
IsPlainJudged (Err fault) = Unit {0}

number_plain : (s : Span) (value : ℕ) (b : Bool) → IsPlainJudged (if b then Err (BadNumber s) else Ok (Number value))
number_plain s value true = tt
number_plain s value false = tt

judged_plain : (s : Span) (kind : Option Kind) → IsPlainFound kind → IsPlainJudged (judged s kind)
judged_plain s None h = tt
judged_plain s (Some (Number value)) h = number_plain s value (nat_lt 9223372036854775807 value)
judged_plain s (Some (Reserved place)) h = tt
judged_plain s (Some (Mark place)) h = tt
judged_plain s (Some (Name text)) h = h

-- plain tokens, and no more than this
pub record ArePlain (n : ℕ) (placed : List Placed) : Type 0 where
  pub plain : AllByRecursion (OfName IsPlain) (kinds placed)
  pub few : length (kinds placed) ≤ n

abbrev Answers : ℕ → Result (List Placed) LexFault → Type 0
Answers n (Ok placed) = ArePlain n placed
Answers n (Err fault) = Unit {0}

one_more : (n : ℕ) (r : Result (List Placed) LexFault) → Answers n r → Answers (suc n) r
one_more n (Ok placed) h = record { plain = h.plain; few = let k = h.few in omega (arith, k) }
one_more n (Err fault) h = tt

followed_plain : (s : Span) (n : ℕ) (kind : Result Kind LexFault) (others : Result (List Placed) LexFault)
    → IsPlainJudged kind → Answers n others → Answers (suc n) (followed s kind others)
followed_plain s n (Ok kind) (Ok others) p h = record { plain = (p, h.plain); few = let k = h.few in omega (arith, k) }
followed_plain s n (Ok kind) (Err fault) p h = tt
followed_plain s n (Err fault) others p h = tt

pick_plain : (n : ℕ) (b : Bool) (x y : Result (List Placed) LexFault) → Answers n x → Answers n y
    → Answers n (if b then x else y)
pick_plain n true x y h k = h
pick_plain n false x y h k = k

take_few : (n : ℕ) (bytes : List ℕ) → length (take n bytes) ≤ length bytes
take_few zero bytes = omega arith
take_few (suc n) [] = omega arith
take_few (suc n) (b ∷ bs) = let h = take_few n bs in omega (arith, h)

at_plain : (comment : Bool) (n : ℕ) (s : Span) (text : List ℕ) → length text ≤ 65536
    → Answers (length text) (tokens_at comment n s text)
at_plain comment n s [] few = record { plain = tt; few = omega arith }
at_plain true n s (b ∷ bs) few =
    one_more (length bs) _ (at_plain (not (nat_eq b 10)) 0 (after s b) bs (omega (arith, few)))
at_plain false (suc n) s (b ∷ bs) few = one_more (length bs) _ (at_plain false n (after s b) bs (omega (arith, few)))
at_plain false zero s (b ∷ bs) few =
    let less : length bs ≤ 65536 = omega (arith, few) in
    let n = longest (length (b ∷ bs)) (b ∷ bs) in
    let cut = take_few n (b ∷ bs) in
    let token = kind_of (take n (b ∷ bs)) in
    let m = suc (length bs) in
    pick_plain m (is_blank b) _ _ (one_more (length bs) _ (at_plain false 0 (after s b) bs less))
    (pick_plain m (is_comment b bs) _ _ (one_more (length bs) _ (at_plain true 0 (after s b) bs less))
    (followed_plain s (length bs) (judged s token) (tokens_at false (pred n) (after s b) bs)
    (judged_plain s token (kind_plain (take n (b ∷ bs)) (omega (arith, few, cut))))
    (at_plain false (pred n) (after s b) bs less)))

weaken : (n : ℕ) (r : Result (List Placed) LexFault) → n ≤ 65536 → Answers n r → Answers 65536 r
weaken n (Ok placed) le h = record { plain = h.plain; few = let k = h.few in omega (arith, le, k) }
weaken n (Err fault) le h = tt

-- the tokens of a text are few, and their names plain
pub tokens_plain : (text : List ℕ) (placed : List Placed) → length text ≤ 65536 → tokens_of text ≡ Ok placed
    → ArePlain 65536 placed
tokens_plain text placed few is =
    subst (Answers 65536) is
    (pick_plain 65536 (nat_lt 65536 (length text)) (Err TooLong) _ tt
    (weaken (length text) (tokens_at false 0 origin text) few (at_plain false 0 origin text few)))
