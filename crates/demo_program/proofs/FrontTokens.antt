-- The tokens of a text by the runs of letters and digits at its front.
use Rattle.std.proofs.Common.{◌≡◌, ℕ, zero, suc, ◌+◌, ◌<◌, ◌≤◌, Bool, true, false, List, [], ◌∷◌, length, get_or, take, Result, Ok, Err, refl, sym, ap, ◌∙◌, arith}
use Rattle.std.specs.Prelude.{if◌then◌else◌, ◌==◌, nat_lt, not, pred}
use Rattle.vert_base.specs.declared.text.Span.{Span}
use Rattle.vert_lex.specs.declared.token.LexFault.{LexFault}
use Rattle.vert_lex.specs.declared.token.LexFault.TheVariants.{TooLong}
use Rattle.vert_lex.specs.Text.{Placed, after, followed, is_blank, is_comment, judged, origin, tokens_at, tokens_of}
use Rattle.vert_lex.specs.Tokens.{is_digit, is_letter, is_word, kind_of, longest}
use Rattle.vert_lex.proofs.Longest.{begins_with_mark, none_at_front, number_longest, one_at_front, two_at_front, word_longest}

-- how many bytes at the front pass
abbrev pub run_of : (ℕ → Bool) → List ℕ → ℕ
run_of p [] = 0
run_of p (x ∷ xs) = if p x then suc (run_of p xs) else 0

run_within : (p : ℕ → Bool) (xs : List ℕ) → run_of p xs ≤ length xs
run_within p [] = omega arith
run_within p (x ∷ xs) = by_test (p x) (run_within p xs)
  where
    by_test : (b : Bool) → run_of p xs ≤ length xs → (if b then suc (run_of p xs) else 0) ≤ length (x ∷ xs)
    by_test true h = omega arith
    by_test false h = omega arith

run_passes : (p : ℕ → Bool) (xs : List ℕ) (i : ℕ) → i < run_of p xs → p (get_or xs i 0) ≡ true
run_passes p [] i lt = absurd (omega arith)
run_passes p (x ∷ xs) i lt = by_test (p x) refl (run_passes p xs) i lt
  where
    by_test : (b : Bool) → p x ≡ b → ((j : ℕ) → j < run_of p xs → p (get_or xs j 0) ≡ true) → (i : ℕ) →
        i < (if b then suc (run_of p xs) else 0) → p (get_or (x ∷ xs) i 0) ≡ true
    by_test true is behind zero lt = is
    by_test true is behind (suc i) lt = behind i (omega arith)
    by_test false is behind i lt = absurd (omega arith)

run_stops : (p : ℕ → Bool) (xs : List ℕ) → run_of p xs < length xs → p (get_or xs (run_of p xs) 0) ≡ false
run_stops p [] lt = absurd (omega arith)
run_stops p (x ∷ xs) lt = by_test (p x) refl (run_stops p xs) lt
  where
    by_test : (b : Bool) → p x ≡ b → (run_of p xs < length xs → p (get_or xs (run_of p xs) 0) ≡ false) →
        (if b then suc (run_of p xs) else 0) < length (x ∷ xs) →
        p (get_or (x ∷ xs) (if b then suc (run_of p xs) else 0) 0) ≡ false
    by_test true is behind lt = behind (omega arith)
    by_test false is behind lt = is

-- the length of the token at the front of a text, or 0
abbrev pub mark_front : Bool → Bool → ℕ
mark_front true one = 2
mark_front false true = 1
mark_front false false = 0

abbrev pub digit_front : Bool → ℕ → List ℕ → ℕ
digit_front true b rest = 1 + run_of is_digit rest
digit_front false b rest = mark_front (begins_with_mark (b ∷ rest) 2) (begins_with_mark (b ∷ rest) 1)

abbrev pub letter_front : Bool → ℕ → List ℕ → ℕ
letter_front true b rest = 1 + run_of is_word rest
letter_front false b rest = digit_front (is_digit b) b rest

module _ (b : ℕ) (rest : List ℕ) where
  by_marks : is_letter b ≡ false → is_digit b ≡ false → (two one : Bool) → begins_with_mark (b ∷ rest) 2 ≡ two →
      begins_with_mark (b ∷ rest) 1 ≡ one → longest (length (b ∷ rest)) (b ∷ rest) ≡ mark_front two one
  by_marks l d true one marked next = sym (two_at_front (b ∷ rest) b rest (omega arith) refl refl l d marked)
  by_marks l d false true unmarked marked =
      sym (one_at_front (b ∷ rest) b rest (omega arith) refl refl l d unmarked marked)
  by_marks l d false false unmarked neither =
      sym (none_at_front (b ∷ rest) b rest (omega arith) refl refl l d unmarked neither)

  by_digit : is_letter b ≡ false → (v : Bool) → is_digit b ≡ v →
      longest (length (b ∷ rest)) (b ∷ rest) ≡ digit_front v b rest
  by_digit l true d = number_longest b rest (run_of is_digit rest) (run_within is_digit rest) l d
      (run_passes is_digit rest) (run_stops is_digit rest)
  by_digit l false d = by_marks l d (begins_with_mark (b ∷ rest) 2) (begins_with_mark (b ∷ rest) 1) refl refl

  by_letter : (v : Bool) → is_letter b ≡ v → longest (length (b ∷ rest)) (b ∷ rest) ≡ letter_front v b rest
  by_letter true l = word_longest b rest (run_of is_word rest) (run_within is_word rest) l (run_passes is_word rest)
      (run_stops is_word rest)
  by_letter false l = by_digit l (is_digit b) refl

  front_is : longest (length (b ∷ rest)) (b ∷ rest) ≡ letter_front (is_letter b) b rest
  front_is = by_letter (is_letter b) refl

-- the tokens from a place on, as they are by the longest token at the front
abbrev pub fronts_at : Bool → ℕ → Span → List ℕ → Result (List Placed) LexFault
fronts_at comment n s [] = Ok []
fronts_at true n s (b ∷ bs) = fronts_at (not (b == 10)) 0 (after s b) bs
fronts_at false (suc n) s (b ∷ bs) = fronts_at false n (after s b) bs
fronts_at false zero s (b ∷ bs) =
    if is_blank b then fronts_at false 0 (after s b) bs
    else (if is_comment b bs then fronts_at true 0 (after s b) bs
    else (let n = letter_front (is_letter b) b bs in
    followed s (judged s (kind_of (take n (b ∷ bs)))) (fronts_at false (pred n) (after s b) bs)))

same_at : (comment : Bool) (n : ℕ) (s : Span) (text : List ℕ) → tokens_at comment n s text ≡ fronts_at comment n s text
same_at true n s [] = refl
same_at false zero s [] = refl
same_at false (suc n) s [] = refl
same_at true n s (b ∷ bs) = same_at (not (b == 10)) 0 (after s b) bs
same_at false (suc n) s (b ∷ bs) = same_at false n (after s b) bs
same_at false zero s (b ∷ bs) =
    ap (λ (n : ℕ). if is_blank b then tokens_at false 0 (after s b) bs
    else (if is_comment b bs then tokens_at true 0 (after s b) bs
    else followed s (judged s (kind_of (take n (b ∷ bs)))) (tokens_at false (pred n) (after s b) bs)))
    (front_is b bs)
    ∙ ap (λ (t : Result (List Placed) LexFault). if is_blank b then t
    else (if is_comment b bs then tokens_at true 0 (after s b) bs
    else followed s (judged s (kind_of (take (letter_front (is_letter b) b bs) (b ∷ bs))))
    (tokens_at false (pred (letter_front (is_letter b) b bs)) (after s b) bs)))
    (same_at false 0 (after s b) bs)
    ∙ ap (λ (t : Result (List Placed) LexFault). if is_blank b then fronts_at false 0 (after s b) bs
    else (if is_comment b bs then t
    else followed s (judged s (kind_of (take (letter_front (is_letter b) b bs) (b ∷ bs))))
    (tokens_at false (pred (letter_front (is_letter b) b bs)) (after s b) bs)))
    (same_at true 0 (after s b) bs)
    ∙ ap (λ (t : Result (List Placed) LexFault). if is_blank b then fronts_at false 0 (after s b) bs
    else (if is_comment b bs then fronts_at true 0 (after s b) bs
    else followed s (judged s (kind_of (take (letter_front (is_letter b) b bs) (b ∷ bs)))) t))
    (same_at false (pred (letter_front (is_letter b) b bs)) (after s b) bs)

-- the tokens of a text that isn't too long
pub fronts_are : (text : List ℕ) → nat_lt 65536 (length text) ≡ false → tokens_of text ≡ fronts_at false 0 origin text
fronts_are text short =
    ap (λ (b : Bool). if b then Err TooLong else tokens_at false 0 origin text) short ∙ same_at false 0 origin text
