-- A space or a line end ends a token.
use Rattle.std.proofs.Common.{◌≡◌, ℕ, zero, suc, ◌+◌, ◌<◌, Bool, true, false, cond, eqb, List, [], ◌∷◌, ◌++◌, length, take, drop, get_or, Option, Some, None, Result, Ok, refl, ap, subst, ◌∙◌, arith, length-append}
use Rattle.std.proofs.lemmas.Bool.Decides.{nat_tests}
use Rattle.std.proofs.lemmas.List.{take_at, drop_at}
use Rattle.std.proofs.lemmas.List.Folds.{list_all_at}
use Rattle.std.proofs.lemmas.List.Quantifiers.{position-Some}
use Rattle.std.proofs.lemmas.Slice.Eq.{bytes_eq-Decides}
use Rattle.std.specs.List.{list_all}
use Rattle.std.specs.Prelude.{◌&&◌, not, is_some}
use Rattle.std.specs.Str.{bytes_eq}
use Rattle.std.specs.Str.Parse.{digits_value}
use Rattle.vert_base.specs.declared.text.Span.{Span}
use Rattle.vert_lex.specs.declared.token.LexFault.{LexFault}
use Rattle.vert_lex.specs.Places.{marks, reserved_words, place_of}
use Rattle.vert_lex.specs.Text.{Placed, after, through, is_blank, is_comment, judged, followed, tokens_at}
use Rattle.vert_lex.specs.Tokens.{Kind, Number, is_letter, is_digit, is_word, word_at, mark_at, kind_of, longest}
use Rattle.vert_lex.proofs.Longest.{is_token, longest_is}
use Rattle.vert_lex.proofs.Passing.{pass_token}

-- ---- what no mark has
unmarked : (q : List ℕ → Bool) (text : List ℕ) → list_all q marks ≡ true → q text ≡ false → place_of marks text ≡ None
unmarked q text all bad = go (place_of marks text) refl
  where
    go : (o : Option ℕ) → place_of marks text ≡ o → place_of marks text ≡ None
    go None e = e
    go (Some i) e =
        let p = position-Some (λ t. bytes_eq t text) marks i [] e in
        let same : get_or marks i [] ≡ text = (bytes_eq-Decides (get_or marks i []) text).0 p.1 in
        let some : list_all q marks ≡ false = list_all_at q marks i [] p.0 (ap q same ∙ bad) in
        absurd cc

abbrev without : ℕ → List ℕ → Bool
without b u = list_all (λ x. not (eqb x b)) u

-- a byte that is a blank and stands in no token
pub record Gap (b : ℕ) : Type 0 where
  pub blank : is_blank b ≡ true
  pub no_letter : is_letter b ≡ false
  pub no_digit : is_digit b ≡ false
  pub no_word : is_word b ≡ false
  pub no_slash : eqb b 47 ≡ false
  pub no_mark : list_all (without b) marks ≡ true
  pub itself : eqb b b ≡ true

pub gap_space : Gap 32
unfolding marks
gap_space = record {
  blank = refl;
  no_letter = refl;
  no_digit = refl;
  no_word = refl;
  no_slash = refl;
  no_mark = refl;
  itself = refl;
}

pub gap_line : Gap 10
unfolding marks
gap_line = record {
  blank = refl;
  no_letter = refl;
  no_digit = refl;
  no_word = refl;
  no_slash = refl;
  no_mark = refl;
  itself = refl;
}

kind_is : (b : ℕ) (u : List ℕ)
    → kind_of (b ∷ u)
    ≡ cond (is_letter b) (cond (list_all is_word u) (Some (word_at (place_of reserved_words (b ∷ u)) (b ∷ u))) None)
    (cond (is_digit b) (cond (list_all is_digit u) (Some (Number (digits_value 10 (b ∷ u)))) None)
    (mark_at (place_of marks (b ∷ u))))
unfolding kind_of
kind_is b u = refl

module _ (b : ℕ) (g : Gap b) where
  fails_at : (p : ℕ → Bool) → p b ≡ false → (u : List ℕ) (i : ℕ) → i < length u → get_or u i 0 ≡ b →
      list_all p u ≡ false
  fails_at p h u i lt e = list_all_at p u i 0 lt (ap p e ∙ h)

  mark_gap : (u : List ℕ) (i : ℕ) → i < length u → get_or u i 0 ≡ b → mark_at (place_of marks u) ≡ None
  mark_gap u i lt e =
      let one : not (eqb b b) ≡ false = ap not g.itself in
      let bad : without b u ≡ false = fails_at (λ x. not (eqb x b)) one u i lt e in
      ap mark_at (unmarked (without b) u g.no_mark bad)

  -- no token has it
  pub no_gap : (u : List ℕ) (i : ℕ) → i < length u → get_or u i 0 ≡ b → kind_of u ≡ None
  no_gap [] i lt e = absurd (omega arith)
  no_gap (x ∷ u) zero lt e =
      let l : is_letter x ≡ false = ap is_letter e ∙ g.no_letter in
      let d : is_digit x ≡ false = ap is_digit e ∙ g.no_digit in
      kind_is x u ∙ rw (l, d) (mark_gap (x ∷ u) 0 lt e)
  no_gap (x ∷ u) (suc i) lt e = kind_is x u ∙ go (is_letter x) (is_digit x)
    where
      w : list_all is_word u ≡ false
      w = fails_at is_word g.no_word u i (omega arith) e

      d : list_all is_digit u ≡ false
      d = fails_at is_digit g.no_digit u i (omega arith) e

      go : (v y : Bool)
          → cond v (cond (list_all is_word u) (Some (word_at (place_of reserved_words (x ∷ u)) (x ∷ u))) None)
          (cond y (cond (list_all is_digit u) (Some (Number (digits_value 10 (x ∷ u)))) None)
          (mark_at (place_of marks (x ∷ u))))
          ≡ None
      go true y = rw w refl
      go false true = rw d refl
      go false false = mark_gap (x ∷ u) (suc i) lt e

  at_cut : (u more : List ℕ) (j : ℕ) → length u < j → get_or (take j (u ++ b ∷ more)) (length u) 0 ≡ b
  at_cut [] more zero lt = absurd (omega arith)
  at_cut [] more (suc j) lt = refl
  at_cut (x ∷ u) more zero lt = absurd (omega arith)
  at_cut (x ∷ u) more (suc j) lt = at_cut u more j (omega arith)

  cut_length : (u more : List ℕ) (j : ℕ) → length u < j → length u < length (take j (u ++ b ∷ more))
  cut_length [] more zero lt = absurd (omega arith)
  cut_length [] more (suc j) lt = omega arith
  cut_length (x ∷ u) more zero lt = absurd (omega arith)
  cut_length (x ∷ u) more (suc j) lt = let q = cut_length u more j (omega arith) in omega arith

  -- a token before it is the longest there
  before_gap : (x : ℕ) (u more : List ℕ) → is_token (x ∷ u) ≡ true →
      longest (length ((x ∷ u) ++ b ∷ more)) ((x ∷ u) ++ b ∷ more) ≡ length (x ∷ u)
  before_gap x u more e =
      let text = (x ∷ u) ++ b ∷ more in
      let n = length u in
      let f : take (suc n) text ≡ x ∷ u = take_at (x ∷ u) (b ∷ more) (suc n) refl in
      let len : suc n + (1 + length more) ≡ length text = omega (arith, length-append (x ∷ u) (b ∷ more)) in
      subst (λ m. longest m text ≡ suc n) len
      (longest_is (1 + length more) n text (ap is_token f ∙ e) (λ j lt le.
      ap is_some (no_gap (take j text) (suc n) (cut_length (x ∷ u) more j lt) (at_cut (x ∷ u) more j lt))))

-- ---- how a token begins
blank_first : list_all (λ m. not (is_blank (get_or m 0 0))) marks ≡ true
unfolding marks
blank_first = refl

blank_tests : (b : ℕ) → is_blank b ≡ true → (is_letter b ≡ false) × (is_digit b ≡ false)
blank_tests b h = (grind (arith, nat_tests, h), grind (arith, nat_tests, h))

no_token : (x : ℕ) (u : List ℕ) → is_letter x ≡ false → is_digit x ≡ false → place_of marks (x ∷ u) ≡ None →
    is_token (x ∷ u) ≡ false
no_token x u l d m = let none : kind_of (x ∷ u) ≡ None = kind_is x u ∙ rw (l, d, m) refl in ap is_some none

pub no_blank : (x : ℕ) (u : List ℕ) → is_token (x ∷ u) ≡ true → is_blank x ≡ false
no_blank x u e = go (is_blank x) refl
  where
    go : (v : Bool) → is_blank x ≡ v → is_blank x ≡ false
    go false h = h
    go true h =
        let t = blank_tests x h in
        let none = no_token x u t.0 t.1 (unmarked (λ m. not (is_blank (get_or m 0 0))) (x ∷ u) blank_first (ap not h))
        in
        absurd cc

slash_first : list_all (λ m. not (is_comment (get_or m 0 0) (drop 1 m))) marks ≡ true
unfolding marks
slash_first = refl

comment_tests : (x : ℕ) (u : List ℕ) → is_comment x u ≡ true → (is_letter x ≡ false) × (is_digit x ≡ false)
comment_tests x u h = (grind (arith, nat_tests, h), grind (arith, nat_tests, h))

no_comment : (x : ℕ) (u : List ℕ) → is_token (x ∷ u) ≡ true → is_comment x u ≡ false
no_comment x u e = go (is_comment x u) refl
  where
    go : (v : Bool) → is_comment x u ≡ v → is_comment x u ≡ false
    go false h = h
    go true h =
        let t = comment_tests x u h in
        let none = no_token x u t.0 t.1 (unmarked (λ m. not (is_comment (get_or m 0 0) (drop 1 m))) (x ∷ u)
        slash_first (ap not h)) in
        absurd cc

no_comment_before : (b : ℕ) (g : Gap b) (x : ℕ) (u more : List ℕ) → is_token (x ∷ u) ≡ true →
    is_comment x (u ++ b ∷ more) ≡ false
no_comment_before b g x [] more e = go (eqb x 47)
  where
    go : (v : Bool) → (v && eqb b 47) ≡ false
    go true = g.no_slash
    go false = refl
no_comment_before b g x (y ∷ u) more e = no_comment x (y ∷ u) e

-- ---- a token and a gap in front of a text
passed : Span → Kind → Result (List Placed) LexFault → Result (List Placed) LexFault
passed s k r = followed s (Ok k) r

module _ (b : ℕ) (g : Gap b) (s : Span) (x : ℕ) (u more : List ℕ) (k : Kind) (ts : List Placed) where
  pub read_on : kind_of (x ∷ u) ≡ Some k → judged s (Some k) ≡ Ok k →
      tokens_at false 0 (after (through s (x ∷ u)) b) more ≡ Ok ts →
      tokens_at false 0 s ((x ∷ u) ++ b ∷ more) ≡ Ok (record { span = s; kind = k } ∷ ts)
  read_on e fits h =
      let token : is_token (x ∷ u) ≡ true = ap is_some e in
      let l = before_gap b g x u more token in
      let bl = no_blank x u token in
      let co = no_comment_before b g x u more token in
      let p = pass_token (length u) (after s x) (u ++ b ∷ more) (omega (arith, length-append u (b ∷ more))) in
      let t : take (length u) (u ++ b ∷ more) ≡ u = take_at u (b ∷ more) (length u) refl in
      let f : take (length (x ∷ u)) ((x ∷ u) ++ b ∷ more) ≡ x ∷ u = take_at (x ∷ u) (b ∷ more) (length (x ∷ u))
      refl in
      let d : drop (length u) (u ++ b ∷ more) ≡ b ∷ more = drop_at u (b ∷ more) (length u) refl in
      let gap : tokens_at false 0 (through (after s x) u) (b ∷ more) ≡ Ok ts = rw g.blank h in
      let q : tokens_at false (length u) (after s x) (u ++ b ∷ more) ≡ Ok ts = p ∙ rw (t, d) gap in
      rw (bl, co, l, f, e, fits, q) refl
