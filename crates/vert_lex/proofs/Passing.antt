-- Passing blanks, comments and tokens.
use Rattle.std.proofs.Common.{◌≡◌, ℕ, zero, suc, ◌+◌, ◌≤◌, ◌<◌, Bool, true, false, cond, eqb, List, [], ◌∷◌, ◌++◌, length, take, drop, get_or, Result, Ok, Err, refl, sym, ap, ◌∙◌, append_assoc, arith}
use Rattle.std.proofs.lemmas.Bool.{ne_eqb}
use Rattle.std.proofs.lemmas.List.{append-nil, length-drop, length-take-le, map-append}
use Rattle.std.specs.Prelude.{not, nat_lt}
use Rattle.vert_base.specs.declared.text.Span.{Span}
use Rattle.vert_lex.specs.declared.token.Token as tokens
use Rattle.vert_lex.specs.declared.token.LexFault.{LexFault}
use Rattle.vert_lex.specs.declared.token.LexFault.TheVariants.{BadByte, TooLong}
use Rattle.vert_lex.specs.Tokens.{Kind, kind_of, longest}
use Rattle.vert_lex.specs.Text.{Placed, origin, after, through, is_blank, is_comment, judged, followed, tokens_at, tokens_of}
use Rattle.vert_lex.specs.View.{plain_kind, plain_token, plain_tokens}
use Rattle.vert_lex.proofs.Longest.{kind_nothing, longest_le}

pub pass_token : (n : ℕ) (s : Span) (text : List ℕ) → n ≤ length text →
    tokens_at false n s text ≡ tokens_at false 0 (through s (take n text)) (drop n text)
pass_token zero s text le = refl
pass_token (suc n) s [] le = absurd (omega arith)
pass_token (suc n) s (b ∷ bs) le = pass_token n (after s b) bs (omega arith)

pub pass_comment : (n : ℕ) (s : Span) (text : List ℕ) → n ≤ length text → ((i : ℕ) → i < n → get_or text i 0 ≡ 10 → ⊥)
    → (n < length text → get_or text n 0 ≡ 10)
    → tokens_at true 0 s text ≡ tokens_at false 0 (through s (take n text)) (drop n text)
pass_comment zero s [] le all stops = refl
pass_comment zero s (b ∷ bs) le all stops = let e : b ≡ 10 = stops (omega arith) in
    ap (λ x. tokens_at true 0 s (x ∷ bs)) e ∙ ap (λ x. tokens_at false 0 s (x ∷ bs)) (sym e)
pass_comment (suc n) s [] le all stops = absurd (omega arith)
pass_comment (suc n) s (b ∷ bs) le all stops =
    let e : eqb b 10 ≡ false = ne_eqb b 10 (all 0 (omega arith)) in
    ap (λ v. tokens_at (not v) 0 (after s b) bs) e
    ∙ pass_comment n (after s b) bs (omega arith) (λ i lt. all (suc i) (omega arith)) (λ lt. stops (omega arith))

-- what was read before, and what is still read
abbrev pub with_front : List Placed → Result (List Placed) LexFault → Result (List Placed) LexFault
with_front front (Ok ts) = Ok (front ++ ts)
with_front front (Err fault) = Err fault

pub nothing_read : (r : Result (List Placed) LexFault) → with_front [] r ≡ r
nothing_read (Ok ts) = refl
nothing_read (Err fault) = refl

-- the step of a token
module _ (s : Span) (front : List Placed) (k : Kind) (total : Result (List Placed) LexFault) where
  token_step : (text : List ℕ) (n : ℕ) → (0 < length text) × (0 < n) → is_blank (get_or text 0 0) ≡ false →
      is_comment (get_or text 0 0) (drop 1 text) ≡ false → longest (length text) text ≡ n →
      judged s (kind_of (take n text)) ≡ Ok k → with_front front (tokens_at false 0 s text) ≡ total →
      with_front (front ++ record { span = s; kind = k } ∷ []) (tokens_at false 0 (through s (take n text))
      (drop n text)) ≡ total
  token_step [] n some b c e j so_far = let none = some.0 in absurd (omega (arith, none))
  token_step (x ∷ xs) zero some b c e j so_far =
      let none = some.1 in absurd (omega (arith, none))
  token_step (x ∷ xs) (suc n) some b c e j so_far =
      let t : Placed = record { span = s; kind = k } in
      let le : n ≤ length xs = omega (arith, longest_le (length (x ∷ xs)) (x ∷ xs), e) in
      let p = pass_token n (after s x) xs le in
      let q : tokens_at false 0 s (x ∷ xs) ≡ followed s (Ok k) (tokens_at false n (after s x) xs) = rw (b, c, e, j)
      refl
      in
      sym (ap (λ r. with_front (front ++ t ∷ []) r) p) ∙ regroup (tokens_at false n (after s x) xs)
      ∙ sym (ap (with_front front) q) ∙ so_far
    where
      regroup : (r : Result (List Placed) LexFault) → with_front (front ++ record { span = s; kind = k } ∷ []) r
          ≡ with_front front (followed s (Ok k) r)
      regroup (Ok ts) = ap (λ l. Ok l) (append_assoc front (record { span = s; kind = k } ∷ []) ts)
      regroup (Err fault) = refl

-- the step of a fault
module _ (s : Span) (front : List Placed) (n : ℕ) (fault : LexFault) (total : Result (List Placed) LexFault) where
  pub fault_step : (text : List ℕ) → 0 < length text → is_blank (get_or text 0 0) ≡ false →
      is_comment (get_or text 0 0) (drop 1 text) ≡ false → longest (length text) text ≡ n →
      judged s (kind_of (take n text)) ≡ Err fault → with_front front (tokens_at false 0 s text) ≡ total →
      total ≡ Err fault
  fault_step [] pos b c e j so_far = absurd (omega arith)
  fault_step (x ∷ xs) pos b c e j so_far =
      let q : tokens_at false 0 s (x ∷ xs) ≡ Err fault = rw (b, c, e, j) refl in
      sym so_far ∙ ap (with_front front) q

pub no_token : (s : Span) (text : List ℕ) → judged s (kind_of (take 0 text)) ≡ Err (BadByte s)
no_token s text = ap (judged s) kind_nothing

-- the step of a token that was pushed
module _ (s : Span) (ts : List tokens.Token) (t : tokens.Token) (text : List ℕ) (n : ℕ)
    (total : Result (List Placed) LexFault) where
  pub push_step : t.span ≡ s → 0 < length text → is_blank (get_or text 0 0) ≡ false →
      is_comment (get_or text 0 0) (drop 1 text) ≡ false → longest (length text) text ≡ n → 0 < n →
      judged s (kind_of (take n text)) ≡ Ok (plain_kind t.kind) →
      with_front (plain_tokens ts) (tokens_at false 0 s text) ≡ total →
      with_front (plain_tokens (ts ++ t ∷ [])) (tokens_at false 0 (through s (take n text)) (drop n text)) ≡
      total
  push_step same pos b c e some j so_far =
      let pushed : plain_tokens (ts ++ t ∷ []) ≡ plain_tokens ts ++ record { span = s; kind = plain_kind t.kind } ∷
      [] =
      map-append plain_token ts (t ∷ []) ∙ ap (λ x. plain_tokens ts ++ record { span = x; kind = plain_kind t.kind }
      ∷ []) same in
      ap (λ l. with_front l (tokens_at false 0 (through s (take n text)) (drop n text))) pushed
      ∙ token_step s (plain_tokens ts) (plain_kind t.kind) total text n (pos, some) b c e j so_far

pub text_ends : (s : Span) (front : List Placed) (text : List ℕ) (total : Result (List Placed) LexFault) →
    length text ≡ 0 → with_front front (tokens_at false 0 s text) ≡ total → total ≡ Ok front
text_ends s front [] total e so_far = sym so_far ∙ ap (λ l. Ok l) (append-nil front)
text_ends s front (x ∷ xs) total e so_far = absurd (omega arith)

pub begins : (text : List ℕ) → length text ≤ 65536 → with_front [] (tokens_at false 0 origin text) ≡ tokens_of text
begins text le =
    let small : nat_lt 65536 (length text) ≡ false = grind arith in
    nothing_read (tokens_at false 0 origin text) ∙ sym (rw small refl)

pub too_long : (text : List ℕ) → 65536 < length text → tokens_of text ≡ Err TooLong
too_long text lt =
    let great : nat_lt 65536 (length text) ≡ true = grind arith in
    rw great refl

-- what a gap does
pub gap_blank : (text : List ℕ) → 0 < length text → is_blank (get_or text 0 0) ≡ true → (s : Span) →
    tokens_at false 0 s text ≡ tokens_at false 0 (through s (take 1 text)) (drop 1 text)
gap_blank [] pos b s = absurd (omega arith)
gap_blank (x ∷ xs) pos b s = rw b refl

module _ (s : Span) where
  gap_comment : (text : List ℕ) (n : ℕ) → (0 < length text) × (0 < n) → is_blank (get_or text 0 0) ≡ false →
      is_comment (get_or text 0 0) (drop 1 text) ≡ true → n ≤ length text →
      ((i : ℕ) → i < n → get_or text i 0 ≡ 10 → ⊥) → (n < length text → get_or text n 0 ≡ 10) →
      tokens_at false 0 s text ≡ tokens_at false 0 (through s (take n text)) (drop n text)
  gap_comment [] n some b c le all stops = let none = some.0 in absurd (omega (arith, none))
  gap_comment (x ∷ xs) zero some b c le all stops = let none = some.1 in absurd (omega (arith, none))
  gap_comment (x ∷ xs) (suc n) some b c le all stops =
      let q : tokens_at false 0 s (x ∷ xs) ≡ tokens_at true 0 (after s x) xs = rw (b, c) refl in
      q ∙ pass_comment n (after s x) xs (omega arith) (λ i lt. all (suc i) (omega arith)) (λ lt. stops (omega arith))

module _ (text : List ℕ) (n : ℕ) (pos : 0 < length text) (a : ℕ) (others : List ℕ) (b : ℕ)
    (e : a ≡ get_or text 0 0) (f : b ≡ get_or text 0 0) where
  pub gap_comment_at : others ≡ drop 1 text → is_blank a ≡ false → is_comment b others ≡ true →
      n ≤ length text → ((i : ℕ) → i < n → get_or text i 0 ≡ 10 → ⊥) →
      (n < length text → get_or text n 0 ≡ 10) → 0 < n → (s : Span) →
      tokens_at false 0 s text ≡ tokens_at false 0 (through s (take n text)) (drop n text)
  gap_comment_at o bl co le all stops one s =
      gap_comment s text n (pos, one) (ap is_blank (sym e) ∙ bl) (ap (λ x. is_comment x (drop 1 text)) (sym f)
      ∙ ap (is_comment b) (sym o) ∙ co) le all stops

-- how places grow
pub record Grows (s t : Span) (n : ℕ) : Type 0 where
  pub at : t.at ≡ s.at + n
  pub line : t.line ≤ s.line + n
  pub column : t.column ≤ s.column + n

after_grows : (s : Span) (b : ℕ) → Grows s (after s b) 1
after_grows s b = go (eqb b 10)
  where
    go : (v : Bool) → Grows s (cond v (record { at = s.at + 1; line = s.line + 1; column = 1 })
        (record { at = s.at + 1; line = s.line; column = s.column + 1 })) 1
    go true = record { at = refl; line = omega arith; column = omega arith }
    go false = record { at = refl; line = omega arith; column = omega arith }

pub through_grows : (s : Span) (bs : List ℕ) → Grows s (through s bs) (length bs)
through_grows s [] = record { at = omega arith; line = omega arith; column = omega arith }
through_grows s (b ∷ bs) =
    let a = after_grows s b in
    let r = through_grows (after s b) bs in
    record { at = omega arith; line = omega arith; column = omega arith }

-- a place moves as far as the text is passed
pub moves : (s : Span) (text : List ℕ) (n total : ℕ) → n ≤ length text → s.at + length text ≡ total →
    s.line + length text ≤ total + 1 → s.column + length text ≤ total + 1
    → ((through s (take n text)).at + length (drop n text) ≡ total) ×
    ((through s (take n text)).line + length (drop n text) ≤ total + 1) ×
    ((through s (take n text)).column + length (drop n text) ≤ total + 1)
moves s text n total le a l k =
    let g = through_grows s (take n text) in
    let t = length-take-le n text le in
    let d = length-drop n text in
    (omega (arith, g.at), omega (arith, g.line), omega (arith, g.column))

pub some_left : {A : Type 0} (xs : List A) (b : Bool) → b ≡ eqb (length xs) 0 → b ≡ false → 0 < length xs
some_left [] b e f = absurd (let h : true ≡ false = sym e ∙ f in cc)
some_left (x ∷ xs) b e f = omega arith
