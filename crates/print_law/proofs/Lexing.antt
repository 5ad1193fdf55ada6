-- What was lexed are tokens, and tokens laid out are lexed again.
use Rattle.std.proofs.Common.{◌≡◌, ℕ, zero, suc, pred, ◌≤◌, Bool, true, false, cond, List, [], ◌∷◌, ◌++◌, length, take, Some, None, Result, Ok, Err, refl, sym, ap, subst, ◌∙◌, append_assoc, arith}
use Rattle.std.proofs.lemmas.Bool.Decides.{nat_tests}
use Rattle.std.specs.Prelude.{not, nat_lt, ◌==◌}
use Rattle.vert_base.specs.declared.text.Span.{Span}
use Rattle.vert_lex.specs.declared.token.LexFault.{LexFault}
use Rattle.vert_lex.specs.declared.token.LexFault.TheVariants.{TooLong}
use Rattle.vert_lex.specs.Text.{Placed, origin, after, through, is_blank, is_comment, judged, followed, tokens_at, tokens_of}
use Rattle.vert_lex.specs.Tokens.{Kind, kind_of, longest}
use Rattle.vert_lex.proofs.Longest.{kind_nothing}
use Rattle.vert_grammar.specs.Spelling.{kinds}
use Rattle.print_law.specs.Layout.{text_of, behind, ends_line, laid}
use Rattle.print_law.proofs.Gaps.{Gap, gap_space, gap_line, read_on}
use Rattle.print_law.proofs.Texts.{IsToken, judged_token}

abbrev pub AreTokens : List Kind → Type 0
AreTokens [] = Unit {0}
AreTokens (k ∷ ks) = IsToken k × AreTokens ks

-- ---- what was lexed are tokens
module _ (s : Span) (bytes : List ℕ) (others : Result (List Placed) LexFault) (deeper : (ts : List Placed) →
    others ≡ Ok ts → AreTokens (kinds ts)) where
  first_token : (ts : List Placed) → followed s (judged s (kind_of bytes)) others ≡ Ok ts → AreTokens (kinds ts)
  first_token ts h = go (judged s (kind_of bytes)) others refl refl h
    where
      go : (j : Result Kind LexFault) (r : Result (List Placed) LexFault) → judged s (kind_of bytes) ≡ j →
          others ≡ r → followed s j r ≡ Ok ts → AreTokens (kinds ts)
      go (Err f) r e i h = absurd cc
      go (Ok k) (Err f) e i h = absurd cc
      go (Ok k) (Ok rest) e i h =
          let same : record { span = s; kind = k } ∷ rest ≡ ts = cc in
          subst (λ l. AreTokens (kinds l)) same (judged_token s bytes k e, deeper rest i)

lexed_at : (comment : Bool) (n : ℕ) (s : Span) (text : List ℕ) (ts : List Placed) → tokens_at comment n s text ≡ Ok ts
    → AreTokens (kinds ts)
lexed_at comment n s [] ts h = let same : [] ≡ ts = cc in subst (λ l. AreTokens (kinds l)) same tt
lexed_at true n s (b ∷ bs) ts h = lexed_at (not (b == 10)) 0 (after s b) bs ts h
lexed_at false (suc n) s (b ∷ bs) ts h = lexed_at false n (after s b) bs ts h
lexed_at false zero s (b ∷ bs) ts h =
    let n = longest (length (b ∷ bs)) (b ∷ bs) in
    go (is_blank b) (is_comment b bs) (lexed_at false 0 (after s b) bs ts) (lexed_at true 0 (after s b) bs ts)
    (first_token s (take n (b ∷ bs)) (tokens_at false (pred n) (after s b) bs) (λ us e.
    lexed_at false (pred n) (after s b) bs us e) ts) h
  where
    go : (v w : Bool) → (tokens_at false 0 (after s b) bs ≡ Ok ts → AreTokens (kinds ts)) →
        (tokens_at true 0 (after s b) bs ≡ Ok ts → AreTokens (kinds ts))
        → (followed s (judged s (kind_of (take (longest (length (b ∷ bs)) (b ∷ bs)) (b ∷ bs))))
        (tokens_at false (pred (longest (length (b ∷ bs)) (b ∷ bs))) (after s b) bs) ≡ Ok ts → AreTokens (kinds ts))
        → cond v (tokens_at false 0 (after s b) bs)
        (cond w (tokens_at true 0 (after s b) bs)
        (followed s (judged s (kind_of (take (longest (length (b ∷ bs)) (b ∷ bs)) (b ∷ bs))))
        (tokens_at false (pred (longest (length (b ∷ bs)) (b ∷ bs))) (after s b) bs)))
        ≡ Ok ts → AreTokens (kinds ts)
    go true w x y z h = x h
    go false true x y z h = y h
    go false false x y z h = z h

pub lexed_tokens : (text : List ℕ) (ts : List Placed) → tokens_of text ≡ Ok ts → AreTokens (kinds ts)
lexed_tokens text ts h = go (nat_lt 65536 (length text)) h
  where
    go : (v : Bool) → cond v (Err TooLong) (tokens_at false 0 origin text) ≡ Ok ts → AreTokens (kinds ts)
    go true h = absurd cc
    go false h = lexed_at false 0 origin text ts h

-- ---- tokens laid out are lexed again
pub record Lexed (s : Span) (ks : List Kind) (text : List ℕ) : Type 0 where
  pub tokens : List Placed
  pub lexed : tokens_at false 0 s text ≡ Ok tokens
  pub same : kinds tokens ≡ ks

gap_of : (k : Kind) → Gap (behind k)
gap_of k = go (ends_line k)
  where
    go : (v : Bool) → Gap (cond v 10 32)
    go true = gap_line
    go false = gap_space

one_more : (k : Kind) (ks : List Kind) (bytes : List ℕ) (s : Span) → text_of k ≡ bytes → IsToken k →
    ((t : Span) → Lexed t ks (laid ks)) → Lexed s (k ∷ ks) ((bytes ++ behind k ∷ []) ++ laid ks)
one_more k ks [] s e token deeper = absurd (let bad : None ≡ Some k = sym kind_nothing ∙ ap kind_of (sym e)
    ∙ token.read in cc)
one_more k ks (x ∷ u) s e token deeper =
    let b = behind k in
    let d = deeper (after (through s (x ∷ u)) b) in
    let shape : ((x ∷ u) ++ b ∷ []) ++ laid ks ≡ (x ∷ u) ++ b ∷ laid ks = append_assoc (x ∷ u) (b ∷ []) (laid ks) in
    record {
      tokens = record { span = s; kind = k } ∷ d.tokens;
      lexed = ap (tokens_at false 0 s) shape
          ∙ read_on b (gap_of k) s x u (laid ks) k d.tokens (ap kind_of (sym e) ∙ token.read) (token.fits s) d.lexed;
      same = ap (λ l. k ∷ l) d.same;
    }

laid_lexed : (ks : List Kind) → AreTokens ks → (s : Span) → Lexed s ks (laid ks)
laid_lexed [] h s = record { tokens = []; lexed = refl; same = refl }
laid_lexed (k ∷ ks) h s = one_more k ks (text_of k) s refl h.0 (λ t. laid_lexed ks h.1 t)

pub record LexedAgain (ks : List Kind) (text : List ℕ) : Type 0 where
  pub tokens : List Placed
  pub lexed : tokens_of text ≡ Ok tokens
  pub same : kinds tokens ≡ ks

pub lexed_again : (ks : List Kind) → AreTokens ks → length (laid ks) ≤ 65536 → LexedAgain ks (laid ks)
lexed_again ks h le =
    let l = laid_lexed ks h origin in
    let small : nat_lt 65536 (length (laid ks)) ≡ false = grind (arith, nat_tests) in
    record { tokens = l.tokens; lexed = rw small l.lexed; same = l.same }
