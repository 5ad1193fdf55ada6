-- What the lexer answers: tokens without a number above the greatest, of a text that isn't too long, or a fault
-- that is a refusal.
use Rattle.std.proofs.Common.{◌≡◌, ℕ, zero, suc, ◌≤◌, Bool, true, false, not, List, [], ◌∷◌, length, take, Option, Some, None, subst, refl, sym, nat_eq}
use Rattle.std.proofs.lemmas.Bool.{ltb-false}
use Rattle.std.specs.Prelude.{if◌then◌else◌, pred, nat_lt, Result, Ok, Err}
use Rattle.vert_base.specs.declared.text.Span.{Span}
use Rattle.vert_lex.specs.declared.token.LexFault.{LexFault}
use Rattle.vert_lex.specs.declared.token.LexFault.TheVariants.{BadNumber, TooLong}
use Rattle.vert_lex.specs.Text.{Placed, after, followed, is_blank, is_comment, judged, origin, tokens_at, tokens_of}
use Rattle.vert_lex.specs.Tokens.{Kind, Reserved, Mark, Number, Name, kind_of, longest}
use Rattle.vert_parse.specs.Parsing.{AreSmall, IsSmallKind}
use Rattle.program_reader.specs.declared.refusal.Refusal.{Refusal}
use Rattle.program_reader.specs.Accepted.{lex_refusal}

abbrev IsRefusal : LexFault → Type 0
IsRefusal fault = (refusal : Refusal) × (lex_refusal fault ≡ Some refusal)

abbrev IsSmallAnswer : Result (List Placed) LexFault → Type 0
IsSmallAnswer (Ok placed) = AreSmall placed
IsSmallAnswer (Err fault) = IsRefusal fault

abbrev IsSmallJudged : Result Kind LexFault → Type 0
IsSmallJudged (Ok kind) = IsSmallKind kind
IsSmallJudged (Err fault) = IsRefusal fault

number_small : (s : Span) (value : ℕ) (b : Bool) → b ≡ nat_lt 9223372036854775807 value →
    IsSmallJudged (if b then Err (BadNumber s) else Ok (Number value))
number_small s value true is = (_, refl)
number_small s value false is = ltb-false 9223372036854775807 value (sym is)

judged_small : (s : Span) (kind : Option Kind) → IsSmallJudged (judged s kind)
judged_small s None = (_, refl)
judged_small s (Some (Number value)) = number_small s value (nat_lt 9223372036854775807 value) refl
judged_small s (Some (Reserved place)) = tt
judged_small s (Some (Mark place)) = tt
judged_small s (Some (Name text)) = tt

followed_small : (s : Span) (kind : Result Kind LexFault) (others : Result (List Placed) LexFault) →
    IsSmallJudged kind → IsSmallAnswer others → IsSmallAnswer (followed s kind others)
followed_small s (Ok kind) (Ok others) small rest = (small, rest)
followed_small s (Ok kind) (Err fault) small rest = rest
followed_small s (Err fault) others small rest = small

pick_small : (b : Bool) (x y : Result (List Placed) LexFault) → IsSmallAnswer x → IsSmallAnswer y →
    IsSmallAnswer (if b then x else y)
pick_small true x y small other = small
pick_small false x y small other = other

at_small : (comment : Bool) (n : ℕ) (s : Span) (text : List ℕ) → IsSmallAnswer (tokens_at comment n s text)
at_small comment n s [] = tt
at_small true n s (b ∷ bs) = at_small (not (nat_eq b 10)) 0 (after s b) bs
at_small false (suc n) s (b ∷ bs) = at_small false n (after s b) bs
at_small false zero s (b ∷ bs) =
    let n = longest (length (b ∷ bs)) (b ∷ bs) in
    pick_small (is_blank b) _ _ (at_small false 0 (after s b) bs)
    (pick_small (is_comment b bs) _ _ (at_small true 0 (after s b) bs)
    (followed_small s (judged s (kind_of (take n (b ∷ bs)))) (tokens_at false (pred n) (after s b) bs)
    (judged_small s (kind_of (take n (b ∷ bs)))) (at_small false (pred n) (after s b) bs)))

tokens_are : (text : List ℕ) → IsSmallAnswer (tokens_of text)
tokens_are text = pick_small (nat_lt 65536 (length text)) _ _ (_, refl) (at_small false 0 origin text)

-- what the lexer answers has no number above the greatest
pub tokens_small : (text : List ℕ) (placed : List Placed) → tokens_of text ≡ Ok placed → AreSmall placed
tokens_small text placed is = subst IsSmallAnswer is (tokens_are text)

-- a text without tokens is refused
pub tokens_refused : (text : List ℕ) (fault : LexFault) → tokens_of text ≡ Err fault → (refusal : Refusal) ×
    (lex_refusal fault ≡ Some refusal)
tokens_refused text fault is = subst IsSmallAnswer is (tokens_are text)

-- a text that has tokens is short enough
pub tokens_short : (text : List ℕ) (placed : List Placed) → tokens_of text ≡ Ok placed → length text ≤ 65536
tokens_short text placed is = go (nat_lt 65536 (length text)) refl is
  where
    go : (b : Bool) → b ≡ nat_lt 65536 (length text) → (if b then Err TooLong else tokens_at false 0 origin text)
        ≡ Ok placed → length text ≤ 65536
    go true at e = cc
    go false at e = ltb-false 65536 (length text) (sym at)
