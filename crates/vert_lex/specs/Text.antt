-- The tokens of a whole text with their places, or the first fault.
use Rattle.std.specs.Prelude.{ℕ, zero, suc, pred, ◌+◌, Bool, true, false, List, [], ◌∷◌, length, take, Option, Some, None, if◌then◌else◌, nat_lt, ◌==◌, ◌&&◌, ◌||◌, not, slice_index, Result, Ok, Err}
use Rattle.vert_base.specs.declared.text.Span.{Span}
use Rattle.vert_lex.specs.declared.token.LexFault.{LexFault}
use Rattle.vert_lex.specs.declared.token.LexFault.TheVariants.{BadByte, BadNumber, TooLong}
use Rattle.vert_lex.specs.Tokens.{Kind, Reserved, Mark, Number, Name, kind_of, longest}

-- a token and the place of its first byte
pub record Placed : Type 0 where
  pub span : Span
  pub kind : Kind

abbrev pub origin : Span
origin = record { at = 0; line = 1; column = 1 }

-- the place just after a byte, and after some bytes
abbrev pub after : Span → ℕ → Span
after s b = if b == 10 then record { at = s.at + 1; line = s.line + 1; column = 1 }
    else record { at = s.at + 1; line = s.line; column = s.column + 1 }

abbrev pub through : Span → List ℕ → Span
through s [] = s
through s (b ∷ bs) = through (after s b) bs

-- a space, a tab, a CR or a LF
abbrev pub is_blank : ℕ → Bool
is_blank b = b == 32 || b == 9 || b == 13 || b == 10

-- two slashes begin a comment
abbrev pub is_comment : ℕ → List ℕ → Bool
is_comment b bs = b == 47 && slice_index bs 0 == 47

-- the token at a place, or the fault there
abbrev pub judged : Span → Option Kind → Result Kind LexFault
judged s None = Err (BadByte s)
judged s (Some (Number value)) = if nat_lt 9223372036854775807 value then Err (BadNumber s) else Ok (Number value)
judged s (Some (Reserved place)) = Ok (Reserved place)
judged s (Some (Mark place)) = Ok (Mark place)
judged s (Some (Name text)) = Ok (Name text)

-- a token in front of those behind it
abbrev pub followed : Span → Result Kind LexFault → Result (List Placed) LexFault → Result (List Placed) LexFault
followed s (Ok kind) (Ok others) = Ok (record { span = s; kind = kind } ∷ others)
followed s (Ok kind) (Err fault) = Err fault
followed s (Err fault) others = Err fault

-- The tokens from a place on: in a comment or not, with so many bytes of a token still to pass.
abbrev pub tokens_at : Bool → ℕ → Span → List ℕ → Result (List Placed) LexFault
tokens_at comment n s [] = Ok []
tokens_at true n s (b ∷ bs) = tokens_at (not (b == 10)) 0 (after s b) bs
tokens_at false (suc n) s (b ∷ bs) = tokens_at false n (after s b) bs
tokens_at false zero s (b ∷ bs) =
    if is_blank b then tokens_at false 0 (after s b) bs
    else (if is_comment b bs then tokens_at true 0 (after s b) bs
    else (let n = longest (length (b ∷ bs)) (b ∷ bs) in
    followed s (judged s (kind_of (take n (b ∷ bs)))) (tokens_at false (pred n) (after s b) bs)))

-- the tokens of a text, or its first fault
abbrev pub tokens_of : List ℕ → Result (List Placed) LexFault
tokens_of text = if nat_lt 65536 (length text) then Err TooLong else tokens_at false 0 origin text
