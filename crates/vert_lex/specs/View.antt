-- Tokens without their memory.
use Rattle.std.specs.Prelude.{List, map}
use Rattle.std.specs.String.{string_bytes}
use Rattle.vert_lex.specs.declared.token.Token as tokens
use Rattle.vert_lex.specs.declared.token.TokenKind as kinds
use Rattle.vert_lex.specs.declared.token.TokenKind.TheVariants as variants
use Rattle.vert_lex.specs.Tokens.{Kind, Reserved, Mark, Number, Name}
use Rattle.vert_lex.specs.Text.{Placed}

abbrev pub plain_kind : kinds.TokenKind → Kind
plain_kind (variants.Reserved place) = Reserved place
plain_kind (variants.Mark place) = Mark place
plain_kind (variants.Number value) = Number value
plain_kind (variants.Name text) = Name (string_bytes text)

abbrev pub plain_token : tokens.Token → Placed
plain_token t = record { span = t.span; kind = plain_kind t.kind }

abbrev pub plain_tokens : List tokens.Token → List Placed
plain_tokens ts = map plain_token ts
