use Rattle.std.proofs.Common.{sym, subst, arith}
use Rattle.vert_lex.specs.declared.token.Token.{Token}
use Rattle.vert_lex.specs.View.{plain_kind as lexed_kind}
use Rattle.vert_parse.specs.Parsing.{IsSmallKind}
use Rattle.vert_parse.proofs.Counting.{all_numbered, small_at}
use Rattle.vert_parse.proofs.numbering.number_names.Goals as goal

pub sign-requires-clause-small : goal.sign-requires-clause-small
sign-requires-clause-small c =
    subst (λ (t : Token). IsSmallKind (lexed_kind t.kind)) (sym c.token-item.is)
    (small_at c.args.tokens.now c.tokens.token-index c.token-item.result c.requires c.tokens-test.true)

pub returns-clause-read : goal.returns-clause-read
returns-clause-read c = all_numbered c.args.tokens.now c.tokens.token-index c.tokens.signs.items c.tokens.names.items
    c.tokens.invariant (omega arith)
