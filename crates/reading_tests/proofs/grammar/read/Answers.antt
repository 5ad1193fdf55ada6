use Rattle.std.proofs.Common.{◌≡◌, ℕ, List, Ok, sym, ap, ◌∙◌}
use Rattle.vert_lex.specs.declared.token.Token.{Token}
use Rattle.vert_lex.specs.Text.{tokens_of}
use Rattle.vert_lex.specs.View.{plain_tokens}
use Rattle.program_reader.proofs.SmallTokens.{tokens_short, tokens_small}
use Rattle.reading_tests.proofs.grammar.read.Goals as goal

-- the tokens, as the parser is given them
lent : (text : List ℕ) (tokens given : List Token) → tokens_of text ≡ Ok (plain_tokens tokens) → given ≡ tokens →
    tokens_of text ≡ Ok (plain_tokens given)
lent text tokens given is same = is ∙ ap (λ ts. Ok (plain_tokens ts)) (sym same)

pub end_of-end-requires : goal.end_of-end-requires
end_of-end-requires c = tokens_short c.args.text.now (plain_tokens c.in-Ok.tokens.items) c.in-Ok.ensures.read

pub parse-requires : goal.parse-requires
parse-requires c = tokens_small c.args.text.now (plain_tokens c.deref.result.now)
    (lent c.args.text.now c.in-Ok.tokens.items c.deref.result.now c.in-Ok.ensures.read c.deref.ensures.value)
