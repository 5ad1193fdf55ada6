use Rattle.std.proofs.Common.{◌≡◌, ℕ, List, Ok, Err, sym, ap, subst, ◌∙◌}
use Rattle.vert_lex.specs.declared.token.Token.{Token}
use Rattle.vert_lex.specs.Text.{tokens_of}
use Rattle.vert_lex.specs.View.{plain_tokens}
use Rattle.vert_parse.specs.Parsing.{ParsesAs}
use Rattle.vert_grammar.specs.Reading.{reading}
use Rattle.program_reader.specs.Answers.{ReadsProgram}
use Rattle.program_reader.proofs.SmallTokens.{tokens_short, tokens_small}
use Rattle.program_reader.proofs.ReaderLaws.{may_check, no_program, says, untyped}
use Rattle.program_reader.proofs.reader.read_program.Goals as goal

-- the tokens, as the parser is given them
lent : (text : List ℕ) (tokens given : List Token) → tokens_of text ≡ Ok (plain_tokens tokens) → given ≡ tokens →
    tokens_of text ≡ Ok (plain_tokens given)
lent text tokens given is same = is ∙ ap (λ ts. Ok (plain_tokens ts)) (sym same)

pub end_of-end-requires : goal.end_of-end-requires
end_of-end-requires c = tokens_short c.args.text.now (plain_tokens c.in-Ok.tokens.items) c.in-Ok.ensures.read

pub parse-requires : goal.parse-requires
parse-requires c = tokens_small c.args.text.now (plain_tokens c.deref.result.now)
    (lent c.args.text.now c.in-Ok.tokens.items c.deref.result.now c.in-Ok.ensures.read c.deref.ensures.value)

pub returns-in-Err-parse : goal.returns-in-Err-parse
returns-in-Err-parse c =
    subst (λ f. ReadsProgram c.args.text.now (Err f)) (sym c.parse_fault.ensures)
    (no_program c.args.text.now (plain_tokens c.deref.result.now)
    (lent c.args.text.now c.in-Ok.tokens.items c.deref.result.now c.in-Ok.ensures.read c.deref.ensures.value)
    c.in-Err-parse.fault
    (subst (λ end. ParsesAs (reading (plain_tokens c.deref.result.now)) end (Err c.in-Err-parse.fault))
    c.end_of-end.ensures c.in-Err-parse.ensures.gives))

pub check-requires : goal.check-requires
check-requires c =
    may_check c.args.text.now (plain_tokens c.deref.result.now)
    (lent c.args.text.now c.in-Ok.tokens.items c.deref.result.now c.in-Ok.ensures.read c.deref.ensures.value)
    c.in-Ok-parse.program
    c.in-Ok-parse.ensures.gives c.in-Ok-parse.ensures.names

pub returns-in-Ok-check : goal.returns-in-Ok-check
returns-in-Ok-check c =
    says c.args.text.now (plain_tokens c.deref.result.now)
    (lent c.args.text.now c.in-Ok.tokens.items c.deref.result.now c.in-Ok.ensures.read c.deref.ensures.value)
    c.in-Ok-parse.program
    c.in-Ok-parse.ensures.gives c.in-Ok-parse.ensures.names c.in-Ok-check.typed.program c.in-Ok-check.ensures.accepted
    c.in-Ok-check.typed.typed

pub returns : goal.returns
returns c =
    subst (λ f. ReadsProgram c.args.text.now (Err f)) (sym c.type_fault.ensures)
    (untyped c.args.text.now (plain_tokens c.deref.result.now)
    (lent c.args.text.now c.in-Ok.tokens.items c.deref.result.now c.in-Ok.ensures.read c.deref.ensures.value)
    c.in-Ok-parse.program
    c.in-Ok-parse.ensures.gives c.in-Ok-parse.ensures.names c.in-Err-check.fault c.in-Err-check.ensures.refused)
