use Rattle.std.proofs.Common.{◌≡◌, ◌≤◌, ◌+◌, length, false}
use Rattle.vert_lex.specs.Text.{tokens_at, tokens_of}
use Rattle.vert_lex.specs.View.{plain_tokens}
use Rattle.vert_lex.proofs.Passing.{with_front}
use Rattle.vert_lex.proofs.text.lex.Given as goal

abbrev pub invariant-text : goal.invariant-text
invariant-text l = record {
  at : l.span.at + length l.rest ≡ length l.text;
  line : l.span.line + length l.rest ≤ length l.text + 1;
  column : l.span.column + length l.rest ≤ length l.text + 1;
  read : with_front (plain_tokens l.tokens.items) (tokens_at false 0 l.span l.rest) ≡ tokens_of l.text;
}

abbrev pub decreases-text : goal.decreases-text
decreases-text l = length l.rest
