use Rattle.std.proofs.Common.{refl}
use Rattle.vert_grammar.specs.Reading.{other_at}
use Rattle.tree_reader.proofs.AtomLaws.{other_is_name}
use Rattle.tree_reader.proofs.reader.Reader.other.Goals as goal

pub returns-then-begins_name-clause-read : goal.returns-then-begins_name-clause-read
unfolding other_at
returns-then-begins_name-clause-read c = rw (
  c.in_ok-span.ensures,
  c.in_ok-tokens.ensures,
  other_is_name _ _ _ c.in_ok-name.ensures,
) refl
