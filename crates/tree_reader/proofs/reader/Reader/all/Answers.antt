use Rattle.vert_grammar.specs.Grammar.{limits}
use Rattle.tree_reader.specs.Signs.{plain}
use Rattle.tree_reader.proofs.Ends.{left_over}
use Rattle.tree_reader.proofs.reader.Reader.all.Goals as goal

pub returns-in-len1-up : goal.returns-in-len1-up
returns-in-len1-up c = left_over c.args.self.now.names.items limits
    (plain c.args.self.now.names.items c.args.tokens.now) _ c.in_ok-program.tokens.now c.in_ok-program.ensures
    c.in-len1-up.len_at_least
