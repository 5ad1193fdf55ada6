use Rattle.std.proofs.Common.{◌+◌, ◌*◌, length, map}
use Rattle.vert_grammar.specs.Reading.{goes_on, statement_at}
use Rattle.vert_tree.specs.Views.{view_statement}
use Rattle.tree_reader.specs.Signs.{plain, plain_rights}
use Rattle.tree_reader.proofs.Loops.{IsMany}
use Rattle.tree_reader.proofs.reader.Reader.+statements.Given as goal

abbrev pub decreases-statement : goal.decreases-statement
decreases-statement l = l.depth * 8 + 1

abbrev pub decreases-branch : goal.decreases-branch
decreases-branch l = l.depth * 8

abbrev pub decreases-otherwise : goal.decreases-otherwise
decreases-otherwise l = l.depth * 8 + 4

abbrev pub decreases-braced : goal.decreases-braced
decreases-braced l = l.depth * 8 + 3

abbrev pub decreases-statements : goal.decreases-statements
decreases-statements l = l.depth * 8 + 2

abbrev pub decreases-statements-statements : goal.decreases-statements-statements
decreases-statements-statements l = length l.tokens

-- the statements read so far, and those that are left
abbrev pub invariant-statements-statements : goal.invariant-statements-statements
invariant-statements-statements l =
    IsMany goes_on (statement_at (plain_rights l.rights) l.depth)
    (map (view_statement l.self.names.items) l.statements.items) (plain l.self.names.items l.tokens)
    (plain l.self.names.items l.fn.tokens)
