use Rattle.std.proofs.Common.{rules}
use Rattle.vert_types.specs.Scopes.{names_in}
use Rattle.vert_types.proofs.Dictionaries.{beside_at}
use Rattle.vert_types.proofs.find.meaning_of.Goals as goal

pub returns : goal.returns
returns c = beside_at (names_in c.args.scope.now) c.args.scope.now.meanings.now c.requires.scope.wide
    c.requires.scope.apart c.args.name.now.name (search rules)
