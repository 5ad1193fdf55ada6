use Rattle.vert_base.proofs.LetterLaws.{names_law, placed_law, taken_law}
use Rattle.flight.proofs.laws.by_name.Goals as goal

pub returns-clause-names : goal.returns-clause-names
returns-clause-names c = names_law

pub returns-clause-sent : goal.returns-clause-sent
returns-clause-sent c = placed_law

pub returns-clause-picked : goal.returns-clause-picked
returns-clause-picked c = taken_law
