use Rattle.dep_layout.proofs.SpellingLaws.{accepted_law, back_law, once_law, spelled_law}
use Rattle.dep_layout.proofs.laws.one_spelling.Goals as goal

pub returns-clause-accepted : goal.returns-clause-accepted
returns-clause-accepted c = accepted_law

pub returns-clause-spelled : goal.returns-clause-spelled
returns-clause-spelled c = spelled_law

pub returns-clause-once : goal.returns-clause-once
returns-clause-once c = once_law

pub returns-clause-back : goal.returns-clause-back
returns-clause-back c = back_law
