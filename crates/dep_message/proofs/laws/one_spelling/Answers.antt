use Rattle.dep_message.proofs.MessageLaws.{accepted_law, header_law, length-spelled, once_law}
use Rattle.dep_message.proofs.PlanLaws.{back_law}
use Rattle.dep_message.proofs.laws.one_spelling.Goals as goal

pub returns-clause-accepted : goal.returns-clause-accepted
returns-clause-accepted c = accepted_law

pub returns-clause-once : goal.returns-clause-once
returns-clause-once c = once_law

pub returns-clause-back : goal.returns-clause-back
returns-clause-back c = back_law

pub returns-clause-header : goal.returns-clause-header
returns-clause-header c = header_law

pub returns-clause-length : goal.returns-clause-length
returns-clause-length c = length-spelled
