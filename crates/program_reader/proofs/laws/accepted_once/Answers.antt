use Rattle.program_reader.proofs.SaidLaws.{is_said}
use Rattle.program_reader.proofs.AcceptLaws.{accepted_is_unrefused, has_one_refusal, is_decided, said_is_accepted, says_none_refused, says_one_tree}
use Rattle.program_reader.proofs.laws.accepted_once.Goals as goal

pub returns-clause-tree : goal.returns-clause-tree
returns-clause-tree c = says_one_tree

pub returns-clause-refusal : goal.returns-clause-refusal
returns-clause-refusal c = has_one_refusal

pub returns-clause-never_both : goal.returns-clause-never_both
returns-clause-never_both c = says_none_refused

pub returns-clause-decided : goal.returns-clause-decided
returns-clause-decided c = is_decided

pub returns-clause-said : goal.returns-clause-said
returns-clause-said c = said_is_accepted

pub returns-clause-unrefused : goal.returns-clause-unrefused
returns-clause-unrefused c = accepted_is_unrefused

pub returns-clause-accepted : goal.returns-clause-accepted
returns-clause-accepted c = is_said
