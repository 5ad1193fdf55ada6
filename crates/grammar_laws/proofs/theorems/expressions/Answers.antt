use Rattle.grammar_laws.proofs.ExpressionLaws.{trees_are_of_grammar, trees_are_read, tree_faults_are_first, trees_are_unique}
use Rattle.grammar_laws.proofs.theorems.expressions.Goals as goal

pub returns-clause-read : goal.returns-clause-read
returns-clause-read c = trees_are_of_grammar

pub returns-clause-only : goal.returns-clause-only
returns-clause-only c = trees_are_read

pub returns-clause-refused : goal.returns-clause-refused
returns-clause-refused c = tree_faults_are_first

pub returns-clause-unique : goal.returns-clause-unique
returns-clause-unique c = trees_are_unique
