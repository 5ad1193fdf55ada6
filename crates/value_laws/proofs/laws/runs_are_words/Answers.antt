use Rattle.value_laws.proofs.WholeRuns.{begins_in_words, edges_sized, goes_on_in_words, resumed_in_words, scene_words, whole_in_words}
use Rattle.value_laws.proofs.laws.runs_are_words.Goals as goal

pub returns-clause-edges : goal.returns-clause-edges
returns-clause-edges c = edges_sized

pub returns-clause-begins : goal.returns-clause-begins
returns-clause-begins c = begins_in_words

pub returns-clause-scenes : goal.returns-clause-scenes
returns-clause-scenes c = scene_words

pub returns-clause-goes_on : goal.returns-clause-goes_on
returns-clause-goes_on c = goes_on_in_words

pub returns-clause-resumed : goal.returns-clause-resumed
returns-clause-resumed c = resumed_in_words

pub returns-clause-whole : goal.returns-clause-whole
returns-clause-whole c = whole_in_words
