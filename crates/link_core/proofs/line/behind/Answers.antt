use Rattle.std.proofs.lemmas.Bool.Decides.{Decides-eqb}
use Rattle.std.proofs.lemmas.Slice.Eq.{strip_prefix_is}
use Rattle.link_core.proofs.StrippedWords.{stripped, stripped_found}
use Rattle.link_core.proofs.line.behind.Goals as goal

pub returns-clause-spelled : goal.returns-clause-spelled
returns-clause-spelled c =
    stripped c.args.line.now c.args.word.now c.strip_prefix.result
    (strip_prefix_is Decides-eqb c.args.line.now c.args.word.now c.strip_prefix.result c.strip_prefix.ensures.cases)

pub returns-clause-found : goal.returns-clause-found
returns-clause-found c =
    stripped_found c.args.line.now c.args.word.now c.strip_prefix.result
    (strip_prefix_is Decides-eqb c.args.line.now c.args.word.now c.strip_prefix.result c.strip_prefix.ensures.cases)
