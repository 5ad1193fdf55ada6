use Rattle.std.proofs.lemmas.Result.{IfOk-weaker}
use Rattle.symple_words.specs.Readings.{given_of}
use Rattle.symple_words.specs.Views.{line_view}
use Rattle.symple_words.proofs.RangeLaws.{line_within}
use Rattle.symple_words.proofs.words.read_words.Goals as goal

pub returns-clause-within : goal.returns-clause-within
returns-clause-within c =
    IfOk-weaker c.line_behind.result _ _
    (λ line reads. line_within c.in-Some-verb_of.verb (given_of c.in_ok-reading.reading) (line_view line) reads)
    c.line_behind.ensures.ok
