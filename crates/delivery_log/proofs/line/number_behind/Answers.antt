use Rattle.std.proofs.Common.{Some, None}
use Rattle.std.specs.Prelude.{decimal}
use Rattle.std.proofs.lemmas.Bool.Decides.{Decides-eqb}
use Rattle.std.proofs.lemmas.Slice.Eq.{strip_prefix_is}
use Rattle.delivery_log.proofs.LineLaws.{behind_word}
use Rattle.delivery_log.proofs.line.number_behind.Goals as goal

pub returns-in_err-strip_prefix-clause-found : goal.returns-in_err-strip_prefix-clause-found
returns-in_err-strip_prefix-clause-found c = λ number small e.
    absurd (strip_prefix_is Decides-eqb c.args.line.now c.args.word.now None c.in_err-strip_prefix.ensures.cases
    (decimal number) e)

pub returns-clause-spelled : goal.returns-clause-spelled
returns-clause-spelled c =
    behind_word c.args.line.now c.args.word.now c.in_ok-strip_prefix.field-0.now c.number_in.result
    (strip_prefix_is Decides-eqb c.args.line.now c.args.word.now (Some c.in_ok-strip_prefix.field-0)
    c.in_ok-strip_prefix.ensures.cases)
    c.number_in.ensures.spelled
