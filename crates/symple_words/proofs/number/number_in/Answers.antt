use Rattle.std.proofs.Common.{◌∙◌, sym}
use Rattle.symple_words.proofs.NumberLaws.{too_large}
use Rattle.symple_words.proofs.number.number_in.Goals as goal

pub returns-in-Err : goal.returns-in-Err
returns-in-Err c = too_large c.args.low c.args.high c.args.text.now c.ranges.high.fits (sym c.is_number.ensures
    ∙ c.if-not-is_number.false) c.in-Err.ensures.value.0
