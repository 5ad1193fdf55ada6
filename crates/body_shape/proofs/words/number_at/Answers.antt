use Rattle.std.proofs.Common.{drop, sym, ap, ◌∙◌}
use Rattle.body_shape.specs.Fit.{number_of}
use Rattle.body_shape.proofs.ReadLaws.{front_number}
use Rattle.body_shape.proofs.words.number_at.Goals as goal

pub returns : goal.returns
returns c = c.first_number.ensures ∙ ap number_of c.behind.ensures
    ∙ sym (front_number (drop c.args.place c.args.bytes.now))
