use Rattle.std.proofs.Common.{◌*◌, ◌%◌, ◌^◌, ap, ◌∙◌}
use Rattle.std.specs.Int.RustNames.{count_ones}
use Rattle.body_shape.proofs.ReadLaws.{set_bits}
use Rattle.body_shape.proofs.sents.set_below.Goals as goal

pub returns-clause-value : goal.returns-clause-value
returns-clause-value c = ap (λ n. count_ones (n % (1 * 2 ^ c.args.place % 4294967296))) c.from.ensures
    ∙ set_bits c.args.place c.args.mask c.requires
