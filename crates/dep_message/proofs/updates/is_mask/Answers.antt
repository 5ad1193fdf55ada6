use Rattle.std.proofs.Common.{◌*◌, ◌%◌, ◌^◌, ltb, ap, ◌∙◌}
use Rattle.dep_message.proofs.BitLaws.{mask_is}
use Rattle.dep_message.proofs.updates.is_mask.Goals as goal

pub returns : goal.returns
returns c =
    ap (λ bits. ltb bits ((1 * 2 ^ c.min.result) % 65536)) c.from.ensures
    ∙ ap (λ k. ltb c.args.bits ((1 * 2 ^ k) % 65536)) c.min.ensures
    ∙ mask_is c.args.place c.args.bits c.ranges.bits.fits
