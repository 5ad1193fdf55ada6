use Rattle.std.proofs.Common.{◌/◌, ◌%◌, ◌^◌, eqb, not, ap, ◌∙◌}
use Rattle.body_shape.proofs.ReadLaws.{sender_in_place}
use Rattle.body_shape.proofs.sends.is_sender.Goals as goal

pub returns : goal.returns
returns c =
    ap (λ b. not (eqb (b / 2 ^ (c.args.vertex % 8) % 2) 0)) c.byte_at.ensures
    ∙ sender_in_place c.args.vertices c.args.vertex c.args.push.now c.requires.vertex
