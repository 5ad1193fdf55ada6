use Rattle.std.proofs.Common.{◌≡◌, true, subst}
use Rattle.circulant_plan.specs.Ring.{lies_in}
use Rattle.symple_face.specs.Parts.{PlainPart}
use Rattle.run_tests.proofs.machines.own_row.Goals as goal

pub row-requires : goal.row-requires
row-requires g c = subst (λ (p : PlainPart). lies_in p.ends p.at.machine c.args.v.0 ≡ true) c.part.ensures.part
    (c.owns.ensures c.if-owns.true)
