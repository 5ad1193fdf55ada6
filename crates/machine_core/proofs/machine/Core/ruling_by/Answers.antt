use Rattle.std.proofs.Common.{◌∙◌, ap, refl, arith}
use Rattle.body_shape.specs.Tally.{Counted}
use Rattle.symple_face.specs.CoreJudge.{ruling_by}
use Rattle.machine_core.specs.CoreState.{core_state}
use Rattle.machine_core.proofs.SumLaws.{judge_low, sums_low}
use Rattle.machine_core.proofs.machine.Core.ruling_by.Goals as goal

pub ruled-requires : goal.ruled-requires
ruled-requires c =
    let self = c.args.self.now in
    let s = core_state self in
    let low = (judge_low s c.args.round self.sound c.requires.at).1 in
    let most = sums_low s c.args.round self.sound (omega arith) in
    record {
      round = low;
      totals = c.requires.each;
      active = omega (arith, most.active, ap (λ (n : Counted). n.active) c.requires.sums);
      edges = omega (arith, most.edges, ap (λ (n : Counted). n.edges) c.requires.sums);
    }

pub returns : goal.returns
returns c =
    let s = core_state c.args.self.now in
    c.ruled.ensures s refl refl ∙ ap (ruling_by s c.args.round) c.requires.sums
