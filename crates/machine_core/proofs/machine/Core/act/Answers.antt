use Rattle.std.proofs.Common.{◌∙◌, ap, sym}
use Rattle.circulant_plan.specs.declared.spot.Spot.{Spot}
use Rattle.circulant_plan.specs.declared.spot.Spot.TheVariants.{Close}
use Rattle.machine_core.specs.CoreState.{core_state}
use Rattle.machine_core.proofs.GoLaws.{round_at}
use Rattle.machine_core.proofs.machine.Core.act.Goals as goal

pub act_close-requires : goal.act_close-requires
act_close-requires c =
    let self = c.args.self.now in
    let s = core_state self in
    let spot : Spot = Close c.in-Close.round c.in-Close.dense in
    record {
      ready = c.requires;
      at = c.in-Close.is ∙ ap (λ r. Close r c.in-Close.dense) (sym (round_at s spot self.sound c.in-Close.is));
    }
