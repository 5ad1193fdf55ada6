use Rattle.std.proofs.Common.{◌<◌, ◌≤◌, ◌*◌, ◌-◌, ◌/◌, ◌%◌, ap, sym, ◌∙◌, arith, Some}
use Rattle.circulant_plan.specs.Names.{update_name}
use Rattle.circulant_plan.proofs.TableLaws.{update_at, update_past}
use Rattle.circulant_plan.proofs.needs.update_to.Goals as goal

pub returns-then-k-from : goal.returns-then-k-from
returns-then-k-from c =
    let past : 2 * (c.args.ring.now.machines - 1) ≤ c.args.k = omega (arith, c.if-k-from.true, c.from.ensures) in
    sym (update_past c.args.ring.now.machines c.args.round c.args.m c.args.k past)

pub returns : goal.returns
returns c =
    let low : c.args.k < 2 * (c.args.ring.now.machines - 1) = omega (arith, c.if-k-from.false, c.from.ensures) in
    ap (λ q. Some (update_name c.args.round (c.args.k / 2) (c.args.k % 2) q c.args.m)) c.order.ensures
    ∙ sym (update_at c.args.ring.now.machines c.args.round c.args.m c.args.k low)
