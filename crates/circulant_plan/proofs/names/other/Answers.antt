use Rattle.std.proofs.Common.{◌<◌, ◌≤◌, ◌-◌, sym, arith}
use Rattle.circulant_plan.proofs.TableLaws.{other_below, other_above, other_past}
use Rattle.circulant_plan.proofs.names.other.Goals as goal

pub returns-then-k-from : goal.returns-then-k-from
returns-then-k-from c =
    let low : c.args.k < c.args.m = omega (arith, c.if-k-from.true, c.from.ensures) in
    sym (other_below c.args.machines c.args.m c.args.k low)

pub returns-then-k-from-2 : goal.returns-then-k-from-2
returns-then-k-from-2 c =
    let least : c.args.m ≤ c.args.k = omega (arith, c.if-k-from.false, c.from.ensures) in
    let within : c.args.k < c.args.machines - 1 = omega (arith, c.if-k-from-2.true, c.from-2.ensures) in
    sym (other_above c.args.machines c.args.m c.args.k least within)

pub returns : goal.returns
returns c =
    let past : c.args.machines - 1 ≤ c.args.k = omega (arith, c.if-k-from-2.false, c.from-2.ensures) in
    sym (other_past c.args.machines c.args.m c.args.k c.requires past)
