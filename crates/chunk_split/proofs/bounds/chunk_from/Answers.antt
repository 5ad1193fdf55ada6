use Rattle.std.proofs.Common.{◌≡◌, ◌≤◌, ◌<◌, ◌+◌, ◌-◌, ◌∷◌, [], ◌∙◌, ap, sym, drop, arith}
use Rattle.chunk_split.specs.Bounds.{cost_of, costs_of, reach}
use Rattle.chunk_split.proofs.ReachLaws.{none_from, reach_done, reach_step, sum_step, values_from}
use Rattle.chunk_split.proofs.bounds.chunk_from.Goals as goal

pub returns-then-sum-need-clause-end : goal.returns-then-sum-need-clause-end
returns-then-sum-need-clause-end c =
    let t = c.args.table.now in
    omega (
      arith,
      c.loop-v.invariant.reach,
      reach_done c.args.need c.loop-v.sum (drop c.loop-v.v (costs_of c.args.machines t.vertices t.list))
          c.if-sum-need.true,
    )

pub loop-v-preserved : goal.loop-v-preserved
loop-v-preserved c =
    let t = c.args.table.now in
    let v = c.loop-v.v in
    let costs = costs_of c.args.machines t.vertices t.list in
    let lt : v < t.vertices = omega (arith, c.vertices-v-end.ensures.value, c.loop-v-test.true) in
    let here : drop v costs ≡ c.cost-sum.result ∷ drop (v + 1) costs =
    values_from (cost_of c.args.machines t.vertices t.list) t.vertices v lt
    ∙ ap (λ q. q ∷ drop (v + 1) costs) (sym c.cost-sum.ensures.value) in
    record {
      reach = reach_step c.args.need c.loop-v.sum v c.cost-sum.result (drop v costs) (drop (v + 1) costs) here
          c.if-sum-need.false ∙ c.loop-v.invariant.reach;
      sum = omega (arith, c.loop-v.invariant.sum, sum_step c.cost-sum.result (drop v costs) (drop (v + 1) costs) here);
      small = omega (arith, c.loop-v.invariant.small, c.cost-sum.ensures.small);
    }

pub returns-clause-end : goal.returns-clause-end
returns-clause-end c =
    let t = c.args.table.now in
    let v = c.loop-v.v in
    let le : t.vertices ≤ v = omega (arith, c.vertices-v-end.ensures.value, c.loop-v-test.false) in
    let none : drop v (costs_of c.args.machines t.vertices t.list) ≡ [] =
    none_from (cost_of c.args.machines t.vertices t.list) t.vertices v le in
    omega (
      arith,
      c.loop-v.invariant.reach,
      ap (reach (c.args.need - c.loop-v.sum)) none,
      c.vertices.ensures.value,
      c.vertices-v-end.ensures.value,
      c.loop-v.auto.v-end,
      c.requires.within,
    )
